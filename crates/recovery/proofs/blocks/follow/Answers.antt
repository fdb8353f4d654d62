use Rattle.std.proofs.Common.{◌<◌, ◌∙◌, sym, arith, slice_index}
use Rattle.log_image.specs.Image.{total, shape_by}
use Rattle.recovery.proofs.BlockLemmas.{link_followed, log_below}
use Rattle.recovery.proofs.blocks.follow.Goals as goal

pub overflow_cast-result : goal.overflow_cast-result
overflow_cast-result c =
    let inside : slice_index c.args.own.now 0 < total (shape_by c.args.geometry) = log_below (shape_by c.args.geometry) (slice_index c.args.own.now 0) (c.is_bad_target.ensures.inside c.if-is_bad_target.false) in
    omega (arith, inside)

pub returns : goal.returns
returns c = λ passed named has closed.
    link_followed (shape_by c.args.geometry) passed c.args.block c.args.own.now (sym (c.leads_on.ensures closed) ∙ c.if-not-leads_on.false) (sym (c.is_bad_target.ensures.answer passed named has) ∙ c.if-is_bad_target.false)
