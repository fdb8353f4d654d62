use Rattle.std.proofs.Common.{◌≡◌, ◌||◌, not, ◌∙◌, Bool, ap, sym, true}
use Rattle.log_image.specs.Image.{is_in_log, shape_by}
use Rattle.opening_rules.specs.SlotChecks.{is_named_in}
use Rattle.recovery.proofs.NamesLemmas.{log_bit_says}
use Rattle.recovery.proofs.blocks.is_bad_target.Goals as goal

pub returns-clause-answer : goal.returns-clause-answer
returns-clause-answer c = λ passed named has.
    let far : is_in_log (shape_by c.args.geometry) c.args.link ≡ true = sym c.is_in_log.ensures ∙ c.if-not-is_in_log.false in
    c.is_set.ensures ∙ log_bit_says (shape_by c.args.geometry) c.args.taken.now passed named c.args.link far has
    ∙ ap (λ (b : Bool). not b || is_named_in c.args.link passed) (sym far)
