use Rattle.std.proofs.Common.{◌≡◌, ◌∙◌, ℕ, true, sym, ap, subst}
use Rattle.std.proofs.lemmas.Result.{err_from_is_err_and}
use Rattle.log_entry.specs.Fields.{field}
use Rattle.log_entry.specs.declared.layouts.TheConstants.{ENTRY_KIND, DIRECT}
use Rattle.log_image.specs.Image.{block_words, is_in_data, shape_by}
use Rattle.log_image.specs.Entries.{run_words}
use Rattle.recovery.proofs.NamesLemmas.{has_holder, indirect_taken, indirect_shared}
use Rattle.recovery.proofs.shares.take_names.Goals as goal

pub returns-in_err-take_block : goal.returns-in_err-take_block
returns-in_err-take_block c = λ chain named has.
    let p = err_from_is_err_and c.from_residual.result c.from_residual.ensures.1 in
    let kind = λ (e : field ENTRY_KIND c.args.word ≡ DIRECT). c.if-of-eq-DIRECT.false (c.of.ensures ∙ e) in
    let holder = has_holder c.args.words.now (shape_by c.args.geometry) c.args.word c.requires.entry kind in
    rw (p.1, p.2) (indirect_shared c.in_err-take_block.field-0.0 c.args.words.now (shape_by c.args.geometry) c.args.word c.of-holder.result named kind c.of-holder.ensures
    (c.in_err-take_block.ensures (shape_by c.args.geometry) chain named (subst (λ (n : ℕ). is_in_data (shape_by c.args.geometry) n ≡ true) (sym c.of-holder.ensures) holder.inside) has))

pub returns : goal.returns
returns c = λ chain named has.
    let kind = λ (e : field ENTRY_KIND c.args.word ≡ DIRECT). c.if-of-eq-DIRECT.false (c.of.ensures ∙ e) in
    let holder = has_holder c.args.words.now (shape_by c.args.geometry) c.args.word c.requires.entry kind in
    let runs : c.runs_in.result.now ≡ run_words (block_words c.args.words.now (shape_by c.args.geometry) c.of-holder.result) = c.runs_in.ensures ∙ ap run_words c.block_at.ensures.value in
    indirect_taken c.take_runs.result c.args.words.now (shape_by c.args.geometry) c.args.word c.of-holder.result c.runs_in.result.now c.take_block.new.taken c.take_runs.new.taken chain named kind c.of-holder.ensures runs
    (c.in_ok-take_block.ensures (shape_by c.args.geometry) chain named (subst (λ (n : ℕ). is_in_data (shape_by c.args.geometry) n ≡ true) (sym c.of-holder.ensures) holder.inside) has)
    c.take_runs.ensures
