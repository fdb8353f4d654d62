use Rattle.std.proofs.Common.{◌≡◌, ◌==◌, ℕ, List, true, false, sym, ap, ◌∙◌, subst}
use Rattle.std.proofs.lemmas.Bool.{ne_eqb}
use Rattle.log_entry.specs.Fields.{field}
use Rattle.log_entry.specs.declared.layouts.TheConstants.{ENTRY_KIND, DIRECT, INDIRECT_BLOCK}
use Rattle.log_image.specs.Image.{block_words, shape_by}
use Rattle.log_image.specs.Entries.{indirect_meaning}
use Rattle.log_image.specs.Format.{fits}
use Rattle.chain_reader.proofs.FitsLemmas.{not_direct}
use Rattle.chain_reader.proofs.taking.take_in.Goals as goal

pub take_in_runs-requires-clause-fits : goal.take_in_runs-requires-clause-fits
take_in_runs-requires-clause-fits c =
    let other : (field ENTRY_KIND c.args.word == DIRECT) ≡ false = ne_eqb (field ENTRY_KIND c.args.word) DIRECT (λ is. c.if-of-eq-DIRECT.false (c.of.ensures ∙ is)) in
    subst (λ (n : ℕ). fits (shape_by c.args.geometry) 256 (indirect_meaning n c.block_at.result.now) ≡ true) (sym c.of-holder.ensures)
    (subst (λ (l : List ℕ). fits (shape_by c.args.geometry) 256 (indirect_meaning (field INDIRECT_BLOCK c.args.word) l) ≡ true)
    (sym (c.block_at.ensures.value ∙ ap (λ (n : ℕ). block_words c.args.words.now (shape_by c.args.geometry) n) c.of-holder.ensures))
    (not_direct c.args.words.now (shape_by c.args.geometry) c.args.word c.requires.entry other).1)
