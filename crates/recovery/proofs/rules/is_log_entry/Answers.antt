use Rattle.std.proofs.Common.{◌≡◌, ◌∙◌, ap, ℕ, List, sym}
use Rattle.std.proofs.lemmas.Bool.{eq-eqb, ne_eqb}
use Rattle.log_entry.specs.Shape.{longest_of}
use Rattle.log_entry.specs.Fields.{field}
use Rattle.log_entry.specs.declared.layouts.TheConstants.{ENTRY_KIND, DIRECT, INDIRECT, INDIRECT_BLOCK, INDIRECT_UNNAMED}
use Rattle.log_image.specs.Image.{is_in_data, block_words, shape_by}
use Rattle.log_image.specs.Entries.{indirect_meaning}
use Rattle.log_image.specs.Format.{fits, is_indirect_block}
use Rattle.recovery.proofs.RulesLemmas.{indirect_entry}
use Rattle.recovery.proofs.rules.is_log_entry.Goals as goal

pub returns-then-is_indirect_block : goal.returns-then-is_indirect_block
returns-then-is_indirect_block c =
    let holder : c.of-holder.result ≡ field INDIRECT_BLOCK c.args.word = c.of-holder.ensures in
    let longest : c.longest-then-is_indirect_block.result ≡ longest_of c.args.geometry.block_bytes = c.longest-then-is_indirect_block.ensures in
    let block : c.block_at-block.result.now ≡ block_words c.args.words.now (shape_by c.args.geometry) (field INDIRECT_BLOCK c.args.word) =
    c.block_at-block.ensures.value ∙ ap (λ (n : ℕ). block_words c.args.words.now (shape_by c.args.geometry) n) holder in
    let fit : c.runs_fit.result ≡ fits (shape_by c.args.geometry) (longest_of c.args.geometry.block_bytes) (indirect_meaning (field INDIRECT_BLOCK c.args.word) (block_words c.args.words.now (shape_by c.args.geometry) (field INDIRECT_BLOCK c.args.word))) =
    c.runs_fit.ensures (field INDIRECT_BLOCK c.args.word)
    ∙ ap (λ (n : ℕ). fits (shape_by c.args.geometry) n (indirect_meaning (field INDIRECT_BLOCK c.args.word) c.block_at-block.result.now)) longest
    ∙ ap (λ (l : List ℕ). fits (shape_by c.args.geometry) (longest_of c.args.geometry.block_bytes) (indirect_meaning (field INDIRECT_BLOCK c.args.word) l)) block in
    indirect_entry c.args.words.now (shape_by c.args.geometry) c.args.word c.runs_fit.result
    (ne_eqb (field ENTRY_KIND c.args.word) DIRECT (λ e. c.if-of-eq-DIRECT.false (c.of.ensures ∙ e)))
    (eq-eqb (field ENTRY_KIND c.args.word) INDIRECT (sym c.of-2.ensures ∙ c.if-of-ne-INDIRECT.false))
    (eq-eqb (field INDIRECT_UNNAMED c.args.word) 0 (sym c.of-else-of-ne-INDIRECT.ensures ∙ c.if-of-ne0.false))
    (sym (c.is_in_data.ensures ∙ ap (λ (n : ℕ). is_in_data (shape_by c.args.geometry) n) holder) ∙ c.if-not-is_in_data.false)
    (sym (c.is_indirect_block.ensures ∙ ap (λ (l : List ℕ). is_indirect_block (shape_by c.args.geometry) l) block) ∙ c.if-is_indirect_block.true)
    fit
