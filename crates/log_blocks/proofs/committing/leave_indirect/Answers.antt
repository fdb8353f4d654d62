use Rattle.std.proofs.Common.{◌≡◌, ℕ, Bool, List, slice_index_or, sym, ap, ◌∙◌, arith}
use Rattle.log_entry.specs.Fields.{field}
use Rattle.log_entry.specs.declared.layouts.TheConstants.{RUNS_RUNS}
use Rattle.pmem_words.specs.declared.keeps.KeptWord.{KeptWord}
use Rattle.pmem_words.specs.Seats.{Seat}
use Rattle.log_core.specs.Works.{words_of}
use Rattle.log_core.specs.Steps.{blocks_but}
use Rattle.log_blocks.specs.Taking.{kept_words}
use Rattle.log_blocks.proofs.KeptRuns.{no_word, word_at_place, inside}
use Rattle.log_blocks.proofs.LeavingRuns.{indirect_blocks_by, kept_runs}
use Rattle.log_blocks.proofs.committing.leave_indirect.Goals as goal

count_is : (s : Seat) (kept : List KeptWord) (n : ℕ) → kept ≡ s.walk.kept → n ≡ field RUNS_RUNS (slice_index_or kept 1 no_word).word → n ≡ field RUNS_RUNS (slice_index_or s.walk.kept 1 no_word).word
count_is s kept n same is = is ∙ ap (λ (l : List KeptWord). field RUNS_RUNS (slice_index_or l 1 no_word).word) same

pub disown_kept_runs-requires-clause-inside : goal.disown_kept_runs-requires-clause-inside
disown_kept_runs-requires-clause-inside c =
    (let many = inside c.args.seat.now c.args.block c.requires.whole c.requires.runs c.requires.fits in
    let n = count_is c.args.seat.now c.kept.result.now c.of-runs.result c.kept.ensures c.of-runs.ensures in
    omega (arith, many, n))

pub returns : goal.returns
returns c =
    (let n = count_is c.args.seat.now c.kept.result.now c.of-runs.result c.kept.ensures c.of-runs.ensures in
    c.disown_kept_runs.ensures ∙ ap (λ (f : ℕ → Bool). record c.args.seat.now { blocks = blocks_but (words_of c.args.seat.now) f c.args.seat.now.blocks })
    (indirect_blocks_by c.args.block (kept_words c.args.seat.now) _ (kept_runs c.args.seat.now.walk.kept c.of-runs.result (n ∙ ap (field RUNS_RUNS) (sym (word_at_place c.args.seat.now 0))))))
