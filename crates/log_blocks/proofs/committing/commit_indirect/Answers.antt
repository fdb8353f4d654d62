use Rattle.std.proofs.Common.{◌≡◌, ℕ, true, false, List, length, sym, ◌∙◌, ap, subst}
use Rattle.log_image.specs.Image.{words_in}
use Rattle.log_image.specs.Entries.{names, indirect_meaning}
use Rattle.log_image.specs.Format.{fits, is_indirect_block}
use Rattle.log_image.specs.Chains.{is_listed}
use Rattle.pmem_words.specs.Seats.{Seat}
use Rattle.log_core.specs.Works.{seat_shape, words_of}
use Rattle.log_core.specs.Steps.{blocks_but, content_of}
use Rattle.log_blocks.specs.Taking.{kept_words, taken}
use Rattle.log_blocks.specs.Committing.{runs_kept, taken_out, IsOwnedRuns}
use Rattle.log_blocks.proofs.NewEntries.{not_noted}
use Rattle.log_blocks.proofs.KeptLists.{rows_words}
use Rattle.log_blocks.proofs.committing.commit_indirect.Goals as goal

-- what a kept block has
abbrev IsWhole : Seat → Type 0
IsWhole t = length (kept_words t) ≡ words_in (seat_shape t)

abbrev HasRuns : Seat → Type 0
HasRuns t = is_indirect_block (seat_shape t) (kept_words t) ≡ true

abbrev Fits : ℕ → Seat → Type 0
Fits block t = fits (seat_shape t) 256 (indirect_meaning block (kept_words t)) ≡ true

-- the seat without the blocks of the kept runs
abbrev left_out : ℕ → Seat → Seat
left_out block t = record t { blocks = blocks_but (words_of t) (λ (other : ℕ). is_listed (names (indirect_meaning block (kept_words t))) other) t.blocks }

module _ (entry block : ℕ) (s t : Seat) (is : t ≡ runs_kept entry block s) (quiet : s.calling.noting ≡ false) (runs : IsOwnedRuns s block) where
  words : kept_words (runs_kept entry block s) ≡ content_of s block
  words = rows_words block 0 (content_of s block)

  whole : IsWhole t
  whole = subst IsWhole (sym is) (ap (λ (l : List ℕ). length l) words ∙ runs.whole)

  has_runs : HasRuns t
  has_runs = subst HasRuns (sym is) (ap (λ (l : List ℕ). is_indirect_block (seat_shape s) l) words ∙ runs.runs)

  fit : Fits block t
  fit = subst (Fits block) (sym is) (ap (λ (l : List ℕ). fits (seat_shape s) 256 (indirect_meaning block l)) words ∙ runs.fits)

  out : taken (left_out block t) (indirect_meaning block (kept_words (left_out block t))) ≡ taken_out (indirect_meaning block (content_of s block)) s
  out = not_noted (left_out block t) (indirect_meaning block (kept_words (left_out block t))) (ap (λ (u : Seat). u.calling.noting) is ∙ quiet)
      ∙ ap (λ (u : Seat). record (taken (left_out block u) (indirect_meaning block (kept_words (left_out block u)))) { blocks = (left_out block u).blocks }) is
      ∙ ap (λ (l : List ℕ). taken_out (indirect_meaning block l) s) words

pub leave_indirect-requires-clause-whole : goal.leave_indirect-requires-clause-whole
leave_indirect-requires-clause-whole c = whole c.args.entry c.args.block c.args.seat.now c.keep_runs.new.seat c.keep_runs.ensures c.requires.quiet c.requires.runs

pub leave_indirect-requires-clause-runs : goal.leave_indirect-requires-clause-runs
leave_indirect-requires-clause-runs c = has_runs c.args.entry c.args.block c.args.seat.now c.keep_runs.new.seat c.keep_runs.ensures c.requires.quiet c.requires.runs

pub leave_indirect-requires-clause-fits : goal.leave_indirect-requires-clause-fits
leave_indirect-requires-clause-fits c = fit c.args.entry c.args.block c.args.seat.now c.keep_runs.new.seat c.keep_runs.ensures c.requires.quiet c.requires.runs

pub take_indirect-requires-clause-whole : goal.take_indirect-requires-clause-whole
take_indirect-requires-clause-whole c = subst IsWhole (sym c.leave_indirect.ensures) (whole c.args.entry c.args.block c.args.seat.now c.keep_runs.new.seat c.keep_runs.ensures c.requires.quiet c.requires.runs)

pub take_indirect-requires-clause-runs : goal.take_indirect-requires-clause-runs
take_indirect-requires-clause-runs c = subst HasRuns (sym c.leave_indirect.ensures) (has_runs c.args.entry c.args.block c.args.seat.now c.keep_runs.new.seat c.keep_runs.ensures c.requires.quiet c.requires.runs)

pub take_indirect-requires-clause-fits : goal.take_indirect-requires-clause-fits
take_indirect-requires-clause-fits c = subst (Fits c.args.block) (sym c.leave_indirect.ensures) (fit c.args.entry c.args.block c.args.seat.now c.keep_runs.new.seat c.keep_runs.ensures c.requires.quiet c.requires.runs)

pub returns : goal.returns
returns c = c.take_indirect.ensures
    ∙ (ap (λ (t : Seat). taken t (indirect_meaning c.args.block (kept_words t))) c.leave_indirect.ensures
    ∙ out c.args.entry c.args.block c.args.seat.now c.keep_runs.new.seat c.keep_runs.ensures c.requires.quiet c.requires.runs)

pub take_indirect-requires-clause-inside : goal.take_indirect-requires-clause-inside
take_indirect-requires-clause-inside c = rw (c.leave_indirect.ensures, c.keep_runs.ensures) c.requires.runs.inside
