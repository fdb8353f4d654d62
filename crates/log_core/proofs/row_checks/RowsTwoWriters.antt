-- Rows of a run in which two seats write the same virtual block.
use Rattle.std.proofs.Common.{◌≡◌, ◌≢◌, false, [], ◌∷◌, refl, ap, subst, inr, arith, replicate, Some}
use Rattle.std.proofs.lemmas.Bool.{false≢true}
use Rattle.log_entry.specs.declared.calls.Op.{Op}
use Rattle.log_entry.specs.declared.shapes.Area.TheVariants.{Data}
use Rattle.pmem_words.specs.declared.keeps.Task.TheVariants.{Pwrite, Sync}
use Rattle.asks.specs.declared.ask.Ask.TheVariants.{Load, Store, SetBits, Fence}
use Rattle.asks.specs.declared.ask.Place.TheVariants.{Image, Pin, Map}
use Rattle.log_core.specs.Views.{view_of, op_of}
use Rattle.log_core.specs.Works.{Begins, StartsFromLog, CountsFilled, is_quiet, seat_shape}
use Rattle.log_core.specs.Needs.{is_in_area}
use Rattle.log_core.specs.After.{op_or_size}
use Rattle.log_core.specs.Runs.{IsReached}
use Rattle.log_core.specs.worked_rows.Samples.{image_a}
use Rattle.log_core.specs.worked_rows.Written.{own_at_tail}
use Rattle.log_core.specs.worked_rows.TwoWriters.{two_pinned, two_walked, two_taken, two_marked, two_fenced, TwoAtOneTail}
use Rattle.log_core.proofs.row_checks.RowTells.{is_sync}
use Rattle.log_core.proofs.row_checks.RowsTaken.{all_among}
use Rattle.log_core.proofs.row_checks.RowsStart.{image_starts}
use Rattle.log_core.proofs.row_checks.RowsWrong.{one_part}
use Rattle.log_core.proofs.row_checks.RowsAllowed.{step_reached}
use Rattle.log_core.proofs.row_checks.RowsReached.{reached_holds}
use Rattle.log_core.proofs.row_checks.RowsFilled.{fills_block, all_filled}
use Rattle.log_core.proofs.row_checks.RowsWritten.{tail_reached}

-- a write makes steps, and is no sync
write_steps : (op : Op) → op_of (Pwrite 0) (187 ∷ []) ≡ Some op → is_quiet 64 op ≡ false
write_steps op same = subst (λ (o : Op). is_quiet 64 o ≡ false) (ap op_or_size same) refl

no_sync : Pwrite 0 ≢ Sync
no_sync same = false≢true (ap is_sync same)

pinned_reached : IsReached image_a two_pinned
pinned_reached =
    let begun = step_reached image_a own_at_tail 1 1 (Load (Image 3)) (Begins (Pwrite 0) (187 ∷ []) ∷ []) tail_reached (omega arith) (one_part 1)
    (record { none_runs = refl; not_won = refl; no_head = refl; no_marks = refl; none_laid = refl; steps = write_steps }, tt) (omega arith) tt in
    let stored = step_reached image_a _ 1 1 (Store (Pin 1) 1) [] begun (omega arith) (one_part 1) tt refl (record { value_is = inr (λ none. omega (arith, none), refl); no_marks = λ sync. refl }) in
    step_reached image_a _ 1 1 (Load (Image 3)) [] stored (omega arith) (one_part 1) tt refl tt

walked_reached : IsReached image_a two_walked
walked_reached =
    let read = step_reached image_a two_pinned 1 1 (Load (Image 25)) [] pinned_reached (omega arith) (one_part 1) tt refl (record { valid = refl; named = refl }) in
    step_reached image_a _ 1 1 (Load (Image 27)) (StartsFromLog ∷ []) read (omega arith) (one_part 1)
    (record { at_front = record { valid = refl; pinned = refl; front = λ none. cc }; free = record { not_won = refl; none_laid = refl; no_sync = refl; no_head = refl }; no_bases = refl; kind_is = refl }, tt)
    refl (record { valid = refl; named = refl })

taken_reached : IsReached image_a two_taken
taken_reached = step_reached image_a two_walked 1 1 (SetBits (Map 0) 4) [] walked_reached (omega arith) (one_part 1) tt refl
    (record { inside = omega arith; area = Data; in_area = all_among 4 (λ block. is_in_area (seat_shape (view_of two_walked.views 1).seat) Data block) refl; few = omega arith })

marked_reached : IsReached image_a two_marked
marked_reached = fills_block image_a 1 0 2 (187 ∷ replicate 7 0) two_taken (omega arith) refl
    (record { run = taken_reached; made = omega arith; owns = record { unspent = one_part 1; no_sync = no_sync; words = refl; inside = omega arith; owned = refl } })

pub fenced_reached : IsReached image_a two_fenced
fenced_reached = step_reached image_a two_marked 1 1 Fence (CountsFilled 0 ∷ []) marked_reached (omega arith) (one_part 1) (record { owned = omega arith; each = all_filled two_marked 1 0 2 refl refl refl refl refl refl refl refl }, tt) refl
    (record { in_sync = λ sync tail none. absurd (no_sync sync) })

pub two_at_one_tail : TwoAtOneTail
two_at_one_tail = (fenced_reached, reached_holds image_a two_fenced image_starts fenced_reached, refl, refl, refl, refl, refl)
