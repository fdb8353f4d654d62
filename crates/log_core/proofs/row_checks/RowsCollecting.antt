-- Rows of a run in which two seats collect at one tail.
use Rattle.std.proofs.Common.{[], ◌∷◌, refl, inr, arith}
use Rattle.log_entry.specs.declared.shapes.Area.TheVariants.{Spare}
use Rattle.pmem_words.specs.declared.keeps.Task.TheVariants.{Collect}
use Rattle.asks.specs.declared.ask.Ask.TheVariants.{Load, Store, SetBits, Fence}
use Rattle.asks.specs.declared.ask.Place.TheVariants.{Image, Pin, Map}
use Rattle.log_core.specs.Views.{view_of}
use Rattle.log_core.specs.Works.{Begins, StartsFromLog, TakesEntry, TakesSeal, Follows, CountsFilled, seat_shape}
use Rattle.log_core.specs.Needs.{is_in_area}
use Rattle.log_core.specs.Runs.{IsReached}
use Rattle.log_core.specs.worked_rows.Samples.{image_a}
use Rattle.log_core.specs.worked_rows.Rows.{snapshot_words}
use Rattle.log_core.specs.worked_rows.Written.{own_linked}
use Rattle.log_core.specs.worked_rows.Collecting.{other_pinned, other_front, other_past, other_end, other_next, other_walked, first_taken, first_marked, first_fenced, other_taken, other_marked, other_fenced, TwoCollect}
use Rattle.log_core.proofs.row_checks.RowsTaken.{all_among}
use Rattle.log_core.proofs.row_checks.RowsStart.{image_starts}
use Rattle.log_core.proofs.row_checks.RowsWrong.{one_part}
use Rattle.log_core.proofs.row_checks.RowsAllowed.{step_reached}
use Rattle.log_core.proofs.row_checks.RowsReached.{reached_holds}
use Rattle.log_core.proofs.row_checks.RowsFilled.{fills_block, all_filled}
use Rattle.log_core.proofs.row_checks.RowsStepped.{enters_reached}
use Rattle.log_core.proofs.row_checks.RowsLinked.{collect_steps, no_sync, linked_reached}

pinned_reached : IsReached image_a other_pinned
pinned_reached =
    let begun = step_reached image_a own_linked 1 1 (Load (Image 3)) (Begins Collect [] ∷ []) linked_reached (omega arith) (one_part 1)
    (record { none_runs = refl; not_won = refl; no_head = refl; no_marks = refl; none_laid = refl; steps = collect_steps }, tt) (omega arith) tt in
    let stored = step_reached image_a _ 1 1 (Store (Pin 1) 1) [] begun (omega arith) (one_part 1) tt refl (record { value_is = inr (λ none. omega (arith, none), refl); no_marks = λ sync. refl }) in
    step_reached image_a _ 1 1 (Load (Image 3)) [] stored (omega arith) (one_part 1) tt refl tt

front_reached : IsReached image_a other_front
front_reached = step_reached image_a other_pinned 1 1 (Load (Image 25)) [] pinned_reached (omega arith) (one_part 1) tt refl (record { valid = refl; named = refl })

past_reached : IsReached image_a other_past
past_reached = enters_reached image_a other_front 1 1 (Load (Image 27)) (StartsFromLog ∷ []) (TakesEntry ∷ []) [] front_reached (omega arith) (one_part 1)
    (record { at_front = record { valid = refl; pinned = refl; front = λ none. cc }; free = record { not_won = refl; none_laid = refl; no_sync = refl; no_head = refl }; no_bases = refl; kind_is = refl }, tt)
    refl (record { valid = refl; named = refl })
    ((record { free = record { not_won = refl; none_laid = refl; no_sync = refl; no_head = refl }; valid = refl; ready = refl; inside = λ same. omega (arith, same); used = λ same. omega (arith, same) }, (λ same. omega (arith, same)), λ indirect. absurd (omega (arith, indirect))), tt)
    refl tt

end_reached : IsReached image_a other_end
end_reached = enters_reached image_a other_past 1 1 (Load (Image 28)) [] (TakesSeal ∷ []) [] past_reached (omega arith) (one_part 1) tt refl (record { valid = refl; named = refl })
    ((record { free = record { not_won = refl; none_laid = refl; no_sync = refl; no_head = refl }; valid = refl; ready = refl; inside = λ same. omega (arith, same); used = λ same. omega (arith, same) }, refl), tt)
    refl tt

pub next_reached : IsReached image_a other_next
next_reached = enters_reached image_a other_end 1 1 (Load (Image 24)) [] (Follows ∷ []) [] end_reached (omega arith) (one_part 1) tt refl (record { valid = refl; named = refl })
    (record { free = record { not_won = refl; none_laid = refl; no_sync = refl; no_head = refl }; valid = refl; ready = refl; at_end = refl; linked = λ same. omega (arith, same) }, tt)
    refl tt

walked_reached : IsReached image_a other_walked
walked_reached = step_reached image_a other_next 1 1 (Load (Image 35)) [] next_reached (omega arith) (one_part 1) tt refl (record { valid = refl; named = refl })

first_taken_reached : IsReached image_a first_taken
first_taken_reached = step_reached image_a other_walked 0 2 (SetBits (Map 0) 32) [] walked_reached (omega arith) (one_part 0) tt refl
    (record { inside = omega arith; area = Spare; in_area = all_among 32 (λ block. is_in_area (seat_shape (view_of other_walked.views 0).seat) Spare block) refl; few = omega arith })

first_marked_reached : IsReached image_a first_marked
first_marked_reached = fills_block image_a 0 0 5 (snapshot_words) first_taken (omega arith) refl
    (record { run = first_taken_reached; made = omega arith; owns = record { unspent = one_part 0; no_sync = no_sync; words = refl; inside = omega arith; owned = refl } })

first_fenced_reached : IsReached image_a first_fenced
first_fenced_reached = step_reached image_a first_marked 0 2 Fence (CountsFilled 0 ∷ []) first_marked_reached (omega arith) (one_part 0) (record { owned = omega arith; each = all_filled first_marked 0 0 5 refl refl refl refl refl refl refl refl }, tt) refl
    (record { in_sync = λ sync tail none. absurd (no_sync sync) })

other_taken_reached : IsReached image_a other_taken
other_taken_reached = step_reached image_a first_fenced 1 1 (SetBits (Map 0) 64) [] first_fenced_reached (omega arith) (one_part 1) tt refl
    (record { inside = omega arith; area = Spare; in_area = all_among 64 (λ block. is_in_area (seat_shape (view_of first_fenced.views 1).seat) Spare block) refl; few = omega arith })

other_marked_reached : IsReached image_a other_marked
other_marked_reached = fills_block image_a 1 0 6 (snapshot_words) other_taken (omega arith) refl
    (record { run = other_taken_reached; made = omega arith; owns = record { unspent = one_part 1; no_sync = no_sync; words = refl; inside = omega arith; owned = refl } })

pub other_fenced_reached : IsReached image_a other_fenced
other_fenced_reached = step_reached image_a other_marked 1 1 Fence (CountsFilled 0 ∷ []) other_marked_reached (omega arith) (one_part 1) (record { owned = omega arith; each = all_filled other_marked 1 0 6 refl refl refl refl refl refl refl refl }, tt) refl
    (record { in_sync = λ sync tail none. absurd (no_sync sync) })

pub two_collect : TwoCollect
two_collect = (other_fenced_reached, reached_holds image_a other_fenced image_starts other_fenced_reached, refl, refl, refl, refl, refl, refl, refl, refl)
