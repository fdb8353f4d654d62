-- Rows of a run that seals a log block and links the next one.
use Rattle.std.proofs.Common.{◌≡◌, ◌≢◌, false, [], ◌∷◌, refl, arith, ap, subst, Some}
use Rattle.std.proofs.lemmas.Bool.{false≢true}
use Rattle.log_entry.specs.declared.calls.Op.{Op}
use Rattle.log_entry.specs.declared.shapes.Area.TheVariants.{Spare}
use Rattle.pmem_words.specs.declared.keeps.Task.TheVariants.{Sync, Collect}
use Rattle.asks.specs.declared.ask.Ask.TheVariants.{Load, Exchange, SetBits, Fence}
use Rattle.asks.specs.declared.ask.Place.TheVariants.{Image, Map}
use Rattle.log_core.specs.Views.{op_of}
use Rattle.log_core.specs.Works.{Begins, CountsFilled, is_quiet, seat_shape}
use Rattle.log_core.specs.Needs.{is_in_area}
use Rattle.log_core.specs.After.{op_or_size}
use Rattle.log_core.specs.Runs.{IsReached}
use Rattle.log_core.specs.worked_rows.Samples.{image_a}
use Rattle.log_core.specs.worked_rows.Rows.{log_words}
use Rattle.log_core.specs.worked_rows.Refused.{seat_zero}
use Rattle.log_core.specs.worked_rows.Written.{own_put, own_sealing, own_sealed, log_taken, log_marked, log_fenced, own_linked, LinkRuns}
use Rattle.log_core.proofs.row_checks.RowTells.{is_sync}
use Rattle.log_core.proofs.row_checks.RowsTaken.{all_among}
use Rattle.log_core.proofs.row_checks.RowsStart.{image_starts}
use Rattle.log_core.proofs.row_checks.RowsWrong.{one_part}
use Rattle.log_core.proofs.row_checks.RowsAllowed.{step_reached}
use Rattle.log_core.proofs.row_checks.RowsReached.{reached_holds}
use Rattle.log_core.proofs.row_checks.RowsFilled.{fills_block, all_filled}
use Rattle.log_core.proofs.row_checks.RowsWritten.{put_reached}

-- a collection makes steps, and is no sync
pub collect_steps : (op : Op) → op_of Collect [] ≡ Some op → is_quiet 64 op ≡ false
collect_steps op same = subst (λ (o : Op). is_quiet 64 o ≡ false) (ap op_or_size same) refl

pub no_sync : Collect ≢ Sync
no_sync same = false≢true (ap is_sync same)

sealing_reached : IsReached image_a own_sealing
sealing_reached = step_reached image_a own_put 0 2 (Load (Image 28)) (Begins Collect [] ∷ []) put_reached (omega arith) (one_part 0)
    (record { none_runs = refl; not_won = refl; no_head = refl; no_marks = refl; none_laid = refl; steps = collect_steps }, tt) (omega arith) (record { valid = refl; named = refl })

sealed_reached : IsReached image_a own_sealed
sealed_reached = step_reached image_a own_sealing 0 2 (Exchange (Image 28) 0 3) [] sealing_reached (omega arith) (one_part 0) tt refl
    (λ seal. record { at_tail = record { valid = refl; ready = refl; not_won = refl; at_tail = refl }; slot = refl; later = omega arith; inside = omega arith; job = refl }, λ entry. absurd (entry refl))

taken_reached : IsReached image_a log_taken
taken_reached = step_reached image_a own_sealed 0 2 (SetBits (Map 0) 16) [] sealed_reached (omega arith) (one_part 0) tt refl
    (record { inside = omega arith; area = Spare; in_area = all_among 16 (λ block. is_in_area (seat_shape (seat_zero own_sealed)) Spare block) refl; few = omega arith })

marked_reached : IsReached image_a log_marked
marked_reached = fills_block image_a 0 0 4 (log_words) log_taken (omega arith) refl
    (record { run = taken_reached; made = omega arith; owns = record { unspent = one_part 0; no_sync = no_sync; words = refl; inside = omega arith; owned = refl } })

fenced_reached : IsReached image_a log_fenced
fenced_reached = step_reached image_a log_marked 0 2 Fence (CountsFilled 0 ∷ []) marked_reached (omega arith) (one_part 0) (record { owned = omega arith; each = all_filled log_marked 0 0 4 refl refl refl refl refl refl refl refl }, tt) refl
    (record { in_sync = λ sync tail none. absurd (no_sync sync) })

pub linked_reached : IsReached image_a own_linked
linked_reached = step_reached image_a log_fenced 0 2 (Exchange (Image 24) 0 4) [] fenced_reached (omega arith) (one_part 0) tt refl
    (record { valid = refl; ready = refl; link = refl; at_end = refl; owned = refl; in_log = refl; content = refl })

pub link_runs : LinkRuns
link_runs = (linked_reached, reached_holds image_a own_linked image_starts linked_reached, refl, refl, refl, refl, refl, refl)
