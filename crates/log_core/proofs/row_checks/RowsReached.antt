-- A run from the just-made image takes a block, fills and fences it, and gives it back.
use Rattle.std.proofs.Common.{◌≢◌, replicate, [], ◌∷◌, refl, ap, subst, arith}
use Rattle.std.proofs.lemmas.Bool.{false≢true}
use Rattle.log_core.specs.Origin.{Origin}
use Rattle.log_core.specs.Cores.{Core}
use Rattle.log_core.specs.Runs.{IsReached}
use Rattle.log_core.specs.Starts.{IsStart}
use Rattle.log_core.specs.Invariant.{Invariant}
use Rattle.log_core.specs.worked_rows.Samples.{image_a}
use Rattle.log_entry.specs.declared.shapes.Area.TheVariants.{Data}
use Rattle.pmem_words.specs.declared.keeps.Task.TheVariants.{Pwrite, Sync}
use Rattle.asks.specs.declared.ask.Ask.TheVariants.{Load, SetBits, ClearBits, Fence}
use Rattle.asks.specs.declared.ask.Place.TheVariants.{Map}
use Rattle.log_image.specs.Chains.{is_listed}
use Rattle.log_core.specs.Works.{CountsFilled, seat_shape}
use Rattle.log_core.specs.Needs.{owned_numbers, is_in_area}
use Rattle.log_core.specs.May.{MayStoreWord, OfOwned}
use Rattle.log_core.specs.worked_rows.Rows.{pinned}
use Rattle.log_core.specs.worked_rows.Refused.{seat_zero}
use Rattle.log_core.specs.worked_rows.Accepted.{pin_steps}
use Rattle.log_core.specs.worked_rows.AllowedSteps.{own_taken, own_marked, own_fenced, own_given, BlockRuns}
use Rattle.log_core.proofs.row_checks.RowsRun.{pin_runs}
use Rattle.log_core.proofs.row_checks.RowsTaken.{all_among}
use Rattle.log_core.proofs.row_checks.RowsWrong.{one_part}
use Rattle.log_core.proofs.row_checks.RowsAllowed.{step_reached}
use Rattle.log_core.proofs.row_checks.RowsFilled.{fills_block, all_filled}
use Rattle.log_core.proofs.row_checks.RowTells.{is_sync}
use Rattle.log_core.proofs.row_checks.RowsStart.{image_starts}
use Rattle.log_core.proofs.kinds.RunHolds.{run_from}
use Rattle.log_core.proofs.starts.StartMeets.{start_meets}

-- the invariant holds where a run comes to
pub reached_holds : (o : Origin) (c : Core) → IsStart o → IsReached o c → Invariant o c
reached_holds o c start run = subst (λ (from : Core). Invariant o from) run.ends (run_from o run.steps (start_meets o start) run.is_run)

no_sync_runs : Pwrite 0 ≢ Sync
no_sync_runs same = false≢true (ap is_sync same)

taken_reached : IsReached image_a own_taken
taken_reached =
    let run : IsReached image_a pinned = record { steps = pin_steps; is_run = pin_runs.0; ends = pin_runs.1 } in
    let loaded = step_reached image_a pinned 0 1 (Load (Map 0)) [] run (omega arith) (one_part 0) tt refl (record { inside = omega arith; area = Data; lacks = omega arith }) in
    step_reached image_a _ 0 1 (SetBits (Map 0) 2) [] loaded (omega arith) (one_part 0) tt refl
    (record { inside = omega arith; area = Data; in_area = all_among 2 (λ block. is_in_area (seat_shape (seat_zero pinned)) Data block) refl; few = omega arith })

marked_reached : IsReached image_a own_marked
marked_reached = fills_block image_a 0 0 1 (170 ∷ replicate 7 0) own_taken (omega arith) refl
    (record { run = taken_reached; made = omega arith; owns = record { unspent = one_part 0; no_sync = no_sync_runs; words = refl; inside = omega arith; owned = refl } })

pub fenced_reached : IsReached image_a own_fenced
fenced_reached = step_reached image_a own_marked 0 1 Fence (CountsFilled 0 ∷ []) marked_reached (omega arith) (one_part 0) (record { owned = omega arith; each = all_filled own_marked 0 0 1 refl refl refl refl refl refl refl refl }, tt) refl
    (record { in_sync = λ sync tail none. absurd (no_sync_runs sync) })

given_reached : IsReached image_a own_given
given_reached = step_reached image_a own_fenced 0 1 (ClearBits (Map 0) 2) [] fenced_reached (omega arith) (one_part 0) tt refl
    (record { inside = omega arith; small = omega arith; given = Rattle.log_core.specs.May.AreGivenBack.OfOwned (all_among 2 (λ block. is_listed (owned_numbers (seat_zero own_fenced).blocks.owned) block) refl) })

pub block_runs : BlockRuns
block_runs = (
  image_starts,
  fenced_reached,
  reached_holds image_a own_fenced image_starts fenced_reached,
  refl,
  refl,
  refl,
  given_reached,
  reached_holds image_a own_given image_starts given_reached,
  refl,
  refl,
)
