-- Rows of a collection that finds nothing to collect.
use Rattle.std.proofs.Common.{[], ◌∷◌, refl, sym, subst, inl, inr, arith}
use Rattle.asks.specs.declared.ask.Ask.TheVariants.{Load, Store}
use Rattle.asks.specs.declared.ask.Place.TheVariants.{Image, Pin}
use Rattle.log_core.specs.Cores.{Core}
use Rattle.log_core.specs.Works.{KeepsTable}
use Rattle.log_core.specs.Runs.{IsReached}
use Rattle.log_core.specs.worked_rows.Samples.{image_a}
use Rattle.log_core.specs.worked_rows.GivenBack.{given_from}
use Rattle.log_core.specs.worked_rows.NothingLeft.{loaded_from, stored_from, pinned_from, front_from, tail_from, nothing_call, nothing_from, NothingLeft, NothingLeftRuns}
use Rattle.log_core.proofs.row_checks.RowsStart.{image_starts}
use Rattle.log_core.proofs.row_checks.RowsWrong.{one_part}
use Rattle.log_core.proofs.row_checks.RowsAllowed.{step_reached}
use Rattle.log_core.proofs.row_checks.RowsReached.{reached_holds}
use Rattle.log_core.proofs.row_checks.RowsStepped.{enters_reached}
use Rattle.log_core.proofs.row_checks.RowsHeadPut.{put_core, head_put_is}
use Rattle.log_core.proofs.row_checks.RowsOvertaken.{given_reached}

loaded_reached : IsReached image_a (loaded_from put_core)
loaded_reached = step_reached image_a (given_from put_core) 0 3 (Load (Image 3)) [] given_reached (omega arith) (one_part 0) tt refl tt

stored_reached : IsReached image_a (stored_from put_core)
stored_reached = step_reached image_a (loaded_from put_core) 0 3 (Store (Pin 0) 2) [] loaded_reached (omega arith) (one_part 0) tt refl
    (record { value_is = inr (λ none. omega (arith, none), refl); no_marks = λ sync. refl })

pinned_reached : IsReached image_a (pinned_from put_core)
pinned_reached = step_reached image_a (stored_from put_core) 0 3 (Load (Image 3)) [] stored_reached (omega arith) (one_part 0) tt refl tt

front_reached : IsReached image_a (front_from put_core)
front_reached = step_reached image_a (pinned_from put_core) 0 3 (Load (Image 41)) [] pinned_reached (omega arith) (one_part 0) tt refl (record { valid = refl; named = refl })

tail_reached : IsReached image_a (tail_from put_core)
tail_reached = step_reached image_a (front_from put_core) 0 3 (Load (Image 35)) (KeepsTable ∷ []) front_reached (omega arith) (one_part 0)
    ((record { valid = refl; pinned = refl; front = λ none. cc }, (λ none. omega (arith, none)), refl, omega arith), tt) refl (record { valid = refl; named = refl })

nothing_reached : IsReached image_a (nothing_from put_core)
nothing_reached = enters_reached image_a (tail_from put_core) 0 3 (Store (Pin 0) 0) [] [] (nothing_call ∷ []) tail_reached (omega arith) (one_part 0) tt refl
    (record { value_is = inl refl; no_marks = λ sync. refl }) tt refl
    (record { at_tail = refl; position = refl; seat = refl; number = refl; op = refl; fits = (refl, refl, refl) })

nothing : NothingLeft put_core
nothing = (
  nothing_reached,
  reached_holds image_a (nothing_from put_core) image_starts nothing_reached,
  refl,
  refl,
  refl,
  refl,
  refl,
  refl,
  refl,
  refl,
  record { no_call = refl; unpinned = refl; nothing_owned = refl; nothing_marked = refl; not_won = refl; no_head = refl; nothing_replaced = refl },
  record { no_call = refl; unpinned = refl; nothing_owned = refl; nothing_marked = refl; not_won = refl; no_head = refl; nothing_replaced = refl },
)

pub nothing_left_runs : NothingLeftRuns
nothing_left_runs = subst (λ (c : Core). NothingLeft c) (sym head_put_is) nothing
