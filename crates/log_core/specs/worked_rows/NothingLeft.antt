-- How the second collection of that run ends: by the next generation's chain there is nothing to collect.
use Rattle.std.specs.Prelude.{◌≡◌, true, false, [], ◌∷◌, length}
use Rattle.log_entry.specs.declared.calls.Call.{Call}
use Rattle.log_entry.specs.declared.calls.CollectRefusal.TheVariants.{Nothing}
use Rattle.log_entry.specs.declared.calls.Op.TheVariants.{Collect as CollectOp}
use Rattle.log_entry.specs.declared.calls.Reply.TheVariants.{NotCollected}
use Rattle.asks.specs.declared.ask.Ask.TheVariants.{Load, Store}
use Rattle.asks.specs.declared.ask.Place.TheVariants.{Image, Pin}
use Rattle.log_core.specs.Views.{view_of}
use Rattle.log_core.specs.Cores.{Core}
use Rattle.log_core.specs.Works.{KeepsTable}
use Rattle.log_core.specs.After.{after}
use Rattle.log_core.specs.Runs.{IsReached, IsIdleView}
use Rattle.log_core.specs.Invariant.{Invariant}
use Rattle.log_core.specs.worked_rows.Samples.{image_a, step_of, stepping}
use Rattle.log_core.specs.worked_rows.Rows.{first_call}
use Rattle.log_core.specs.worked_rows.Collecting.{head_put}
use Rattle.log_core.specs.worked_rows.GivenBack.{given_from, kept_call}

-- seat 0 pins the second generation, and reads the second word of its snapshot
abbrev pub loaded_from : Core → Core
loaded_from c = stepping image_a (given_from c) 0 (Load (Image 3)) 3 [] []

abbrev pub stored_from : Core → Core
stored_from c = stepping image_a (loaded_from c) 0 (Store (Pin 0) 2) 3 [] []

abbrev pub pinned_from : Core → Core
pinned_from c = stepping image_a (stored_from c) 0 (Load (Image 3)) 3 [] []

abbrev pub front_from : Core → Core
front_from c = stepping image_a (pinned_from c) 0 (Load (Image 41)) 3 [] []

-- its table is as far as that snapshot, so it keeps it, and finds its tail empty
abbrev pub tail_from : Core → Core
tail_from c = stepping image_a (front_from c) 0 (Load (Image 35)) 3 (KeepsTable ∷ []) []

-- its call ends as it gives up its pin
abbrev pub nothing_call : Call
nothing_call = record { position = 1; seat = 0; number = 3; op = CollectOp; reply = NotCollected Nothing }

abbrev pub nothing_from : Core → Core
nothing_from c = after image_a (tail_from c) (step_of image_a (tail_from c) 0 (Store (Pin 0) 0) 3 [] [] (nothing_call ∷ []))

-- the table is not that generation's until it is kept; then the snapshot is at its position, so nothing is left to collect. Both seats are idle
abbrev pub NothingLeft : Core → Type 0
NothingLeft c =
    IsReached image_a (nothing_from c)
    × Invariant image_a (nothing_from c)
    × ((view_of (front_from c).views 0).seat.walk.ready ≡ false)
    × ((view_of (front_from c).views 0).seat.walk.snapshot_base ≡ 0)
    × ((view_of (tail_from c).views 0).seat.walk.ready ≡ true)
    × ((view_of (tail_from c).views 0).seat.walk.snapshot_base ≡ 1)
    × ((view_of (tail_from c).views 0).seat.walk.at_tail ≡ true)
    × ((view_of (nothing_from c).views 0).done ≡ first_call ∷ kept_call ∷ nothing_call ∷ [])
    × ((nothing_from c).memory.now.pins ≡ 0 ∷ 0 ∷ [])
    × (length (nothing_from c).generations ≡ 2)
    × IsIdleView (view_of (nothing_from c).views 0)
    × IsIdleView (view_of (nothing_from c).views 1)

abbrev pub NothingLeftRuns : Type 0
NothingLeftRuns = NothingLeft head_put
