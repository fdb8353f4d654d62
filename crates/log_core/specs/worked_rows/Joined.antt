-- A sync, a split and a join within runs.
use Rattle.std.specs.Prelude.{◌≡◌, [], ◌∷◌, map, Some, None}
use Rattle.asks.specs.declared.ask.Place.TheVariants.{Image, Pin}
use Rattle.asks.specs.declared.ask.Ask.TheVariants.{Load, Store, Mark, Fence}
use Rattle.pmem_words.specs.declared.keeps.Task.TheVariants.{Size, Sync}
use Rattle.pmem_words.specs.Seats.{Seat}
use Rattle.log_core.specs.Views.{View, view_of, spent_view}
use Rattle.log_core.specs.Cores.{Core, first_core}
use Rattle.log_core.specs.Works.{Begins, StartsFromLog}
use Rattle.log_core.specs.Steps.{Splits, Joins}
use Rattle.log_core.specs.After.{after}
use Rattle.log_core.specs.May.{MayMark, MayFence, walked_trail}
use Rattle.log_core.specs.Runs.{IsReached, MayJoin}
use Rattle.log_core.specs.Invariant.{Invariant}
use Rattle.log_core.specs.worked_rows.Samples.{image_a, stepping}
use Rattle.log_core.specs.worked_rows.Rows.{syncing}
use Rattle.log_core.specs.worked_rows.Refused.{one_made, seat_zero}

-- on the just-made image seat 0 begins a sync and walks to the tail of the empty log; it marks the head, and fences
abbrev pub sync_begun : Core
sync_begun = stepping image_a (first_core image_a) 0 (Load (Image 3)) 1 (Begins Sync [] ∷ []) []

abbrev pub sync_stored : Core
sync_stored = stepping image_a sync_begun 0 (Store (Pin 0) 1) 1 [] []

abbrev pub sync_pinned : Core
sync_pinned = stepping image_a sync_stored 0 (Load (Image 3)) 1 [] []

abbrev pub sync_read : Core
sync_read = stepping image_a sync_pinned 0 (Load (Image 25)) 1 [] []

abbrev pub sync_walked : Core
sync_walked = stepping image_a sync_read 0 (Load (Image 27)) 1 (StartsFromLog ∷ []) []

abbrev pub sync_marked : Core
sync_marked = stepping image_a sync_walked 0 (Mark 3) 1 [] []

abbrev pub sync_fenced : Core
sync_fenced = stepping image_a sync_marked 0 Fence 1 [] []

-- a run comes there; the sync has its position, and could not have fenced before its mark
abbrev pub SyncRuns : Type 0
SyncRuns =
    IsReached image_a sync_fenced
    × Invariant image_a sync_fenced
    × ((seat_zero sync_fenced).calling.sync_to ≡ Some 0)
    × (sync_fenced.synced ≡ 0)
    × ((view_of sync_marked.views 0).ghost.marks ≡ record { word = 3; value = 4294967299 } ∷ [])
    × ((view_of sync_fenced.views 0).ghost.marks ≡ [])
    × ((seat_zero sync_marked).calling.sync_to ≡ None)
    × (MayFence (walked_trail image_a sync_walked (seat_zero sync_walked)) (view_of sync_walked.views 0).ghost (seat_zero sync_walked) → ⊥)

-- the seat that has walked past an entry, in a call that is no sync
abbrev pub size_asked : Seat
size_asked = record (seat_zero syncing) { calling = record ((seat_zero syncing).calling) { job = Size } }

-- it may mark neither the head nor the entry
abbrev pub NoMarkOutsideOfSyncs : Type 0
NoMarkOutsideOfSyncs =
    MayMark (walked_trail image_a syncing (seat_zero syncing)) (view_of syncing.views 0).ghost (seat_zero syncing) 27
    × (MayMark (walked_trail image_a syncing size_asked) (view_of syncing.views 0).ghost size_asked 27 → ⊥)
    × (MayMark (walked_trail image_a syncing size_asked) (view_of syncing.views 0).ghost size_asked 3 → ⊥)

-- of two seats one is made; seat 0 is split, the new seat loads the head, and they are joined again
abbrev pub split_once : Core
split_once = after one_made (first_core one_made) (Splits 0)

abbrev pub split_loaded : Core
split_loaded = stepping one_made split_once 1 (Load (Image 3)) 1 (Begins Size [] ∷ []) []

abbrev pub joined_again : Core
joined_again = after one_made split_once (Joins 0 1)

-- runs come there: a seat that runs a call is not joined; one view is left, of both seats
abbrev pub SeatsAreJoined : Type 0
SeatsAreJoined =
    IsReached one_made split_loaded
    × Invariant one_made split_loaded
    × ((view_of split_loaded.views 1).seat.hold.head ≡ 4294967299)
    × (MayJoin split_loaded 0 1 → ⊥)
    × IsReached one_made joined_again
    × Invariant one_made joined_again
    × (map (λ (v : View). v.parts) joined_again.views ≡ (0 ∷ 1 ∷ []) ∷ [] ∷ [])
    × (view_of joined_again.views 1 ≡ spent_view)
