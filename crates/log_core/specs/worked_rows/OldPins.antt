-- A run in which a seat with a pin of the first generation writes and syncs after another seat's collection.
use Rattle.std.specs.Prelude.{◌≡◌, true, false, [], ◌∷◌, map, Some}
use Rattle.log_entry.specs.declared.calls.Call.{Call}
use Rattle.log_entry.specs.declared.calls.Op.TheVariants.{Pwrite as PwriteOp, Sync as SyncOp}
use Rattle.log_entry.specs.declared.calls.Reply.TheVariants.{Wrote, Synced}
use Rattle.asks.specs.declared.ask.Ask.TheVariants.{Load, Exchange, SetBits, Mark, Fence}
use Rattle.asks.specs.declared.ask.Place.TheVariants.{Image, Map}
use Rattle.pmem_words.specs.declared.keeps.Task.TheVariants.{Collect, Sync}
use Rattle.persistence.specs.Memory.{cell}
use Rattle.log_core.specs.Views.{view_of}
use Rattle.log_core.specs.Origin.{Header, InChain, OwnedBy, LeftTo}
use Rattle.log_core.specs.Files.{entries, file_at, history_map_at}
use Rattle.log_core.specs.Cores.{Core, generation_at, generation_blocks}
use Rattle.log_core.specs.Works.{Begins, TakesEntry, TakesSeal, Follows, CountsFilled, NotesNamed}
use Rattle.log_core.specs.After.{after}
use Rattle.log_core.specs.May.{walked_trail}
use Rattle.log_core.specs.Runs.{Allowed, IsReached}
use Rattle.log_core.specs.Invariant.{Invariant}
use Rattle.log_core.specs.worked_rows.Samples.{image_a, step_of, stepping, storing, marking}
use Rattle.log_core.specs.worked_rows.Rows.{to_first, to_second, first_write, log_words, snapshot_words}
use Rattle.log_core.specs.worked_rows.TwoWriters.{one_put, overwriting}

-- where seat 0 has put its entry in, and seat 1 stands at that slot with its own, seat 0 collects: it seals the log block, takes, fills
-- and fences block 4, and links it
abbrev pub seal_asked : Core
seal_asked = stepping image_a one_put 0 (Load (Image 28)) 2 (Begins Collect [] ∷ []) []

abbrev pub seal_put : Core
seal_put = stepping image_a seal_asked 0 (Exchange (Image 28) 0 3) 2 [] []

abbrev pub next_taken : Core
next_taken = stepping image_a seal_put 0 (SetBits (Map 0) 16) 2 [] []

abbrev pub next_marked : Core
next_marked = marking image_a (storing image_a next_taken 0 0 4 0 log_words) 0 4 8

abbrev pub next_fenced : Core
next_fenced = stepping image_a next_marked 0 Fence 2 (CountsFilled 0 ∷ []) []

abbrev pub next_linked : Core
next_linked = stepping image_a next_fenced 0 (Exchange (Image 24) 0 4) 2 [] []

-- its snapshot is block 5, and it puts its head in place
abbrev pub snapshot_taken : Core
snapshot_taken = stepping image_a next_linked 0 (SetBits (Map 0) 32) 2 [] []

abbrev pub snapshot_marked : Core
snapshot_marked = marking image_a (storing image_a snapshot_taken 0 0 5 0 snapshot_words) 0 5 8

abbrev pub snapshot_fenced : Core
snapshot_fenced = stepping image_a snapshot_marked 0 Fence 2 (CountsFilled 0 ∷ []) []

abbrev pub new_head : Core
new_head = stepping image_a snapshot_fenced 0 (Exchange (Image 3) 4294967299 8589934597) 2 (NotesNamed (26 ∷ []) ∷ []) []

-- each core that follows is that after some steps from there. Seat 1's exchange finds the entry, which it takes in; then it finds the
-- seal, and the link, and its tail in the block that the new generation begins with
abbrev pub entry_from : Core → Core
entry_from c = stepping image_a c 1 (Exchange (Image 27) 0 to_second) 1 [] (TakesEntry ∷ [])

abbrev pub seal_from : Core → Core
seal_from c = stepping image_a (entry_from c) 1 (Load (Image 28)) 1 [] (TakesSeal ∷ [])

abbrev pub follow_from : Core → Core
follow_from c = stepping image_a (seal_from c) 1 (Load (Image 24)) 1 [] (Follows ∷ [])

abbrev pub found_from : Core → Core
found_from c = stepping image_a (follow_from c) 1 (Load (Image 35)) 1 [] []

-- there it puts its entry in
abbrev pub old_call : Call
old_call = record { position = 2; seat = 1; number = 1; op = PwriteOp 0 (187 ∷ []); reply = Wrote 1 }

abbrev pub put_from : Core → Core
put_from c = after image_a (found_from c) (step_of image_a (found_from c) 1 (Exchange (Image 35) 0 to_second) 1 [] [] (old_call ∷ []))

-- and it syncs by the chain of its pin: the head, the slots of both log blocks, the seal and the link
abbrev pub sync_from : Core → Core
sync_from c = stepping image_a (put_from c) 1 (Load (Image 36)) 2 (Begins Sync [] ∷ []) []

abbrev pub head_from : Core → Core
head_from c = stepping image_a (sync_from c) 1 (Mark 3) 2 [] []

abbrev pub first_from : Core → Core
first_from c = stepping image_a (stepping image_a (stepping image_a (head_from c) 1 (Mark 27) 2 [] []) 1 (Mark 28) 2 [] []) 1 (Mark 24) 2 [] []

abbrev pub all_from : Core → Core
all_from c = stepping image_a (first_from c) 1 (Mark 35) 2 [] []

abbrev pub sync_call : Call
sync_call = record { position = 2; seat = 1; number = 2; op = SyncOp; reply = Synced 2 }

abbrev pub synced_from : Core → Core
synced_from c = after image_a (all_from c) (step_of image_a (all_from c) 1 Fence 2 [] [] (sync_call ∷ []))

-- its write is the history's second, both generations name its block, and its record is at that position
abbrev pub WritesByOldPin : Core → Type 0
WritesByOldPin c =
    IsReached image_a (put_from c)
    × Invariant image_a (put_from c)
    × ((view_of (put_from c).views 1).seat.hold ≡ record { head = 4294967299; pin = 1; generation = 1; valid = true })
    × ((put_from c).history ≡ first_write ∷ overwriting ∷ [])
    × (file_at image_a (put_from c).history 1 ≡ 170 ∷ [])
    × (file_at image_a (put_from c).history 2 ≡ 187 ∷ [])
    × (history_map_at image_a (entries image_a (put_from c).history) 2 0 ≡ Some 2)
    × ((put_from c).logs ≡ record { block = 3; base = 0; slots = to_first ∷ 3 ∷ [] } ∷ record { block = 4; base = 1; slots = to_second ∷ [] } ∷ [])
    × (generation_blocks image_a (put_from c).logs (entries image_a (put_from c).history) (generation_at image_a (put_from c).generations 1) ≡ 3 ∷ 4 ∷ 1 ∷ 2 ∷ [])
    × (generation_blocks image_a (put_from c).logs (entries image_a (put_from c).history) (generation_at image_a (put_from c).generations 2) ≡ 5 ∷ 4 ∷ 1 ∷ 2 ∷ [])
    × (map (found_from c).owner (0 ∷ 1 ∷ 2 ∷ 3 ∷ 4 ∷ 5 ∷ []) ≡ Header ∷ InChain ∷ OwnedBy 1 ∷ LeftTo 0 ∷ InChain ∷ InChain ∷ [])
    × (map (put_from c).owner (0 ∷ 1 ∷ 2 ∷ 3 ∷ 4 ∷ 5 ∷ []) ≡ Header ∷ InChain ∷ InChain ∷ LeftTo 0 ∷ InChain ∷ InChain ∷ [])
    × ((view_of (put_from c).views 0).seat.giving.replaced ≡ 3 ∷ [])
    × ((view_of (put_from c).views 1).done ≡ old_call ∷ [])

-- its sync makes both writes outlast a crash, and the new head too, which seat 0 has not yet fenced; it could not fence with a mark missing
abbrev pub SyncsByOldPin : Core → Type 0
SyncsByOldPin c =
    IsReached image_a (synced_from c)
    × Invariant image_a (synced_from c)
    × (walked_trail image_a (all_from c) (view_of (all_from c).views 1).seat
    ≡ record { place = 27; word = to_first } ∷ record { place = 28; word = 3 } ∷ record { place = 24; word = 4 } ∷ record { place = 35; word = to_second } ∷ [])
    × ((all_from c).synced ≡ 0)
    × ((synced_from c).synced ≡ 2)
    × (cell (synced_from c).memory 35 ≡ record { present = to_second; past = 0 ∷ 0 ∷ []; floor = 2 })
    × (cell (synced_from c).memory 24 ≡ record { present = 4; past = 0 ∷ []; floor = 1 })
    × (cell (synced_from c).memory 3 ≡ record { present = 8589934597; past = 4294967299 ∷ []; floor = 1 })
    × ((view_of (synced_from c).views 0).seat.giving.head_fenced ≡ false)
    × ((view_of (synced_from c).views 1).done ≡ old_call ∷ sync_call ∷ [])
    × (Allowed image_a (first_from c) (step_of image_a (first_from c) 1 Fence 2 [] [] []) → ⊥)

abbrev pub OldPinRuns : Type 0
OldPinRuns = WritesByOldPin new_head × SyncsByOldPin new_head
