-- How that run goes on: a pin holds the replaced block, the other collection is overtaken, and once the pin is given up the block is
-- given back. Each core is that after some steps from the one where the head is put in place.
use Rattle.std.specs.Prelude.{◌≡◌, true, [], ◌∷◌, map, length, Some, None}
use Rattle.log_entry.specs.declared.shapes.Area.TheVariants.{Spare}
use Rattle.log_entry.specs.declared.calls.Call.{Call}
use Rattle.log_entry.specs.declared.calls.CollectRefusal.TheVariants.{Overtaken}
use Rattle.log_entry.specs.declared.calls.Op.TheVariants.{Collect as CollectOp}
use Rattle.log_entry.specs.declared.calls.Reply.TheVariants.{Collected, NotCollected}
use Rattle.asks.specs.declared.ask.Ask.TheVariants.{Load, Store, Exchange, ClearBits, Mark, Fence}
use Rattle.asks.specs.declared.ask.Place.TheVariants.{Image, Pin, Map}
use Rattle.pmem_words.specs.declared.keeps.Task.TheVariants.{Collect}
use Rattle.persistence.specs.Memory.{cell}
use Rattle.log_core.specs.Views.{view_of, op_in}
use Rattle.log_core.specs.Origin.{Header, Free, InChain, OwnedBy, LeftTo}
use Rattle.log_core.specs.Files.{file_at}
use Rattle.log_core.specs.Cores.{Core, IsKept, head_floor}
use Rattle.log_core.specs.Works.{Begins, NotesNamed, KeepsReplaced, NotesHeld}
use Rattle.log_core.specs.After.{after}
use Rattle.log_core.specs.Runs.{Allowed, IsReached}
use Rattle.log_core.specs.Invariant.{Invariant}
use Rattle.log_core.specs.worked_rows.Samples.{image_a, step_of, stepping}
use Rattle.log_core.specs.worked_rows.Rows.{first_call, first_write, collect_call}
use Rattle.log_core.specs.worked_rows.Collecting.{head_put, HeadRuns}

-- the head is marked and fenced, and seat 0 gives up its pin and scans both pins
abbrev pub marked_from : Core → Core
marked_from c = stepping image_a c 0 (Mark 3) 2 [] []

abbrev pub sure_from : Core → Core
sure_from c = stepping image_a (marked_from c) 0 Fence 2 [] []

abbrev pub unpinned_from : Core → Core
unpinned_from c = stepping image_a (sure_from c) 0 (Store (Pin 0) 0) 2 [] []

abbrev pub half_from : Core → Core
half_from c = stepping image_a (unpinned_from c) 0 (Load (Pin 0)) 2 [] []

abbrev pub held_from : Core → Core
held_from c = stepping image_a (half_from c) 0 (Load (Pin 1)) 2 [] []

-- with the same load the call ends: it keeps the replaced block for later, and its record says whose pin holds it
abbrev pub kept_call : Call
kept_call = collect_call (Collected (record { generation = 2; freed = 0; kept = 1; held = Some (record { seat = 1; generation = 1 }) }))

abbrev pub kept_from : Core → Core
kept_from c = after image_a (half_from c) (step_of image_a (half_from c) 0 (Load (Pin 1)) 2 [] (KeepsReplaced ∷ NotesHeld (Some (record { seat = 1; generation = 1 })) ∷ []) (kept_call ∷ []))

-- seat 1's exchange of the head finds the second generation; it gives its own block back, and its call ends as it gives up its pin
abbrev pub lost_from : Core → Core
lost_from c = stepping image_a (kept_from c) 1 (Exchange (Image 3) 4294967299 8589934598) 1 (NotesNamed (26 ∷ []) ∷ []) []

abbrev pub emptied_from : Core → Core
emptied_from c = stepping image_a (lost_from c) 1 (ClearBits (Map 0) 64) 1 [] []

abbrev pub overtaken_call : Call
overtaken_call = record { position = 1; seat = 1; number = 1; op = CollectOp; reply = NotCollected (Overtaken 2) }

abbrev pub overtaken_from : Core → Core
overtaken_from c = after image_a (emptied_from c) (step_of image_a (emptied_from c) 1 (Store (Pin 1) 0) 1 [] [] (overtaken_call ∷ []))

-- seat 0's next collection scans the pins anew, and gives back the block that it kept
abbrev pub begun_from : Core → Core
begun_from c = stepping image_a (overtaken_from c) 0 (Load (Pin 0)) 3 (Begins Collect [] ∷ []) []

abbrev pub clear_from : Core → Core
clear_from c = stepping image_a (begun_from c) 0 (Load (Pin 1)) 3 [] []

abbrev pub given_from : Core → Core
given_from c = stepping image_a (clear_from c) 0 (ClearBits (Map 0) 8) 3 [] []

-- the scan finds seat 1's pin of the first generation, so what was replaced may not be given back
abbrev pub HeldBack : Core → Type 0
HeldBack c =
    IsReached image_a (held_from c)
    × Invariant image_a (held_from c)
    × (cell (held_from c).memory 3 ≡ record { present = 8589934597; past = 4294967299 ∷ []; floor = 1 })
    × ((view_of (held_from c).views 0).seat.giving.head_fenced ≡ true)
    × ((view_of (held_from c).views 0).seat.giving.pins_seen ≡ 0 ∷ 1 ∷ [])
    × ((view_of (held_from c).views 0).seat.giving.replaced ≡ 3 ∷ [])
    × IsKept image_a (held_from c).generations (head_floor (held_from c).memory) (held_from c).views 0
    × (Allowed image_a (held_from c) (step_of image_a (held_from c) 0 (ClearBits (Map 0) 8) 2 [] [] []) → ⊥)

-- it is kept for later, by the same scan
abbrev pub KeptForLater : Core → Type 0
KeptForLater c =
    IsReached image_a (kept_from c)
    × Invariant image_a (kept_from c)
    × ((view_of (kept_from c).views 0).seat.giving.replaced ≡ [])
    × ((view_of (kept_from c).views 0).seat.giving.limbo ≡ 3 ∷ [])
    × ((view_of (kept_from c).views 0).seat.giving.limbo_generation ≡ 1)
    × ((view_of (kept_from c).views 0).seat.giving.limbo_held ≡ Some (record { seat = 1; generation = 1 }))
    × ((view_of (kept_from c).views 0).done ≡ first_call ∷ kept_call ∷ [])
    × (map (kept_from c).owner (0 ∷ 1 ∷ 2 ∷ 3 ∷ 4 ∷ 5 ∷ 6 ∷ []) ≡ Header ∷ InChain ∷ Free ∷ LeftTo 0 ∷ InChain ∷ InChain ∷ OwnedBy 1 ∷ [])
    × ((kept_from c).memory.now.taken ≡ 123 ∷ [])
    × (Allowed image_a (kept_from c) (step_of image_a (kept_from c) 0 (ClearBits (Map 0) 8) 2 [] [] []) → ⊥)

-- the collection that lost the head has put none in place: there are two generations and its call says which one it found. Once it has
-- lost, it may not exchange the head that it found either
abbrev pub IsOvertaken : Core → Type 0
IsOvertaken c =
    IsReached image_a (lost_from c)
    × Invariant image_a (lost_from c)
    × ((view_of (lost_from c).views 1).ghost.call.overtaken ≡ 2)
    × ((view_of (lost_from c).views 1).ghost.call.put ≡ None)
    × ((view_of (lost_from c).views 1).seat.hold ≡ record { head = 8589934597; pin = 1; generation = 1; valid = true })
    × ((view_of (lost_from c).views 1).seat.blocks.owned ≡ record { block = 6; area = Spare; filled = true; fenced = true } ∷ [])
    × (length (lost_from c).generations ≡ 2)
    × (Allowed image_a (lost_from c) (step_of image_a (lost_from c) 1 (Exchange (Image 3) 8589934597 12884901894) 1 [] [] []) → ⊥)
    × IsReached image_a (overtaken_from c)
    × Invariant image_a (overtaken_from c)
    × ((view_of (overtaken_from c).views 1).done ≡ overtaken_call ∷ [])
    × (op_in (view_of (overtaken_from c).views 1).seat ≡ None)
    × ((view_of (overtaken_from c).views 1).seat.blocks.owned ≡ [])
    × ((overtaken_from c).memory.now.pins ≡ 0 ∷ 0 ∷ [])
    × (map (overtaken_from c).owner (0 ∷ 1 ∷ 2 ∷ 3 ∷ 4 ∷ 5 ∷ 6 ∷ []) ≡ Header ∷ InChain ∷ Free ∷ LeftTo 0 ∷ InChain ∷ InChain ∷ Free ∷ [])

-- then a scan finds no pin, and the block is free: its bit is clear, and the file is what it was
abbrev pub GivenBackLater : Core → Type 0
GivenBackLater c =
    IsReached image_a (given_from c)
    × Invariant image_a (given_from c)
    × ((view_of (clear_from c).views 0).seat.giving.pins_seen ≡ 0 ∷ 0 ∷ [])
    × ((view_of (clear_from c).views 0).seat.giving.limbo ≡ 3 ∷ [])
    × ((clear_from c).memory.now.taken ≡ 59 ∷ [])
    × (IsKept image_a (clear_from c).generations (head_floor (clear_from c).memory) (clear_from c).views 0 → ⊥)
    × ((view_of (given_from c).views 0).seat.giving.limbo ≡ [])
    × ((given_from c).memory.now.taken ≡ 51 ∷ [])
    × (map (given_from c).owner (0 ∷ 1 ∷ 2 ∷ 3 ∷ 4 ∷ 5 ∷ 6 ∷ []) ≡ Header ∷ InChain ∷ Free ∷ Free ∷ InChain ∷ InChain ∷ Free ∷ [])
    × ((given_from c).history ≡ first_write ∷ [])
    × (file_at image_a (given_from c).history 1 ≡ 170 ∷ [])

-- so a run collects: it puts a head in place while a pin needs what that replaces, and gives it back once no pin does
abbrev pub CollectionRuns : Type 0
CollectionRuns = HeadRuns × HeldBack head_put × KeptForLater head_put × GivenBackLater head_put

-- and in it another collection is overtaken
abbrev pub OvertakenRuns : Type 0
OvertakenRuns = IsOvertaken head_put
