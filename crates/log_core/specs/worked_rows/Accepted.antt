-- States that runs come to: the conditions of their steps, and the clauses that hold of them.
use Rattle.std.specs.Prelude.{ℕ, ◌++◌, ◌≡◌, ◌==◌, if◌then◌else◌, Bool, true, false, List, [], ◌∷◌, length, map, replicate, Some, None}
use Rattle.log_entry.specs.declared.shapes.Area.TheVariants.{Data}
use Rattle.log_entry.specs.declared.calls.Call.{Call}
use Rattle.log_entry.specs.declared.calls.Op.TheVariants.{Pwrite as PwriteOp, Size as SizeOp, Sync as SyncOp, Collect as CollectOp}
use Rattle.log_entry.specs.declared.calls.Reply.TheVariants.{Wrote, Size as FileSize, Synced, Collected, NotCollected}
use Rattle.log_entry.specs.Words.{entry_word}
use Rattle.log_entry.specs.declared.entries.Entry.TheVariants.{Indirect}
use Rattle.log_entry.specs.declared.calls.CollectRefusal.{CollectRefusal}
use Rattle.log_entry.specs.declared.calls.CollectRefusal.TheVariants.{Nothing, Overtaken, GenerationLimit}
use Rattle.log_image.specs.Entries.{names}
use Rattle.log_image.specs.Rows.{with_words, with_runs}
use Rattle.asks.specs.declared.ask.Place.TheVariants.{Image, Pin}
use Rattle.asks.specs.declared.ask.Ask.TheVariants.{Load, Store, Exchange, Mark, Fence}
use Rattle.pmem_words.specs.declared.keeps.Task.TheVariants.{Pwrite, Size, Sync}
use Rattle.pmem_words.specs.Seats.{Seat, new_seat, no_calling}
use Rattle.persistence.specs.Memory.{cell}
use Rattle.log_core.specs.Views.{View, view_of, new_view, no_ghost}
use Rattle.log_core.specs.Origin.{Origin, Free, InChain, LeftTo, first_position}
use Rattle.log_core.specs.Cores.{Core, IsKept, first_core, head_floor, generation_blocks, is_named, generation_at}
use Rattle.log_core.specs.Files.{entries, file_at, history_map_at}
use Rattle.log_core.specs.Works.{Begins, StartsFromSnapshot, ReadsRun, EndsReading, TakesEntry, TakesSeal, Follows}
use Rattle.log_core.specs.Steps.{Step, Splits, Joins, new_meaning}
use Rattle.log_core.specs.After.{after}
use Rattle.log_core.specs.Runs.{Allowed, MayJoin, MaySplit, IsRun, end}
use Rattle.log_core.specs.May.{MayStoreOwnPin, MayLoadImageWord, MayStoreWord, MayMark, MayCommit, walked_trail}
use Rattle.log_core.specs.Answers.{MayAdd}
use Rattle.log_core.specs.Walks.{HasRead}
use Rattle.log_core.specs.Records.{MarksFit}
use Rattle.log_core.specs.Starts.{origin_of}
use Rattle.log_core.specs.Histories.{HasCollections, greatest_position}
use Rattle.log_core.specs.worked_rows.Samples.{small, wide, image_a, step_of, stepping, with_map}
use Rattle.log_core.specs.worked_rows.Rows.{head_loaded, pin_stored, pinned, taken_by_one, stored_words, racing, syncing, head_marked, slot_marked, synced, collected, scan_held, scan_clear, no_blocks_mapped, to_first, to_second, first_call}
use Rattle.log_core.specs.worked_rows.Refused.{one_made, seat_zero, OrderOf, OwnersOf, ContentsOf, PinsOf, ViewsOf, OwnedOf, GivingsOf, RecordsOf, SyncsOf}

-- a pin word gets 0 or the generation of the head found last, and no other; while a sync has marks it gets nothing
abbrev pub PinMayBeStored : Type 0
PinMayBeStored =
    MayStoreOwnPin (seat_zero head_loaded) [] 1
    × MayStoreOwnPin (seat_zero pinned) [] 0
    × (MayStoreOwnPin (seat_zero head_loaded) [] 2 → ⊥)
    × (MayStoreOwnPin (seat_zero head_marked) (view_of head_marked.views 0).ghost.marks 0 → ⊥)

-- with a valid pin a word of a block that the pinned generation names may be loaded, and no other word
abbrev pub named_in : Core → Seat → ℕ → Bool
named_in c s block = is_named image_a c.logs (entries image_a c.history) (generation_at image_a c.generations s.hold.generation) block

abbrev pub WordMayBeLoaded : Type 0
WordMayBeLoaded =
    MayLoadImageWord (seat_zero pinned) (λ block. named_in pinned (seat_zero pinned) block) 25
    × (MayLoadImageWord (seat_zero pinned) (λ block. named_in pinned (seat_zero pinned) block) 8 → ⊥)
    × (MayLoadImageWord (seat_zero head_loaded) (λ block. named_in head_loaded (seat_zero head_loaded) block) 25 → ⊥)

-- a word of an owned block may be stored and marked; in a sync with a valid pin the head and a used slot may be marked, and no empty one
abbrev pub WordMayBeMarked : Type 0
WordMayBeMarked =
    MayStoreWord (seat_zero taken_by_one) 8 170
    × (MayStoreWord (seat_zero taken_by_one) 16 170 → ⊥)
    × MayMark (walked_trail image_a stored_words (seat_zero stored_words)) (view_of stored_words.views 0).ghost (seat_zero stored_words) 8
    × (MayMark (walked_trail image_a stored_words (seat_zero stored_words)) (view_of stored_words.views 0).ghost (seat_zero stored_words) 3 → ⊥)
    × MayMark (walked_trail image_a syncing (seat_zero syncing)) (view_of syncing.views 0).ghost (seat_zero syncing) 3
    × MayMark (walked_trail image_a syncing (seat_zero syncing)) (view_of syncing.views 0).ghost (seat_zero syncing) 27
    × (MayMark (walked_trail image_a syncing (seat_zero syncing)) (view_of syncing.views 0).ghost (seat_zero syncing) 28 → ⊥)

-- the seat with another content of its block, and with the block not fenced
abbrev pub writer_of : List ℕ → Seat
writer_of words = record (seat_zero racing) { blocks = record ((seat_zero racing).blocks) { contents = words } }

abbrev pub unfenced_writer : Seat
unfenced_writer = record (seat_zero racing) { blocks = record ((seat_zero racing).blocks) { owned = record { block = 1; area = Data; filled = true; fenced = false } ∷ [] } }

-- the entry of the write may be put in at the tail's slot; not with another byte, nor with a byte past the end, with the block not fenced,
-- with another seat's block, with another size, or at another slot
abbrev pub EntryMayBePut : Type 0
EntryMayBePut =
    MayCommit image_a [] (seat_zero racing) 27 to_first
    × (MayCommit image_a [] (writer_of (171 ∷ replicate 7 0)) 27 to_first → ⊥)
    × (MayCommit image_a [] (writer_of (426 ∷ replicate 7 0)) 27 to_first → ⊥)
    × (MayCommit image_a [] unfenced_writer 27 to_first → ⊥)
    × (MayCommit image_a [] (seat_zero racing) 27 to_second → ⊥)
    × (MayCommit image_a [] (seat_zero racing) 27 272678883950593 → ⊥)
    × (MayCommit image_a [] (seat_zero racing) 28 to_first → ⊥)

-- in the middle of a collection that has put its head in place, while a seat with a pin of the first generation writes: the clauses hold
abbrev pub OrderStands : Type 0
OrderStands = OrderOf collected

abbrev pub OwnersStand : Type 0
OwnersStand = OwnersOf collected

abbrev pub ContentsStand : Type 0
ContentsStand = ContentsOf collected

abbrev pub PinsStand : Type 0
PinsStand = PinsOf collected

abbrev pub ViewsStand : Type 0
ViewsStand = ViewsOf collected

abbrev pub OwnedStands : Type 0
OwnedStands = OwnedOf collected

abbrev pub RecordsStand : Type 0
RecordsStand = RecordsOf collected

-- the blocks that it replaced: before its head outlasts a crash, and after a scan that found no pin
abbrev pub GivingsStand : Type 0
GivingsStand = GivingsOf collected × GivingsOf scan_clear

-- in the middle of a sync, and after its fence; the marks of the two seats are those of the memory
abbrev pub SyncsStand : Type 0
SyncsStand =
    SyncsOf slot_marked
    × SyncsOf synced
    × MarksFit (λ word. cell slot_marked.memory word) slot_marked.memory.past slot_marked.memory.pending 0 (view_of slot_marked.views 0)
    × MarksFit (λ word. cell slot_marked.memory word) slot_marked.memory.past slot_marked.memory.pending 1 (view_of slot_marked.views 1)

-- the three steps of a pin, the newest first, are a run that comes to the pinned state
abbrev pub pin_steps : List Step
pin_steps =
    step_of image_a pin_stored 0 (Load (Image 3)) 1 [] [] []
    ∷ step_of image_a head_loaded 0 (Store (Pin 0) 1) 1 [] [] []
    ∷ step_of image_a (first_core image_a) 0 (Load (Image 3)) 1 (Begins (Pwrite 0) (170 ∷ []) ∷ []) [] []
    ∷ []

abbrev pub PinRuns : Type 0
PinRuns = IsRun image_a pin_steps × (end image_a pin_steps ≡ pinned)

-- the exchange that puts an entry in, with the record that ends its call, is allowed
abbrev pub write_step : Step
write_step = step_of image_a racing 0 (Exchange (Image 27) 0 to_first) 1 [] [] (first_call ∷ [])

abbrev pub WriteFits : Type 0
WriteFits = Allowed image_a racing write_step

-- seat 0 has its records and its blocks kept for later, and holds nothing; seat 1 has come further, and holds nothing
abbrev pub idle : View → View
idle v = record v {
  seat = record (v.seat) {
    hold = record (v.seat.hold) { pin = 0; valid = false };
    calling = no_calling;
    blocks = record (v.seat.blocks) { owned = []; contents = [] };
    giving = record (v.seat.giving) { replaced = []; limbo = v.seat.giving.replaced; limbo_generation = v.seat.giving.replaced_generation };
  };
  ghost = no_ghost;
}

abbrev pub apart : Core
apart = record collected { views = new_view small 2 0 2 0 ∷ idle (record (view_of collected.views 0) { parts = 1 ∷ []; made = 0 }) ∷ []; owner = λ block. if block == 3 then LeftTo 1 else Free }

abbrev pub joined : Core
joined = after image_a apart (Joins 0 1)

-- a join: the walk of the view that has come further, the records, parts and kept blocks of both; the other view is spent
abbrev pub ViewsJoin : Type 0
ViewsJoin =
    MayJoin apart 0 1
    × (MayJoin apart 0 0 → ⊥)
    × (MayJoin collected 0 1 → ⊥)
    × ((view_of joined.views 0).parts ≡ 0 ∷ 1 ∷ [])
    × ((view_of joined.views 0).made ≡ 2)
    × ((view_of joined.views 0).done ≡ first_call ∷ [])
    × ((view_of joined.views 0).seat.number ≡ 0)
    × ((view_of joined.views 0).seat.walk.position ≡ 1)
    × ((view_of joined.views 0).seat.walk.at_tail ≡ false)
    × ((view_of joined.views 0).seat.hold.generation ≡ 1)
    × ((view_of joined.views 0).seat.giving.limbo ≡ 3 ∷ [])
    × ((view_of joined.views 0).seat.giving.limbo_generation ≡ 1)
    × ((view_of joined.views 1).parts ≡ [])
    × (joined.owner 3 ≡ LeftTo 0)
    × (joined.memory ≡ apart.memory)

-- a split: of seat 0 before any call, where there is room for a seat more
abbrev pub ViewsSplit : Type 0
ViewsSplit =
    MaySplit one_made (first_core one_made) 0
    × (MaySplit one_made (after one_made (first_core one_made) (Splits 0)) 0 → ⊥)
    × (MaySplit image_a head_loaded 0 → ⊥)
    × (MaySplit one_made (first_core one_made) 1 → ⊥)
    × ((after one_made (first_core one_made) (Splits 0)).began ≡ 0 ∷ 0 ∷ [])
    × ((view_of (after one_made (first_core one_made) (Splits 0)).views 1).parts ≡ 1 ∷ [])
    × ((view_of (after one_made (first_core one_made) (Splits 0)).views 1).seat.number ≡ 1)

-- seat 1, with its pin of the first generation, finds the entry, the seal and the link, and puts its own entry in after the collection
abbrev pub late_found : Core
late_found =
    stepping image_a
    (stepping image_a
    (stepping image_a (stepping image_a scan_held 1 (Exchange (Image 27) 0 to_second) 1 [] (TakesEntry ∷ [])) 1 (Load (Image 28)) 1 [] (TakesSeal ∷ []))
    1 (Load (Image 24)) 1 [] (Follows ∷ []))
    1 (Load (Image 35)) 1 [] []

abbrev pub late_call : Call
late_call = record { position = 2; seat = 1; number = 1; op = PwriteOp 0 (187 ∷ []); reply = Wrote 1 }

abbrev pub late_step : Step
late_step = step_of image_a late_found 1 (Exchange (Image 35) 0 to_second) 1 [] [] (late_call ∷ [])

abbrev pub late : Core
late = after image_a late_found late_step

-- its write is the history's second, and both generations name its block
abbrev pub LateWrite : Type 0
LateWrite =
    ((view_of late_found.views 1).seat.walk.position ≡ 1)
    × ((view_of late_found.views 1).seat.walk.tail_block ≡ 4)
    × ((view_of late_found.views 1).seat.walk.tail_slot ≡ 3)
    × ((view_of late_found.views 1).seat.walk.tail_base ≡ 1)
    × ((view_of late_found.views 1).seat.walk.at_tail ≡ true)
    × ((view_of late_found.views 1).seat.walk.map ≡ Some 1 ∷ None ∷ None ∷ None ∷ [])
    × Allowed image_a late_found late_step
    × (length late.history ≡ 2)
    × (file_at image_a late.history 2 ≡ 187 ∷ [])
    × (history_map_at image_a (entries image_a late.history) 2 0 ≡ Some 2)
    × (late.logs ≡ record { block = 3; base = 0; slots = to_first ∷ 3 ∷ [] } ∷ record { block = 4; base = 1; slots = to_second ∷ [] } ∷ [])
    × (generation_blocks image_a late.logs (entries image_a late.history) (generation_at image_a late.generations 1) ≡ 3 ∷ 4 ∷ 1 ∷ 2 ∷ [])
    × (generation_blocks image_a late.logs (entries image_a late.history) (generation_at image_a late.generations 2) ≡ 5 ∷ 4 ∷ 1 ∷ 2 ∷ [])
    × (map late.owner (1 ∷ 2 ∷ 3 ∷ 4 ∷ 5 ∷ []) ≡ InChain ∷ InChain ∷ LeftTo 0 ∷ InChain ∷ InChain ∷ [])
    × ((view_of late.views 1).done ≡ late_call ∷ [])
    × ((view_of late.views 1).seat.walk.map ≡ Some 2 ∷ None ∷ None ∷ None ∷ [])

-- it syncs by the chain of its pin: the head, the slots of both log blocks, the seal and the link
abbrev pub late_marked : Core
late_marked =
    stepping image_a
    (stepping image_a
    (stepping image_a (stepping image_a (stepping image_a (stepping image_a late 1 (Load (Image 36)) 2 (Begins Sync [] ∷ []) []) 1 (Mark 3) 2 [] []) 1 (Mark 27) 2 [] []) 1 (Mark 28) 2 [] [])
    1 (Mark 24) 2 [] [])
    1 (Mark 35) 2 [] []

abbrev pub late_synced : Core
late_synced = after image_a late_marked (step_of image_a late_marked 1 Fence 2 [] [] (record { position = 2; seat = 1; number = 2; op = SyncOp; reply = Synced 2 } ∷ []))

abbrev pub LateSync : Type 0
LateSync =
    (walked_trail image_a late_marked (view_of late_marked.views 1).seat
    ≡ record { place = 27; word = to_first } ∷ record { place = 28; word = 3 } ∷ record { place = 24; word = 4 } ∷ record { place = 35; word = to_second } ∷ [])
    × (late_synced.synced ≡ 2)
    × SyncsOf late_synced
    × (SyncsOf (record late_marked { synced = 2 }) → ⊥)

-- then it pins the second generation, and reads its snapshot and the log after it; the map has four virtual blocks
abbrev pub late_reading : Core
late_reading =
    stepping image_a
    (with_map
    (stepping image_a
    (stepping image_a
    (stepping image_a (stepping image_a (stepping image_a late_synced 1 (Load (Image 3)) 3 (Begins Size [] ∷ []) []) 1 (Store (Pin 1) 2) 3 [] []) 1 (Load (Image 3)) 3 [] [])
    1 (Load (Image 41)) 3 [] [])
    1 (Load (Image 42)) 3 [] (StartsFromSnapshot ∷ []))
    1 no_blocks_mapped)
    1 (Load (Image 43)) 3 [] (ReadsRun ∷ [])

abbrev pub late_read : Core
late_read =
    stepping image_a (stepping image_a (stepping image_a late_reading 1 (Load (Image 44)) 3 [] []) 1 (Load (Image 40)) 3 [] []) 1 (Load (Image 33)) 3 [] (EndsReading ∷ [])

abbrev pub late_walked : Core
late_walked = stepping image_a (stepping image_a late_read 1 (Load (Image 35)) 3 [] (TakesEntry ∷ [])) 1 (Load (Image 36)) 3 [] []

abbrev pub LateWalk : Type 0
LateWalk =
    ((view_of late_reading.views 1).seat.hold ≡ record { head = 8589934597; pin = 2; generation = 2; valid = true })
    × ((view_of late_reading.views 1).seat.walk.reading ≡ true)
    × ((view_of late_reading.views 1).seat.walk.ready ≡ false)
    × ((view_of late_reading.views 1).seat.walk.map ≡ Some 1 ∷ None ∷ None ∷ None ∷ [])
    × HasRead late_reading.recorded (generation_at image_a late_reading.generations 2) (view_of late_reading.views 1).seat.walk
    × ((view_of late_read.views 1).seat.walk.tail_block ≡ 4)
    × ((view_of late_read.views 1).seat.walk.position ≡ 1)
    × ((view_of late_read.views 1).seat.walk.size ≡ 1)
    × ((view_of late_read.views 1).seat.walk.snapshot_base ≡ 1)
    × ((view_of late_walked.views 1).seat.walk.position ≡ 2)
    × ((view_of late_walked.views 1).seat.walk.map ≡ Some 2 ∷ None ∷ None ∷ None ∷ [])
    × ((view_of late_walked.views 1).seat.walk.at_tail ≡ true)
    × MayAdd (view_of late_walked.views 1).ghost (view_of late_walked.views 1).seat (record { position = 2; seat = 1; number = 3; op = SizeOp; reply = FileSize 1 })
    × IsKept image_a late_synced.generations (head_floor late_synced.memory) late_synced.views 0
    × (IsKept image_a late_walked.generations (head_floor late_walked.memory) late_walked.views 0 → ⊥)

-- an image of seven data blocks whose snapshot at position 7 is in block 11, with an empty log after it in block 10, and a file of a byte
abbrev pub image_w : Origin
image_w = origin_of wide 2 2 (with_words ((83, 0) ∷ []) with_runs) (3285 ∷ []) (11 ∷ 10 ∷ []) (170 ∷ [])

-- a seat at its tail that writes 128 bytes at 256. It owns blocks 1 and 3, which are no run, and block 5, which says so
abbrev pub sevens : ℕ
sevens = 506381209866536711

abbrev pub runs_writer : Seat
runs_writer = record (new_seat wide 0 2 7) {
  hold = record { head = 8589934603; pin = 2; generation = 2; valid = true };
  walk = record {
    position = 7;
    map = Some 7 ∷ Some 2 ∷ Some 4 ∷ Some 6 ∷ None ∷ None ∷ None ∷ None ∷ [];
    size = 1;
    tail_block = 10;
    tail_slot = 3;
    tail_base = 7;
    snapshot_base = 7;
    first_log = 0;
    at_tail = true;
    ready = true;
    reading = false;
    reading_generation = 0;
    reading_block = 0;
    reading_slot = 0;
    reading_place = 0;
    kept = [];
  };
  calling = record no_calling { job = Pwrite 256; bytes = replicate 128 7 };
  blocks = record {
    owned =
        record { block = 1; area = Data; filled = true; fenced = true }
        ∷ record { block = 3; area = Data; filled = true; fenced = true }
        ∷ record { block = 5; area = Data; filled = true; fenced = true }
        ∷ [];
    contents = replicate 16 sevens ++ 8590065668 ∷ 65537 ∷ 65539 ∷ replicate 5 0;
    found = 0 ∷ [];
    named = 0 ∷ [];
  };
}

-- the entry of block 5 may be put in: it names the three blocks, and gives virtual blocks 4 and 5 the blocks 1 and 3
abbrev pub RunsMayBePut : Type 0
RunsMayBePut =
    (first_position image_w ≡ 7)
    × (names (new_meaning runs_writer 22) ≡ 5 ∷ 1 ∷ 3 ∷ [])
    × (entry_word (Indirect 5) ≡ 22)
    × MayCommit image_w [] runs_writer 83 22

-- the collections of a history are in turn: one of the second generation at position 1, then one of the third at position 3. The next
-- generation may not be left out, nor be at the position of the one before
abbrev pub collection : ℕ → ℕ → Call
collection generation position = record { position = position; seat = 0; number = generation; op = CollectOp; reply = Collected (record { generation = generation; freed = 1; kept = 0; held = None }) }

abbrev pub refused_collection : ℕ → CollectRefusal → Call
refused_collection position why = record { position = position; seat = 1; number = position; op = CollectOp; reply = NotCollected why }

abbrev pub CollectionsInTurn : Type 0
CollectionsInTurn =
    HasCollections 1 0 (first_call ∷ collection 2 1 ∷ refused_collection 1 Nothing ∷ collection 3 3 ∷ refused_collection 3 (Overtaken 2) ∷ [])
    × (HasCollections 1 0 (collection 3 1 ∷ []) → ⊥)
    × (HasCollections 1 0 (collection 2 0 ∷ []) → ⊥)
    × (HasCollections 1 0 (collection 2 1 ∷ refused_collection 2 Nothing ∷ []) → ⊥)
    × (HasCollections 1 0 (collection 2 1 ∷ refused_collection 2 (Overtaken 3) ∷ []) → ⊥)
    × (HasCollections 1 0 (refused_collection 0 GenerationLimit ∷ []) → ⊥)
    × (greatest_position 0 (first_call ∷ refused_collection 1 Nothing ∷ refused_collection 3 Nothing ∷ []) ≡ 3)
    × (greatest_position 0 (refused_collection 3 Nothing ∷ refused_collection 1 Nothing ∷ []) ≡ 3)
    × (greatest_position 2 [] ≡ 2)
