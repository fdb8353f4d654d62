-- Wrong computations and wrong views that one clause alone refuses, and what a step would make of each without it.
use Rattle.std.specs.Prelude.{◌≡◌, true, false, [], ◌∷◌, ◌++◌, replicate, slice_index, slice_set, Some, None}
use Rattle.log_entry.specs.WordBytes.{word_bytes}
use Rattle.log_entry.specs.declared.calls.Call.{Call}
use Rattle.log_entry.specs.declared.calls.CollectRefusal.TheVariants.{Nothing}
use Rattle.log_entry.specs.declared.calls.Op.TheVariants.{Size as SizeOp, Collect as CollectOp}
use Rattle.log_entry.specs.declared.calls.Reply.TheVariants.{Size as FileSize, NotCollected}
use Rattle.log_image.specs.Rows.{two_blocks, with_words}
use Rattle.asks.specs.declared.ask.Ask.TheVariants.{Exchange}
use Rattle.asks.specs.declared.ask.Place.TheVariants.{Image}
use Rattle.pmem_words.specs.declared.keeps.Task.TheVariants.{Append, Size}
use Rattle.pmem_words.specs.Seats.{Seat, Calling, new_seat, no_calling}
use Rattle.log_core.specs.Views.{View, view_of, new_view, no_ghost, no_call, op_in}
use Rattle.log_core.specs.Origin.{Origin, first_position, start_generation}
use Rattle.log_core.specs.Files.{early_file, file_at}
use Rattle.log_core.specs.Cores.{Core}
use Rattle.log_core.specs.Works.{IsByteAt, MayWork, OpensBase, AddsBaseWord, DropsBases, Lays, state_after_work}
use Rattle.log_core.specs.Steps.{StoresOwnPin, LoadsHead, LoadsImageWord, effect, seat_joined, ghost_ended}
use Rattle.log_core.specs.Answers.{MayAdd}
use Rattle.log_core.specs.Records.{BasesHold, NumbersFit, TaskFits, TailHolds, RecordHolds, NeverFall, collected_by}
use Rattle.log_core.specs.Starts.{origin_of}
use Rattle.log_core.specs.worked_rows.Samples.{small, image_a, stepping, core_with_seat}
use Rattle.log_core.specs.worked_rows.Rows.{kept, reader, asked, racing, sealed, collected, to_first, two_writes, image_c}
use Rattle.log_core.specs.worked_rows.Refused.{seat_zero, SyncsOf}

-- a reader at its tail stores the pin of the third generation, finds that head, and loads a word of a block of its map, which was given
-- back since and has other bytes
abbrev pub moved_reader : Seat
moved_reader = effect [] (effect [] (effect [] (reader []) (StoresOwnPin 3) 0) LoadsHead 12884901899) (LoadsImageWord 56) 171

-- its pin is valid and it counts as at its tail; but its table is that of its last pin's chain: no byte is laid and no base is begun
abbrev pub TableOfAnother : Type 0
TableOfAnother =
    (moved_reader.hold.valid ≡ true)
    × (moved_reader.walk.at_tail ≡ true)
    × (moved_reader.walk.ready ≡ false)
    × IsByteAt moved_reader 0 171
    × (MayWork no_ghost moved_reader (Lays (171 ∷ [])) → ⊥)
    × (MayWork no_ghost moved_reader (OpensBase 0) → ⊥)

-- a start at position 2. Its first entry gave virtual block 0 block 1 and the file one byte; its second gave virtual block 1 block 2,
-- and so the second byte of block 1, which was past the end, is of the file
abbrev pub image_e : Origin
image_e = origin_of small 2 2 (with_words ((8, 426) ∷ (27, to_first) ∷ (28, 277076930723845) ∷ []) two_blocks) (15 ∷ []) (3 ∷ []) (170 ∷ 1 ∷ replicate 63 0)

-- a seat that appends stands before the second entry; then it has begun the base of virtual block 0, and keeps the block's first word
abbrev pub early_writer : Seat
early_writer = record (new_seat small 0 2 2) {
  hold = record { head = 4294967299; pin = 1; generation = 1; valid = true };
  walk = record {
    position = 1;
    map = Some 1 ∷ None ∷ None ∷ None ∷ [];
    size = 1;
    tail_block = 3;
    tail_slot = 4;
    tail_base = 0;
    snapshot_base = 0;
    first_log = 0;
    at_tail = false;
    ready = true;
    reading = false;
    reading_generation = 0;
    reading_block = 0;
    reading_slot = 0;
    reading_place = 0;
    kept = kept 1 0 426 ∷ [];
  };
  calling = record no_calling { job = Append; bytes = 187 ∷ [] };
}

abbrev pub early_base : Seat
early_base = state_after_work early_writer (OpensBase 0)

-- the base would have a byte that the file has not there. Before the tail no base is begun, and none is from before the start's position
abbrev pub BaseFromBefore : Type 0
BaseFromBefore =
    (first_position image_e ≡ 2)
    × (early_file image_e 1 ≡ 170 ∷ [])
    × ((state_after_work early_base AddsBaseWord).calling.base_words ≡ 426 ∷ [])
    × (slice_index (word_bytes (426 ∷ [])) 1 ≡ 1)
    × (BasesHold image_e [] 2 8 1 (state_after_work early_base AddsBaseWord).calling → ⊥)
    × (MayWork no_ghost early_writer (OpensBase 0) → ⊥)
    × (MayWork no_ghost early_base AddsBaseWord → ⊥)
    × (BasesHold image_e [] 2 8 1 early_base.calling → ⊥)

-- an append at its tail has two bases that are whole, and after two lost exchanges its file ends in a third block
abbrev pub full_writer : Seat
full_writer = record (reader []) { calling = record no_calling { job = Append; bytes = 170 ∷ []; bases = 1 ∷ 4 ∷ []; base_words = replicate 16 0 } }

abbrev pub BasesDropped : Type 0
BasesDropped =
    (MayWork no_ghost full_writer (OpensBase 15) → ⊥)
    × MayWork no_ghost full_writer DropsBases
    × MayWork no_ghost (state_after_work full_writer DropsBases) (OpensBase 15)

-- a call that has ended left a base of the file at position 1; a join gives its seat the walk of one at position 2
abbrev pub left_base : Calling
left_base = record no_calling { bases = 0 ∷ []; base_words = 170 ∷ [] }

abbrev pub base_joined : Seat
base_joined = seat_joined (record (new_seat small 0 2 1) { calling = left_base }) (new_seat small 1 2 2)

-- where no call runs nothing is said of such a base; a running call may not have it
abbrev pub BaseLeftOver : Type 0
BaseLeftOver =
    (base_joined.walk.position ≡ 2)
    × (base_joined.calling.bases ≡ 0 ∷ [])
    × BasesHold image_a two_writes 0 8 1 left_base
    × BasesHold image_a two_writes 0 8 2 left_base
    × (BasesHold image_a two_writes 0 8 2 (record left_base { job = Append; bytes = 204 ∷ [] }) → ⊥)

-- two bases are begun at once at position 1, and the word of the last one is added
abbrev pub two_begun : Seat
two_begun = record (seat_zero sealed) { calling = record ((seat_zero sealed).calling) { bases = 0 ∷ 2 ∷ [] } }

-- it counts as the first one's. That each base but the last is whole refuses it from the first
abbrev pub FirstBaseShort : Type 0
FirstBaseShort =
    MayWork no_ghost two_begun AddsBaseWord
    × ((state_after_work two_begun AddsBaseWord).calling.base_words ≡ 0 ∷ [])
    × (file_at image_a sealed.history 1 ≡ 170 ∷ [])
    × (BasesHold image_a sealed.history 0 8 1 (state_after_work two_begun AddsBaseWord).calling → ⊥)
    × (BasesHold image_a sealed.history 0 8 1 two_begun.calling → ⊥)

-- of a start at position 3: a seat that has not walked counts as at its tail, and asks the size
abbrev pub standing : View
standing = record (new_view small 2 3 1 0) {
  seat = record (new_seat small 0 2 3) {
    walk = record ((new_seat small 0 2 3).walk) { at_tail = true };
    calling = record no_calling { job = Size };
  };
  ghost = record no_ghost { call = record no_call { number = 1 } };
}

abbrev pub standing_call : Call
standing_call = record { position = 3; seat = 0; number = 1; op = SizeOp; reply = FileSize 0 }

-- and one that has walked to the start's snapshot alone
abbrev pub standing_early : View
standing_early = record standing { seat = record (standing.seat) { walk = record (standing.seat.walk) { position = 2; tail_block = 4; tail_slot = 3; tail_base = 2 } } }

-- its record would not be that of the file; and a record is not from before the start's position
abbrev pub TailNotWalked : Type 0
TailNotWalked =
    MayAdd standing.ghost standing.seat standing_call
    × (file_at image_c [] 3 ≡ 204 ∷ [])
    × (RecordHolds image_c [] (start_generation image_c ∷ []) standing_call → ⊥)
    × (TailHolds standing 0 → ⊥)
    × (TailHolds standing_early 0 → ⊥)
    × (RecordHolds image_c [] (start_generation image_c ∷ []) (record standing_call { position = 2; op = CollectOp; reply = NotCollected Nothing }) → ⊥)

-- a call that has put a head in place asks the size, and ends with its record
abbrev pub sizing : Seat
sizing = record (seat_zero collected) { calling = record ((seat_zero collected).calling) { job = Size } }

abbrev pub sizing_call : Call
sizing_call = record { position = 1; seat = 0; number = 2; op = SizeOp; reply = FileSize 1 }

abbrev pub sized : Core
sized = record collected { views = slice_set collected.views 0 (record (view_of collected.views 0) { ghost = ghost_ended (sizing_call ∷ []) (view_of collected.views 0).ghost; done = (view_of collected.views 0).done ++ sizing_call ∷ [] }) }

-- the second generation is then no collection's. That its task is a collection refuses it from the first
abbrev pub HeadOfNoCollection : Type 0
HeadOfNoCollection =
    MayAdd (view_of collected.views 0).ghost sizing sizing_call
    × (collected_by 2 collected.views ≡ 1)
    × (collected_by 2 sized.views ≡ 0)
    × (TaskFits (view_of collected.views 0).ghost.call.put sizing.calling → ⊥)

-- a write has a position that it will answer as synced, and puts its entry in
abbrev pub syncing_writer : Core
syncing_writer = core_with_seat racing 0 (record (seat_zero racing) { calling = record ((seat_zero racing).calling) { sync_to = Some 0 } })

abbrev pub synced_writer : Core
synced_writer = stepping image_a syncing_writer 0 (Exchange (Image 27) 0 to_first) 1 [] []

-- its view is past that position then. That a sync alone has one refuses it from the first
abbrev pub SyncOfNoSync : Type 0
SyncOfNoSync =
    ((seat_zero synced_writer).calling.sync_to ≡ Some 0)
    × ((seat_zero synced_writer).walk.position ≡ 1)
    × (SyncsOf synced_writer → ⊥)
    × (TaskFits None (seat_zero syncing_writer).calling → ⊥)

-- a call runs with number 0, and ends with its record
abbrev pub unnumbered_call : Call
unnumbered_call = record { position = 7; seat = 0; number = 0; op = SizeOp; reply = FileSize 256 }

-- a seat's numbers rise from 0, so a first record has a number above it
abbrev pub CallOfNoNumber : Type 0
CallOfNoNumber =
    MayAdd no_ghost (asked Size []) unnumbered_call
    × (NeverFall 0 0 0 (unnumbered_call ∷ []) → ⊥)
    × (NumbersFit 0 0 (op_in (asked Size [])) [] → ⊥)
