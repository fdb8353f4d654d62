-- Wrong states: each differs from one that a run comes to in one thing, and the clause that says it refuses it.
use Rattle.std.specs.Prelude.{ℕ, ◌+◌, ◌*◌, ◌≡◌, ◌==◌, if◌then◌else◌, true, false, List, [], ◌∷◌, ◌++◌, length, replicate, slice_set, Option, Some, None}
use Rattle.log_entry.specs.declared.shapes.Area.TheVariants.{Data}
use Rattle.log_entry.specs.declared.calls.Call.{Call}
use Rattle.log_entry.specs.declared.calls.Op.TheVariants.{Pread as PreadOp, Sync as SyncOp}
use Rattle.log_entry.specs.declared.calls.Reply.TheVariants.{Bytes, Synced}
use Rattle.log_image.specs.Entries.{names, all_names}
use Rattle.log_image.specs.Maps.{map_of, block_in}
use Rattle.pmem_words.specs.declared.keeps.Task.TheVariants.{Pwrite}
use Rattle.pmem_words.specs.declared.owned.OwnedBlock.{OwnedBlock}
use Rattle.pmem_words.specs.Seats.{Seat, Walk, Giving}
use Rattle.persistence.specs.Memory.{Replaced, cell}
use Rattle.log_core.specs.Views.{view_of}
use Rattle.log_core.specs.Origin.{Origin, Generation, LogBlock}
use Rattle.log_core.specs.Cores.{Core, first_core}
use Rattle.log_core.specs.Works.{state_after_work, NotesNamed}
use Rattle.log_core.specs.Steps.{Splits, content_of, new_meaning, new_snapshots}
use Rattle.log_core.specs.After.{after, snapshot_meanings}
use Rattle.log_core.specs.May.{MayCommit, MayExchangeHead, is_log_entry_by}
use Rattle.log_core.specs.Records.{WritesOnce, SeatsOnce}
use Rattle.log_core.specs.Synced.{IsSynced}
use Rattle.log_core.specs.Invariant.{KeptIn, Order, Owners, Contents, Pins, Givings, Records, Syncs, around}
use Rattle.log_core.specs.Walks.{WalksHold}
use Rattle.log_core.specs.Owned.{OwnedAllHold}
use Rattle.log_core.specs.Starts.{origin_of}
use Rattle.log_core.specs.worked_rows.Samples.{small, small_shape, image_a, core_with_seat, with_map}
use Rattle.log_core.specs.worked_rows.Rows.{no_blocks_mapped, fenced, stored_words, marked_words, written, linked, collected, synced, to_first, to_second, first_call, first_write}
use Rattle.log_image.specs.Rows.{two_blocks}

-- the clauses of a core over the just-made image
abbrev pub OrderOf : Core → Type 0
OrderOf c = Order image_a c.memory c.history c.generations c.logs (λ place. KeptIn image_a c place)

abbrev pub OwnersOf : Core → Type 0
OwnersOf c = Owners image_a c.memory.now.taken c.views c.history c.generations c.logs c.owner (λ place. KeptIn image_a c place)

abbrev pub ContentsOf : Core → Type 0
ContentsOf c = Contents image_a c.memory c.history c.recorded c.owner c.generations c.logs (λ place. KeptIn image_a c place)

abbrev pub PinsOf : Core → Type 0
PinsOf c = Pins image_a c.memory c.views c.generations

abbrev pub ViewsOf : Core → Type 0
ViewsOf c = WalksHold (around image_a c) c.views

abbrev pub OwnedOf : Core → Type 0
OwnedOf c = OwnedAllHold (λ word. cell c.memory word) c.memory.past c.memory.pending c.views

abbrev pub GivingsOf : Core → Type 0
GivingsOf c = Givings image_a c.memory c.views c.history c.generations c.logs

abbrev pub RecordsOf : Core → Type 0
RecordsOf c = Records image_a c.memory c.views c.history c.generations (λ seat. Rattle.std.specs.Prelude.slice_index c.began seat)

abbrev pub SyncsOf : Core → Type 0
SyncsOf c = Syncs image_a c.memory c.views c.history c.generations c.logs c.synced

-- the core with another present word, other replaced values, another floor, and another bitmap word
abbrev pub with_word : Core → ℕ → ℕ → Core
with_word c word value = record c { memory = record (c.memory) { now = record (c.memory.now) { words = slice_set c.memory.now.words word value } } }

abbrev pub with_past : Core → List Replaced → Core
with_past c past = record c { memory = record (c.memory) { past = past } }

abbrev pub with_floor : Core → ℕ → ℕ → Core
with_floor c word time = record c { memory = record (c.memory) { floors = slice_set c.memory.floors word time } }

abbrev pub with_taken : Core → ℕ → Core
with_taken c word = record c { memory = record (c.memory) { now = record (c.memory.now) { taken = word ∷ [] } } }

abbrev pub with_pins : Core → List ℕ → Core
with_pins c pins = record c { memory = record (c.memory) { now = record (c.memory.now) { pins = pins } } }

-- the core with another walk, other blocks, another giving or other records in the view of seat 0
abbrev pub seat_zero : Core → Seat
seat_zero c = (view_of c.views 0).seat

abbrev pub with_walk : Core → Walk → Core
with_walk c walk = core_with_seat c 0 (record (seat_zero c) { walk = walk })

abbrev pub with_owned : Core → List OwnedBlock → Core
with_owned c owned = core_with_seat c 0 (record (seat_zero c) { blocks = record ((seat_zero c).blocks) { owned = owned; contents = replicate (8 * length owned) 0 } })

abbrev pub with_giving : Core → Giving → Core
with_giving c giving = core_with_seat c 0 (record (seat_zero c) { giving = giving })

abbrev pub with_done : Core → List Call → Core
with_done c done = record c { views = slice_set c.views 0 (record (view_of c.views 0) { done = done }) }

-- order: a crash may leave another entry in the first slot
abbrev pub OtherEntryPossible : Type 0
OtherEntryPossible = OrderOf (with_past written (record { word = 27; value = to_second } ∷ [])) → ⊥

-- the second head is of the third generation
abbrev pub HeadSkips : Type 0
HeadSkips = OrderOf (with_word collected 3 12884901893) → ⊥

-- the log has an entry that the history does not have, or a seal in a block's first slot
abbrev pub LogHasMore : Type 0
LogHasMore =
    (OrderOf (record written { logs = record { block = 3; base = 0; slots = to_first ∷ to_second ∷ [] } ∷ [] }) → ⊥)
    × (OrderOf (record written { logs = record { block = 3; base = 0; slots = 3 ∷ to_first ∷ [] } ∷ [] }) → ⊥)

-- owners: a bit is set for a block that nobody has, or clear for one of the chain
abbrev pub BitWithoutOwner : Type 0
BitWithoutOwner = (OwnersOf (with_taken written 79) → ⊥) × (OwnersOf (with_taken written 13) → ⊥)

-- a block is owned by a seat and replaced by it, or owned by two seats, or on one list twice
abbrev pub BlockOnTwoLists : Type 0
BlockOnTwoLists =
    (OwnersOf (with_owned collected (record { block = 3; area = Data; filled = false; fenced = false } ∷ [])) → ⊥)
    × (OwnersOf (with_owned collected (record { block = 2; area = Data; filled = false; fenced = false } ∷ [])) → ⊥)
    × (OwnersOf (with_giving collected (record ((seat_zero collected).giving) { limbo = 3 ∷ [] })) → ⊥)

-- a block of the chain belongs to nobody
abbrev pub ChainBlockFree : Type 0
ChainBlockFree = OwnersOf (record written { owner = λ block. if block == 1 then Rattle.log_core.specs.Origin.Free else written.owner block }) → ⊥

-- contents: a crash may leave another word in a block of the file, or the recorded words are not the file's
abbrev pub OtherContentPossible : Type 0
OtherContentPossible =
    (ContentsOf (with_floor written 8 0) → ⊥)
    × (ContentsOf (record written { recorded = λ block. if block == 1 then 171 ∷ replicate 7 0 else written.recorded block }) → ⊥)

-- pins: a pin word is not its view's, or a view has a generation that there is not
abbrev pub PinOfAnother : Type 0
PinOfAnother =
    (PinsOf (with_pins written (0 ∷ 1 ∷ [])) → ⊥)
    × (PinsOf (with_pins (core_with_seat written 0 (record (seat_zero written) { hold = record { head = 4294967299; pin = 2; generation = 2; valid = true } })) (2 ∷ 1 ∷ [])) → ⊥)

-- views: the tail is not the log block with its base; the table is that of another position; a kept word is not the present one
abbrev pub ViewOfAnother : Type 0
ViewOfAnother =
    (ViewsOf (with_walk written (record ((seat_zero written).walk) { tail_block = 4 })) → ⊥)
    × (ViewsOf (with_map written 0 no_blocks_mapped) → ⊥)
    × (ViewsOf (with_walk written (record ((seat_zero written).walk) { position = 2; tail_slot = 5 })) → ⊥)
    × (ViewsOf (with_walk written (record ((seat_zero written).walk) { kept = record { block = 3; slot = 3; word = to_second } ∷ [] })) → ⊥)

-- the words of block 1 are stored and not marked, and it counts as filled
abbrev pub counted_early : Core
counted_early = core_with_seat stored_words 0 (record (seat_zero stored_words) { blocks = record ((seat_zero stored_words).blocks) { owned = record { block = 1; area = Data; filled = true; fenced = false } ∷ [] } })

-- owned: a stored word is not the present one; a block counts as filled with its words not marked; a crash may leave another word in a
-- fenced block
abbrev pub StoredNotPresent : Type 0
StoredNotPresent =
    (OwnedOf (with_word marked_words 8 171) → ⊥)
    × (OwnedOf counted_early → ⊥)
    × (OwnedOf (with_floor fenced 8 0) → ⊥)

-- giving back: a replaced block is named by a later generation; the head counts as fenced while a crash may leave the one before it; a
-- scan has found no pin where a seat has a valid one
abbrev pub ReplacedStillNamed : Type 0
ReplacedStillNamed =
    (GivingsOf (with_giving collected (record ((seat_zero collected).giving) { replaced = 1 ∷ [] })) → ⊥)
    × (GivingsOf (with_giving collected (record ((seat_zero collected).giving) { head_fenced = true })) → ⊥)
    × (GivingsOf (with_giving collected (record ((seat_zero collected).giving) { pins_seen = 0 ∷ 0 ∷ [] })) → ⊥)

-- records: a write is recorded that the history does not have; a write has two records, or none; the bytes of a read are not the
-- file's; a generation has no collection; a mark is not the memory's
abbrev pub RecordOfNoWrite : Type 0
RecordOfNoWrite =
    (RecordsOf (record written { history = [] }) → ⊥)
    × (RecordsOf (with_done written (first_call ∷ first_call ∷ [])) → ⊥)
    × (RecordsOf (with_done written []) → ⊥)
    × (RecordsOf (with_done written (first_call ∷ record { position = 1; seat = 0; number = 2; op = PreadOp 0 1; reply = Bytes (171 ∷ []) } ∷ [])) → ⊥)
    × (RecordsOf (record collected { views = slice_set collected.views 0 (record (view_of collected.views 0) { ghost = (view_of written.views 0).ghost }) }) → ⊥)
    × (RecordsOf (record marked_words { memory = record (marked_words.memory) { pending = [] } }) → ⊥)

-- synced: a crash may leave 0 in a slot that counts as synced; a sync has answered a position that is not synced; the synced position
-- is past the end. What a sync leaves is synced
abbrev pub SyncedMayBeLost : Type 0
SyncedMayBeLost =
    (SyncsOf (record written { synced = 1 }) → ⊥)
    × (SyncsOf (with_done written (record { position = 1; seat = 0; number = 2; op = SyncOp; reply = Synced 1 } ∷ [])) → ⊥)
    × (SyncsOf (record synced { synced = 2 }) → ⊥)
    × IsSynced small_shape (λ word. cell synced.memory word) synced.generations synced.logs 0 1

-- a seat at the tail that owns blocks 1 and 2, fenced, and writes 128 zeros: block 2 has two runs, each of block 1
abbrev pub twice_writer : Seat
twice_writer = record (seat_zero (with_map fenced 0 no_blocks_mapped)) {
  calling = record ((seat_zero fenced).calling) { job = Pwrite 0; bytes = replicate 128 0 };
  blocks = record ((seat_zero fenced).blocks) {
    owned = record { block = 1; area = Data; filled = true; fenced = true } ∷ record { block = 2; area = Data; filled = true; fenced = true } ∷ [];
    contents = replicate 8 0 ++ 8590065664 ∷ 65537 ∷ 65537 ∷ replicate 5 0;
  };
}

-- the entry is one of the format, and the two virtual blocks have their bytes; but it names block 1 twice, and is not put in
abbrev pub NamedTwice : Type 0
NamedTwice =
    (is_log_entry_by (λ block. content_of twice_writer block) small_shape 10 ≡ true)
    × (names (new_meaning twice_writer 10) ≡ 2 ∷ 1 ∷ 1 ∷ [])
    × (block_in (new_meaning twice_writer 10) 0 ≡ Some 1)
    × (block_in (new_meaning twice_writer 10) 1 ≡ Some 1)
    × (MayCommit image_a [] twice_writer 27 10 → ⊥)

-- the seat that may put the second generation in place, with these words as its snapshot's
abbrev pub snapshot_writer : List ℕ → Seat
snapshot_writer words = record (state_after_work (seat_zero linked) (NotesNamed (26 ∷ []))) { blocks = record ((state_after_work (seat_zero linked) (NotesNamed (26 ∷ []))).blocks) { contents = words } }

-- a snapshot whose second run covers its first leads where the map does, and names block 2, which the map does not
abbrev pub covered : Seat
covered = snapshot_writer (4 ∷ 9223372036854775809 ∷ 562949953421313 ∷ 524289 ∷ 262145 ∷ 0 ∷ 0 ∷ 0 ∷ [])

-- the snapshot of the map
abbrev pub right_snapshot : Seat
right_snapshot = snapshot_writer (4 ∷ 9223372036854775809 ∷ 281474976710657 ∷ 262145 ∷ 0 ∷ 0 ∷ 0 ∷ 0 ∷ [])

-- none of these may be put in place: it, a snapshot that gives the second virtual block block 2, and one with a word after its entries. The right one may
abbrev pub SnapshotNamesMore : Type 0
SnapshotNamesMore =
    (new_snapshots covered 8589934597 ≡ 5 ∷ [])
    × (map_of (snapshot_meanings (λ block. content_of covered block) (5 ∷ [])) 0 ≡ Some 1)
    × (all_names (snapshot_meanings (λ block. content_of covered block) (5 ∷ [])) ≡ 2 ∷ 1 ∷ [])
    × (MayExchangeHead image_a linked (view_of linked.views 0).ghost covered 4294967299 8589934597 → ⊥)
    × (MayExchangeHead image_a linked (view_of linked.views 0).ghost (snapshot_writer (4 ∷ 9223372036854775809 ∷ 562949953421313 ∷ 262145 ∷ 524293 ∷ 0 ∷ 0 ∷ 0 ∷ [])) 4294967299 8589934597 → ⊥)
    × (MayExchangeHead image_a linked (view_of linked.views 0).ghost (snapshot_writer (4 ∷ 9223372036854775809 ∷ 281474976710657 ∷ 262145 ∷ 524293 ∷ 0 ∷ 0 ∷ 0 ∷ [])) 4294967299 8589934597 → ⊥)
    × MayExchangeHead image_a linked (view_of linked.views 0).ghost right_snapshot 4294967299 8589934597

-- the just-made image with one of two seats made, and a history with a write of the seat that is not made
abbrev pub one_made : Origin
one_made = origin_of small 2 1 two_blocks (9 ∷ []) (3 ∷ []) []

abbrev pub early : Core
early = record (first_core one_made) { history = record first_write { seat = 1 } ∷ [] }

abbrev pub early_split : Core
early_split = after one_made early (Splits 0)

-- the view of the seat that is made has all records of its own; after a split the new view has not. The clause on seats refuses such a
-- history from the first
abbrev pub WriteOfNoSeat : Type 0
WriteOfNoSeat =
    WritesOnce one_made early.history (view_of early.views 0)
    × (length early_split.views ≡ 2)
    × ((view_of early_split.views 1).seat.number ≡ 1)
    × ((view_of early_split.views 0).made ≡ 2)
    × (WritesOnce one_made early_split.history (view_of early_split.views 1) → ⊥)
    × (SeatsOnce early.history early.views → ⊥)
