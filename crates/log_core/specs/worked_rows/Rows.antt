-- Worked rows: what small states and steps come to.
use Rattle.std.specs.Prelude.{ℕ, ◌+◌, ◌≡◌, ◌<◌, true, false, List, [], ◌∷◌, length, replicate, map, Option, Some, None}
use Rattle.log_entry.specs.declared.shapes.Area.{Area}
use Rattle.log_entry.specs.declared.shapes.Area.TheVariants.{Data, Log, Spare}
use Rattle.log_entry.specs.declared.calls.Call.{Call}
use Rattle.log_entry.specs.declared.calls.CollectRefusal.TheVariants.{Nothing, NoSpace as NoSpareSpace, Overtaken, GenerationLimit}
use Rattle.log_entry.specs.declared.calls.Op.TheVariants.{Pwrite as PwriteOp, Append as AppendOp, Pread as PreadOp, Size as SizeOp, Sync as SyncOp, Collect as CollectOp}
use Rattle.log_entry.specs.declared.calls.Reply.{Reply}
use Rattle.log_entry.specs.declared.calls.Reply.TheVariants.{Wrote, Appended, NotWritten, Bytes, Size as FileSize, Synced, Collected, NotCollected}
use Rattle.log_entry.specs.declared.calls.WriteRefusal.TheVariants.{TooLong, TooLarge, NoSpace, PositionLimit}
use Rattle.log_image.specs.Entries.{direct_meaning}
use Rattle.log_image.specs.Rows.{collected as collected_words}
use Rattle.asks.specs.declared.ask.Place.TheVariants.{Image, Pin, Map}
use Rattle.asks.specs.declared.ask.Ask.TheVariants.{Load, Store, Exchange, SetBits, ClearBits, Mark, Fence}
use Rattle.pmem_words.specs.declared.keeps.KeptWord.{KeptWord}
use Rattle.pmem_words.specs.declared.keeps.Task.{Task}
use Rattle.pmem_words.specs.declared.keeps.Task.TheVariants.{Idle, Pwrite, Append, Pread, Size, Sync, Collect}
use Rattle.pmem_words.specs.declared.owned.OwnedBlock.{OwnedBlock}
use Rattle.pmem_words.specs.Seats.{Seat, Calling, new_seat, no_calling}
use Rattle.persistence.specs.Memory.{cell}
use Rattle.log_core.specs.Views.{Ghost, view_of, op_in, no_ghost, no_call}
use Rattle.log_core.specs.Origin.{Origin, Free, Header, InChain, OwnedBy, LeftTo, first_position, first_generation, start_base, first_logs, first_entries, first_owner, start_generation, q_of_origin}
use Rattle.log_core.specs.Files.{Write, entries, end_of, file_at, early_file, history_map_at, history_size_at, write_at, call_of}
use Rattle.log_core.specs.Cores.{Core, first_core, IsKept, head_floor, generation_blocks, data_names, generation_at, current, trail}
use Rattle.log_core.specs.Works.{stored_at, content_word, front_kind, front_base, is_quiet, without_bases, state_after_work, state_after_all_work, MayWork, MayCountFilled, Begins, ReadsRun, EndsReading, TakesEntry, TakesSeal, Follows, OpensBase, AddsBaseWord, Lays, CountsFilled, NotesNamed, KeepsReplaced}
use Rattle.log_core.specs.Needs.{is_one_run, lacking, is_pass_found}
use Rattle.log_core.specs.Steps.{LoadsBitmapWord, replaced_by, lacked_after}
use Rattle.log_core.specs.After.{after}
use Rattle.log_core.specs.May.{MayLoadPinWord, MaySetBits, MayClearBits, MayExchangeLink, MayFence, walked_trail, refusal_at}
use Rattle.log_core.specs.Answers.{Fits, MayAdd}
use Rattle.log_core.specs.Starts.{origin_of}
use Rattle.log_core.specs.worked_rows.Samples.{small, small_shape, wide, image_a, stepping, step_of, walking, preparing, storing, marking, with_map, repinned}

-- the just-made image as a core: one log block, the first generation, and each block's owner
abbrev pub JustMade : Type 0
JustMade =
    (q_of_origin image_a ≡ 8)
    × (first_position image_a ≡ 0)
    × (first_generation image_a ≡ 1)
    × ((first_core image_a).logs ≡ record { block = 3; base = 0; slots = [] } ∷ [])
    × ((first_core image_a).generations ≡ record { snapshots = []; shared = []; cut = 0; base = 0; size = 0 } ∷ [])
    × (map (first_core image_a).owner (0 ∷ 1 ∷ 2 ∷ 3 ∷ 4 ∷ 23 ∷ 24 ∷ []) ≡ Header ∷ Free ∷ Free ∷ InChain ∷ Free ∷ Free ∷ Free ∷ [])
    × ((first_core image_a).recorded 3 ≡ 0 ∷ 4611686018427387904 ∷ 0 ∷ 0 ∷ 0 ∷ 0 ∷ 0 ∷ 0 ∷ [])
    × ((first_core image_a).memory.now.pins ≡ 0 ∷ 0 ∷ [])
    × (length (first_core image_a).memory.floors ≡ 192)
    × ((first_core image_a).history ≡ [])
    × ((first_core image_a).synced ≡ 0)
    × ((first_core image_a).began ≡ 0 ∷ 0 ∷ [])
    × (length (first_core image_a).views ≡ 2)
    × ((view_of (first_core image_a).views 0).made ≡ 2)
    × ((view_of (first_core image_a).views 0).parts ≡ 0 ∷ [])
    × ((view_of (first_core image_a).views 1).parts ≡ 1 ∷ [])
    × ((view_of (first_core image_a).views 1).seat.number ≡ 1)
    × (entries image_a [] ≡ [])
    × (end_of image_a [] ≡ 0)
    × (file_at image_a [] 0 ≡ [])

-- seat 0 begins its first call, a write of one byte at 0, and pins: it loads the head, stores its pin word, and loads the head again
abbrev pub head_loaded : Core
head_loaded = stepping image_a (first_core image_a) 0 (Load (Image 3)) 1 (Begins (Pwrite 0) (170 ∷ []) ∷ []) []

abbrev pub pin_stored : Core
pin_stored = stepping image_a head_loaded 0 (Store (Pin 0) 1) 1 [] []

abbrev pub pinned : Core
pinned = stepping image_a pin_stored 0 (Load (Image 3)) 1 [] []

-- the pin is valid after the third step alone, and the generation is kept by it too
abbrev pub PinsInThreeSteps : Type 0
PinsInThreeSteps =
    ((view_of head_loaded.views 0).seat.hold ≡ record { head = 4294967299; pin = 0; generation = 0; valid = false })
    × ((view_of head_loaded.views 0).ghost.call.number ≡ 1)
    × ((view_of pin_stored.views 0).seat.hold ≡ record { head = 4294967299; pin = 1; generation = 0; valid = false })
    × (pin_stored.memory.now.pins ≡ 1 ∷ 0 ∷ [])
    × ((view_of pinned.views 0).seat.hold ≡ record { head = 4294967299; pin = 1; generation = 1; valid = true })
    × ((view_of pinned.views 1).seat.hold ≡ record { head = 0; pin = 0; generation = 0; valid = false })
    × (pinned.memory.past ≡ [])
    × IsKept image_a pinned.generations 5 pinned.views 0
    × (IsKept image_a (first_core image_a).generations 5 (first_core image_a).views 0 → ⊥)

-- a scan by seat 1: it finds seat 0's pin and its own word, and begins anew with seat 0's
abbrev pub scanned_one : Core
scanned_one = stepping image_a pinned 1 (Load (Pin 0)) 1 (Begins Collect [] ∷ []) []

abbrev pub scanned_both : Core
scanned_both = stepping image_a scanned_one 1 (Load (Pin 1)) 1 [] []

abbrev pub scanned_anew : Core
scanned_anew = stepping image_a scanned_both 1 (Load (Pin 0)) 1 [] []

-- a scan goes on in order, or begins; no other word may be next, and a seat that has a pin scans nothing
abbrev pub ScanSeesPins : Type 0
ScanSeesPins =
    ((view_of scanned_one.views 1).seat.giving.pins_seen ≡ 1 ∷ [])
    × ((view_of scanned_both.views 1).seat.giving.pins_seen ≡ 1 ∷ 0 ∷ [])
    × ((view_of scanned_anew.views 1).seat.giving.pins_seen ≡ 1 ∷ [])
    × MayLoadPinWord (view_of scanned_one.views 1).seat 2 1
    × MayLoadPinWord (view_of scanned_both.views 1).seat 2 0
    × (MayLoadPinWord (view_of scanned_both.views 1).seat 2 1 → ⊥)
    × (MayLoadPinWord (view_of scanned_both.views 1).seat 2 2 → ⊥)
    × (MayLoadPinWord (view_of scanned_both.views 0).seat 2 0 → ⊥)

-- seat 0 walks: it loads the second word of the log block, and then its first slot, which is empty
abbrev pub walked : Core
walked = walking image_a pinned 0

-- it stands at the tail
abbrev pub ComesToTail : Type 0
ComesToTail =
    ((view_of walked.views 0).seat.walk.at_tail ≡ true)
    × ((view_of walked.views 0).seat.walk.ready ≡ true)
    × ((view_of walked.views 0).seat.walk.position ≡ 0)
    × ((view_of walked.views 0).seat.walk.tail_block ≡ 3)
    × ((view_of walked.views 0).seat.walk.tail_slot ≡ 3)
    × ((view_of walked.views 0).seat.walk.kept ≡ record { block = 3; slot = 3; word = 0 } ∷ [])

-- seat 0 takes block 1; then seat 1 sets the bits of blocks 1 and 2, and takes block 2 alone
abbrev pub taken_by_one : Core
taken_by_one = stepping image_a walked 0 (SetBits (Map 0) 2) 1 [] []

abbrev pub taken_by_both : Core
taken_by_both = stepping image_a taken_by_one 1 (SetBits (Map 0) 6) 1 (Begins (Pwrite 0) (187 ∷ []) ∷ []) []

-- the seat with a write of 65 bytes, which lacks two data blocks
abbrev pub longer_writer : Seat
longer_writer = record ((view_of walked.views 0).seat) { calling = record ((view_of walked.views 0).seat.calling) { bytes = replicate 65 170 } }

-- a write of one byte may take one block of the data area, and no more; one of 65 bytes two, and not one of another area with one
abbrev pub BitsTaken : Type 0
BitsTaken =
    ((view_of taken_by_both.views 0).seat.blocks.owned ≡ record { block = 1; area = Data; filled = false; fenced = false } ∷ [])
    × ((view_of taken_by_both.views 0).seat.blocks.contents ≡ 0 ∷ 0 ∷ 0 ∷ 0 ∷ 0 ∷ 0 ∷ 0 ∷ 0 ∷ [])
    × ((view_of taken_by_both.views 0).seat.blocks.found ≡ 11 ∷ [])
    × ((view_of taken_by_both.views 1).seat.blocks.owned ≡ record { block = 2; area = Data; filled = false; fenced = false } ∷ [])
    × ((view_of taken_by_both.views 1).seat.blocks.found ≡ 15 ∷ [])
    × (taken_by_both.memory.now.taken ≡ 15 ∷ [])
    × (map taken_by_both.owner (0 ∷ 1 ∷ 2 ∷ 3 ∷ 4 ∷ []) ≡ Header ∷ OwnedBy 0 ∷ OwnedBy 1 ∷ InChain ∷ Free ∷ [])
    × MaySetBits (view_of walked.views 0).seat 0 2
    × (MaySetBits (view_of walked.views 0).seat 0 6 → ⊥)
    × (MaySetBits (view_of taken_by_one.views 0).seat 0 4 → ⊥)
    × MaySetBits longer_writer 0 6
    × (MaySetBits longer_writer 0 18 → ⊥)

-- seat 0 stores each word of block 1 and marks each, and then fences
abbrev pub stored_words : Core
stored_words = storing image_a taken_by_one 0 0 1 0 (170 ∷ replicate 7 0)

abbrev pub marked_words : Core
marked_words = marking image_a stored_words 0 1 8

abbrev pub fenced : Core
fenced = stepping image_a marked_words 0 Fence 1 (CountsFilled 0 ∷ []) []

-- the floor of a stored word rises with the fence, and the block is fenced; a fence with a word unmarked fences no block
abbrev pub FenceFollows : Type 0
FenceFollows =
    (cell stored_words.memory 8 ≡ record { present = 170; past = 0 ∷ []; floor = 0 })
    × (stored_at (view_of stored_words.views 0).ghost.stored 8 ≡ Some (record { word = 8; value = 170; marked = false }))
    × (stored_at (view_of marked_words.views 0).ghost.stored 8 ≡ Some (record { word = 8; value = 170; marked = true }))
    × (length (view_of marked_words.views 0).ghost.stored ≡ 8)
    × (length marked_words.memory.pending ≡ 8)
    × (length (view_of marked_words.views 0).ghost.marks ≡ 8)
    × ((word : ℕ) → word < 8 → stored_at (view_of marked_words.views 0).ghost.stored (8 + word) ≡ Some (record { word = 8 + word; value = content_word (view_of marked_words.views 0).seat 0 word; marked = true }))
    × MayCountFilled (view_of marked_words.views 0).ghost (view_of marked_words.views 0).seat 0
    × (MayCountFilled (view_of stored_words.views 0).ghost (view_of stored_words.views 0).seat 0 → ⊥)
    × (cell fenced.memory 8 ≡ record { present = 170; past = 0 ∷ []; floor = 1 })
    × (cell fenced.memory 15 ≡ record { present = 0; past = 0 ∷ []; floor = 1 })
    × ((view_of fenced.views 0).seat.blocks.owned ≡ record { block = 1; area = Data; filled = true; fenced = true } ∷ [])
    × ((view_of fenced.views 0).seat.blocks.contents ≡ 170 ∷ 0 ∷ 0 ∷ 0 ∷ 0 ∷ 0 ∷ 0 ∷ 0 ∷ [])
    × ((view_of fenced.views 0).ghost.marks ≡ [])
    × (fenced.memory.pending ≡ [])
    × (fenced.synced ≡ 0)
    × ((view_of (stepping image_a marked_words 0 Fence 1 [] []).views 0).seat.blocks.owned ≡ record { block = 1; area = Data; filled = false; fenced = false } ∷ [])

-- a map of four virtual blocks, of which none has a block
abbrev pub no_blocks_mapped : List (Option ℕ)
no_blocks_mapped = None ∷ None ∷ None ∷ None ∷ []

-- seat 1 writes a byte in block 2 as seat 0 does in block 1, so that both stand at one tail. The maps have four virtual blocks alone
abbrev pub racing : Core
racing = with_map (with_map (preparing image_a fenced 1 2 187) 0 no_blocks_mapped) 1 no_blocks_mapped

-- the entry of virtual block 0 at block 1, and at block 2, with 63 bytes past the end
abbrev pub to_first : ℕ
to_first = 277076930461697

abbrev pub to_second : ℕ
to_second = 277076930723841

-- seat 0 puts its entry in, and then seat 1 finds it there
abbrev pub won : Core
won = stepping image_a racing 0 (Exchange (Image 27) 0 to_first) 1 [] []

abbrev pub lost : Core
lost = stepping image_a won 1 (Exchange (Image 27) 0 to_second) 1 [] []

-- the write is the history's first; its block is the chain's, with the words that it was put in with, and the view is past it
abbrev pub SlotWon : Type 0
SlotWon =
    (won.history ≡ record { seat = 0; number = 1; op = PwriteOp 0 (170 ∷ []); at = 0; entry = record { word = to_first; meaning = record { holder = []; virt = 0; blocks = 1 ∷ []; leftover = 63 } } } ∷ [])
    × (won.logs ≡ record { block = 3; base = 0; slots = to_first ∷ [] } ∷ [])
    × (map won.owner (0 ∷ 1 ∷ 2 ∷ 3 ∷ 4 ∷ []) ≡ Header ∷ InChain ∷ OwnedBy 1 ∷ InChain ∷ Free ∷ [])
    × (won.recorded 1 ≡ 170 ∷ 0 ∷ 0 ∷ 0 ∷ 0 ∷ 0 ∷ 0 ∷ 0 ∷ [])
    × (cell won.memory 27 ≡ record { present = to_first; past = 0 ∷ []; floor = 0 })
    × ((view_of won.views 0).seat.walk.position ≡ 1)
    × ((view_of won.views 0).seat.walk.size ≡ 1)
    × ((view_of won.views 0).seat.walk.map ≡ Some 1 ∷ None ∷ None ∷ None ∷ [])
    × ((view_of won.views 0).seat.walk.tail_slot ≡ 4)
    × ((view_of won.views 0).seat.walk.at_tail ≡ true)
    × ((view_of won.views 0).seat.calling.won ≡ true)
    × ((view_of won.views 0).seat.blocks.owned ≡ [])
    × ((view_of won.views 0).seat.blocks.contents ≡ [])
    × ((view_of won.views 0).ghost.stored ≡ [])
    × (end_of image_a won.history ≡ 1)
    × (file_at image_a won.history 1 ≡ 170 ∷ [])
    × (generation_blocks image_a won.logs (entries image_a won.history) (generation_at image_a won.generations 1) ≡ 3 ∷ 1 ∷ [])

-- nothing changes but the view that lost, which keeps the word found
abbrev pub SlotLost : Type 0
SlotLost =
    (lost.history ≡ won.history)
    × (lost.logs ≡ won.logs)
    × (map lost.owner (0 ∷ 1 ∷ 2 ∷ 3 ∷ 4 ∷ []) ≡ map won.owner (0 ∷ 1 ∷ 2 ∷ 3 ∷ 4 ∷ []))
    × (lost.memory ≡ won.memory)
    × ((view_of lost.views 1).seat.walk.position ≡ 0)
    × ((view_of lost.views 1).seat.walk.at_tail ≡ false)
    × ((view_of lost.views 1).seat.walk.kept ≡ record { block = 3; slot = 3; word = 0 } ∷ record { block = 3; slot = 3; word = to_first } ∷ [])
    × ((view_of lost.views 1).seat.calling.lost ≡ 1)
    × ((view_of lost.views 1).seat.calling.won ≡ false)
    × ((view_of lost.views 1).seat.blocks.owned ≡ record { block = 2; area = Data; filled = true; fenced = true } ∷ [])
    × (length (view_of lost.views 1).ghost.stored ≡ 8)

-- the same exchange with the record of the write
abbrev pub first_call : Call
first_call = record { position = 1; seat = 0; number = 1; op = PwriteOp 0 (170 ∷ []); reply = Wrote 1 }

abbrev pub written : Core
written = after image_a racing (step_of image_a racing 0 (Exchange (Image 27) 0 to_first) 1 [] [] (first_call ∷ []))

-- the call has ended, and its record is the history's write
abbrev pub WriteEnds : Type 0
WriteEnds =
    ((view_of written.views 0).done ≡ first_call ∷ [])
    × (call_of 1 (write_at image_a written.history 1) ≡ first_call)
    × ((view_of written.views 0).seat.calling.job ≡ Idle)
    × ((view_of written.views 0).seat.calling.won ≡ false)
    × (op_in (view_of written.views 0).seat ≡ None)
    × MayAdd (view_of won.views 0).ghost (view_of won.views 0).seat first_call
    × (MayAdd (view_of won.views 0).ghost (view_of won.views 0).seat (record first_call { reply = Wrote 2 }) → ⊥)
    × (MayAdd (view_of won.views 0).ghost (view_of won.views 0).seat (record first_call { position = 2 }) → ⊥)

-- seat 0 collects: it finds the tail's slot empty, seals the block, takes blocks 4 and 5, and fills them
abbrev pub sealed : Core
sealed = stepping image_a (stepping image_a written 0 (Load (Image 28)) 2 (Begins Collect [] ∷ []) []) 0 (Exchange (Image 28) 0 3) 2 [] []

-- an empty log block at position 1, and the snapshot there: it links to block 4 and has one run, of block 1
abbrev pub log_words : List ℕ
log_words = 0 ∷ 4611686018427387905 ∷ replicate 6 0

abbrev pub snapshot_words : List ℕ
snapshot_words = 4 ∷ 9223372036854775809 ∷ 281474976710657 ∷ 262145 ∷ replicate 4 0

abbrev pub linking : Core
linking =
    stepping image_a
    (marking image_a (marking image_a (storing image_a (storing image_a (stepping image_a sealed 0 (SetBits (Map 0) 48) 2 [] []) 0 0 4 0 log_words) 0 1 5 0 snapshot_words) 0 4 8) 0 5 8)
    0 Fence 2 (CountsFilled 0 ∷ CountsFilled 1 ∷ []) []

abbrev pub linked : Core
linked = stepping image_a linking 0 (Exchange (Image 24) 0 4) 2 [] []

-- seat 1 finds a link there
abbrev pub link_found : Core
link_found = stepping image_a linked 1 (Exchange (Image 24) 0 6) 2 [] []

-- a seal ends the block, and the next one begins at the position
abbrev pub LinkWon : Type 0
LinkWon =
    (sealed.logs ≡ record { block = 3; base = 0; slots = to_first ∷ 3 ∷ [] } ∷ [])
    × (sealed.history ≡ written.history)
    × ((view_of sealed.views 0).seat.walk.tail_slot ≡ 8)
    × ((view_of sealed.views 0).seat.walk.position ≡ 1)
    × ((view_of linking.views 0).seat.blocks.owned ≡ record { block = 4; area = Spare; filled = true; fenced = true } ∷ record { block = 5; area = Spare; filled = true; fenced = true } ∷ [])
    × MayExchangeLink (view_of linking.views 0).seat 24 4
    × (MayExchangeLink (view_of linking.views 0).seat 24 5 → ⊥)
    × (linked.logs ≡ record { block = 3; base = 0; slots = to_first ∷ 3 ∷ [] } ∷ record { block = 4; base = 1; slots = [] } ∷ [])
    × (map linked.owner (3 ∷ 4 ∷ 5 ∷ 6 ∷ []) ≡ InChain ∷ InChain ∷ OwnedBy 0 ∷ Free ∷ [])
    × (linked.recorded 4 ≡ 0 ∷ 4611686018427387905 ∷ 0 ∷ 0 ∷ 0 ∷ 0 ∷ 0 ∷ 0 ∷ [])
    × ((view_of linked.views 0).seat.walk.tail_block ≡ 4)
    × ((view_of linked.views 0).seat.walk.tail_slot ≡ 3)
    × ((view_of linked.views 0).seat.walk.tail_base ≡ 1)
    × ((view_of linked.views 0).seat.blocks.owned ≡ record { block = 5; area = Spare; filled = true; fenced = true } ∷ [])
    × ((view_of linked.views 0).seat.blocks.contents ≡ 4 ∷ 9223372036854775809 ∷ 281474976710657 ∷ 262145 ∷ 0 ∷ 0 ∷ 0 ∷ 0 ∷ [])

abbrev pub LinkLost : Type 0
LinkLost =
    (link_found.logs ≡ linked.logs)
    × (link_found.memory ≡ linked.memory)
    × (map link_found.owner (3 ∷ 4 ∷ 5 ∷ 6 ∷ []) ≡ map linked.owner (3 ∷ 4 ∷ 5 ∷ 6 ∷ []))
    × ((view_of link_found.views 1).seat.walk.kept ≡ record { block = 3; slot = 3; word = 0 } ∷ record { block = 3; slot = 0; word = 4 } ∷ [])
    × ((view_of link_found.views 1).seat.walk.tail_block ≡ 3)

-- seat 0 puts the second generation in place, with its snapshot in block 5; what it notes are the blocks 1, 3 and 4
abbrev pub collected : Core
collected = stepping image_a linked 0 (Exchange (Image 3) 4294967299 8589934597) 2 (NotesNamed (26 ∷ []) ∷ []) []

-- seat 1 then finds that head instead of its own
abbrev pub overtaken : Core
overtaken = stepping image_a collected 1 (Exchange (Image 3) 4294967299 8589934598) 2 [] []

abbrev pub HeadWon : Type 0
HeadWon =
    (replaced_by (view_of collected.views 0).seat ≡ 3 ∷ [])
    × (collected.generations ≡ record { snapshots = []; shared = []; cut = 0; base = 0; size = 0 } ∷ record { snapshots = 5 ∷ []; shared = 1 ∷ []; cut = 1; base = 1; size = 1 } ∷ [])
    × (current image_a collected.generations ≡ 2)
    × (map collected.owner (1 ∷ 2 ∷ 3 ∷ 4 ∷ 5 ∷ 6 ∷ []) ≡ InChain ∷ OwnedBy 1 ∷ LeftTo 0 ∷ InChain ∷ InChain ∷ Free ∷ [])
    × (collected.recorded 5 ≡ 4 ∷ 9223372036854775809 ∷ 281474976710657 ∷ 262145 ∷ 0 ∷ 0 ∷ 0 ∷ 0 ∷ [])
    × ((view_of collected.views 0).ghost.call.put ≡ Some (record { generation = 2; base = 1; replaced = 1; limbo = 0 }))
    × ((view_of collected.views 0).seat.giving.replaced ≡ 3 ∷ [])
    × ((view_of collected.views 0).seat.giving.replaced_generation ≡ 1)
    × ((view_of collected.views 0).seat.giving.head_fenced ≡ false)
    × ((view_of collected.views 0).seat.blocks.owned ≡ [])
    × (cell collected.memory 3 ≡ record { present = 8589934597; past = 4294967299 ∷ []; floor = 0 })
    × (generation_blocks image_a collected.logs (entries image_a collected.history) (generation_at image_a collected.generations 1) ≡ 3 ∷ 4 ∷ 1 ∷ [])
    × (generation_blocks image_a collected.logs (entries image_a collected.history) (generation_at image_a collected.generations 2) ≡ 5 ∷ 4 ∷ 1 ∷ [])

abbrev pub HeadLost : Type 0
HeadLost =
    (overtaken.generations ≡ collected.generations)
    × (overtaken.memory ≡ collected.memory)
    × ((view_of overtaken.views 1).ghost.call.overtaken ≡ 2)
    × ((view_of overtaken.views 1).ghost.call.put ≡ None)
    × ((view_of overtaken.views 1).seat.hold ≡ record { head = 8589934597; pin = 1; generation = 1; valid = true })

-- the head is marked and fenced, and seat 0 gives up its pin and scans both pins
abbrev pub head_sure : Core
head_sure = stepping image_a (stepping image_a collected 0 (Mark 3) 2 [] []) 0 Fence 2 [] []

abbrev pub scanning : Core → Core
scanning c = stepping image_a (stepping image_a c 0 (Load (Pin 0)) 2 [] []) 0 (Load (Pin 1)) 2 [] []

-- seat 1 holds a pin of the first generation, and then it does not
abbrev pub scan_held : Core
scan_held = scanning (stepping image_a head_sure 0 (Store (Pin 0) 0) 2 [] [])

abbrev pub scan_clear : Core
scan_clear = scanning (stepping image_a (stepping image_a head_sure 0 (Store (Pin 0) 0) 2 [] []) 1 (Store (Pin 1) 0) 2 [] [])

-- a generation is kept as long as a crash may leave its head, and then as long as it is pinned
abbrev pub KeptUntilUnpinned : Type 0
KeptUntilUnpinned =
    (cell head_sure.memory 3 ≡ record { present = 8589934597; past = 4294967299 ∷ []; floor = 1 })
    × (head_floor collected.memory ≡ 0)
    × (head_floor head_sure.memory ≡ 1)
    × ((view_of head_sure.views 0).seat.giving.head_fenced ≡ true)
    × IsKept image_a collected.generations (head_floor collected.memory) [] 0
    × (IsKept image_a head_sure.generations (head_floor head_sure.memory) [] 0 → ⊥)
    × IsKept image_a head_sure.generations (head_floor head_sure.memory) head_sure.views 0
    × IsKept image_a scan_held.generations (head_floor scan_held.memory) scan_held.views 0
    × (IsKept image_a scan_clear.generations (head_floor scan_clear.memory) scan_clear.views 0 → ⊥)
    × IsKept image_a scan_clear.generations (head_floor scan_clear.memory) scan_clear.views 1

-- the replaced block is given back
abbrev pub cleared : Core
cleared = stepping image_a scan_clear 0 (ClearBits (Map 0) 8) 2 [] []

-- seat 1 gives back its own block
abbrev pub owned_cleared : Core
owned_cleared = stepping image_a collected 1 (ClearBits (Map 0) 4) 1 [] []

abbrev pub BitsCleared : Type 0
BitsCleared =
    ((view_of scan_clear.views 0).seat.giving.pins_seen ≡ 0 ∷ 0 ∷ [])
    × MayClearBits (view_of scan_clear.views 0).seat 2 0 8
    × (cleared.memory.now.taken ≡ 55 ∷ [])
    × ((view_of cleared.views 0).seat.giving.replaced ≡ [])
    × (map cleared.owner (1 ∷ 2 ∷ 3 ∷ 4 ∷ 5 ∷ []) ≡ InChain ∷ OwnedBy 1 ∷ Free ∷ InChain ∷ InChain ∷ [])
    × MayClearBits (view_of collected.views 1).seat 2 0 4
    × (owned_cleared.memory.now.taken ≡ 59 ∷ [])
    × ((view_of owned_cleared.views 1).seat.blocks.owned ≡ [])
    × ((view_of owned_cleared.views 1).seat.blocks.contents ≡ [])
    × (map owned_cleared.owner (1 ∷ 2 ∷ 3 ∷ []) ≡ InChain ∷ Free ∷ LeftTo 0 ∷ [])

-- a block that a pin may need is not given back, nor one of the present chain, nor another seat's
abbrev pub BitsNotCleared : Type 0
BitsNotCleared =
    ((view_of scan_held.views 0).seat.giving.pins_seen ≡ 0 ∷ 1 ∷ [])
    × (MayClearBits (view_of scan_held.views 0).seat 2 0 8 → ⊥)
    × (MayClearBits (view_of scan_clear.views 0).seat 2 0 2 → ⊥)
    × (MayClearBits (view_of scan_clear.views 0).seat 2 0 4 → ⊥)
    × (MayClearBits (view_of collected.views 0).seat 2 0 8 → ⊥)

-- where a pin holds the replaced blocks, they are kept for later
abbrev pub kept_later : Seat
kept_later = state_after_work (view_of scan_held.views 0).seat KeepsReplaced

abbrev pub collect_call : Reply → Call
collect_call reply = record { position = 1; seat = 0; number = 2; op = CollectOp; reply = reply }

-- the collection's record says what it gave back, or what it kept, and for whom; and no other record fits
abbrev pub CollectEnds : Type 0
CollectEnds =
    MayAdd (view_of cleared.views 0).ghost (view_of cleared.views 0).seat (collect_call (Collected (record { generation = 2; freed = 1; kept = 0; held = None })))
    × (kept_later.giving.limbo ≡ 3 ∷ [])
    × (kept_later.giving.limbo_generation ≡ 1)
    × (kept_later.giving.replaced ≡ [])
    × MayAdd (view_of scan_held.views 0).ghost kept_later (collect_call (Collected (record { generation = 2; freed = 0; kept = 1; held = Some (record { seat = 1; generation = 1 }) })))
    × (MayAdd (view_of scan_held.views 0).ghost kept_later (collect_call (Collected (record { generation = 2; freed = 0; kept = 1; held = None }))) → ⊥)
    × (MayAdd (view_of scan_held.views 0).ghost kept_later (collect_call (Collected (record { generation = 2; freed = 1; kept = 0; held = None }))) → ⊥)
    × (MayAdd (view_of scan_held.views 0).ghost kept_later (collect_call (Collected (record { generation = 2; freed = 0; kept = 1; held = Some (record { seat = 0; generation = 1 }) }))) → ⊥)
    × (MayAdd (view_of cleared.views 0).ghost (view_of cleared.views 0).seat (collect_call (NotCollected Nothing)) → ⊥)
    × (MayAdd (view_of scan_clear.views 0).ghost (view_of scan_clear.views 0).seat (collect_call (Collected (record { generation = 2; freed = 1; kept = 0; held = None }))) → ⊥)

-- seat 0 syncs: it finds the tail's slot empty, marks the head and the used slot, and fences
abbrev pub syncing : Core
syncing = stepping image_a written 0 (Load (Image 28)) 2 (Begins Sync [] ∷ []) []

abbrev pub head_marked : Core
head_marked = stepping image_a syncing 0 (Mark 3) 2 [] []

abbrev pub slot_marked : Core
slot_marked = stepping image_a head_marked 0 (Mark 27) 2 [] []

abbrev pub synced : Core
synced = stepping image_a slot_marked 0 Fence 2 [] []

abbrev pub sync_call : Reply → Call
sync_call reply = record { position = 1; seat = 0; number = 2; op = SyncOp; reply = reply }

-- the position is synced with the fence after all marks; no fence is made with a mark missing, and no record before the fence
abbrev pub SyncEnds : Type 0
SyncEnds =
    (walked_trail image_a syncing (view_of syncing.views 0).seat ≡ record { place = 27; word = to_first } ∷ [])
    × ((view_of slot_marked.views 0).ghost.marks ≡ record { word = 3; value = 4294967299 } ∷ record { word = 27; value = to_first } ∷ [])
    × (slot_marked.memory.pending ≡ record { seat = 0; word = 3; time = 17 } ∷ record { seat = 0; word = 27; time = 17 } ∷ [])
    × MayFence (walked_trail image_a slot_marked (view_of slot_marked.views 0).seat) (view_of slot_marked.views 0).ghost (view_of slot_marked.views 0).seat
    × (MayFence (walked_trail image_a head_marked (view_of head_marked.views 0).seat) (view_of head_marked.views 0).ghost (view_of head_marked.views 0).seat → ⊥)
    × ((view_of slot_marked.views 0).seat.calling.sync_to ≡ None)
    × (slot_marked.synced ≡ 0)
    × ((view_of synced.views 0).seat.calling.sync_to ≡ Some 1)
    × (synced.synced ≡ 1)
    × (cell slot_marked.memory 27 ≡ record { present = to_first; past = 0 ∷ []; floor = 0 })
    × (cell synced.memory 27 ≡ record { present = to_first; past = 0 ∷ []; floor = 1 })
    × ((view_of synced.views 0).ghost.marks ≡ [])
    × MayAdd (view_of synced.views 0).ghost (view_of synced.views 0).seat (sync_call (Synced 1))
    × (MayAdd (view_of slot_marked.views 0).ghost (view_of slot_marked.views 0).seat (sync_call (Synced 1)) → ⊥)
    × (MayAdd (view_of synced.views 0).ghost (view_of synced.views 0).seat (sync_call (Synced 0)) → ⊥)

-- two writes, the second over the first and longer
abbrev pub first_write : Write
first_write = record { seat = 0; number = 1; op = PwriteOp 0 (170 ∷ []); at = 0; entry = record { word = to_first; meaning = direct_meaning to_first } }

abbrev pub second_write : Write
second_write = record { seat = 1; number = 1; op = AppendOp (187 ∷ 204 ∷ []); at = 1; entry = record { word = 268280837701633; meaning = direct_meaning 268280837701633 } }

abbrev pub two_writes : List Write
two_writes = first_write ∷ second_write ∷ []

-- the file, the map and the size at each position, and the blocks that are named
abbrev pub FilesByPosition : Type 0
FilesByPosition =
    (file_at image_a two_writes 0 ≡ [])
    × (file_at image_a two_writes 1 ≡ 170 ∷ [])
    × (file_at image_a two_writes 2 ≡ 170 ∷ 187 ∷ 204 ∷ [])
    × (history_map_at image_a (entries image_a two_writes) 0 0 ≡ None)
    × (history_map_at image_a (entries image_a two_writes) 1 0 ≡ Some 1)
    × (history_map_at image_a (entries image_a two_writes) 2 0 ≡ Some 2)
    × (history_map_at image_a (entries image_a two_writes) 2 1 ≡ None)
    × (history_size_at image_a (entries image_a two_writes) 1 ≡ 1)
    × (history_size_at image_a (entries image_a two_writes) 2 ≡ 3)
    × (write_at image_a two_writes 1 ≡ first_write)
    × (write_at image_a two_writes 2 ≡ second_write)
    × (call_of 2 second_write ≡ record { position = 2; seat = 1; number = 1; op = AppendOp (187 ∷ 204 ∷ []); reply = Appended 1 2 })
    × (data_names image_a (entries image_a two_writes) (start_generation image_a) ≡ 1 ∷ 2 ∷ [])

-- a start after a collection: the snapshot at position 2 is in block 5 and names block 2, the log goes on in block 4 with an entry
abbrev pub image_c : Origin
image_c = origin_of small 2 1 collected_words (55 ∷ []) (5 ∷ 4 ∷ []) (204 ∷ [])

-- before the start's position the file is what its blocks still hold
abbrev pub EarlyFiles : Type 0
EarlyFiles =
    (first_position image_c ≡ 3)
    × (start_base image_c ≡ 2)
    × (first_generation image_c ≡ 2)
    × (start_generation image_c ≡ record { snapshots = 5 ∷ []; shared = 2 ∷ []; cut = 0; base = 2; size = 1 })
    × (first_logs image_c ≡ record { block = 4; base = 2; slots = to_first ∷ [] } ∷ [])
    × (early_file image_c 2 ≡ 187 ∷ [])
    × (file_at image_c [] 2 ≡ 187 ∷ [])
    × (file_at image_c [] 3 ≡ 204 ∷ [])
    × (file_at image_c (record first_write { number = 2 } ∷ []) 4 ≡ 170 ∷ [])
    × (history_map_at image_c (first_entries image_c) 2 0 ≡ Some 2)
    × (history_map_at image_c (first_entries image_c) 3 0 ≡ Some 1)
    × (map (first_owner image_c) (0 ∷ 1 ∷ 2 ∷ 3 ∷ 4 ∷ 5 ∷ []) ≡ Header ∷ InChain ∷ InChain ∷ Free ∷ InChain ∷ InChain ∷ [])

-- the used slots and links that a walk has come past: of the first generation all three, of the second none
abbrev pub WalkedTrail : Type 0
WalkedTrail =
    (walked_trail image_a collected (view_of collected.views 0).seat ≡ record { place = 27; word = to_first } ∷ record { place = 28; word = 3 } ∷ record { place = 24; word = 4 } ∷ [])
    × (walked_trail image_a collected (view_of collected.views 1).seat ≡ [])
    × (walked_trail image_a collected (repinned (view_of collected.views 0).seat) ≡ [])
    × (trail small_shape collected.logs ≡ record { place = 27; word = to_first } ∷ record { place = 28; word = 3 } ∷ record { place = 24; word = 4 } ∷ [])

-- a seat of an image of seven data blocks and two log blocks, with a write of so many bytes at 63, and with these blocks
abbrev pub wide_writer : ℕ → List OwnedBlock → ℕ → Seat
wide_writer count owned found = record (new_seat wide 0 2 0) {
  calling = record no_calling { job = Pwrite 63; bytes = replicate count 170 };
  blocks = record { owned = owned; contents = []; found = found ∷ []; named = 0 ∷ [] };
}

abbrev pub data_block : ℕ → OwnedBlock
data_block block = record { block = block; area = Data; filled = false; fenced = false }

-- two bytes at 63 touch two blocks: two that are owned have to be in a row; and too few are found where each is taken
abbrev pub LacksBlocks : Type 0
LacksBlocks =
    (is_one_run (1 ∷ 2 ∷ []) ≡ true)
    × (is_one_run (2 ∷ 1 ∷ []) ≡ true)
    × (is_one_run (1 ∷ 3 ∷ []) ≡ false)
    × (is_one_run [] ≡ false)
    × (lacking (wide_writer 2 [] 0) (Pwrite 63) Data ≡ 2)
    × (lacking (wide_writer 1 [] 0) (Pwrite 63) Data ≡ 1)
    × (lacking (wide_writer 2 (data_block 1 ∷ []) 0) (Pwrite 63) Data ≡ 1)
    × (lacking (wide_writer 2 (data_block 1 ∷ data_block 2 ∷ []) 0) (Pwrite 63) Data ≡ 0)
    × (lacking (wide_writer 2 (data_block 2 ∷ data_block 1 ∷ []) 0) (Pwrite 63) Data ≡ 0)
    × (lacking (wide_writer 2 (data_block 1 ∷ data_block 3 ∷ []) 0) (Pwrite 63) Data ≡ 1)
    × (lacking (wide_writer 2 (data_block 1 ∷ data_block 3 ∷ data_block 5 ∷ []) 0) (Pwrite 63) Data ≡ 0)
    × (lacking (wide_writer 2 [] 0) (Pwrite 63) Log ≡ 1)
    × (lacking (wide_writer 2 [] 0) (Pwrite 63) Spare ≡ 0)
    × (lacking (wide_writer 2 [] 0) Collect Spare ≡ 3)
    × (lacking (wide_writer 2 [] 0) Sync Data ≡ 0)
    × (is_pass_found (wide_writer 2 (data_block 1 ∷ []) 254) Data ≡ true)
    × (is_pass_found (wide_writer 2 (data_block 1 ∷ []) 190) Data ≡ false)
    × (is_pass_found (wide_writer 2 (data_block 1 ∷ data_block 2 ∷ []) 254) Data ≡ false)
    × (is_pass_found (wide_writer 2 [] 768) Log ≡ true)
    × (is_pass_found (wide_writer 2 [] 512) Log ≡ false)
    × (lacked_after [] (wide_writer 2 [] 1022) (LoadsBitmapWord 0) ≡ Data ∷ Log ∷ [])

-- a seat of that image that stands before a used slot of block 10 and keeps these words, with a map of eight virtual blocks
abbrev pub walker : List KeptWord → Seat
walker kept = record (new_seat wide 0 2 7) {
  hold = record { head = 8589934603; pin = 2; generation = 2; valid = true };
  walk = record {
    position = 7;
    map = Some 7 ∷ None ∷ None ∷ Some 6 ∷ None ∷ None ∷ None ∷ None ∷ [];
    size = 256;
    tail_block = 10;
    tail_slot = 3;
    tail_base = 7;
    snapshot_base = 7;
    first_log = 0;
    at_tail = false;
    ready = true;
    reading = false;
    reading_generation = 0;
    reading_block = 0;
    reading_slot = 0;
    reading_place = 0;
    kept = kept;
  };
  calling = record no_calling { job = Pread 0 65 };
}

abbrev pub kept : ℕ → ℕ → ℕ → KeptWord
kept block slot word = record { block = block; slot = slot; word = word }

-- an indirect entry, whose block 5 gives virtual blocks 4 and 5 the blocks 1 and 3
abbrev pub with_runs_kept : Seat
with_runs_kept = walker (kept 10 3 22 ∷ kept 5 0 8590065668 ∷ kept 5 1 65537 ∷ kept 5 2 65539 ∷ kept 5 3 0 ∷ kept 5 4 0 ∷ kept 5 5 0 ∷ kept 5 6 0 ∷ kept 5 7 0 ∷ [])

-- an entry found at the tail is taken in once it is kept, and an indirect one once each word of its block is too
abbrev pub EntryTakenIn : Type 0
EntryTakenIn =
    MayWork no_ghost with_runs_kept TakesEntry
    × ((state_after_work with_runs_kept TakesEntry).walk.position ≡ 8)
    × ((state_after_work with_runs_kept TakesEntry).walk.size ≡ 384)
    × ((state_after_work with_runs_kept TakesEntry).walk.map ≡ Some 7 ∷ None ∷ None ∷ Some 6 ∷ Some 1 ∷ Some 3 ∷ None ∷ None ∷ [])
    × ((state_after_work with_runs_kept TakesEntry).walk.tail_slot ≡ 4)
    × ((state_after_work with_runs_kept TakesEntry).walk.kept ≡ [])
    × (MayWork no_ghost (walker (kept 10 3 22 ∷ [])) TakesEntry → ⊥)
    × (MayWork no_ghost (walker (kept 10 3 0 ∷ [])) TakesEntry → ⊥)
    × (MayWork no_ghost (walker (kept 10 3 3 ∷ [])) TakesEntry → ⊥)
    × MayWork no_ghost (walker (kept 10 3 0 ∷ kept 10 3 3 ∷ [])) TakesSeal
    × ((state_after_work (walker (kept 10 3 3 ∷ [])) TakesSeal).walk.tail_slot ≡ 8)
    × ((state_after_work (state_after_work (walker (kept 10 3 3 ∷ [])) TakesSeal) Follows).walk.position ≡ 7)

-- a seat at the tail with this task and these words
abbrev pub reader : List KeptWord → Seat
reader words = record (walker words) { walk = record ((walker words).walk) { at_tail = true } }

-- the same with 64 bytes laid
abbrev pub far_reader : Seat
far_reader = record (reader []) { calling = record ((reader []).calling) { bytes = replicate 64 0 } }

-- bytes are laid from the kept words of the mapped blocks, and are 0 in a virtual block that has none
abbrev pub ReadLays : Type 0
ReadLays =
    MayWork no_ghost (reader (kept 7 0 170 ∷ [])) (Lays (170 ∷ 0 ∷ []))
    × ((state_after_work (reader (kept 7 0 170 ∷ [])) (Lays (170 ∷ 0 ∷ []))).calling.bytes ≡ 170 ∷ 0 ∷ [])
    × (MayWork no_ghost (reader (kept 7 0 170 ∷ [])) (Lays (171 ∷ [])) → ⊥)
    × (MayWork no_ghost (reader []) (Lays (0 ∷ [])) → ⊥)
    × (MayWork no_ghost (walker (kept 7 0 170 ∷ [])) (Lays (170 ∷ [])) → ⊥)
    × MayWork no_ghost far_reader (Lays (0 ∷ []))
    × (MayWork no_ghost far_reader (Lays (1 ∷ [])) → ⊥)
    × (MayWork no_ghost far_reader (Lays (0 ∷ 0 ∷ [])) → ⊥)

-- the present content of virtual block 0 is block 7's, word by word; virtual block 1 has none and is 0. Where an entry that is taken in
-- gives virtual block 0 another block, its words are dropped
abbrev pub based : Seat
based = state_after_all_work (reader (kept 7 0 170 ∷ [])) (OpensBase 0 ∷ AddsBaseWord ∷ [])

abbrev pub two_bases : Calling
two_bases = record no_calling { bases = 0 ∷ 1 ∷ []; base_words = 1 ∷ 2 ∷ 3 ∷ 4 ∷ 5 ∷ 6 ∷ 7 ∷ 8 ∷ 9 ∷ [] }

abbrev pub BaseWords : Type 0
BaseWords =
    MayWork no_ghost (reader (kept 7 0 170 ∷ [])) (OpensBase 0)
    × MayWork no_ghost (state_after_work (reader (kept 7 0 170 ∷ [])) (OpensBase 0)) AddsBaseWord
    × (based.calling.bases ≡ 0 ∷ [])
    × (based.calling.base_words ≡ 170 ∷ [])
    × (MayWork no_ghost based AddsBaseWord → ⊥)
    × (MayWork no_ghost based (OpensBase 1) → ⊥)
    × ((state_after_all_work (reader []) (OpensBase 1 ∷ AddsBaseWord ∷ AddsBaseWord ∷ [])).calling.base_words ≡ 0 ∷ 0 ∷ [])
    × ((without_bases 8 (direct_meaning to_first) two_bases).bases ≡ 1 ∷ [])
    × ((without_bases 8 (direct_meaning to_first) two_bases).base_words ≡ 9 ∷ [])

-- a seat that reads the snapshot of the second generation in block 11
abbrev pub snapshot_reader : ℕ → List KeptWord → Seat
snapshot_reader slot words = record (walker words) {
  walk = record ((walker words).walk) { map = None ∷ None ∷ None ∷ None ∷ []; ready = false; reading = true; reading_generation = 2; reading_block = 11; reading_slot = slot };
}

-- one run of a snapshot, and the end of the reading, after which the log block that follows is the tail's
abbrev pub SnapshotRead : Type 0
SnapshotRead =
    (front_kind (walker (kept 11 1 9223372036854775815 ∷ [])) ≡ 2)
    × (front_base (walker (kept 11 1 9223372036854775815 ∷ [])) ≡ 7)
    × MayWork no_ghost (snapshot_reader 3 (kept 11 3 1835009 ∷ [])) ReadsRun
    × ((state_after_work (snapshot_reader 3 (kept 11 3 1835009 ∷ [])) ReadsRun).walk.map ≡ Some 7 ∷ None ∷ None ∷ None ∷ [])
    × ((state_after_work (snapshot_reader 3 (kept 11 3 1835009 ∷ [])) ReadsRun).walk.reading_slot ≡ 4)
    × (MayWork no_ghost (snapshot_reader 3 (kept 11 3 0 ∷ [])) ReadsRun → ⊥)
    × MayWork no_ghost (snapshot_reader 7 (kept 11 7 0 ∷ kept 11 0 10 ∷ kept 10 1 4611686018427387911 ∷ [])) EndsReading
    × (MayWork no_ghost (snapshot_reader 7 (kept 11 7 1835009 ∷ kept 11 0 10 ∷ kept 10 1 4611686018427387911 ∷ [])) EndsReading → ⊥)
    × ((state_after_work (snapshot_reader 7 (kept 11 7 0 ∷ kept 11 0 10 ∷ [])) EndsReading).walk.tail_block ≡ 10)
    × ((state_after_work (snapshot_reader 7 (kept 11 7 0 ∷ kept 11 0 10 ∷ [])) EndsReading).walk.tail_base ≡ 7)
    × ((state_after_work (snapshot_reader 7 (kept 11 7 0 ∷ kept 11 0 10 ∷ [])) EndsReading).walk.ready ≡ true)

-- which calls make no step, and which writes are refused on their arguments: at most seven blocks and 4,194,304 bytes
abbrev pub QuietCalls : Type 0
QuietCalls =
    (is_quiet 64 (PwriteOp 5 []) ≡ true)
    × (is_quiet 64 (PwriteOp 0 (replicate 448 1)) ≡ false)
    × (is_quiet 64 (PwriteOp 0 (replicate 449 1)) ≡ true)
    × (is_quiet 64 (PwriteOp 1 (replicate 448 1)) ≡ true)
    × (is_quiet 64 (PwriteOp 4194303 (170 ∷ [])) ≡ false)
    × (is_quiet 64 (PwriteOp 4194303 (170 ∷ 187 ∷ [])) ≡ true)
    × (is_quiet 64 (AppendOp []) ≡ false)
    × (is_quiet 64 (AppendOp (replicate 385 1)) ≡ false)
    × (is_quiet 64 (AppendOp (replicate 386 1)) ≡ true)
    × (is_quiet 64 SizeOp ≡ false)
    × (refusal_at 64 1 448 (PwriteOp 0 (replicate 448 1)) ≡ None)
    × (refusal_at 64 1 448 (PwriteOp 0 (replicate 449 1)) ≡ Some (TooLong 8))
    × (refusal_at 64 1 448 (PwriteOp 1 (replicate 448 1)) ≡ Some (TooLong 8))
    × (refusal_at 64 1 1 (PwriteOp 4194303 (170 ∷ 187 ∷ [])) ≡ Some (TooLarge 4194305))
    × (refusal_at 64 1 4194304 (AppendOp (170 ∷ [])) ≡ Some (TooLarge 4194305))
    × (refusal_at 64 1099511627775 1 (PwriteOp 0 (170 ∷ [])) ≡ Some PositionLimit)
    × (refusal_at 64 1 1 SizeOp ≡ None)

-- what a seat replies: with this task, and with what contracts alone see of it
abbrev pub asked : Task → List ℕ → Seat
asked task bytes = record (reader []) { calling = record no_calling { job = task; bytes = bytes } }

abbrev pub lacked : List Area → Ghost
lacked areas = record no_ghost { call = record no_call { lacked = areas } }

abbrev pub RepliesFit : Type 0
RepliesFit =
    Fits no_ghost (asked Size []) SizeOp (FileSize 256)
    × (Fits no_ghost (asked Size []) SizeOp (FileSize 257) → ⊥)
    × Fits no_ghost (asked (Pread 0 2) (170 ∷ 0 ∷ [])) (PreadOp 0 2) (Bytes (170 ∷ 0 ∷ []))
    × (Fits no_ghost (asked (Pread 0 2) (170 ∷ [])) (PreadOp 0 2) (Bytes (170 ∷ [])) → ⊥)
    × Fits no_ghost (asked (Pread 300 2) []) (PreadOp 300 2) (Bytes [])
    × Fits no_ghost (asked Append []) (AppendOp []) (Appended 256 0)
    × Fits (lacked (Data ∷ [])) (asked Append (170 ∷ [])) (AppendOp (170 ∷ [])) (NotWritten (NoSpace Data))
    × (Fits (lacked (Log ∷ [])) (asked Append (170 ∷ [])) (AppendOp (170 ∷ [])) (NotWritten (NoSpace Data)) → ⊥)
    × (Fits (lacked []) (asked Append (170 ∷ [])) (AppendOp (170 ∷ [])) (Appended 256 1) → ⊥)
    × Fits no_ghost (asked Append (replicate 386 1)) (AppendOp (replicate 386 1)) (NotWritten (TooLong 8))
    × Fits no_ghost (asked Collect []) CollectOp (NotCollected Nothing)
    × (Fits (lacked (Spare ∷ [])) (asked Collect []) CollectOp (NotCollected NoSpareSpace) → ⊥)
    × (Fits no_ghost (asked Sync []) SyncOp (Synced 7) → ⊥)

-- a seat past its snapshot's position, at this generation, position and size
abbrev pub placed : Task → List ℕ → ℕ → ℕ → ℕ → Seat
placed task bytes generation position size = record (asked task bytes) {
  hold = record ((asked task bytes).hold) { generation = generation };
  walk = record ((asked task bytes).walk) { position = position; size = size };
}

abbrev pub with_won : Seat → Seat
with_won s = record s { calling = record (s.calling) { won = true } }

abbrev pub overtaken_by : ℕ → Ghost
overtaken_by generation = record no_ghost { call = record no_call { overtaken = generation } }

-- replies of collections that put no head in place, of a write that was put in, and of writes at the limits of position and size
abbrev pub LimitsFit : Type 0
LimitsFit =
    Fits (overtaken_by 3) (placed Collect [] 2 8 256) CollectOp (NotCollected (Overtaken 3))
    × (Fits (overtaken_by 2) (placed Collect [] 2 8 256) CollectOp (NotCollected (Overtaken 2)) → ⊥)
    × (Fits no_ghost (placed Collect [] 2 8 256) CollectOp (NotCollected (Overtaken 3)) → ⊥)
    × (Fits no_ghost (placed Collect [] 2 8 256) CollectOp (NotCollected Nothing) → ⊥)
    × Fits (lacked (Spare ∷ [])) (placed Collect [] 2 8 256) CollectOp (NotCollected NoSpareSpace)
    × (Fits (lacked (Log ∷ [])) (placed Collect [] 2 8 256) CollectOp (NotCollected NoSpareSpace) → ⊥)
    × Fits no_ghost (placed Collect [] 4294967295 8 256) CollectOp (NotCollected GenerationLimit)
    × (Fits no_ghost (placed Collect [] 4294967294 8 256) CollectOp (NotCollected GenerationLimit) → ⊥)
    × Fits no_ghost (with_won (placed Append (170 ∷ []) 2 8 256)) (AppendOp (170 ∷ [])) (Appended 255 1)
    × (Fits no_ghost (with_won (placed Append (170 ∷ []) 2 8 256)) (AppendOp (170 ∷ [])) (Appended 256 1) → ⊥)
    × Fits no_ghost (placed (Pwrite 0) (170 ∷ []) 2 1099511627775 256) (PwriteOp 0 (170 ∷ [])) (NotWritten PositionLimit)
    × Fits no_ghost (placed Append (170 ∷ []) 2 8 4194304) (AppendOp (170 ∷ [])) (NotWritten (TooLarge 4194305))
    × (Fits no_ghost (placed (Pwrite 0) [] 2 8 256) (PwriteOp 0 []) (Wrote 0) → ⊥)
