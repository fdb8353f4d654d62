-- Wrong cores that one clause alone refuses, and what a step would make of each without it.
use Rattle.std.specs.Prelude.{◌≡◌, true, false, List, [], ◌∷◌, slice_set, Some, None}
use Rattle.std.specs.List.{AllByRecursion}
use Rattle.log_entry.specs.declared.calls.Call.{Call}
use Rattle.log_entry.specs.declared.calls.CollectRefusal.TheVariants.{Overtaken}
use Rattle.log_entry.specs.declared.calls.Op.TheVariants.{Pwrite as PwriteOp, Append as AppendOp, Size as SizeOp}
use Rattle.log_entry.specs.declared.calls.Reply.TheVariants.{Appended, Size as FileSize, Collected, NotCollected}
use Rattle.asks.specs.declared.ask.Ask.TheVariants.{Exchange}
use Rattle.asks.specs.declared.ask.Place.TheVariants.{Image}
use Rattle.pmem_words.specs.declared.keeps.Task.TheVariants.{Append}
use Rattle.pmem_words.specs.Seats.{Seat}
use Rattle.persistence.specs.Memory.{cell}
use Rattle.log_core.specs.Views.{Ghost, view_of}
use Rattle.log_core.specs.Origin.{Origin, first_position}
use Rattle.log_core.specs.Files.{Write, entries, end_of, write_at, call_of, history_size_at}
use Rattle.log_core.specs.Cores.{Core, first_core}
use Rattle.log_core.specs.Steps.{Joins}
use Rattle.log_core.specs.After.{after}
use Rattle.log_core.specs.May.{MayExchangeHead}
use Rattle.log_core.specs.Runs.{MayJoin}
use Rattle.log_core.specs.Starts.{origin_of}
use Rattle.log_core.specs.Histories.{running_collection}
use Rattle.log_core.specs.Answers.{MayAdd}
use Rattle.log_core.specs.Sizes.{Sizes}
use Rattle.log_core.specs.Records.{WritesFit, WritesOnce, SeatsOnce, PutFits, RecordHolds, TailHolds}
use Rattle.log_core.specs.Writes.{HistoryHolds}
use Rattle.log_core.specs.Synced.{IsSynced}
use Rattle.log_core.specs.Invariant.{Syncs}
use Rattle.log_core.specs.worked_rows.Samples.{small, small_shape, image_a, stepping, walking}
use Rattle.log_core.specs.worked_rows.Rows.{pinned, racing, won, linked, to_first, first_call, first_write, collect_call, image_c}
use Rattle.log_core.specs.worked_rows.Refused.{seat_zero, with_past, right_snapshot, RecordsOf}

-- a call's first step counts as made where the end was 5, which there is not; and its seat walks to the tail
abbrev pub begun_past : Core
begun_past = record pinned { began = 5 ∷ 0 ∷ [] }

-- the tail is before that end then. That no call began past the end refuses it from the first
abbrev pub BegunPastEnd : Type 0
BegunPastEnd =
    ((seat_zero (walking image_a begun_past 0)).walk.at_tail ≡ true)
    × (end_of image_a begun_past.history ≡ 0)
    × (TailHolds (view_of (walking image_a begun_past 0).views 0) 5 → ⊥)
    × (RecordsOf begun_past → ⊥)

-- two views have each other's parts, and seat 0 puts its entry in
abbrev pub swapped : Core
swapped = record racing { views = record (view_of racing.views 0) { parts = 1 ∷ [] } ∷ record (view_of racing.views 1) { parts = 0 ∷ [] } ∷ [] }

abbrev pub swapped_won : Core
swapped_won = stepping image_a swapped 0 (Exchange (Image 27) 0 to_first) 1 [] []

-- the view has then the write of a seat that is none of its parts. That a view's own seat is among them refuses it from the first
abbrev pub PartsOfAnother : Type 0
PartsOfAnother =
    ((write_at image_a swapped_won.history 1).seat ≡ 0)
    × ((view_of swapped_won.views 0).parts ≡ 1 ∷ [])
    × (WritesOnce image_a swapped_won.history (view_of swapped_won.views 0) → ⊥)
    × (SeatsOnce swapped.history swapped.views → ⊥)

-- the view of seat 1 counts five seats made, and is joined into that of seat 0
abbrev pub counts_more : Core
counts_more = record (first_core image_a) { views = slice_set (first_core image_a).views 1 (record (view_of (first_core image_a).views 1) { made = 5 }) }

abbrev pub counts_joined : Core
counts_joined = after image_a counts_more (Joins 0 1)

-- seat 0 counts five then, of two. That no view counts more than are made refuses it from the first
abbrev pub MadeMore : Type 0
MadeMore =
    MayJoin counts_more 0 1
    × ((view_of counts_joined.views 0).made ≡ 5)
    × (Sizes image_a counts_joined.memory counts_joined.views counts_joined.began → ⊥)
    × (Sizes image_a counts_more.memory counts_more.views counts_more.began → ⊥)

-- a collection has found the third generation at the head, and there is one
abbrev pub overtaken_ghost : Ghost
overtaken_ghost = record ((view_of linked.views 0).ghost) { call = record ((view_of linked.views 0).ghost.call) { overtaken = 3 } }

-- its record would name it
abbrev pub OvertakenByNone : Type 0
OvertakenByNone =
    MayAdd overtaken_ghost (seat_zero linked) (collect_call (NotCollected (Overtaken 3)))
    × (RecordHolds image_a linked.history linked.generations (collect_call (NotCollected (Overtaken 3))) → ⊥)
    × (PutFits image_a linked.generations (record (view_of linked.views 0) { ghost = overtaken_ghost }) → ⊥)

-- of a start at position 3 the entries up to position 2 alone are synced, and a crash may leave 0 in the slot of the last one
abbrev pub synced_short : Core
synced_short = record (with_past (first_core image_c) (record { word = 35; value = 0 } ∷ [])) { synced = 2 }

-- what is synced is certain; the start's last entry is not
abbrev pub SyncedBeforeStart : Type 0
SyncedBeforeStart =
    (cell synced_short.memory 35 ≡ record { present = to_first; past = 0 ∷ []; floor = 0 })
    × IsSynced small_shape (λ word. cell synced_short.memory word) synced_short.generations synced_short.logs 0 2
    × (IsSynced small_shape (λ word. cell synced_short.memory word) synced_short.generations synced_short.logs 0 3 → ⊥)
    × (Syncs image_c synced_short.memory synced_short.views synced_short.history synced_short.generations synced_short.logs 2 → ⊥)

-- the history has a write that is none where it stands: an append at size 5 to the empty file; and its seat ends with its record
abbrev pub grown_write : List Write
grown_write = record first_write { op = AppendOp (170 ∷ []); at = 5 } ∷ []

abbrev pub appender : Seat
appender = record (seat_zero won) { calling = record ((seat_zero won).calling) { job = Append } }

abbrev pub append_call : Call
append_call = record first_call { op = AppendOp (170 ∷ []); reply = Appended 0 1 }

-- the record is not the history's
abbrev pub WriteOfAnotherSize : Type 0
WriteOfAnotherSize =
    MayAdd (view_of won.views 0).ghost appender append_call
    × (call_of 1 (write_at image_a grown_write 1) ≡ record append_call { reply = Appended 5 1 })
    × (WritesFit image_a grown_write (record (view_of won.views 0) { done = append_call ∷ [] }) → ⊥)
    × (HistoryHolds image_a grown_write → ⊥)

-- a write of five bytes whose entry gives the file one byte
abbrev pub longer_write : List Write
longer_write = record first_write { op = PwriteOp 0 (1 ∷ 2 ∷ 3 ∷ 4 ∷ 5 ∷ []) } ∷ []

-- a seat that has taken the entry in would tell that size, where no kept generation begins at or before its position
abbrev pub EntryOfAnotherSize : Type 0
EntryOfAnotherSize =
    (history_size_at image_a (entries image_a longer_write) 1 ≡ 1)
    × (RecordHolds image_a longer_write won.generations (record { position = 1; seat = 0; number = 2; op = SizeOp; reply = FileSize 1 }) → ⊥)
    × (HistoryHolds image_a longer_write → ⊥)

-- a start at position 2: its first log block is sealed after an entry, and the next one has another
abbrev pub two_logs : Origin
two_logs = origin_of small 2 1 (slice_set linked.memory.now.words 35 to_first) (27 ∷ []) (3 ∷ 4 ∷ []) (170 ∷ [])

-- a seat that has followed the link and not read on, with the snapshot at that position ready
abbrev pub behind : Seat
behind = record right_snapshot { walk = record (right_snapshot.walk) { at_tail = false } }

abbrev pub behind_collection : List Call
behind_collection = running_collection (record (view_of linked.views 0) { seat = behind }) (Some (record { generation = 2; base = 1; replaced = 1; limbo = 0 }))

-- its collection would stand before the start's position, where no history has it. That a head is put in place at the tail alone refuses it; all
-- else may be
abbrev pub HeadBeforeTail : Type 0
HeadBeforeTail =
    (first_position two_logs ≡ 2)
    × (behind.walk.position ≡ 1)
    × (behind_collection ≡ collect_call (Collected (record { generation = 2; freed = 1; kept = 0; held = None })) ∷ [])
    × AllByRecursion (λ (call : Call). RecordHolds two_logs [] (first_core two_logs).generations call → ⊥) behind_collection
    × (MayExchangeHead two_logs (first_core two_logs) (view_of linked.views 0).ghost behind 4294967299 8589934597 → ⊥)
    × MayExchangeHead two_logs (first_core two_logs) (view_of linked.views 0).ghost right_snapshot 4294967299 8589934597
