-- Calls that end with their records: a run of four of them, and records that no call may add.
use Rattle.std.specs.Prelude.{ℕ, ◌≡◌, ◌+◌, true, [], ◌∷◌, None}
use Rattle.log_entry.specs.declared.calls.Call.{Call}
use Rattle.log_entry.specs.declared.calls.CollectRefusal.TheVariants.{Nothing}
use Rattle.log_entry.specs.declared.calls.Op.{Op}
use Rattle.log_entry.specs.declared.calls.Op.TheVariants.{Pwrite as PwriteOp, Append as AppendOp, Pread as PreadOp, Size as SizeOp, Collect as CollectOp}
use Rattle.log_entry.specs.declared.calls.Reply.{Reply}
use Rattle.log_entry.specs.declared.calls.Reply.TheVariants.{Wrote, Appended, Bytes, Size as FileSize, NotCollected}
use Rattle.pmem_words.specs.declared.keeps.Task.{Task}
use Rattle.pmem_words.specs.declared.keeps.Task.TheVariants.{Append, Pread, Size, Collect}
use Rattle.pmem_words.specs.Seats.{Seat, no_calling}
use Rattle.asks.specs.declared.ask.Ask.TheVariants.{Load}
use Rattle.asks.specs.declared.ask.Place.TheVariants.{Image}
use Rattle.log_core.specs.Views.{view_of, no_ghost, op_in}
use Rattle.log_core.specs.Origin.{start_generation, first_generation}
use Rattle.log_core.specs.Files.{entries}
use Rattle.log_core.specs.Cores.{Core, first_core, current, head_floor}
use Rattle.log_core.specs.Works.{Begins, StartsFromLog, KeepsReplaced, MayWork, state_after_work}
use Rattle.log_core.specs.Steps.{Step}
use Rattle.log_core.specs.After.{after}
use Rattle.log_core.specs.Runs.{Allowed, IsReached}
use Rattle.log_core.specs.Answers.{Fits, MayAdd}
use Rattle.log_core.specs.Giving.{GivingHolds}
use Rattle.log_core.specs.Records.{RecordHolds, WritesFit}
use Rattle.log_core.specs.Invariant.{Invariant, names_by}
use Rattle.log_core.specs.worked_rows.Samples.{image_a, step_of, stepping, pinning}
use Rattle.log_core.specs.worked_rows.Rows.{racing, collected, head_sure}
use Rattle.log_core.specs.worked_rows.Refused.{seat_zero}
use Rattle.log_core.specs.worked_rows.CallGaps.{image_e, early_writer}

-- seat 0 asks the size of an empty file, pins, and reads the front of its chain
abbrev pub size_asked : Core
size_asked = stepping image_a (pinning image_a (first_core image_a) 0 Size [] 1) 0 (Load (Image 25)) 1 [] []

-- the record of a call of seat 0 at position 0
abbrev pub call_of_zero : ℕ → Op → Reply → Call
call_of_zero number op reply = record { position = 0; seat = 0; number = number; op = op; reply = reply }

-- it walks from there, finds its tail, and ends with this record
abbrev pub size_step : Reply → Step
size_step reply = step_of image_a size_asked 0 (Load (Image 27)) 1 (StartsFromLog ∷ []) [] (call_of_zero 1 SizeOp reply ∷ [])

abbrev pub size_told : Core
size_told = after image_a size_asked (size_step (FileSize 0))

-- a later call finds the tail with its first step, and ends with that
abbrev pub call_step : Core → ℕ → Task → Op → Reply → Step
call_step c number task op reply = step_of image_a c 0 (Load (Image 27)) number (Begins task [] ∷ []) [] (call_of_zero number op reply ∷ [])

abbrev pub append_told : Core
append_told = after image_a size_told (call_step size_told 2 Append (AppendOp []) (Appended 0 0))

abbrev pub collect_told : Core
collect_told = after image_a append_told (call_step append_told 3 Collect CollectOp (NotCollected Nothing))

abbrev pub read_told : Core
read_told = after image_a collect_told (call_step collect_told 4 (Pread 0 4) (PreadOp 0 4) (Bytes []))

-- a run leads to the end of a size, an append of no bytes, a collection with nothing to do and a read; so the invariant holds there. No
-- other size may be told
abbrev pub CallsEnd : Type 0
CallsEnd =
    IsReached image_a read_told
    × Invariant image_a read_told
    × ((view_of read_told.views 0).done
    ≡ call_of_zero 1 SizeOp (FileSize 0) ∷ call_of_zero 2 (AppendOp []) (Appended 0 0) ∷ call_of_zero 3 CollectOp (NotCollected Nothing) ∷ call_of_zero 4 (PreadOp 0 4) (Bytes []) ∷ [])
    × (op_in (view_of read_told.views 0).seat ≡ None)
    × ((view_of read_told.views 0).ghost.call.number ≡ 4)
    × (Allowed image_a size_asked (size_step (FileSize 1)) → ⊥)

-- a write that has put in no entry may not be recorded as accepted: the history has none of its position
abbrev pub unwon_call : Call
unwon_call = call_of_zero 1 (PwriteOp 0 (170 ∷ [])) (Wrote 1)

abbrev pub WriteNotPut : Type 0
WriteNotPut =
    (MayAdd (view_of racing.views 0).ghost (seat_zero racing) unwon_call → ⊥)
    × (WritesFit image_a racing.history (record (view_of racing.views 0) { done = unwon_call ∷ [] }) → ⊥)

-- a seat that asks the size stands before an entry of the start's, with the size there
abbrev pub early_sizer : Seat
early_sizer = record early_writer { calling = record no_calling { job = Size } }

abbrev pub early_call : Call
early_call = record { position = 1; seat = 0; number = 0; op = SizeOp; reply = FileSize 1 }

-- the reply fits its walk, which is ready; but not at its tail it adds no record, and no record is from before the start's position
abbrev pub SizeBeforeTail : Type 0
SizeBeforeTail =
    Fits no_ghost early_sizer SizeOp (FileSize 1)
    × (early_sizer.walk.ready ≡ true)
    × (MayAdd no_ghost early_sizer early_call → ⊥)
    × (RecordHolds image_e [] (start_generation image_e ∷ []) early_call → ⊥)

-- what a collection replaced is kept for later
abbrev pub kept_at_once : Core → Seat
kept_at_once c = state_after_work (seat_zero c) KeepsReplaced

abbrev pub LimboHolds : Core → Type 0
LimboHolds c =
    GivingHolds (names_by image_a c.logs (entries image_a c.history) c.generations) (current image_a c.generations) (first_generation image_a + head_floor c.memory) (kept_at_once c).giving

-- not before its head outlasts a crash: a crash may leave the older head, which needs those blocks
abbrev pub KeptTooEarly : Type 0
KeptTooEarly =
    (MayWork (view_of collected.views 0).ghost (seat_zero collected) KeepsReplaced → ⊥)
    × (LimboHolds collected → ⊥)
    × MayWork (view_of head_sure.views 0).ghost (seat_zero head_sure) KeepsReplaced
    × ((kept_at_once head_sure).giving.limbo ≡ 3 ∷ [])
    × ((kept_at_once head_sure).giving.limbo_generation ≡ 1)
