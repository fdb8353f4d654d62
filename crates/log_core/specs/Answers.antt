-- The record that a call's last step adds: what each reply says of the seat's state, and of what contracts alone see of it.
use Rattle.std.specs.Prelude.{ℕ, ◌+◌, ◌-◌, ◌^◌, ◌<◌, ◌≡◌, ◌≢◌, ◌⊎◌, min, Bool, true, false, List, [], ◌∷◌, length, Option, Some, None}
use Rattle.std.specs.List.{list_any, list_all}
use Rattle.log_entry.specs.declared.shapes.Area.{Area}
use Rattle.log_entry.specs.declared.shapes.Area.TheVariants.{Data, Log, Spare}
use Rattle.log_entry.specs.declared.calls.Op.{Op}
use Rattle.log_entry.specs.declared.calls.Op.TheVariants.{Pwrite, Append, Pread, Size, Sync, Collect}
use Rattle.log_entry.specs.declared.calls.WriteRefusal.{WriteRefusal}
use Rattle.log_entry.specs.declared.calls.WriteRefusal.TheVariants.{NoSpace}
use Rattle.log_entry.specs.declared.calls.CollectRefusal.{CollectRefusal}
use Rattle.log_entry.specs.declared.calls.CollectRefusal.TheVariants.{Nothing, NoSpace as NoSpareSpace, Overtaken, GenerationLimit}
use Rattle.log_entry.specs.declared.calls.Held.{Held}
use Rattle.log_entry.specs.declared.calls.Collected.{Collected as CollectedBlocks}
use Rattle.log_entry.specs.declared.calls.Reply.{Reply}
use Rattle.log_entry.specs.declared.calls.Reply.TheVariants.{Wrote, Appended, NotWritten, Bytes, Size as FileSize, Synced, Collected, NotCollected}
use Rattle.log_entry.specs.declared.calls.Call.{Call}
use Rattle.pmem_words.specs.Seats.{Seat}
use Rattle.log_core.specs.Views.{Ghost, HeadPut, op_in}
use Rattle.log_core.specs.Works.{Computes, IsHeldPin, is_going_on, ended}
use Rattle.log_core.specs.Needs.{is_area}
use Rattle.log_core.specs.May.{refusal_at}

-- the call has found that it lacks blocks of an area, and that all of the area's are taken
abbrev pub HasLacked : Ghost → Area → Type 0
HasLacked g area = list_any (λ (other : Area). is_area other area) g.call.lacked ≡ true

-- a write of at least one byte: accepted where its entry was put in; else refused by the first cause there is, or for want of space
abbrev pub FitsWrite : Ghost → Bool → Option WriteRefusal → Reply → Reply → Type 0
FitsWrite g true why accepted reply = reply ≡ accepted
FitsWrite g false (Some why) accepted reply = reply ≡ NotWritten why
FitsWrite g false None accepted reply = ((reply ≡ NotWritten (NoSpace Data)) × HasLacked g Data) ⊎ ((reply ≡ NotWritten (NoSpace Log)) × HasLacked g Log)

-- a pin is named exactly where blocks were kept: that of another seat, which a scan after the exchange found at a generation that
-- needs them
abbrev pub FitsHeld : Seat → ℕ → Option Held → Type 0
FitsHeld s kept None = kept ≡ 0
FitsHeld s kept (Some pin) = (0 < kept) × IsHeldPin s s.giving.replaced_generation pin

-- a collection that put a head in place: each block that it replaced was given back, or each was kept for later
pub record FitsCollected (g : Ghost) (s : Seat) (collected : CollectedBlocks) : Type 0 where
  pub put : HeadPut
  pub put_is : g.call.put ≡ Some put
  pub generation : collected.generation ≡ put.generation
  pub none_left : s.giving.replaced ≡ []
  pub all : collected.freed + collected.kept ≡ put.replaced
  pub one : (collected.freed ≡ 0) ⊎ (collected.kept ≡ 0)
  pub limbo : length s.giving.limbo ≡ put.limbo + collected.kept
  pub held : FitsHeld s collected.kept collected.held

-- a collection that put none: by the first cause there is
abbrev pub FitsNotCollected : Ghost → Seat → CollectRefusal → Type 0
FitsNotCollected g s Nothing = s.walk.position ≡ s.walk.snapshot_base
FitsNotCollected g s GenerationLimit = (s.walk.position ≢ s.walk.snapshot_base) × (s.hold.generation ≡ 2 ^ 32 - 1)
FitsNotCollected g s NoSpareSpace = (s.walk.position ≢ s.walk.snapshot_base) × (s.hold.generation ≢ 2 ^ 32 - 1) × HasLacked g Spare
FitsNotCollected g s (Overtaken generation) =
    (s.walk.position ≢ s.walk.snapshot_base) × (s.hold.generation < generation) × (g.call.overtaken ≡ generation)

abbrev pub FitsCollect : Ghost → Seat → Reply → Type 0
FitsCollect g s (Collected collected) = FitsCollected g s collected
FitsCollect g s (NotCollected why) = (g.call.put ≡ None) × (s.walk.ready ≡ true) × FitsNotCollected g s why
FitsCollect g s _ = ⊥

-- what a reply says
abbrev pub Fits : Ghost → Seat → Op → Reply → Type 0
Fits g s (Pwrite offset []) reply = ⊥
Fits g s (Pwrite offset (byte ∷ bytes)) reply =
    FitsWrite g s.calling.won (refusal_at s.geometry.block_bytes s.walk.position s.walk.size (Pwrite offset (byte ∷ bytes))) (Wrote (length (byte ∷ bytes))) reply
Fits g s (Append []) reply = reply ≡ Appended s.walk.size 0
Fits g s (Append (byte ∷ bytes)) reply =
    FitsWrite g s.calling.won (refusal_at s.geometry.block_bytes s.walk.position s.walk.size (Append (byte ∷ bytes)))
    (Appended (s.walk.size - length (byte ∷ bytes)) (length (byte ∷ bytes))) reply
Fits g s (Pread offset count) reply = (reply ≡ Bytes s.calling.bytes) × (length s.calling.bytes ≡ min count (s.walk.size - offset))
Fits g s Size reply = reply ≡ FileSize s.walk.size
Fits g s Sync reply = (reply ≡ Synced s.walk.position) × (s.calling.sync_to ≡ Some s.walk.position)
Fits g s Collect reply = FitsCollect g s reply

-- a record: of the seat's running call, at the position of a view that is at its tail
pub record MayAdd (g : Ghost) (s : Seat) (call : Call) : Type 0 where
  pub at_tail : s.walk.at_tail ≡ true
  pub position : call.position ≡ s.walk.position
  pub seat : call.seat ≡ s.number
  pub number : call.number ≡ g.call.number
  pub op : op_in s ≡ Some call.op
  pub fits : Fits g s call.op call.reply

-- a step adds one record at most
abbrev pub MayAddAll : Ghost → Seat → List Call → Type 0
MayAddAll g s [] = Unit {0}
MayAddAll g s (call ∷ []) = MayAdd g s call
MayAddAll g s (call ∷ other ∷ calls) = ⊥

-- what enters the view after a step that left this state: the call computes, and goes on or ends with its record. Another call begins
-- with its own first step
pub record Enters (g : Ghost) (e t : Seat) (adds : List Call) : Type 0 where
  pub last : Seat
  pub computed : Computes g e last
  pub going_on : list_all is_going_on computed.works ≡ true
  pub adds_are : MayAddAll g last adds
  pub seat_is : t ≡ ended adds last
