-- What the invariant says of one seat: what its state is to the core. The generation of a valid pin is the present one, or the view
-- had it pinned.
use Rattle.std.specs.Prelude.{ℕ, ◌+◌, ◌≡◌, ◌≢◌, ◌⊎◌, true, [], length}
use Rattle.pmem_words.specs.Seats.{Seat}
use Rattle.persistence.specs.Memory.{cell}
use Rattle.log_core.specs.Entries.{head_place}
use Rattle.log_core.specs.Views.{View, Ghost, view_of}
use Rattle.log_core.specs.Origin.{Origin, q_of_origin, first_generation}
use Rattle.log_core.specs.Files.{entries}
use Rattle.log_core.specs.Cores.{Core, current, head_floor, IsPinned}
use Rattle.log_core.specs.Sizes.{SeatFits}
use Rattle.log_core.specs.Owners.{SeatOwns}
use Rattle.log_core.specs.Pins.{PinHolds}
use Rattle.log_core.specs.Walks.{WalkHolds}
use Rattle.log_core.specs.Noted.{NotedBy}
use Rattle.log_core.specs.Owned.{OwnedHold}
use Rattle.log_core.specs.Giving.{GivingHolds, ScanHolds}
use Rattle.log_core.specs.Records.{WritesFit, WritesOnce, PutFits, CallHolds, TailHolds, MarksFit}
use Rattle.log_core.specs.Synced.{SyncHolds}
use Rattle.log_core.specs.Invariant.{around, names_by}

-- a view with another state of its seat
abbrev pub with_seat : View → Seat → Ghost → View
with_seat v s g = record v { seat = s; ghost = g }

-- what a core says of a seat's state at a place, with what contracts alone see of it, the seat's pin word, and the end at its call's
-- first step
pub record Knows (o : Origin) (c : Core) (n : ℕ) (s : Seat) (g : Ghost) (pin began : ℕ) : Type 0 where
  pub fits : (view_of c.views n).parts ≢ [] → SeatFits o n (with_seat (view_of c.views n) s g)
  pub kept : (place : ℕ) → s.hold.valid ≡ true → s.hold.generation ≡ first_generation o + place → (place + 1 ≡ length c.generations) ⊎ IsPinned o c.views place
  pub owns : SeatOwns c.owner n s
  pub pin_is : pin ≡ s.hold.pin
  pub pin_holds : PinHolds (first_generation o) (current o c.generations) (cell c.memory head_place) s.hold
  pub walk : (view_of c.views n).parts ≢ [] → WalkHolds (around o c) s.hold s.walk
  pub noted : (view_of c.views n).parts ≢ [] → NotedBy (around o c) s
  pub owned : OwnedHold (λ word. cell c.memory word) c.memory.past c.memory.pending n g s
  pub giving : GivingHolds (names_by o c.logs (entries o c.history) c.generations) (current o c.generations) (first_generation o + head_floor c.memory) s.giving
  pub scan_others : (k : ℕ) → k ≢ n → ScanHolds s.giving k (view_of c.views k).seat.hold
  pub scan_self : ScanHolds s.giving n s.hold
  pub scanned : (k : ℕ) → k ≢ n → ScanHolds (view_of c.views k).seat.giving n s.hold
  pub writes : WritesFit o c.history (with_seat (view_of c.views n) s g)
  pub writes_once : WritesOnce o c.history (with_seat (view_of c.views n) s g)
  pub put : PutFits o c.generations (with_seat (view_of c.views n) s g)
  pub same_put : g.call.put ≡ (view_of c.views n).ghost.call.put
  pub calls : CallHolds o c.history (with_seat (view_of c.views n) s g)
  pub tail : TailHolds (with_seat (view_of c.views n) s g) began
  pub marks : MarksFit (λ word. cell c.memory word) c.memory.past c.memory.pending n (with_seat (view_of c.views n) s g)
  pub syncs : SyncHolds (q_of_origin o) (names_by o c.logs (entries o c.history) c.generations) (λ word. cell c.memory word) c.memory.past c.memory.pending c.synced n (with_seat (view_of c.views n) s g)
