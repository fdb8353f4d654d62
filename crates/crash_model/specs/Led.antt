-- Seats of a world: at rest, or each in the middle of a machine that leads to its end within a core.
use Rattle.std.specs.Prelude.{ℕ, ◌<◌, ◌+◌, ◌≡◌, ◌≢◌, false, length, List, [], Some, None}
use Rattle.log_entry.specs.declared.calls.Op.{Op}
use Rattle.log_entry.specs.declared.calls.Call.{Call}
use Rattle.pmem_words.specs.declared.keeps.Task.{Task}
use Rattle.pmem_words.specs.Seats.{Seat}
use Rattle.pmem_words.specs.Scripts.{Script}
use Rattle.pmem_words.specs.Leads.{Leads}
use Rattle.persistence.specs.Memory.{pending_of}
use Rattle.log_core.specs.Views.{View, Ghost, view_of, op_in, op_of}
use Rattle.log_core.specs.Origin.{Origin}
use Rattle.log_core.specs.Cores.{Core}
use Rattle.log_core.specs.Works.{Computes, laid_bytes, is_quiet}
use Rattle.log_core.specs.Within.{within}
use Rattle.log_core.specs.Promising.{EndCondition}
use Rattle.crash_model.specs.Worlds.{WorldNow, StandsForCore, seat_of}

-- a view that is not spent is computed on to this state
pub record IsComputed (v : View) (s : Seat) : Type 0 where
  pub unspent : v.parts ≢ []
  pub begins : Computes v.ghost v.seat s

-- what holds of a seat, of its state and its view, in a run from a start
abbrev pub Held : Type 1
Held = Origin → ℕ → Seat → View → Type 0

-- a seat is at rest: its state is what it has computed since its last step
abbrev pub Rests : Held
Rests o seat s v = IsComputed v s

-- it is in the middle of a machine, which leads from there to its end. The number is its present call's
pub record Runs {M Out : Type 0} (script : Script M Out) (rec : Out → Seat → List Call) (Q : Out → Seat → View → Type 0) (m : M) (o : Origin) (seat : ℕ) (s : Seat) (v : View) : Type 0 where
  pub number : ℕ
  pub leads : Leads script (within o seat number script rec) Q m s v

-- its machine has ended so
abbrev pub Ended : {Out : Type 0} → (Out → Seat → View → Type 0) → Out → Held
Ended Q out o seat s v = Q out s v

-- a seat is made in a core, and this holds of its state and its view
pub record IsIn (G : Held) (w : WorldNow) (o : Origin) (c : Core) (seat : ℕ) : Type 0 where
  pub made : seat < length c.views
  pub holds : G o seat (seat_of w seat) (view_of c.views seat)

-- in a core that the world stands for G holds of the seat at hand, and F of each other: each may be in the middle of a machine of its own
pub record AmongIn (F : Held) (seat : ℕ) (G : Held) (w : WorldNow) (o : Origin) (c : Core) : Type 0 where
  pub stands : StandsForCore w o c
  pub here : IsIn G w o c seat
  pub others : (other : ℕ) → other ≢ seat → other < length w.seats → IsIn F w o c other

abbrev pub IsAmong : Held → ℕ → Held → WorldNow → Type 0
IsAmong F seat G w = ∥ ((o : Origin) × (c : Core) × AmongIn F seat G w o c) ∥₁

-- in a core that the world stands for F holds of each seat
pub record EachIn (F : Held) (w : WorldNow) (o : Origin) (c : Core) : Type 0 where
  pub stands : StandsForCore w o c
  pub seats : (seat : ℕ) → seat < length w.seats → IsIn F w o c seat

abbrev pub IsEach : Held → WorldNow → Type 0
IsEach F w = ∥ ((o : Origin) × (c : Core) × EachIn F w o c) ∥₁

-- each seat is at rest; or each but one, which is in the middle of a machine, or has ended one so
abbrev pub IsResting : WorldNow → Type 0
IsResting w = IsEach Rests w

abbrev pub IsLed : {M Out : Type 0} → ℕ → Script M Out → (Out → Seat → List Call) → (Out → Seat → View → Type 0) → M → WorldNow → Type 0
IsLed seat script rec Q m w = IsAmong Rests seat (Runs script rec Q m) w

abbrev pub HasEndedInWorld : {Out : Type 0} → ℕ → (Out → Seat → View → Type 0) → Out → WorldNow → Type 0
HasEndedInWorld seat Q out w = IsAmong Rests seat (Ended Q out) w

-- each mark of a seat was followed by a fence of it
abbrev pub HasNoMarks : WorldNow → ℕ → Type 0
HasNoMarks w seat = pending_of seat w.cells.memory.pending ≡ []

-- a seat at rest may begin a task: it runs no call and has no marks; a read has no bytes, and a call makes steps
pub record MayBeginAt (w : WorldNow) (seat : ℕ) (task : Task) (bytes : List ℕ) : Type 0 where
  pub none_runs : op_in (seat_of w seat) ≡ None
  pub no_marks : HasNoMarks w seat
  pub none_laid : laid_bytes task bytes ≡ []
  pub steps : (op : Op) → op_of task bytes ≡ Some op → is_quiet (seat_of w seat).geometry.block_bytes op ≡ false

-- a machine has left the seat a state that is computed from its view's
pub record HasLeft {Out : Type 0} (out : Out) (t : Seat) (v : View) : Type 0 where
  pub unspent : v.parts ≢ []
  pub begins : Computes v.ghost v.seat t

-- and R holds there of that state, with what contracts alone see at the view, since some state with what they saw then
pub record HasEndedAs {Out : Type 0} (R : EndCondition Out) (seat : ℕ) (from : Seat) (out : Out) (t : Seat) (v : View) : Type 0 where
  pub origin : Origin
  pub ghost : Ghost
  pub left : HasLeft out t v
  pub ends : R origin seat from ghost out t v.ghost

-- a turn of a seat leaves the other seats and their marks, takes room for one step, and keeps what May says of the seat by its number
pub record IsTurnOf (May : ℕ → Seat → Type 0) (w v : WorldNow) (seat : ℕ) : Type 0 where
  pub many : length v.seats ≡ length w.seats
  pub room : v.cells.room + 1 ≡ w.cells.room
  pub others : (other : ℕ) → other ≢ seat → seat_of v other ≡ seat_of w other
  pub marks : (other : ℕ) → other ≢ seat → pending_of other v.cells.memory.pending ≡ pending_of other w.cells.memory.pending
  pub may : May seat (seat_of w seat) → May seat (seat_of v seat)
