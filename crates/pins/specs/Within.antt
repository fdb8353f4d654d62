-- The machines of pins within a core: when each may run at a seat, and what it leaves of it, whatever other seats do meanwhile.
use Rattle.std.specs.Prelude.{ℕ, ◌+◌, ◌<◌, ◌≤◌, ◌≡◌, true, false, [], length, slice_index}
use Rattle.log_entry.specs.declared.calls.Held.{Held as HeldPin}
use Rattle.log_entry.specs.declared.words.Head.{Head}
use Rattle.pmem_words.specs.declared.keeps.Task.TheVariants.{Sync}
use Rattle.pmem_words.specs.declared.TheConstants.{SEATS}
use Rattle.pmem_words.specs.Seats.{Seat}
use Rattle.log_core.specs.Views.{Ghost}
use Rattle.log_core.specs.Origin.{Origin}
use Rattle.log_core.specs.Promising.{Promises}
use Rattle.log_core.specs.Alone.{IsAlone, LeftAlone}
use Rattle.asks.specs.SharedWords.{SharedWords}
use Rattle.pmem_words.specs.Courses.{over}
use Rattle.pmem_words.specs.Leads.{Leads}
use Rattle.pmem_words.specs.PlainWords.{plain}
use Rattle.pins.specs.declared.pin.Pin.TheVariants.{Begin}
use Rattle.pins.specs.declared.scan.Scanned.{Scanned}
use Rattle.pins.specs.declared.scan.Scanned.TheVariants.{Clear, Held}
use Rattle.pins.specs.Steps.{head_of, pin_stored, with_seen}
use Rattle.pins.specs.Endings.{pinned}
use Rattle.pins.specs.Pinning.{pin_script}
use Rattle.pins.specs.Unpinning.{unpin_of, unpin_script}
use Rattle.pins.specs.Scanning.{needs, scan_of, scan_script}

-- a seat may store its pin word: it has its number, and a sync has no marks
pub record MayPin (o : Origin) (seat : ℕ) (s : Seat) (g : Ghost) : Type 0 where
  pub number : s.number ≡ seat
  pub no_marks : s.calling.job ≡ Sync → g.marks ≡ []

-- the seat has a valid pin of the generation of the head found last, which is the outcome, and is else as before
pub record HasPinned (o : Origin) (seat : ℕ) (s0 : Seat) (g0 : Ghost) (out : Head) (s : Seat) (g : Ghost) : Type 0 where
  pub head : out ≡ head_of s.hold.head
  pub left : s ≡ pinned s0 s.hold.head
  pub ghost : g ≡ g0

abbrev pub PinsWithin : Type 0
PinsWithin = Promises pin_script MayPin HasPinned Begin

-- where no other seat makes a step, it does so over a memory of one caller that has the words of a core, and then has those of a core with the
-- same history
abbrev pub PinsAlone : Type 0
PinsAlone = (s : Seat) (p : SharedWords) (at : IsAlone MayPin s p) → Leads pin_script (over pin_script plain) (LeftAlone MayPin HasPinned s p at) Begin s p

-- the seat has no pin and keeps no word, and is else as before
pub record HasUnpinned (o : Origin) (seat : ℕ) (s0 : Seat) (g0 : Ghost) (out : Unit {0}) (s : Seat) (g : Ghost) : Type 0 where
  pub left : s ≡ pin_stored s0 0
  pub ghost : g ≡ g0

abbrev pub UnpinsWithin : Type 0
UnpinsWithin = Promises unpin_script MayPin HasUnpinned unpin_of

-- a seat may scan: it has its number and no pin, knows how many seats there are, and its last head outlasts a crash
pub record MayScan (o : Origin) (seat : ℕ) (s : Seat) (g : Ghost) : Type 0 where
  pub number : s.number ≡ seat
  pub seats : s.seats ≡ o.seats
  pub few : s.seats ≤ SEATS
  pub some : 0 < s.seats
  pub head_fenced : s.giving.head_fenced ≡ true
  pub unpinned : s.hold.pin ≡ 0

-- the seat has seen each seat's pin word, none of which needs the blocks; or as far as the first that does, which is the outcome with
-- what it held. It is else as before
pub record HasScanned (generation : ℕ) (o : Origin) (seat : ℕ) (s0 : Seat) (g0 : Ghost) (out : Scanned) (s : Seat) (g : Ghost) : Type 0 where
  pub clear : out ≡ Clear → (length s.giving.pins_seen ≡ o.seats) × ((k : ℕ) → k < o.seats → needs generation (slice_index s.giving.pins_seen k) ≡ false)
  pub held : (held : HeldPin) → out ≡ Held held →
      (length s.giving.pins_seen ≡ held.seat + 1) × (held.seat < o.seats) × (slice_index s.giving.pins_seen held.seat ≡ held.generation) × (needs generation held.generation ≡ true)
      × ((k : ℕ) → k < held.seat → needs generation (slice_index s.giving.pins_seen k) ≡ false)
  pub left : s ≡ with_seen s0 s.giving.pins_seen
  pub ghost : g ≡ g0

abbrev pub ScansWithin : Type 0
ScansWithin = (generation : ℕ) → Promises scan_script MayScan (HasScanned generation) (scan_of generation)
