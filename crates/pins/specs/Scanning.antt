-- What a scan of the pins means.
use Rattle.std.specs.Prelude.{ℕ, ◌≡◌, ◌≢◌, ◌+◌, ◌-◌, ◌<◌, ◌≤◌, ◌&&◌, nat_lt, nat_le, Bool, true, false, length}
use Rattle.std.proofs.Common.{arith}
use Rattle.pmem_words.specs.Seats.{Seat}
use Rattle.pmem_words.specs.declared.TheConstants.{SEATS}
use Rattle.pmem_words.specs.Scripts.{After, Script, Lowers}
use Rattle.asks.specs.declared.ask.Ask.TheVariants.{Load}
use Rattle.asks.specs.declared.ask.Place.TheVariants.{Pin as PinWord}
use Rattle.pmem_words.specs.declared.machine.Turn.{Turn}
use Rattle.pmem_words.specs.declared.machine.Turn.TheVariants.{Go, Done}
use Rattle.pins.specs.declared.scan.Scan.{Scan}
use Rattle.pins.specs.declared.scan.Scanned.{Scanned}
use Rattle.pins.specs.declared.scan.Scanned.TheVariants.{Clear, Held}
use Rattle.pins.specs.Steps.{pin_found}

-- a scan that comes to the pin word of seat n
abbrev pub scan_at : ℕ → ℕ → Scan
scan_at generation n = record { generation = generation; next = n }

-- a scan that has not begun
abbrev pub scan_of : ℕ → Scan
scan_of generation = scan_at generation 0

-- whether a pin word may need the blocks of a generation: it is not 0, and at most the generation
abbrev pub needs : ℕ → ℕ → Bool
needs generation word = nat_lt 0 word && nat_le word generation

-- a seat is left, their numbers fit, and from the second on the words seen are those before it
pub record HasSeat (m : Scan) (s : Seat) : Type 0 where
  pub left : m.next < s.seats
  pub few : s.seats ≤ SEATS
  pub seen : m.next ≢ 0 → length s.giving.pins_seen ≡ m.next

-- after a pin word that needs nothing: on to the next seat, if one is left
abbrev pub if_left : Bool → Turn Scanned
if_left true = Go
if_left false = Done Clear

-- by whether the pin word of the seat at hand needs the blocks
abbrev pub scan_turn : Bool → Scan → Seat → ℕ → Turn Scanned
scan_turn true m s a = Done (Held (record { seat = m.next; generation = a }))
scan_turn false m s a = if_left (nat_lt (m.next + 1) s.seats)

abbrev pub scan_after : Scan → Seat → ℕ → After Scan Scanned
scan_after m s a = record {
  machine = record m { next = m.next + 1 };
  seat = pin_found s m.next a;
  turn = scan_turn (needs m.generation a) m s a;
}

abbrev pub scan_script : Script Scan Scanned
scan_script = record {
  asks = λ m s. Load (PinWord m.next);
  admits = λ m s a. HasSeat m s;
  after = scan_after;
  measure = λ m s. s.seats - m.next;
}

pub scan_lowers : Lowers scan_script
scan_lowers m s a h go = let left : m.next < s.seats = h.left in omega arith
