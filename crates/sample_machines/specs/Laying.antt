-- What laying bytes means.
use Rattle.std.specs.Prelude.{ℕ, ◌+◌, ◌-◌, ◌<◌, nat_lt, Bool, true, false, length, slice_index}
use Rattle.std.proofs.Common.{arith}
use Rattle.pmem_words.specs.Seats.{Seat}
use Rattle.pmem_words.specs.Scripts.{After, Script, Lowers}
use Rattle.asks.specs.declared.ask.Ask.{Ask}
use Rattle.asks.specs.declared.ask.Ask.TheVariants.{Store}
use Rattle.asks.specs.declared.ask.Place.TheVariants.{Image}
use Rattle.pmem_words.specs.declared.machine.Turn.{Turn}
use Rattle.pmem_words.specs.declared.machine.Turn.TheVariants.{Go, Done}
use Rattle.sample_machines.specs.declared.lay.Lay.{Lay}

abbrev pub lay_asks : Lay → Seat → Ask
lay_asks m s = Store (Image (m.first + m.next)) (slice_index s.calling.bytes m.next)

-- a byte is left, and the places of all fit their type
pub record HasByte (m : Lay) (s : Seat) : Type 0 where
  pub left : m.next < length s.calling.bytes
  pub few : length s.calling.bytes < 65536

abbrev pub if_more : Bool → Turn (Unit {0})
if_more true = Go
if_more false = Done tt

abbrev pub lay_after : Lay → Seat → ℕ → After Lay (Unit {0})
lay_after m s a = record { machine = record m { next = m.next + 1 }; seat = s; turn = if_more (nat_lt (m.next + 1) (length s.calling.bytes)) }

abbrev pub lay_script : Script Lay (Unit {0})
lay_script = record {
  asks = lay_asks;
  admits = λ m s a. HasByte m s;
  after = lay_after;
  measure = λ m s. length s.calling.bytes - m.next;
}

pub lay_lowers : Lowers lay_script
lay_lowers m s a h go = let left : m.next < length s.calling.bytes = h.left in omega arith
