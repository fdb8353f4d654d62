-- What offering a value means.
use Rattle.std.specs.Prelude.{◌≡◌, ◌+◌, ◌<◌, ◌==◌, Bool, true, false}
use Rattle.pmem_words.specs.Seats.{Seat}
use Rattle.pmem_words.specs.Scripts.{After, Script, Lowers}
use Rattle.asks.specs.declared.ask.Ask.TheVariants.{Exchange}
use Rattle.asks.specs.declared.ask.Place.TheVariants.{Image}
use Rattle.pmem_words.specs.declared.machine.Turn.TheVariants.{Go, Done}
use Rattle.sample_machines.specs.declared.offer.Offer.{Offer}

-- the seat with the next slot as its tail
abbrev pub next_slot : Seat → Seat
next_slot s = record s { walk = record s.walk { tail_slot = s.walk.tail_slot + 1 } }

abbrev pub offer_after_if : Bool → Offer → Seat → After Offer Bool
offer_after_if true m s = record { machine = m; seat = s; turn = Done true }
offer_after_if false m s = record { machine = m; seat = next_slot s; turn = Done false }

abbrev pub offer_script : Script Offer Bool
offer_script = record {
  asks = λ m s. Exchange (Image s.walk.tail_slot) 0 m.value;
  admits = λ m s a. s.walk.tail_slot + 1 < 65536;
  after = λ m s a. offer_after_if (a == 0) m s;
  measure = λ m s. 0;
}

-- it ends at its first answer
pub offer_ends : (b : Bool) (m : Offer) (s : Seat) → (offer_after_if b m s).turn ≡ Go → ⊥
offer_ends true m s go = cc
offer_ends false m s go = cc

pub offer_lowers : Lowers offer_script
offer_lowers m s a h go = absurd (offer_ends (a == 0) m s go)
