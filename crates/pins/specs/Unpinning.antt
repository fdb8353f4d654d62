-- What giving a pin up means.
use Rattle.std.specs.Prelude.{ℕ, ◌≡◌}
use Rattle.pmem_words.specs.Seats.{Seat}
use Rattle.pmem_words.specs.Scripts.{Script, Lowers}
use Rattle.asks.specs.declared.ask.Ask.TheVariants.{Store}
use Rattle.asks.specs.declared.ask.Place.TheVariants.{Pin as PinWord}
use Rattle.pmem_words.specs.declared.machine.Turn.TheVariants.{Go, Done}
use Rattle.pins.specs.declared.unpin.Unpin.{Unpin}
use Rattle.pins.specs.Steps.{pin_stored}

abbrev pub unpin_of : Unpin
unpin_of = record {}

abbrev pub unpin_script : Script Unpin (Unit {0})
unpin_script = record {
  asks = λ m s. Store (PinWord s.number) 0;
  admits = λ m s a. Unit {0};
  after = λ m s a. record { machine = m; seat = pin_stored s 0; turn = Done tt };
  measure = λ m s. 0;
}

-- it ends at its first answer
pub unpin_ends : (m : Unpin) (s : Seat) (a : ℕ) → (unpin_script.after m s a).turn ≡ Go → ⊥
unpin_ends m s a go = cc

pub unpin_lowers : Lowers unpin_script
unpin_lowers m s a h go = absurd (unpin_ends m s a go)
