-- What carrying words means.
use Rattle.std.specs.Prelude.{ℕ, ◌+◌, ◌-◌, ◌*◌, ◌<◌, nat_lt, Option, None, Some}
use Rattle.std.proofs.Common.{arith}
use Rattle.pmem_words.specs.Seats.{Seat}
use Rattle.pmem_words.specs.Scripts.{After, Script, Lowers}
use Rattle.asks.specs.declared.ask.Ask.{Ask}
use Rattle.asks.specs.declared.ask.Ask.TheVariants.{Load, Store}
use Rattle.asks.specs.declared.ask.Place.TheVariants.{Image}
use Rattle.pmem_words.specs.declared.machine.Turn.TheVariants.{Go}
use Rattle.sample_machines.specs.Laying.{if_more}
use Rattle.sample_machines.specs.declared.carry.Carry.{Carry}

-- it loads a word, or stores the one that it holds
abbrev pub carry_asks_at : Carry → Option ℕ → Ask
carry_asks_at m None = Load (Image (m.from + m.next))
carry_asks_at m (Some word) = Store (Image (m.to + m.next)) word

-- a word is left, and the places of all fit their type
pub record HasWordLeft (m : Carry) : Type 0 where
  pub left : m.next < m.count
  pub few : m.count < 65536

-- it holds the word that it loaded, or goes to the next one
abbrev pub carry_after_at : Carry → Seat → ℕ → Option ℕ → After Carry (Unit {0})
carry_after_at m s a None = record { machine = record m { held = Some a }; seat = s; turn = Go }
carry_after_at m s a (Some word) = record { machine = record m { held = None; next = m.next + 1 }; seat = s; turn = if_more (nat_lt (m.next + 1) m.count) }

-- the steps that are left
abbrev pub carry_steps : ℕ → Option ℕ → ℕ
carry_steps left None = 2 * left
carry_steps left (Some word) = 2 * left - 1

abbrev pub carry_script : Script Carry (Unit {0})
carry_script = record {
  asks = λ m s. carry_asks_at m m.held;
  admits = λ m s a. HasWordLeft m;
  after = λ m s a. carry_after_at m s a m.held;
  measure = λ m s. carry_steps (m.count - m.next) m.held;
}

pub fewer_steps : (m : Carry) (s : Seat) (a : ℕ) (held : Option ℕ) → m.next < m.count
    → carry_steps ((carry_after_at m s a held).machine.count - (carry_after_at m s a held).machine.next) (carry_after_at m s a held).machine.held < carry_steps (m.count - m.next) held
fewer_steps m s a None left = omega arith
fewer_steps m s a (Some word) left = omega arith

pub carry_lowers : Lowers carry_script
carry_lowers m s a h go = fewer_steps m s a m.held h.left
