-- What a machine means.
use Rattle.std.specs.Prelude.{ℕ, ◌<◌, ◌≡◌}
use Rattle.pmem_words.specs.Seats.{Seat}
use Rattle.asks.specs.declared.ask.Ask.{Ask}
use Rattle.pmem_words.specs.declared.machine.Turn.{Turn}
use Rattle.pmem_words.specs.declared.machine.Turn.TheVariants.{Go}

-- a machine, a seat and the turn after an answer
pub record After (M Out : Type 0) : Type 0 where
  pub machine : M
  pub seat : Seat
  pub turn : Turn Out

-- a machine's present ask, which answers it admits to that, what is after each of them, and what each of them lowers
pub record Script (M Out : Type 0) : Type 1 where
  pub asks : M → Seat → Ask
  pub admits : M → Seat → ℕ → Type 0
  pub after : M → Seat → ℕ → After M Out
  pub measure : M → Seat → ℕ

-- the law of the measure: each admitted answer after which the machine goes on lowers it
abbrev pub Lowers : {M Out : Type 0} → Script M Out → Type 0
Lowers {M} {Out} script =
    (m : M) (s : Seat) (a : ℕ) → script.admits m s a → (script.after m s a).turn ≡ Go
    → script.measure (script.after m s a).machine (script.after m s a).seat < script.measure m s
