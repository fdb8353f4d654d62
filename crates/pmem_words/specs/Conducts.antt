-- What a memory means.
use Rattle.std.specs.Prelude.{ℕ}
use Rattle.asks.specs.declared.ask.Ask.{Ask}
use Rattle.pmem_words.specs.Seats.{Seat}

-- which asks of a seat in this state a memory takes now, and which memory before, state, ask, answer and memory after belong together
pub record Conduct (W : Type 0) : Type 1 where
  pub takes : W → Seat → Ask → Type 0
  pub step : W → Seat → Ask → ℕ → W → Type 0
