-- A memory of one caller, as contracts see it.
use Rattle.std.specs.Prelude.{ℕ, ◌^◌, ◌<◌, ◌≡◌}
use Rattle.asks.specs.SharedWords.{SharedWords, TakesAsk, answer_of, words_after}
use Rattle.asks.specs.declared.ask.Ask.{Ask}
use Rattle.pmem_words.specs.Conducts.{Conduct}
use Rattle.pmem_words.specs.declared.TheConstants.{SEATS}

-- the asks that it takes
abbrev pub plain_takes : SharedWords → Ask → Type 0
plain_takes p ask = TakesAsk SEATS p ask

-- one answer and one memory after an ask
pub record PlainStep (p : SharedWords) (ask : Ask) (a : ℕ) (q : SharedWords) : Type 0 where
  pub answered : a ≡ answer_of p ask
  pub left : q ≡ words_after p ask
  pub small : a < 2 ^ 64

-- whatever the seat's state
abbrev pub plain : Conduct SharedWords
plain = record { takes = λ p s ask. plain_takes p ask; step = λ p s ask a q. PlainStep p ask a q }
