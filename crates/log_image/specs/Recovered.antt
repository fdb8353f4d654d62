-- What is recovered from the words of an image, and what recoveries leave that are stopped.
use Rattle.std.specs.Prelude.{ℕ, List, [], ◌∷◌}
use Rattle.log_image.specs.Header.{shape_of}
use Rattle.log_image.specs.Chains.{IsChain}
use Rattle.log_image.specs.Stands.{Stands}
use Rattle.log_image.specs.Tails.{tail_of, IsSameToTail, IsCleared}
use Rattle.log_image.specs.declared.starts.Start.{Start}

-- the start has these words, but with 0 in each slot after the tail in the tail's block and, where the tail is a slot, in
-- that block's link; and it stands for the file at the position
pub record Recovered (words : List ℕ) (start : Start) (file : List ℕ) (position : ℕ) : Type 0 where
  pub chain : List ℕ
  pub of_words : IsChain words (shape_of words) chain
  pub cleared : IsCleared (shape_of words) (tail_of words (shape_of words) chain) words start.words.items
  pub stands : Stands start.words.items file position

-- what a clearing leaves that is stopped: the words up to the tail, while each one after it is cleared or not
abbrev pub IsStopped : List ℕ → List ℕ → Type 0
IsStopped words others = (chain : List ℕ) × IsChain words (shape_of words) chain × IsSameToTail (shape_of words) (tail_of words (shape_of words) chain) words others

-- clearings that are stopped one after the other, each of what the one before left; and what the last one leaves
abbrev pub StopInTurn : List ℕ → List (List ℕ) → Type 0
StopInTurn words [] = Unit {0}
StopInTurn words (others ∷ stops) = IsStopped words others × StopInTurn others stops

abbrev pub left_at_last : List ℕ → List (List ℕ) → List ℕ
left_at_last words [] = words
left_at_last words (others ∷ stops) = left_at_last others stops
