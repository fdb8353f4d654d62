-- What the walk of a chain answers.
use Rattle.std.specs.Prelude.{ℕ, ◌≡◌, List, ◌∷◌, Result, Ok, Err}
use Rattle.log_image.specs.Image.{Shape}
use Rattle.log_image.specs.Header.{head_block}
use Rattle.opening_rules.specs.Walks.{Passes, end_place, WalkRefuses}
use Rattle.recovery.specs.declared.refusals.OpenRefusal.{OpenRefusal}
use Rattle.recovery.specs.declared.refusals.OpenRefusal.TheVariants.{Bad, NoMemory}
use Rattle.recovery.specs.declared.reading.Reading.{Reading}
use Rattle.recovery.specs.Readings.{ReadsUpTo}

-- the walk from the head passes its block and then these, and the reading is what all of them come to
pub record EndsWalk (words : List ℕ) (shape : Shape) (reading : Reading) (rest : List ℕ) : Type 0 where
  pub passes : Passes words shape rest
  pub agrees : ReadsUpTo shape reading (end_place words shape rest)
  pub chain : reading.chain.items ≡ head_block words ∷ rest

-- the walk from the head refuses a block; or it passes some blocks, and this is the reading of them
abbrev pub WalkAnswers : Result Reading OpenRefusal → List ℕ → Shape → Type 0
WalkAnswers (Ok reading) words shape = (rest : List ℕ) × EndsWalk words shape reading rest
WalkAnswers (Err (Bad why)) words shape = WalkRefuses words shape why
WalkAnswers (Err NoMemory) words shape = Unit {0}
