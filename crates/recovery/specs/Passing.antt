-- What the conditions on an image come to.
use Rattle.std.specs.Prelude.{ℕ, ◌*◌, ◌≡◌, ◌≤◌, List, length, Result, Ok, Err}
use Rattle.log_entry.specs.declared.shapes.Geometry.{Geometry}
use Rattle.log_image.specs.Header.{shape_of}
use Rattle.log_image.specs.Image.{shape_by}
use Rattle.opening_rules.specs.Opening.{Refuses, Accepts}
use Rattle.recovery.specs.declared.refusals.OpenRefusal.{OpenRefusal}
use Rattle.recovery.specs.declared.refusals.OpenRefusal.TheVariants.{Bad, NoMemory}
use Rattle.recovery.specs.declared.reading.Reading.{Reading}
use Rattle.recovery.specs.declared.passing.Passed.{Passed}
use Rattle.recovery.specs.WalkAnswers.{EndsWalk}

-- no condition holds of an image of so many bytes and these words, its shape is this geometry's, and the reading is what its
-- chain comes to
pub record PassesConditions (bytes : ℕ) (words : List ℕ) (geometry : Geometry) (reading : Reading) : Type 0 where
  pub rest : List ℕ
  pub accepts : Accepts bytes words rest
  pub ends : EndsWalk words (shape_of words) reading rest
  pub shape : shape_by geometry ≡ shape_of words
  pub exact : bytes ≡ 8 * length words
  pub long : 4 ≤ length words

-- no condition holds; or the first that does gives the refusal
abbrev pub PassAnswers : Result Passed OpenRefusal → ℕ → List ℕ → Type 0
PassAnswers (Ok passed) bytes words = PassesConditions bytes words passed.geometry passed.reading
PassAnswers (Err (Bad why)) bytes words = Refuses bytes words why
PassAnswers (Err NoMemory) bytes words = Unit {0}
