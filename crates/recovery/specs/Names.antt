-- The blocks that a bitmap has while the entries of a chain are read.
use Rattle.std.specs.Prelude.{ℕ, ◌≡◌, true, List, ◌++◌, Result, Ok, Err, None, Some}
use Rattle.std.specs.List.{list_all}
use Rattle.log_image.specs.Image.{Shape, is_in_log, is_in_data}
use Rattle.opening_rules.specs.Checks.{first}
use Rattle.opening_rules.specs.SlotChecks.{share_checks}
use Rattle.opening_rules.specs.declared.refusals.BadImage.{BadImage}
use Rattle.log_image.specs.Taken.{HasBits}

-- the bitmap has these blocks of a chain, which are of the log or spare area, and these that its entries name, which are of the data area
pub record HasNamed (shape : Shape) (taken chain named : List ℕ) : Type 0 where
  pub bits : HasBits shape taken (chain ++ named)
  pub in_log : list_all (is_in_log shape) chain ≡ true
  pub in_data : list_all (is_in_data shape) named ≡ true

-- after some blocks that are named, more of them in order: the first that was named before; or none was, and the bitmap has them too
abbrev pub TakesNames : Result Unit BadImage → Shape → List ℕ → List ℕ → List ℕ → List ℕ → Type 0
TakesNames (Ok done) shape taken chain named blocks = (first (share_checks named blocks) ≡ None) × HasNamed shape taken chain (named ++ blocks)
TakesNames (Err why) shape taken chain named blocks = first (share_checks named blocks) ≡ Some why
