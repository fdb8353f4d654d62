-- Conditions in an order, of which the first that holds refuses.
use Rattle.std.specs.Prelude.{Bool, List, [], ◌∷◌, Option, Some, None, if◌then◌else◌}
use Rattle.opening_rules.specs.declared.refusals.BadImage.{BadImage}

-- a condition, and the refusal that it gives
pub record Check : Type 0 where
  pub holds : Bool
  pub gives : BadImage

-- the check of a condition
abbrev pub check : Bool → BadImage → Check
check condition why = record { holds = condition; gives = why }

-- the refusal of the first condition that holds
abbrev pub first : List Check → Option BadImage
first [] = None
first (one ∷ others) = if one.holds then Some one.gives else first others
