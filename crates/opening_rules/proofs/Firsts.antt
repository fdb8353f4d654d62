-- The first condition that holds, in a list of conditions and in its parts.
use Rattle.std.proofs.Common.{◌≡◌, Bool, true, false, List, [], ◌∷◌, ◌++◌, Some, None, refl, sym, ◌∙◌}
use Rattle.opening_rules.specs.Checks.{Check, check, first}
use Rattle.opening_rules.specs.declared.refusals.BadImage.{BadImage}

-- a condition that does not hold is passed over
pub skip : (condition : Bool) (why : BadImage) (rest : List Check) → condition ≡ false → first (check condition why ∷ rest) ≡ first rest
skip condition why rest is = rw is refl

-- one that holds gives its refusal
pub hit : (condition : Bool) (why : BadImage) (rest : List Check) → condition ≡ true → first (check condition why ∷ rest) ≡ Some why
hit condition why rest is = rw is refl

-- a list of which none holds is passed over
pub pass_over : (list rest : List Check) → first list ≡ None → first (list ++ rest) ≡ first rest
pass_over [] rest none = refl
pass_over (one ∷ list) rest none = at one.holds one.gives none (pass_over list rest)
  where
    at : (condition : Bool) (why : BadImage) → first (check condition why ∷ list) ≡ None → (first list ≡ None → first (list ++ rest) ≡ first rest) → first (check condition why ∷ (list ++ rest)) ≡ first rest
    at true why none onward = cc
    at false why none onward = onward none

-- what is found in a list is found in any longer one
pub found_in : (list rest : List Check) (why : BadImage) → first list ≡ Some why → first (list ++ rest) ≡ Some why
found_in [] rest why found = cc
found_in (one ∷ list) rest why found = at one.holds one.gives found (found_in list rest why)
  where
    at : (condition : Bool) (other : BadImage) → first (check condition other ∷ list) ≡ Some why → (first list ≡ Some why → first (list ++ rest) ≡ Some why) → first (check condition other ∷ (list ++ rest)) ≡ Some why
    at true other found onward = found
    at false other found onward = onward found

-- where none of a list holds, none of its parts does
pub clean_left : (list rest : List Check) → first (list ++ rest) ≡ None → first list ≡ None
clean_left [] rest none = refl
clean_left (one ∷ list) rest none = at one.holds one.gives none (clean_left list rest)
  where
    at : (condition : Bool) (why : BadImage) → first (check condition why ∷ (list ++ rest)) ≡ None → (first (list ++ rest) ≡ None → first list ≡ None) → first (check condition why ∷ list) ≡ None
    at true why none onward = none
    at false why none onward = onward none

pub clean_right : (list rest : List Check) → first (list ++ rest) ≡ None → first rest ≡ None
clean_right list rest none = sym (pass_over list rest (clean_left list rest none)) ∙ none

-- where none of a list holds, its first condition does not
pub clean_here : (condition : Bool) (why : BadImage) (rest : List Check) → first (check condition why ∷ rest) ≡ None → (condition ≡ false) × (first rest ≡ None)
clean_here true why rest none = cc
clean_here false why rest none = (refl, none)

-- where none of the parts holds, none of the list does
pub both_clean : (list rest : List Check) → first list ≡ None → first rest ≡ None → first (list ++ rest) ≡ None
both_clean list rest none other = pass_over list rest none ∙ other
