-- Tests of lists that are put together, and facts of each block of such lists.
use Rattle.std.proofs.Common.{◌≡◌, Bool, true, List, [], ◌∷◌, ◌++◌, refl}
use Rattle.std.specs.List.{list_all, AllByRecursion}
use Rattle.log_image.proofs.HoldingLemmas.{both_left, both_right}
use Rattle.log_image.proofs.ClearedChains.{both}

-- a test that two lists pass, both together pass, and the other way round
pub all_join : {X : Type 0} (p : X → Bool) (xs ys : List X) → list_all p xs ≡ true → list_all p ys ≡ true → list_all p (xs ++ ys) ≡ true
all_join p [] ys first second = second
all_join p (x ∷ xs) ys first second = both (p x) (list_all p (xs ++ ys)) (both_left (p x) (list_all p xs) first) (all_join p xs ys (both_right (p x) (list_all p xs) first) second)

pub all_front : {X : Type 0} (p : X → Bool) (xs ys : List X) → list_all p (xs ++ ys) ≡ true → list_all p xs ≡ true
all_front p [] ys all = refl
all_front p (x ∷ xs) ys all = both (p x) (list_all p xs) (both_left (p x) (list_all p (xs ++ ys)) all) (all_front p xs ys (both_right (p x) (list_all p (xs ++ ys)) all))

pub all_back : {X : Type 0} (p : X → Bool) (xs ys : List X) → list_all p (xs ++ ys) ≡ true → list_all p ys ≡ true
all_back p [] ys all = all
all_back p (x ∷ xs) ys all = all_back p xs ys (both_right (p x) (list_all p (xs ++ ys)) all)

-- what holds of each of two lists holds of each of both together, and the other way round
pub each_join : {X : Type 0} (P : X → Type 0) (xs ys : List X) → AllByRecursion P xs → AllByRecursion P ys → AllByRecursion P (xs ++ ys)
each_join P [] ys first second = second
each_join P (x ∷ xs) ys first second = (first.0, each_join P xs ys first.1 second)

pub each_front : {X : Type 0} (P : X → Type 0) (xs ys : List X) → AllByRecursion P (xs ++ ys) → AllByRecursion P xs
each_front P [] ys all = tt
each_front P (x ∷ xs) ys all = (all.0, each_front P xs ys all.1)

pub each_back : {X : Type 0} (P : X → Type 0) (xs ys : List X) → AllByRecursion P (xs ++ ys) → AllByRecursion P ys
each_back P [] ys all = all
each_back P (x ∷ xs) ys all = each_back P xs ys all.1
