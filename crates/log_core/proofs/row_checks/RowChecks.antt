-- Facts of all numbers below a bound, and of all members of a list, by computing.
use Rattle.std.proofs.Common.{◌≡◌, ◌≢◌, ◌⊎◌, ◌≤◌, ◌<◌, ℕ, zero, suc, Bool, true, false, ◌&&◌, ◌||◌, ◌==◌, nat_lt, not, List, [], ◌∷◌, length, slice_index, refl, subst, inl, inr, arith}
use Rattle.std.proofs.lemmas.Bool.{false≢true, and_parts, or_cases, cases_eq, eqb-true, ltb-true}
use Rattle.persistence.specs.Memory.{Cell}
use Rattle.log_image.specs.Chains.{is_listed}
use Rattle.log_core.specs.Certain.{IsCertain, IsGrowing}

abbrev pub all_below : ℕ → (ℕ → Bool) → Bool
all_below zero f = true
all_below (suc n) f = f n && all_below n f

pub below_all : (n : ℕ) (f : ℕ → Bool) (k : ℕ) → all_below n f ≡ true → k < n → f k ≡ true
below_all zero f k all less = absurd (omega arith)
below_all (suc n) f k all less = go (cases_eq k n) (below_all n f k (and_parts (f n) (all_below n f) all).1)
  where
    go : (k ≡ n) ⊎ (k ≢ n) → (k < n → f k ≡ true) → f k ≡ true
    go (inl same) h = rw same (and_parts (f n) (all_below n f) all).0
    go (inr other) h = h (omega (arith, less, other))

-- the same of two numbers
pub below_same : (n : ℕ) (f g : ℕ → ℕ) (k : ℕ) → all_below n (λ i. f i == g i) ≡ true → k < n → f k ≡ g k
below_same n f g k all less = eqb-true (f k) (g k) (below_all n (λ i. f i == g i) k all less)

-- what follows from a test
pub implied : (a b : Bool) → (not a || b) ≡ true → a ≡ true → b ≡ true
implied true b either holds = either
implied false b either holds = absurd (false≢true holds)

pub below_implied : (n : ℕ) (f g : ℕ → Bool) (k : ℕ) → all_below n (λ i. not (f i) || g i) ≡ true → k < n → f k ≡ true → g k ≡ true
below_implied n f g k all less holds = implied (f k) (g k) (below_all n (λ i. not (f i) || g i) k all less) holds

-- every member of a list
abbrev pub all_in : (ℕ → Bool) → List ℕ → Bool
all_in f [] = true
all_in f (x ∷ xs) = f x && all_in f xs

pub in_all : (f : ℕ → Bool) (xs : List ℕ) (b : ℕ) → all_in f xs ≡ true → is_listed xs b ≡ true → f b ≡ true
in_all f [] b all member = absurd (false≢true member)
in_all f (x ∷ xs) b all member = go (x == b) refl member (in_all f xs b (and_parts (f x) (all_in f xs) all).1)
  where
    go : (c : Bool) → (x == b) ≡ c → (c || is_listed xs b) ≡ true → (is_listed xs b ≡ true → f b ≡ true) → f b ≡ true
    go true same either rest = subst (λ (y : ℕ). f y ≡ true) (eqb-true x b same) (and_parts (f x) (all_in f xs) all).0
    go false other either rest = rest either

-- the possible values of a cell before its last one
abbrev pub before_is : Cell → ℕ → Bool
before_is c x = all_below (length c.past) (λ i. nat_lt i c.floor || (slice_index c.past i == x))

before_at : (c : Cell) (x i : ℕ) → before_is c x ≡ true → c.floor ≤ i → i < length c.past → slice_index c.past i ≡ x
before_at c x i all from to = go (or_cases (nat_lt i c.floor) (slice_index c.past i == x) (below_all (length c.past) (λ k. nat_lt k c.floor || (slice_index c.past k == x)) i all to))
  where
    go : (nat_lt i c.floor ≡ true) ⊎ ((slice_index c.past i == x) ≡ true) → slice_index c.past i ≡ x
    go (inl low) = (let below = ltb-true i c.floor low in absurd (omega (arith, below, from)))
    go (inr same) = eqb-true (slice_index c.past i) x same

abbrev pub is_growing : Cell → ℕ → Bool
is_growing c x = (c.present == x) && before_is c 0

abbrev pub is_certain : Cell → ℕ → Bool
is_certain c x = (c.present == x) && before_is c x

pub growing_by : (c : Cell) (x : ℕ) → is_growing c x ≡ true → IsGrowing c x
growing_by c x all = record { present = eqb-true c.present x (and_parts (c.present == x) (before_is c 0) all).0; before = λ i from to. before_at c 0 i (and_parts (c.present == x) (before_is c 0) all).1 from to }

pub certain_by : (c : Cell) (x : ℕ) → is_certain c x ≡ true → IsCertain c x
certain_by c x all = record { present = eqb-true c.present x (and_parts (c.present == x) (before_is c x) all).0; before = λ i from to. before_at c x i (and_parts (c.present == x) (before_is c x) all).1 from to }

pub false_of : (b : Bool) → not b ≡ true → b ≡ false
false_of true negated = absurd (false≢true negated)
false_of false negated = refl
