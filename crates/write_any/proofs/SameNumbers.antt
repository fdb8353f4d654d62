-- Lists of different numbers, compared by what they have.
use Rattle.std.proofs.Common.{◌≡◌, ◌⊎◌, inl, inr, ℕ, zero, suc, ◌+◌, ◌<◌, ◌≤◌, ◌==◌, ◌||◌, not, Bool, true, false, List, [], ◌∷◌, length, filter, if◌then◌else◌, refl, sym, ap, ◌∙◌, arith}
use Rattle.std.specs.List.{range_with_len, list_any, list_all}
use Rattle.std.proofs.lemmas.Bool.{eqb-true, eq-eqb, ne_eqb, and_parts, and_from, or_left, or_right, or_cases, not-true}
use Rattle.log_image.specs.Chains.{all_different, is_listed}
use Rattle.log_core.specs.Needs.{is_one_run}
use Rattle.log_core.proofs.BlockLists.{has_filter}
use Rattle.write_any.proofs.RisingNumbers.{each_in, some_passes}

-- each number of the first list is in the second
abbrev pub AreIn : List ℕ → List ℕ → Type 0
AreIn xs ys = (x : ℕ) → is_listed xs x ≡ true → is_listed ys x ≡ true

first_in : (x : ℕ) (xs : List ℕ) → is_listed (x ∷ xs) x ≡ true
first_in x xs = or_left (x == x) (is_listed xs x) (eq-eqb x x refl)

-- without one that is there a list is shorter
no_longer : (n : ℕ) (ys : List ℕ) → length (filter (λ (y : ℕ). not (y == n)) ys) ≤ length ys
no_longer n [] = omega arith
no_longer n (y ∷ ys) = by (y == n) (no_longer n ys)
  where
    by : (same : Bool) → length (filter (λ (z : ℕ). not (z == n)) ys) ≤ length ys → length (if not same then y ∷ filter (λ (z : ℕ). not (z == n)) ys else filter (λ (z : ℕ). not (z == n)) ys) ≤ suc (length ys)
    by true rest = omega (arith, rest)
    by false rest = omega (arith, rest)

one_less : (n : ℕ) (ys : List ℕ) → is_listed ys n ≡ true → length (filter (λ (y : ℕ). not (y == n)) ys) < length ys
one_less n [] there = cc
one_less n (y ∷ ys) there = by (y == n) there (one_less n ys) (no_longer n ys)
  where
    by : (same : Bool) → (same || is_listed ys n) ≡ true → (is_listed ys n ≡ true → length (filter (λ (z : ℕ). not (z == n)) ys) < length ys) → length (filter (λ (z : ℕ). not (z == n)) ys) ≤ length ys →
        length (if not same then y ∷ filter (λ (z : ℕ). not (z == n)) ys else filter (λ (z : ℕ). not (z == n)) ys) < suc (length ys)
    by true is rest most = omega (arith, most)
    by false is rest most = (let less = rest is in omega (arith, less))

-- different numbers of a list are no more than the list has
pub no_more_in : (xs ys : List ℕ) → all_different xs ≡ true → AreIn xs ys → length xs ≤ length ys
no_more_in [] ys once are = omega arith
no_more_in (x ∷ xs) ys once are =
    (let parts = and_parts (not (is_listed xs x)) (all_different xs) once in
    let less = one_less x ys (are x (first_in x xs)) in
    let rest = no_more_in xs (filter (λ (y : ℕ). not (y == x)) ys) parts.1 (λ z there. has_filter (λ (y : ℕ). not (y == x)) ys z
    ∙ and_from (not (z == x)) (is_listed ys z)
    (apart z there (not-true (is_listed xs x) parts.0))
    (are z (or_right (x == z) (is_listed xs z) there))) in
    omega (arith, less, rest))
  where
    apart : (z : ℕ) → is_listed xs z ≡ true → is_listed xs x ≡ false → not (z == x) ≡ true
    apart z there none = ap (λ (b : Bool). not b) (ne_eqb z x (λ same. (let both : false ≡ true = sym none ∙ (ap (is_listed xs) (sym same) ∙ there) in cc)))

-- as many of them as it has are all of it
pub all_in : (xs ys : List ℕ) → all_different xs ≡ true → AreIn xs ys → length ys ≤ length xs → AreIn ys xs
all_in xs ys once are few y there = by (is_listed xs y) refl
  where
    by : (b : Bool) → is_listed xs y ≡ b → is_listed xs y ≡ true
    by true is = is
    by false is = absurd (let more = no_more_in (y ∷ xs) ys (and_from (not (is_listed xs y)) (all_different xs) (ap (λ (b : Bool). not b) is) once) both in omega (arith, more, few))
      where
        both : AreIn (y ∷ xs) ys
        both x listed = which (or_cases (y == x) (is_listed xs x) listed)
          where
            which : ((y == x) ≡ true) ⊎ (is_listed xs x ≡ true) → is_listed ys x ≡ true
            which (inl same) = ap (is_listed ys) (sym (eqb-true y x same)) ∙ there
            which (inr old) = are x old

-- what a test says of a number of a list, and of each number of a range
passes_in : (p : ℕ → Bool) (xs : List ℕ) (x : ℕ) → is_listed xs x ≡ true → p x ≡ true → list_any p xs ≡ true
passes_in p [] x there is = cc
passes_in p (y ∷ xs) x there is = by (or_cases (y == x) (is_listed xs x) there) (λ later. passes_in p xs x later is)
  where
    by : ((y == x) ≡ true) ⊎ (is_listed xs x ≡ true) → (is_listed xs x ≡ true → list_any p xs ≡ true) → list_any p (y ∷ xs) ≡ true
    by (inl same) rest = or_left (p y) (list_any p xs) (ap p (eqb-true y x same) ∙ is)
    by (inr later) rest = or_right (p y) (list_any p xs) (rest later)

all_of_range : (p : ℕ → Bool) (first count : ℕ) → ((y : ℕ) → first ≤ y → y < first + count → p y ≡ true) → list_all p (range_with_len first count) ≡ true
all_of_range p first zero each = refl
all_of_range p first (suc count) each = and_from (p first) (list_all p (range_with_len (first + 1) count)) (each first (omega arith) (omega arith)) (all_of_range p (first + 1) count (λ y low high. each y (omega (arith, low)) (omega (arith, high))))

-- numbers in a row that are a list's make it one run
pub one_run_from : (xs : List ℕ) (first : ℕ) → is_listed xs first ≡ true → ((y : ℕ) → first ≤ y → y < first + length xs → is_listed xs y ≡ true) → is_one_run xs ≡ true
one_run_from xs first there each = passes_in (λ (from : ℕ). list_all (λ (block : ℕ). is_listed xs block) (range_with_len from (length xs))) xs first there (all_of_range (λ (block : ℕ). is_listed xs block) first (length xs) each)

-- a list that has the same numbers, and as many, is one run too
pub same_run : (xs ys : List ℕ) → AreIn xs ys → length xs ≡ length ys → is_one_run xs ≡ true → is_one_run ys ≡ true
same_run xs ys are long one = one_run_from ys run.0 (each run.0 (omega arith) (let some = many in omega (arith, some))) each
  where
    run : (first : ℕ) × (list_all (λ (block : ℕ). is_listed xs block) (range_with_len first (length xs)) ≡ true)
    run = some_passes (λ (first : ℕ). list_all (λ (block : ℕ). is_listed xs block) (range_with_len first (length xs))) xs one

    -- a list that is one run has a number
    some_in : (l : List ℕ) → is_one_run l ≡ true → 0 < length l
    some_in [] is = cc
    some_in (x ∷ l) is = omega arith

    many : 0 < length ys
    many = (let some = some_in xs one in omega (arith, some, long))

    each : (y : ℕ) → run.0 ≤ y → y < run.0 + length ys → is_listed ys y ≡ true
    each y low high = are y (each_in (λ (block : ℕ). is_listed xs block) run.0 (length xs) run.1 y low (omega (arith, high, long)))
