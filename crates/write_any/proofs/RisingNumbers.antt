-- Lists of numbers that rise.
use Rattle.std.proofs.Common.{◌≡◌, ◌≢◌, ◌⊎◌, inl, inr, ◌<◌, ◌≤◌, ◌+◌, ◌==◌, ◌||◌, ℕ, zero, suc, Bool, true, false, cond, List, [], ◌∷◌, ◌++◌, length, filter, take, if◌then◌else◌, refl, sym, ap, ◌∙◌, arith}
use Rattle.std.specs.List.{range_with_len, list_any, list_all}
use Rattle.std.proofs.lemmas.Bool.{eqb-true, eq-eqb, cases_eq, and_parts, or_cases, or_left, or_right}
use Rattle.log_image.specs.Chains.{is_listed}
use Rattle.pmem_words.specs.declared.owned.OwnedBlock.{OwnedBlock}
use Rattle.log_core.specs.Needs.{is_one_run, owned_numbers}
use Rattle.log_core.proofs.BlockLists.{has_filter}
use Rattle.block_bitmap.proofs.TakeMarks.{has_both}
use Rattle.block_bitmap.proofs.TakeEffects.{has_front}
use Rattle.write_any.specs.Composing.{follow, are_one_run}

-- each is below all that follow it
abbrev pub Rises : List ℕ → Type 0
Rises [] = Unit {0}
Rises (x ∷ xs) = ((y : ℕ) → is_listed xs y ≡ true → x < y) × Rises xs

-- a number of a range is within it
pub range_bounds : (first count y : ℕ) → is_listed (range_with_len first count) y ≡ true → (first ≤ y) × (y < first + count)
range_bounds first zero y listed = cc
range_bounds first (suc count) y listed = by (first == y) refl listed (range_bounds (first + 1) count y)
  where
    by : (same : Bool) → (first == y) ≡ same → (same || is_listed (range_with_len (first + 1) count) y) ≡ true → (is_listed (range_with_len (first + 1) count) y ≡ true → (first + 1 ≤ y) × (y < first + 1 + count)) →
        (first ≤ y) × (y < first + suc count)
    by true is some rest = (let here = eqb-true first y is in (omega (arith, here), omega (arith, here)))
    by false is some rest = (let later = rest some in let low = later.0 in let high = later.1 in (omega (arith, low), omega (arith, high)))

pub range_rises : (first count : ℕ) → Rises (range_with_len first count)
range_rises first zero = tt
range_rises first (suc count) = ((λ y listed. (let low = (range_bounds (first + 1) count y listed).0 in omega (arith, low))), range_rises (first + 1) count)

-- so do those that pass a test, and the first of them
pub filter_rises : (p : ℕ → Bool) (xs : List ℕ) → Rises xs → Rises (filter p xs)
filter_rises p [] rises = tt
filter_rises p (x ∷ xs) rises = by (p x) (filter_rises p xs rises.1)
  where
    by : (b : Bool) → Rises (filter p xs) → Rises (cond b (x ∷ filter p xs) (filter p xs))
    by true rest = ((λ y listed. rises.0 y (and_parts (p y) (is_listed xs y) (sym (has_filter p xs y) ∙ listed)).1), rest)
    by false rest = rest

pub front_rises : (n : ℕ) (xs : List ℕ) → Rises xs → Rises (take n xs)
front_rises zero xs rises = tt
front_rises (suc n) [] rises = tt
front_rises (suc n) (x ∷ xs) rises = ((λ y listed. rises.0 y (has_front n xs y listed)), front_rises n xs rises.1)

-- one behind the front is above each of the front
pub above_front : (n : ℕ) (xs : List ℕ) → Rises xs → (x y : ℕ) → is_listed (take n xs) x ≡ true → is_listed xs y ≡ true → is_listed (take n xs) y ≡ false → x < y
above_front zero xs rises x y front listed behind = cc
above_front (suc n) [] rises x y front listed behind = cc
above_front (suc n) (z ∷ xs) rises x y front listed behind = by (z == x) (z == y) refl front listed behind (above_front n xs rises.1 x y)
  where
    by : (first same : Bool) → (z == x) ≡ first → (first || is_listed (take n xs) x) ≡ true → (same || is_listed xs y) ≡ true → (same || is_listed (take n xs) y) ≡ false →
        (is_listed (take n xs) x ≡ true → is_listed xs y ≡ true → is_listed (take n xs) y ≡ false → x < y) → x < y
    by first true is front listed behind rest = cc
    by true false is front listed behind rest = (let here = eqb-true z x is in let low = rises.0 y listed in omega (arith, here, low))
    by false false is front listed behind rest = rest front listed behind

-- two lists of which the second is above the first
pub join_rises : (xs ys : List ℕ) → Rises xs → Rises ys → ((x y : ℕ) → is_listed xs x ≡ true → is_listed ys y ≡ true → x < y) → Rises (xs ++ ys)
join_rises [] ys first second above = second
join_rises (x ∷ xs) ys first second above = (
  (λ y listed. by y (or_cases (is_listed xs y) (is_listed ys y) (sym (has_both xs ys y) ∙ listed))),
  join_rises xs ys first.1 second (λ z y here there. above z y (or_right (x == z) (is_listed xs z) here) there),
)
  where
    by : (y : ℕ) → (is_listed xs y ≡ true) ⊎ (is_listed ys y ≡ true) → x < y
    by y (inl here) = first.0 y here
    by y (inr there) = above x y (or_left (x == x) (is_listed xs x) (eq-eqb x x refl)) there

-- a list that has so many numbers in a row is no shorter
other_listed : (x : ℕ) (xs : List ℕ) (y : ℕ) → x ≢ y → is_listed (x ∷ xs) y ≡ true → is_listed xs y ≡ true
other_listed x xs y apart listed = by (x == y) refl listed
  where
    by : (same : Bool) → (x == y) ≡ same → (same || is_listed xs y) ≡ true → is_listed xs y ≡ true
    by true is some = absurd (apart (eqb-true x y is))
    by false is some = some

has_many : (xs : List ℕ) (first count : ℕ) → Rises xs → ((y : ℕ) → first ≤ y → y < first + count → is_listed xs y ≡ true) → count ≤ length xs
has_many xs first zero rises each = omega arith
has_many [] first (suc count) rises each = (let none = each first (omega arith) (omega arith) in cc)
has_many (x ∷ xs) first (suc count) rises each = by (cases_eq x first) (λ from many. has_many xs from many rises.1)
  where
    by : (x ≡ first) ⊎ (x ≢ first) → ((from many : ℕ) → ((y : ℕ) → from ≤ y → y < from + many → is_listed xs y ≡ true) → many ≤ length xs) → suc count ≤ length (x ∷ xs)
    by (inl same) rest = (let more = rest (first + 1) count (λ y low high. other_listed x xs y (λ here. omega (arith, here, same, low)) (each y (omega (arith, low)) (omega (arith, high)))) in omega (arith, more))
    by (inr other) rest = (let above = rises.0 first (other_listed x xs first other (each first (omega arith) (omega arith))) in
        let more = rest first (suc count) (λ y low high. other_listed x xs y (λ here. omega (arith, here, above, low)) (each y low high)) in omega (arith, more))

-- rising numbers that are all of a run follow one another
run_follows : (block : ℕ) (owned : List OwnedBlock) → Rises (block ∷ owned_numbers owned) →
    ((y : ℕ) → block ≤ y → y < block + length (block ∷ owned_numbers owned) → is_listed (block ∷ owned_numbers owned) y ≡ true) → follow block owned ≡ true
run_follows block [] rises each = refl
run_follows block (o ∷ owned) rises each =
    ap (λ (b : Bool). if b then follow o.block owned else false) (eq-eqb o.block (block + 1) next)
    ∙ run_follows o.block owned rises.1 (λ y low high. other_listed block (o.block ∷ owned_numbers owned) y (λ here. (let is = next in omega (arith, here, low, is))) (each y (let is = next in omega (arith, low, is)) (let is = next in omega (arith, high, is))))
  where
    above : block < o.block
    above = rises.0 o.block (or_left (o.block == o.block) (is_listed (owned_numbers owned) o.block) (eq-eqb o.block o.block refl))

    by : (o.block ≡ block + 1) ⊎ (o.block ≢ block + 1) → o.block ≡ block + 1
    by (inl same) = same
    by (inr other) = absurd (let listed = other_listed block (o.block ∷ owned_numbers owned) (block + 1) (λ same. omega (arith, same)) (each (block + 1) (omega arith) (omega arith)) in
        let past = rises.1.0 (block + 1) (other_listed o.block (owned_numbers owned) (block + 1) other listed) in let first = above in omega (arith, past, first))

    next : o.block ≡ block + 1
    next = by (cases_eq o.block (block + 1))

-- what a test says of each number of a range
pub each_in : (p : ℕ → Bool) (first count : ℕ) → list_all p (range_with_len first count) ≡ true → (y : ℕ) → first ≤ y → y < first + count → p y ≡ true
each_in p first zero all y low high = absurd (omega (arith, low, high))
each_in p first (suc count) all y low high = by (cases_eq first y) (each_in p (first + 1) count parts.1 y)
  where
    parts : (p first ≡ true) × (list_all p (range_with_len (first + 1) count) ≡ true)
    parts = and_parts (p first) (list_all p (range_with_len (first + 1) count)) all

    by : (first ≡ y) ⊎ (first ≢ y) → (first + 1 ≤ y → y < first + 1 + count → p y ≡ true) → p y ≡ true
    by (inl same) rest = ap p (sym same) ∙ parts.0
    by (inr other) rest = rest (omega (arith, low, other)) (omega (arith, high))

pub some_passes : (p : ℕ → Bool) (xs : List ℕ) → list_any p xs ≡ true → (x : ℕ) × (p x ≡ true)
some_passes p [] any = cc
some_passes p (x ∷ xs) any = by (p x) refl any (some_passes p xs)
  where
    by : (b : Bool) → p x ≡ b → (b || list_any p xs) ≡ true → (list_any p xs ≡ true → (y : ℕ) × (p y ≡ true)) → (y : ℕ) × (p y ≡ true)
    by true is some rest = (x, is)
    by false is some rest = rest some

-- so rising blocks that are those of one run are one run in the order of their list
module _ (o : OwnedBlock) (owned : List OwnedBlock) (rises : Rises (owned_numbers (o ∷ owned))) (one : is_one_run (owned_numbers (o ∷ owned)) ≡ true) where
  abbrev numbers : List ℕ
  numbers = owned_numbers (o ∷ owned)

  found : (first : ℕ) × (list_all (λ (block : ℕ). is_listed numbers block) (range_with_len first (length numbers)) ≡ true)
  found = some_passes (λ (first : ℕ). list_all (λ (block : ℕ). is_listed numbers block) (range_with_len first (length numbers))) numbers one

  each : (y : ℕ) → found.0 ≤ y → y < found.0 + length numbers → is_listed numbers y ≡ true
  each = each_in (λ (block : ℕ). is_listed numbers block) found.0 (length numbers) found.1

  first_is : o.block ≡ found.0
  first_is = by (cases_eq o.block found.0)
    where
      by : (o.block ≡ found.0) ⊎ (o.block ≢ found.0) → o.block ≡ found.0
      by (inl same) = same
      by (inr other) = absurd (let above = rises.0 found.0 (other_listed o.block (owned_numbers owned) found.0 other (each found.0 (omega arith) (omega arith))) in
          let many = has_many (owned_numbers owned) found.0 (length numbers) rises.1 (λ y low high. other_listed o.block (owned_numbers owned) y (λ here. omega (arith, here, above, low)) (each y low high)) in omega (arith, many))

  all_follow : follow o.block owned ≡ true
  all_follow = run_follows o.block owned rises (λ y low high. each y (let is = first_is in omega (arith, low, is)) (let is = first_is in omega (arith, high, is)))

pub one_run_in_order : (owned : List OwnedBlock) → Rises (owned_numbers owned) → is_one_run (owned_numbers owned) ≡ true → are_one_run owned ≡ true
one_run_in_order [] rises one = refl
one_run_in_order (o ∷ owned) rises one = all_follow o owned rises one
