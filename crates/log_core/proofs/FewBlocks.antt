-- As many different numbers as there are below a limit, at most.
use Rattle.std.proofs.Common.{ℕ, zero, suc, ◌≡◌, ◌+◌, ◌<◌, ◌≤◌, ◌==◌, ◌&&◌, ◌||◌, not, Bool, true, false, if◌then◌else◌, List, [], ◌∷◌, filter, length, refl, sym, ap, ◌∙◌, arith}
use Rattle.std.proofs.lemmas.Bool.{eqb-true, eqb-false, eq-eqb, and_parts, or_left, not-true}
use Rattle.log_image.specs.Chains.{all_different, is_listed}
use Rattle.log_core.proofs.BlockLists.{has_filter, different_filter}

abbrev others : ℕ → List ℕ → List ℕ
others n blocks = filter (λ (b : ℕ). not (b == n)) blocks

-- where a number is not there, none is left out
none_out : (n : ℕ) (blocks : List ℕ) → is_listed blocks n ≡ false → others n blocks ≡ blocks
none_out n [] none = refl
none_out n (b ∷ blocks) none = by (b == n) none (λ e. none_out n blocks e)
  where
    by : (here : Bool) → (here || is_listed blocks n) ≡ false → (is_listed blocks n ≡ false → others n blocks ≡ blocks) → (if not here then b ∷ others n blocks else others n blocks) ≡ b ∷ blocks
    by true e rest = cc
    by false e rest = ap (λ (list : List ℕ). b ∷ list) (rest e)

-- without a number there are at most one fewer
one_out : (n : ℕ) (blocks : List ℕ) → all_different blocks ≡ true → length blocks ≤ length (others n blocks) + 1
one_out n [] once = omega arith
one_out n (b ∷ blocks) once = by (b == n) refl (one_out n blocks parts.1)
  where
    parts : (not (is_listed blocks b) ≡ true) × (all_different blocks ≡ true)
    parts = and_parts (not (is_listed blocks b)) (all_different blocks) once

    by : (here : Bool) → (b == n) ≡ here → length blocks ≤ length (others n blocks) + 1 → suc (length blocks) ≤ length (if not here then b ∷ others n blocks else others n blocks) + 1
    by true is rest = (let same = eqb-true b n is in
        let all : length (others n blocks) ≡ length blocks = ap length (none_out n blocks (ap (is_listed blocks) (sym same) ∙ not-true (is_listed blocks b) parts.0)) in omega (arith, all))
    by false is rest = omega (arith, rest)

pub few_different : (n : ℕ) (blocks : List ℕ) → all_different blocks ≡ true → ((b : ℕ) → is_listed blocks b ≡ true → b < n) → length blocks ≤ n
few_different zero [] once low = omega arith
few_different zero (b ∷ blocks) once low = (let never = low b (or_left (b == b) (is_listed blocks b) (eq-eqb b b refl)) in absurd (omega (arith, never)))
few_different (suc n) blocks once low =
    (let few = few_different n (others n blocks) (different_filter (λ (b : ℕ). not (b == n)) blocks once) (λ b h. below b (sym (has_filter (λ (x : ℕ). not (x == n)) blocks b) ∙ h)) in
    let out = one_out n blocks once in
    omega (arith, few, out))
  where
    below : (b : ℕ) → (not (b == n) && is_listed blocks b) ≡ true → b < n
    below b h = (let parts = and_parts (not (b == n)) (is_listed blocks b) h in let most = low b parts.1 in let apart = eqb-false b n (not-true (b == n) parts.0) in omega (arith, most, apart))
