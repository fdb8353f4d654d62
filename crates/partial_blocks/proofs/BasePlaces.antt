-- The places of virtual blocks among the bases.
use Rattle.std.proofs.Common.{◌≡◌, ◌≢◌, ◌<◌, ◌≤◌, ◌+◌, ◌-◌, ◌==◌, ℕ, zero, suc, Bool, true, false, if◌then◌else◌, List, [], ◌∷◌, length, slice_index, Some, None, refl, ap, ◌∙◌, arith}
use Rattle.std.proofs.lemmas.Bool.{eqb-true, eqb-false, eq-eqb}
use Rattle.log_image.specs.Chains.{is_listed}
use Rattle.log_image.proofs.NameLemmas.{or_left, or_right}
use Rattle.partial_blocks.specs.Touching.{place_from, base_place}

-- the place at which a virtual block was found has it
pub record IsFoundFrom (first : ℕ) (bases : List ℕ) (virt place : ℕ) : Type 0 where
  pub from : first ≤ place
  pub inside : place < first + length bases
  pub is : slice_index bases (place - first) ≡ virt

pub found_from : (first : ℕ) (bases : List ℕ) (virt place : ℕ) → place_from first bases virt ≡ Some place → IsFoundFrom first bases virt place
found_from first [] virt place found = cc
found_from first (base ∷ bases) virt place found = go (base == virt) refl found (λ rest. found_from (first + 1) bases virt place rest)
  where
    go : (b : Bool) → (base == virt) ≡ b → (if b then Some first else place_from (first + 1) bases virt) ≡ Some place → (place_from (first + 1) bases virt ≡ Some place → IsFoundFrom (first + 1) bases virt place) → IsFoundFrom first (base ∷ bases) virt place
    go true is some rest = (let here : first ≡ place = cc in record {
      from = omega (arith, here);
      inside = omega (arith, here);
      is = ap (λ (k : ℕ). slice_index (base ∷ bases) k) (let none : place - first ≡ 0 = omega (arith, here) in none) ∙ eqb-true base virt is;
    })
    go false is some rest = (let r = rest some in let low = r.from in let high = r.inside in record {
      from = omega (arith, low);
      inside = omega (arith, high);
      is = ap (λ (k : ℕ). slice_index (base ∷ bases) k) (let next : place - first ≡ suc (place - (first + 1)) = omega (arith, low) in next) ∙ r.is;
    })

pub found_place : (bases : List ℕ) (virt place : ℕ) → base_place bases virt ≡ Some place → (place < length bases) × (slice_index bases place ≡ virt)
found_place bases virt place found = (let r = found_from 0 bases virt place found in let high = r.inside in (omega (arith, high), ap (λ (k : ℕ). slice_index bases k) (let same : place ≡ place - 0 = omega arith in same) ∙ r.is))

-- where none was found it stands at none
pub none_from : (first : ℕ) (bases : List ℕ) (virt : ℕ) → place_from first bases virt ≡ None → (place : ℕ) → place < length bases → slice_index bases place ≢ virt
none_from first [] virt none place inside = absurd (omega (arith, inside))
none_from first (base ∷ bases) virt none place inside = go (base == virt) refl none (λ rest. none_from (first + 1) bases virt rest) place inside
  where
    go : (b : Bool) → (base == virt) ≡ b → (if b then Some first else place_from (first + 1) bases virt) ≡ None → (place_from (first + 1) bases virt ≡ None → (k : ℕ) → k < length bases → slice_index bases k ≢ virt) →
        (k : ℕ) → k < length (base ∷ bases) → slice_index (base ∷ bases) k ≢ virt
    go true is none rest k low = cc
    go false is none rest zero low = eqb-false base virt is
    go false is none rest (suc k) low = rest none k (omega (arith, low))

pub none_place : (bases : List ℕ) (virt : ℕ) → base_place bases virt ≡ None → (place : ℕ) → place < length bases → slice_index bases place ≢ virt
none_place bases virt none place inside = none_from 0 bases virt none place inside

-- one that stands at a place is listed
pub listed_there : (bases : List ℕ) (place : ℕ) → place < length bases → is_listed bases (slice_index bases place) ≡ true
listed_there [] place inside = absurd (omega (arith, inside))
listed_there (base ∷ bases) zero inside = or_left (base == base) (is_listed bases base) (eq-eqb base base refl)
listed_there (base ∷ bases) (suc place) inside = or_right (base == slice_index bases place) (is_listed bases (slice_index bases place)) (listed_there bases place (omega (arith, inside)))
