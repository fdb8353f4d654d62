-- Blocks that stand at different places of a list without repeats are different.
use Rattle.std.proofs.Common.{◌≡◌, ◌<◌, ◌+◌, not, ℕ, zero, suc, Bool, true, false, List, [], ◌∷◌, length, slice_index, refl, sym, ap, ◌∙◌, subst, arith}
use Rattle.std.proofs.lemmas.Bool.{and_parts}
use Rattle.log_image.specs.Chains.{is_listed, all_different}
use Rattle.pmem_words.specs.Owned.{owned_at}
use Rattle.pmem_words.specs.declared.owned.OwnedBlock.{OwnedBlock}
use Rattle.log_core.specs.Needs.{owned_numbers}
use Rattle.log_core.proofs.Fronts.{not_again}
use Rattle.log_core.proofs.clauses.Others.{owned_listed}
use Rattle.log_core.proofs.writes.PlacedBytes.{listed_place}

-- at one place each
pub owned_unique : (owned : List OwnedBlock) → all_different (owned_numbers owned) ≡ true → (i j : ℕ) → i < length owned → j < length owned → (owned_at owned i).block ≡ (owned_at owned j).block → i ≡ j
owned_unique [] once i j low high same = absurd (omega (arith, low))
owned_unique (o ∷ owned) once zero zero low high same = refl
owned_unique (o ∷ owned) once zero (suc j) low high same = absurd (not_again o.block (owned_numbers owned) once (subst (λ (b : ℕ). is_listed (owned_numbers owned) b ≡ true) (sym same) (owned_listed owned j (omega (arith, high)))))
owned_unique (o ∷ owned) once (suc i) zero low high same = absurd (not_again o.block (owned_numbers owned) once (subst (λ (b : ℕ). is_listed (owned_numbers owned) b ≡ true) same (owned_listed owned i (omega (arith, low)))))
owned_unique (o ∷ owned) once (suc i) (suc j) low high same = ap suc (owned_unique owned (and_parts (not (is_listed (owned_numbers owned) o.block)) (all_different (owned_numbers owned)) once).1 i j (omega (arith, low)) (omega (arith, high)) same)

module _ (owned : List OwnedBlock) (once : all_different (owned_numbers owned) ≡ true) where
  -- a list of numbers, each at its own place from one on
  places_once : (blocks : List ℕ) (first : ℕ) → first + length blocks < length owned + 1 → ((place : ℕ) → place < length blocks → slice_index blocks place ≡ (owned_at owned (first + place)).block) → all_different blocks ≡ true
  places_once [] first few at = refl
  places_once (block ∷ blocks) first few at = rw (none (is_listed blocks block) refl, places_once blocks (first + 1) (omega (arith, few)) next) refl
    where
      next : (place : ℕ) → place < length blocks → slice_index blocks place ≡ (owned_at owned (first + 1 + place)).block
      next place low = at (suc place) (omega (arith, low)) ∙ ap (λ (k : ℕ). (owned_at owned k).block) (let same : first + suc place ≡ first + 1 + place = omega arith in same)

      here : block ≡ (owned_at owned first).block
      here = at 0 (omega arith) ∙ ap (λ (k : ℕ). (owned_at owned k).block) (let same : first + 0 ≡ first = omega arith in same)

      none : (b : Bool) → is_listed blocks block ≡ b → b ≡ false
      none false is = refl
      none true is = absurd (let r = listed_place blocks block is in let inside = r.1 in
          let same : (owned_at owned first).block ≡ (owned_at owned (first + 1 + r.0)).block = sym here ∙ (sym r.2 ∙ next r.0 r.1) in
          let one = owned_unique owned once first (first + 1 + r.0) (omega (arith, few)) (omega (arith, few, inside)) same in omega (arith, one))

  -- and one behind them
  pub holder_once : (blocks : List ℕ) (count : ℕ) → count < length owned → length blocks ≡ count → ((place : ℕ) → place < count → slice_index blocks place ≡ (owned_at owned place).block) → all_different ((owned_at owned count).block ∷ blocks) ≡ true
  holder_once blocks count inside long at = rw (none (is_listed blocks (owned_at owned count).block) refl, places_once blocks 0 (omega (arith, inside, long)) each) refl
    where
      each : (place : ℕ) → place < length blocks → slice_index blocks place ≡ (owned_at owned (0 + place)).block
      each place low = at place (omega (arith, low, long)) ∙ ap (λ (k : ℕ). (owned_at owned k).block) (let same : place ≡ 0 + place = omega arith in same)

      none : (b : Bool) → is_listed blocks (owned_at owned count).block ≡ b → b ≡ false
      none false is = refl
      none true is = absurd (let r = listed_place blocks (owned_at owned count).block is in let low = r.1 in
          let below : r.0 < count = omega (arith, low, long) in
          let one = owned_unique owned once r.0 count (omega (arith, below, inside)) inside (sym (at r.0 below) ∙ r.2) in omega (arith, one, below))
