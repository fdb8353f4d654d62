-- Lists of owned blocks of which some get other marks, and the words stored in them.
use Rattle.std.proofs.Common.{◌≡◌, ◌≢◌, ◌<◌, ◌/◌, ◌==◌, ℕ, zero, suc, Bool, true, false, if◌then◌else◌, List, [], ◌∷◌, length, map, refl, sym, ◌∙◌, ap, slice_set, Option, Some, None, inl, inr}
use Rattle.std.specs.List.{AllByRecursion}
use Rattle.std.proofs.lemmas.Bool.{ne_eqb}
use Rattle.std.proofs.lemmas.Bool.Decides.{eqb_tells}
use Rattle.std.proofs.lemmas.List.{get_or-map}
use Rattle.std.proofs.lemmas.Nat.{div-mul-add}
use Rattle.log_image.specs.Image.{Shape, words_in}
use Rattle.pmem_words.specs.Owned.{owned_at}
use Rattle.pmem_words.specs.declared.owned.OwnedBlock.{OwnedBlock}
use Rattle.log_core.specs.Entries.{place_in}
use Rattle.log_core.specs.Views.{Stored}
use Rattle.log_core.specs.Works.{stored_at}
use Rattle.log_core.specs.Needs.{owned_numbers}
use Rattle.log_core.specs.Steps.{area_of, stored_with, stored_marked}

-- each owned block is in its area
abbrev pub AreInAreas : Shape → List OwnedBlock → Type 0
AreInAreas image owned = AllByRecursion (λ (o : OwnedBlock). o.area ≡ area_of image o.block) owned

-- a block with other marks
pub record IsSameBlock (a b : OwnedBlock) : Type 0 where
  pub block : b.block ≡ a.block
  pub area : b.area ≡ a.area

module _ (f : OwnedBlock → OwnedBlock) (same : (o : OwnedBlock) → IsSameBlock o (f o)) where
  pub numbers_map : (owned : List OwnedBlock) → owned_numbers (map f owned) ≡ owned_numbers owned
  numbers_map [] = refl
  numbers_map (o ∷ owned) = ap (λ (n : ℕ). n ∷ owned_numbers (map f owned)) (same o).block ∙ ap (λ (rest : List ℕ). o.block ∷ rest) (numbers_map owned)

  pub areas_map : (image : Shape) (owned : List OwnedBlock) → AreInAreas image owned → AreInAreas image (map f owned)
  areas_map image [] areas = tt
  areas_map image (o ∷ owned) areas = ((same o).area ∙ (areas.0 ∙ ap (area_of image) (sym (same o).block)), areas_map image owned areas.1)

  pub owned_at_map : (owned : List OwnedBlock) (place : ℕ) → place < length owned → owned_at (map f owned) place ≡ f (owned_at owned place)
  owned_at_map owned place inside = get_or-map f owned place _ _ inside

pub numbers_set : (owned : List OwnedBlock) (place : ℕ) (b : OwnedBlock) → IsSameBlock (owned_at owned place) b → owned_numbers (slice_set owned place b) ≡ owned_numbers owned
numbers_set [] place b same = refl
numbers_set (o ∷ owned) zero b same = ap (λ (n : ℕ). n ∷ owned_numbers owned) same.block
numbers_set (o ∷ owned) (suc place) b same = ap (λ (rest : List ℕ). o.block ∷ rest) (numbers_set owned place b same)

pub areas_set : (image : Shape) (owned : List OwnedBlock) (place : ℕ) (b : OwnedBlock) → IsSameBlock (owned_at owned place) b → AreInAreas image owned → AreInAreas image (slice_set owned place b)
areas_set image [] place b same areas = areas
areas_set image (o ∷ owned) zero b same areas = (same.area ∙ (areas.0 ∙ ap (area_of image) (sym same.block)), areas.1)
areas_set image (o ∷ owned) (suc place) b same areas = (areas.0, areas_set image owned place b same areas.1)

-- a word of a block is of that block alone
pub block_of : (image : Shape) (block k : ℕ) → k < words_in image → place_in image block k / words_in image ≡ block
block_of image block k inside = div-mul-add block (words_in image) k inside

-- what is stored at a place, after a store elsewhere
pub stored_at_other : (stored : List Stored) (word value place : ℕ) → place ≢ word → stored_at (stored_with stored word value) place ≡ stored_at stored place
stored_at_other [] word value place other = rw (ne_eqb word place (λ same. other (sym same))) refl
stored_at_other (r ∷ stored) word value place other = elim (eqb_tells r.word word) [
  | inl same ↦ rw (same.0, ne_eqb r.word place (λ here. other (sym here ∙ same.1))) (stored_at_other stored word value place other)
  | inr apart ↦ rw apart.0 (ap (λ (rest : Option Stored). if r.word == place then Some r else rest) (stored_at_other stored word value place other))
]

-- what is stored and marked at a place, after a mark
pub stored_at_marked : (stored : List Stored) (word place value : ℕ) → stored_at stored place ≡ Some (record { word = place; value = value; marked = true }) →
    stored_at (stored_marked stored word) place ≡ Some (record { word = place; value = value; marked = true })
stored_at_marked [] word place value is = cc
stored_at_marked (r ∷ stored) word place value is = by (r.word == word) (r.word == place) refl is (stored_at_marked stored word place value)
  where
    by : (b here : Bool) → (r.word == place) ≡ here → (if here then Some r else stored_at stored place) ≡ Some (record { word = place; value = value; marked = true }) →
        (stored_at stored place ≡ Some (record { word = place; value = value; marked = true }) → stored_at (stored_marked stored word) place ≡ Some (record { word = place; value = value; marked = true })) →
        (if (if b then record r { marked = true } else r).word == place then Some (if b then record r { marked = true } else r) else stored_at (stored_marked stored word) place)
        ≡ Some (record { word = place; value = value; marked = true })
    by true true e same rest = rw e (ap (λ (s : Option Stored). marked_some s) same)
      where
        marked_some : Option Stored → Option Stored
        marked_some None = None
        marked_some (Some s) = Some (record s { marked = true })
    by false true e same rest = rw e same
    by true false e same rest = rw e (rest same)
    by false false e same rest = rw e (rest same)
