-- Owned blocks by their numbers, and what is known of the words stored in them.
use Rattle.std.proofs.Common.{ℕ, zero, suc, ◌≡◌, ◌≢◌, ◌<◌, ◌==◌, ◌&&◌, ◌||◌, not, nat_lt, Bool, true, false, if◌then◌else◌, List, [], ◌∷◌, ◌++◌, length, filter, slice_set, refl, sym, ap, ◌∙◌, arith}
use Rattle.std.specs.Prelude.{Option, Some, None}
use Rattle.std.proofs.lemmas.Bool.{eqb-true, eq-eqb, ne_eqb, and_parts, or_left, or_right, false≢true, not-true}
use Rattle.log_image.specs.Chains.{all_different, is_listed}
use Rattle.pmem_words.specs.Owned.{owned_at}
use Rattle.pmem_words.specs.declared.owned.OwnedBlock.{OwnedBlock}
use Rattle.log_entry.specs.Fields.{field}
use Rattle.log_entry.specs.declared.layouts.TheConstants.{HEAD_GENERATION}
use Rattle.log_core.specs.Entries.{head_place}
use Rattle.log_core.specs.Views.{MarkedWord, Stored}
use Rattle.log_core.specs.Works.{stored_at}
use Rattle.log_core.specs.Needs.{owned_numbers}
use Rattle.log_core.specs.Steps.{owned_with, stored_with, stored_marked, is_head_marked}

-- the block at a place is one of them
pub has_at : (owned : List OwnedBlock) (p : ℕ) → p < length owned → is_listed (owned_numbers owned) (owned_at owned p).block ≡ true
has_at [] p inside = absurd (omega (arith, inside))
has_at (o ∷ owned) zero inside = or_left (o.block == o.block) (is_listed (owned_numbers owned) o.block) (eq-eqb o.block o.block refl)
has_at (o ∷ owned) (suc p) inside = or_right (o.block == (owned_at owned p).block) (is_listed (owned_numbers owned) (owned_at owned p).block) (has_at owned p (omega (arith, inside)))

module _ (f : OwnedBlock → OwnedBlock) where
  -- no block of the number is there
  none_with : (block : ℕ) (owned : List OwnedBlock) → is_listed (owned_numbers owned) block ≡ false → owned_with block f owned ≡ owned
  none_with block [] none = refl
  none_with block (o ∷ owned) none = by (o.block == block) none (λ rest. none_with block owned rest)
    where
      by : (here : Bool) → (here || is_listed (owned_numbers owned) block) ≡ false → (is_listed (owned_numbers owned) block ≡ false → owned_with block f owned ≡ owned) → (if here then f o else o) ∷ owned_with block f owned ≡ o ∷ owned
      by true e rest = cc
      by false e rest = ap (λ (list : List OwnedBlock). o ∷ list) (rest e)

  -- where no number stands twice, a block by its number is one by its place
  pub set_by_number : (owned : List OwnedBlock) (p : ℕ) → p < length owned → all_different (owned_numbers owned) ≡ true → owned_with (owned_at owned p).block f owned ≡ slice_set owned p (f (owned_at owned p))
  set_by_number [] p inside once = absurd (omega (arith, inside))
  set_by_number (o ∷ owned) zero inside once =
      (let parts = and_parts (not (is_listed (owned_numbers owned) o.block)) (all_different (owned_numbers owned)) once in
      (λ i. (if eq-eqb o.block o.block refl i then f o else o) ∷ none_with o.block owned (not-true (is_listed (owned_numbers owned) o.block) parts.0) i))
  set_by_number (o ∷ owned) (suc p) inside once =
      (let parts = and_parts (not (is_listed (owned_numbers owned) o.block)) (all_different (owned_numbers owned)) once in
      let within : p < length owned = omega (arith, inside) in
      let apart : o.block ≢ (owned_at owned p).block = (λ same. false≢true (sym (not-true (is_listed (owned_numbers owned) o.block) parts.0) ∙ ap (is_listed (owned_numbers owned)) same ∙ has_at owned p within)) in
      (λ i. (if ne_eqb o.block (owned_at owned p).block apart i then f o else o) ∷ set_by_number owned p within parts.1 i))

-- what is stored at a word, after a store there
pub stored_here : (stored : List Stored) (word value : ℕ) → stored_at (stored_with stored word value) word ≡ Some (record { word = word; value = value; marked = false })
stored_here [] word value = rw (eq-eqb word word refl) refl
stored_here (r ∷ stored) word value = by (r.word == word) refl (stored_here stored word value)
  where
    by : (here : Bool) → (r.word == word) ≡ here → stored_at (stored_with stored word value) word ≡ Some (record { word = word; value = value; marked = false })
        → stored_at ((if not here then r ∷ filter (λ (x : Stored). not (x.word == word)) stored else filter (λ (x : Stored). not (x.word == word)) stored) ++ record { word = word; value = value; marked = false } ∷ []) word ≡ Some (record { word = word; value = value; marked = false })
    by true e rest = rest
    by false e rest = rw e rest

-- after a mark there, and elsewhere
pub marked_here : (stored : List Stored) (word value : ℕ) (marked : Bool) → stored_at stored word ≡ Some (record { word = word; value = value; marked = marked })
    → stored_at (stored_marked stored word) word ≡ Some (record { word = word; value = value; marked = true })
marked_here [] word value marked is = cc
marked_here (r ∷ stored) word value marked is = by (r.word == word) refl is (λ rest. marked_here stored word value marked rest)
  where
    note : Option Stored → Option Stored
    note None = None
    note (Some s) = Some (record s { marked = true })

    by : (here : Bool) → (r.word == word) ≡ here → (if here then Some r else stored_at stored word) ≡ Some (record { word = word; value = value; marked = marked })
        → (stored_at stored word ≡ Some (record { word = word; value = value; marked = marked }) → stored_at (stored_marked stored word) word ≡ Some (record { word = word; value = value; marked = true }))
        → (if (if here then record r { marked = true } else r).word == word then Some (if here then record r { marked = true } else r) else stored_at (stored_marked stored word) word) ≡ Some (record { word = word; value = value; marked = true })
    by true e same rest = rw e (ap note same)
    by false e same rest = rw e (rest same)

pub marked_other : (stored : List Stored) (word place : ℕ) → place ≢ word → stored_at (stored_marked stored word) place ≡ stored_at stored place
marked_other [] word place apart = refl
marked_other (r ∷ stored) word place apart = by (r.word == word) refl (marked_other stored word place apart)
  where
    by : (here : Bool) → (r.word == word) ≡ here → stored_at (stored_marked stored word) place ≡ stored_at stored place
        → (if (if here then record r { marked = true } else r).word == place then Some (if here then record r { marked = true } else r) else stored_at (stored_marked stored word) place) ≡ (if r.word == place then Some r else stored_at stored place)
    by true e rest = (let other : (r.word == place) ≡ false = ne_eqb r.word place (λ same. apart (sym same ∙ eqb-true r.word word e)) in rw other rest)
    by false e rest = ap (λ (later : Option Stored). if r.word == place then Some r else later) rest

-- a mark of another word than the head
pub head_unmarked : (generation : ℕ) (marks : List MarkedWord) (word value : ℕ) → word ≢ 3 → is_head_marked generation (marks ++ record { word = word; value = value } ∷ []) ≡ is_head_marked generation marks
head_unmarked generation [] word value apart = rw (ne_eqb word 3 apart) refl
head_unmarked generation (mark ∷ marks) word value apart = ap (λ (b : Bool). ((mark.word == head_place) && nat_lt generation (field HEAD_GENERATION mark.value)) || b) (head_unmarked generation marks word value apart)
