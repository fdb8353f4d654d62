-- A log block that stands behind the blocks of a write leaves the list, and they stay.
use Rattle.std.proofs.Common.{◌≡◌, ◌≢◌, ℕ, ◌*◌, ◌≤◌, ◌==◌, not, Bool, true, false, List, [], ◌∷◌, ◌++◌, length, take, drop, if◌then◌else◌, refl, sym, ap, ◌∙◌, arith}
use Rattle.std.proofs.lemmas.Bool.{eq-eqb, or_left, or_right}
use Rattle.std.proofs.lemmas.List.{take-append-le, drop-append-le, take-append-drop, length-drop, nil_from_length}
use Rattle.log_image.specs.Chains.{all_different, is_listed}
use Rattle.log_image.proofs.SetWordLemmas.{not_last}
use Rattle.pmem_words.specs.Owned.{owned_but, contents_but}
use Rattle.pmem_words.specs.declared.owned.OwnedBlock.{OwnedBlock}
use Rattle.log_core.specs.Needs.{owned_numbers}

-- f is true of the last block, and of none before it
module _ (q : ℕ) (f : ℕ → Bool) (last : OwnedBlock) (gone : f last.block ≡ true) where
  pub owned_front : (owned : List OwnedBlock) → ((b : ℕ) → is_listed (owned_numbers owned) b ≡ true → f b ≡ false) → owned_but f (owned ++ last ∷ []) ≡ owned
  owned_front [] stay = ap (λ (b : Bool). if not b then last ∷ [] else []) gone
  owned_front (o ∷ owned) stay =
      ap (λ (b : Bool). if not b then o ∷ owned_but f (owned ++ last ∷ []) else owned_but f (owned ++ last ∷ [])) (stay o.block (or_left (o.block == o.block) (is_listed (owned_numbers owned) o.block) (eq-eqb o.block o.block refl)))
      ∙ ap (λ (l : List OwnedBlock). o ∷ l) (owned_front owned (λ b listed. stay b (or_right (o.block == b) (is_listed (owned_numbers owned) b) listed)))

  pub contents_front : (owned : List OwnedBlock) (contents words : List ℕ) → ((b : ℕ) → is_listed (owned_numbers owned) b ≡ true → f b ≡ false) → length contents ≡ length owned * q →
      contents_but q f (owned ++ last ∷ []) (contents ++ words) ≡ contents
  contents_front [] contents words stay long =
      ap (λ (l : List ℕ). contents_but q f (last ∷ []) (l ++ words)) none
      ∙ (ap (λ (b : Bool). if b then [] else take q words ++ []) gone ∙ sym none)
    where
      none : contents ≡ []
      none = nil_from_length contents (omega (arith, long))
  contents_front (o ∷ owned) contents words stay long =
      (let first : q ≤ length contents = omega (arith, long) in
      ap (λ (b : Bool). if b then contents_but q f (owned ++ last ∷ []) (drop q (contents ++ words)) else take q (contents ++ words) ++ contents_but q f (owned ++ last ∷ []) (drop q (contents ++ words)))
      (stay o.block (or_left (o.block == o.block) (is_listed (owned_numbers owned) o.block) (eq-eqb o.block o.block refl)))
      ∙ (ap (λ (l : List ℕ). l ++ contents_but q f (owned ++ last ∷ []) (drop q (contents ++ words))) (take-append-le q contents words first)
      ∙ (ap (λ (l : List ℕ). take q contents ++ contents_but q f (owned ++ last ∷ []) l) (drop-append-le q contents words first)
      ∙ (ap (λ (l : List ℕ). take q contents ++ l)
      (contents_front owned (drop q contents) words (λ b listed. stay b (or_right (o.block == b) (is_listed (owned_numbers owned) b) listed)) (length-drop q contents ∙ (let all = long in omega (arith, all))))
      ∙ take-append-drop q contents))))

-- numbers of one list behind another
pub numbers_join : (owned : List OwnedBlock) (last : OwnedBlock) → owned_numbers (owned ++ last ∷ []) ≡ owned_numbers owned ++ last.block ∷ []
numbers_join [] last = refl
numbers_join (o ∷ owned) last = ap (λ (l : List ℕ). o.block ∷ l) (numbers_join owned last)

-- no block before the last is it
pub apart_front : (owned : List OwnedBlock) (last : OwnedBlock) → all_different (owned_numbers (owned ++ last ∷ [])) ≡ true → (b : ℕ) → is_listed (owned_numbers owned) b ≡ true → b ≢ last.block
apart_front owned last once b listed = not_last (owned_numbers owned) last.block [] (sym (ap all_different (numbers_join owned last)) ∙ once) b listed
