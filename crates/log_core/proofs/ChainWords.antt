-- A kept word of a snapshot block, or of a block of the data area, of a kept generation is as it was recorded.
use Rattle.std.proofs.Common.{◌≡◌, ◌⊎◌, inl, inr, ◌++◌, ◌||◌, ◌==◌, refl, not, ℕ, Bool, true, false, List, [], ◌∷◌, drop, sym, ◌∙◌, subst, slice_index}
use Rattle.std.proofs.lemmas.Bool.{and_parts, and_from, not-true, eqb-true}
use Rattle.std.proofs.lemmas.List.Folds.{list_any-append}
use Rattle.log_image.specs.Chains.{all_different, is_listed}
use Rattle.log_core.specs.Entries.{place_in}
use Rattle.log_core.specs.Origin.{Origin, shape, Generation}
use Rattle.log_core.specs.Files.{entries}
use Rattle.log_core.specs.Cores.{Core, is_named, log_blocks, data_names}
use Rattle.log_core.specs.Order.{nth_generation}
use Rattle.log_core.specs.Walks.{IsKeptWord}
use Rattle.log_core.specs.Invariant.{Invariant, KeptIn}
use Rattle.log_core.proofs.clauses.Apart.{has_left, has_right, either_of}

-- of different numbers none is in two parts
pub in_one_part : (first second : List ℕ) (number : ℕ) → all_different (first ++ second) ≡ true → is_listed first number ≡ true → is_listed second number ≡ true → ⊥
in_one_part [] second number different here there = cc
in_one_part (other ∷ first) second number different here there = go (other == number) refl here (λ listed. in_one_part first second number parts.1 listed there)
  where
    parts : (not (is_listed (first ++ second) other) ≡ true) × (all_different (first ++ second) ≡ true)
    parts = and_parts (not (is_listed (first ++ second) other)) (all_different (first ++ second)) different

    go : (same : Bool) → (other == number) ≡ same → (same || is_listed first number) ≡ true → (is_listed first number ≡ true → ⊥) → ⊥
    go true e listed rest = (let again : is_listed (first ++ second) other ≡ true = has_right first second other (subst (λ (k : ℕ). is_listed second k ≡ true) (sym (eqb-true other number e)) there) in
        let none = not-true (is_listed (first ++ second) other) parts.0 in
        let both : true ≡ false = sym again ∙ none in cc)
    go false e listed rest = rest listed

-- the first part of different numbers are different
pub front_different : (first second : List ℕ) → all_different (first ++ second) ≡ true → all_different first ≡ true
front_different [] second different = refl
front_different (number ∷ first) second different = and_from (not (is_listed first number)) (all_different first) (go (is_listed first number) refl parts.0) (front_different first second parts.1)
  where
    parts : (not (is_listed (first ++ second) number) ≡ true) × (all_different (first ++ second) ≡ true)
    parts = and_parts (not (is_listed (first ++ second) number)) (all_different (first ++ second)) different

    go : (b : Bool) → is_listed first number ≡ b → not (is_listed (first ++ second) number) ≡ true → not b ≡ true
    go false e none = refl
    go true e none = (let some = has_left first second number e in let never = not-true (is_listed (first ++ second) number) none in let both : true ≡ false = sym some ∙ never in cc)

-- and so are the second
pub back_different : (first second : List ℕ) → all_different (first ++ second) ≡ true → all_different second ≡ true
back_different [] second different = different
back_different (number ∷ first) second different = back_different first second (and_parts (not (is_listed (first ++ second) number)) (all_different (first ++ second)) different).1

module _ (o : Origin) (c : Core) (inv : Invariant o c) (place : ℕ) (kept : KeptIn o c place) where
  abbrev g : Generation
  g = nth_generation c.generations place

  abbrev logs : List ℕ
  logs = log_blocks (drop g.cut c.logs)

  abbrev rest : List ℕ
  rest = data_names o (entries o c.history) g

  -- such a block is no log block of the chain
  pub apart : (block : ℕ) → is_listed (g.snapshots ++ rest) block ≡ true → is_listed logs block ≡ true → ⊥
  apart block listed log = either_of (is_listed g.snapshots block) (is_listed rest block) (sym (list_any-append (λ (other : ℕ). other == block) g.snapshots rest) ∙ listed)
      (λ snapshot. in_one_part g.snapshots logs block (front_different (g.snapshots ++ logs) rest once) snapshot log)
      (λ named. in_one_part (g.snapshots ++ logs) rest block once (has_right g.snapshots logs block log) named)
    where
      once : all_different ((g.snapshots ++ logs) ++ rest) ≡ true
      once = (inv.owners.once place kept).once

  pub chain_word : (block slot word : ℕ) → is_listed (g.snapshots ++ rest) block ≡ true →
      IsKeptWord (shape o) c.memory.now.words (λ named. is_named o c.logs (entries o c.history) g named) (drop g.cut c.logs) (record { block = block; slot = slot; word = word }) →
      word ≡ slice_index (c.recorded block) slot
  chain_word block slot word listed held = go held.word_is
    where
      go : (word ≡ slice_index c.memory.now.words (place_in (shape o) block slot)) ⊎ ((word ≡ 0) × (is_listed logs block ≡ true)) → word ≡ slice_index (c.recorded block) slot
      go (inl same) = same ∙ ((inv.contents place kept).words block slot listed held.inside).present
      go (inr none) = absurd (apart block listed none.1)
