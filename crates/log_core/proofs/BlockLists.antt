-- Lists of blocks: those without some, those that setting bits takes, and the numbers of owned blocks.
use Rattle.std.proofs.Common.{◌≡◌, ◌≢◌, ℕ, zero, suc, ◌+◌, ◌*◌, ◌/◌, ◌%◌, ◌<◌, ◌≤◌, ◌==◌, ◌&&◌, ◌||◌, not, Bool, true, false, List, [], ◌∷◌, ◌++◌, map, filter, if◌then◌else◌, refl, sym, ap, ◌∙◌, arith}
use Rattle.std.specs.List.{range_with_len}
use Rattle.std.specs.Int.{bit_at}
use Rattle.std.proofs.lemmas.Bool.{eqb-true, eqb-false, and_parts, and_from, and_right}
use Rattle.std.proofs.lemmas.List.{map-append}
use Rattle.log_image.specs.Image.{Shape}
use Rattle.log_image.specs.Chains.{all_different, is_listed}
use Rattle.log_image.proofs.NameLemmas.{range_different}
use Rattle.pmem_words.specs.Owned.{is_among, owned_but}
use Rattle.pmem_words.specs.declared.owned.OwnedBlock.{OwnedBlock}
use Rattle.log_core.specs.Needs.{owned_numbers}
use Rattle.log_core.specs.Steps.{is_gained, gained, taken_block}

-- a list keeps exactly the blocks that pass a test
pub has_filter : (p : ℕ → Bool) (blocks : List ℕ) (block : ℕ) → is_listed (filter p blocks) block ≡ (p block && is_listed blocks block)
has_filter p [] block = sym (and_right (p block) false refl)
has_filter p (first ∷ blocks) block = go (p first) refl (first == block) refl (has_filter p blocks block)
  where
    go : (passes : Bool) → p first ≡ passes → (same : Bool) → (first == block) ≡ same → is_listed (filter p blocks) block ≡ (p block && is_listed blocks block) →
        is_listed (if passes then first ∷ filter p blocks else filter p blocks) block ≡ (p block && (same || is_listed blocks block))
    go true is true here rest = rw (here, ap p (sym (eqb-true first block here)) ∙ is) refl
    go true is false here rest = rw here rest
    go false is true here rest = rest ∙ rw (ap p (sym (eqb-true first block here)) ∙ is) refl
    go false is false here rest = rest

-- and none of them twice, where none stands twice
pub different_filter : (p : ℕ → Bool) (blocks : List ℕ) → all_different blocks ≡ true → all_different (filter p blocks) ≡ true
different_filter p [] once = refl
different_filter p (first ∷ blocks) once =
    let parts : (not (is_listed blocks first) ≡ true) × (all_different blocks ≡ true) = and_parts (not (is_listed blocks first)) (all_different blocks) once in
    go (p first) refl parts.0 (different_filter p blocks parts.1)
  where
    go : (passes : Bool) → p first ≡ passes → not (is_listed blocks first) ≡ true → all_different (filter p blocks) ≡ true → all_different (if passes then first ∷ filter p blocks else filter p blocks) ≡ true
    go true is apart rest = and_from (not (is_listed (filter p blocks) first)) (all_different (filter p blocks)) (ap (λ (b : Bool). not b) (has_filter p blocks first) ∙ (rw is apart)) rest
    go false is apart rest = rest

-- a number of a range
pub in_range : (first count number : ℕ) → first ≤ number → number < first + count → is_listed (range_with_len first count) number ≡ true
in_range first zero number from below = absurd (omega (arith, from, below))
in_range first (suc count) number from below = go (first == number) refl (λ other. in_range (first + 1) count number (omega (arith, from, other)) (omega (arith, below)))
  where
    go : (same : Bool) → (first == number) ≡ same → (first ≢ number → is_listed (range_with_len (first + 1) count) number ≡ true) → (same || is_listed (range_with_len (first + 1) count) number) ≡ true
    go true is rest = refl
    go false is rest = rest (eqb-false first number is)

-- the blocks of a word of a bitmap
pub among_range : (word bits block : ℕ) → is_among word bits block ≡ true → is_listed (range_with_len (word * 64) 64) block ≡ true
among_range word bits block among =
    let near : block / 64 ≡ word = eqb-true (block / 64) word (and_parts (block / 64 == word) (bit_at bits (block % 64) == 1) among).0 in
    in_range (word * 64) 64 block (omega (arith, near)) (omega (arith, near))

-- exactly the blocks gained are taken, each once
pub has_gained : (word bits found block : ℕ) → is_listed (gained word bits found) block ≡ is_gained word bits found block
has_gained word bits found block = has_filter (λ (other : ℕ). is_gained word bits found other) (range_with_len (word * 64) 64) block ∙ go (is_gained word bits found block) refl
  where
    go : (gains : Bool) → is_gained word bits found block ≡ gains → (gains && is_listed (range_with_len (word * 64) 64) block) ≡ gains
    go true is = among_range word bits block (and_parts (is_among word bits block) (bit_at found (block % 64) == 0) is).0
    go false is = refl

pub gained_once : (word bits found : ℕ) → all_different (gained word bits found) ≡ true
gained_once word bits found = different_filter (λ (other : ℕ). is_gained word bits found other) (range_with_len (word * 64) 64) (range_different (word * 64) 64)

-- the numbers of owned blocks with some taken, and without some
pub numbers_taken : (image : Shape) (owned : List OwnedBlock) (blocks : List ℕ) → owned_numbers (owned ++ map (taken_block image) blocks) ≡ owned_numbers owned ++ blocks
numbers_taken image owned blocks = map-append (λ (o : OwnedBlock). o.block) owned (map (taken_block image) blocks) ∙ ap (λ (l : List ℕ). owned_numbers owned ++ l) (same blocks)
  where
    same : (blocks : List ℕ) → owned_numbers (map (taken_block image) blocks) ≡ blocks
    same [] = refl
    same (block ∷ blocks) = ap (λ (l : List ℕ). block ∷ l) (same blocks)

pub numbers_but : (f : ℕ → Bool) (owned : List OwnedBlock) → owned_numbers (owned_but f owned) ≡ filter (λ (block : ℕ). not (f block)) (owned_numbers owned)
numbers_but f [] = refl
numbers_but f (o ∷ owned) = go (f o.block) (numbers_but f owned)
  where
    go : (b : Bool) → owned_numbers (owned_but f owned) ≡ filter (λ (block : ℕ). not (f block)) (owned_numbers owned) →
        owned_numbers (if not b then o ∷ owned_but f owned else owned_but f owned) ≡ (if not b then o.block ∷ filter (λ (block : ℕ). not (f block)) (owned_numbers owned) else filter (λ (block : ℕ). not (f block)) (owned_numbers owned))
    go true rest = rest
    go false rest = ap (λ (l : List ℕ). o.block ∷ l) rest
