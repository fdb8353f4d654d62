-- Words of bits in which more blocks are noted.
use Rattle.std.proofs.Common.{◌≡◌, ◌<◌, ◌/◌, ◌%◌, ◌^◌, ◌==◌, ◌||◌, ℕ, zero, suc, Bool, true, false, List, [], ◌∷◌, length, replicate, refl, sym, ◌∙◌, ap, arith, bit_or, slice_index, slice_set}
use Rattle.std.specs.Int.{bit_at}
use Rattle.std.proofs.lemmas.Bool.{eqb-true, eqb-false, ne_eqb, eq-eqb}
use Rattle.std.proofs.lemmas.Nat.Bits.{bit_at_or, bit_at-lt, bit_at-zero, bit_at-pow_same, bit_at-pow_other}
use Rattle.std.proofs.lemmas.List.{length-set, length-replicate, get_or-set_same, get_or-set_other}
use Rattle.log_image.specs.Chains.{is_listed}
use Rattle.pmem_words.specs.Noted.{is_noted, with_noted, noted_first, noted_more}

pub length_noted : (words blocks : List ℕ) → length (with_noted words blocks) ≡ length words
length_noted words [] = refl
length_noted words (block ∷ blocks) =
    (let set = bit_or (slice_index words (block / 64)) (2 ^ (block % 64)) in length_noted (slice_set words (block / 64) set) blocks ∙ length-set words (block / 64) set)

-- one block more
module _ (words : List ℕ) (other block : ℕ) (inside : block / 64 < length words) where
  abbrev value : ℕ
  value = bit_or (slice_index words (other / 64)) (2 ^ (other % 64))

  abbrev set : List ℕ
  set = slice_set words (other / 64) value

  in_word : block / 64 ≡ other / 64 → slice_index set (block / 64) ≡ value
  in_word near = ap (λ (k : ℕ). slice_index set k) near ∙ get_or-set_same words (other / 64) value 0 (omega (arith, inside, near))

  bit : ℕ → ℕ
  bit word = bit_at word (block % 64)

  one_noted : is_noted set block ≡ ((other == block) || is_noted words block)
  one_noted = go (block / 64 == other / 64) refl
    where
      near_one : (same : Bool) → (other == block) ≡ same → block / 64 ≡ other / 64 → is_noted set block ≡ (same || is_noted words block)
      near_one true e near =
          (let is = eqb-true other block e in
          let one = ap (λ (k : ℕ). bit_at (2 ^ (other % 64)) k) (ap (λ (k : ℕ). k % 64) (sym is)) ∙ bit_at-pow_same (other % 64) in
          let both = bit_at_or (slice_index words (other / 64)) (2 ^ (other % 64)) (block % 64) in
          let low = bit_at-lt (slice_index words (other / 64)) (block % 64) in
          ap (λ (word : ℕ). bit_at word (block % 64) == 1) (in_word near) ∙ eq-eqb (bit_at value (block % 64)) 1 (omega (arith, both, one, low)))
      near_one false e near =
          (let apart = eqb-false other block e in
          let none = bit_at-pow_other (other % 64) (block % 64) (λ same. apart (omega (arith, same, near))) in
          let both = bit_at_or (slice_index words (other / 64)) (2 ^ (other % 64)) (block % 64) in
          let is : bit_at value (block % 64) ≡ bit_at (slice_index words (other / 64)) (block % 64) = omega (arith, both, none) in
          ap (λ (word : ℕ). bit_at word (block % 64) == 1) (in_word near)
          ∙ (ap (λ (b : ℕ). b == 1) is ∙ ap (λ (k : ℕ). bit_at (slice_index words k) (block % 64) == 1) (sym near)))

      go : (near : Bool) → (block / 64 == other / 64) ≡ near → is_noted set block ≡ ((other == block) || is_noted words block)
      go true e = near_one (other == block) refl (eqb-true (block / 64) (other / 64) e)
      go false e =
          (let apart = eqb-false (block / 64) (other / 64) e in
          rw (ne_eqb other block (λ same. apart (omega (arith, same))))
          (ap (λ (word : ℕ). bit_at word (block % 64) == 1) (get_or-set_other words (other / 64) (block / 64) value 0 apart)))

-- three tests in another order
or_between : (a b c : Bool) → (a || (b || c)) ≡ ((b || a) || c)
or_between true true c = refl
or_between true false c = refl
or_between false true c = refl
or_between false false c = refl

-- a block is noted where it was, or is one of them
pub with_blocks_noted : (words blocks : List ℕ) (block : ℕ) → block / 64 < length words → is_noted (with_noted words blocks) block ≡ (is_listed blocks block || is_noted words block)
with_blocks_noted words [] block inside = refl
with_blocks_noted words (first ∷ blocks) block inside =
    (let set = bit_or (slice_index words (first / 64)) (2 ^ (first % 64)) in
    let long = length-set words (first / 64) set in
    with_blocks_noted (slice_set words (first / 64) set) blocks block (omega (arith, inside, long))
    ∙ (ap (λ (b : Bool). is_listed blocks block || b) (one_noted words first block inside)
    ∙ or_between (is_listed blocks block) (first == block) (is_noted words block)))

-- where a call notes blocks
pub length_more : (noting : Bool) (words blocks : List ℕ) → length (noted_more noting words blocks) ≡ length words
length_more true words blocks = length_noted words blocks
length_more false words blocks = refl

pub more_noted : (noting : Bool) (words blocks : List ℕ) (block : ℕ) → noting ≡ true → block / 64 < length words → is_noted (noted_more noting words blocks) block ≡ (is_listed blocks block || is_noted words block)
more_noted true words blocks block on inside = with_blocks_noted words blocks block inside
more_noted false words blocks block on inside = cc

pub length_first : (noting : Bool) (words : List ℕ) (first : ℕ) → length (noted_first noting words first) ≡ length words
length_first true words first = length_noted (replicate (length words) 0) (first ∷ []) ∙ length-replicate {A = ℕ} (length words) 0
length_first false words first = refl

zero_at : (count k : ℕ) → slice_index (replicate count 0) k ≡ 0
zero_at zero k = refl
zero_at (suc count) zero = refl
zero_at (suc count) (suc k) = zero_at count k

or_none : (b c : Bool) → c ≡ false → ((b || false) || c) ≡ b
or_none true c none = refl
or_none false c none = none

pub first_noted : (noting : Bool) (words : List ℕ) (first block : ℕ) → noting ≡ true → block / 64 < length words → is_noted (noted_first noting words first) block ≡ (first == block)
first_noted true words first block on inside =
    (let long = length-replicate {A = ℕ} (length words) 0 in
    with_blocks_noted (replicate (length words) 0) (first ∷ []) block (omega (arith, inside, long))
    ∙ or_none (first == block) (is_noted (replicate (length words) 0) block)
    (ap (λ (word : ℕ). bit_at word (block % 64) == 1) (zero_at (length words) (block / 64)) ∙ ap (λ (b : ℕ). b == 1) (bit_at-zero (block % 64))))
first_noted false words first block on inside = cc
