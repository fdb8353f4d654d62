-- The bits of blocks in a word of the bitmap are those of its blocks.
use Rattle.std.proofs.Common.{ℕ, suc, ◌≡◌, ◌≢◌, ◌/◌, ◌%◌, ◌^◌, ◌<◌, ◌≤◌, ◌==◌, ◌&&◌, ◌||◌, ◌⊎◌, inl, inr, not, min, max, Bool, true, false, if◌then◌else◌, List, [], ◌∷◌, filter, length, refl, sym, ap, ◌∙◌, arith}
use Rattle.std.specs.Prelude.{bit_or}
use Rattle.std.specs.Int.{bit_at}
use Rattle.std.specs.List.{list_any}
use Rattle.std.proofs.lemmas.Bool.{eqb-true, eq-eqb, ne_eqb, cases_eq, or_left, or_right, and_from, and_parts, false_from_ne_true, cases_lt}
use Rattle.std.proofs.lemmas.Nat.Bits.{bit_at_or, bit_at-pow_same, bit_at-pow_other, bit_at-lt, bit_at-zero}
use Rattle.pmem_words.specs.Owned.{is_among, owned_but}
use Rattle.pmem_words.specs.declared.owned.OwnedBlock.{OwnedBlock}
use Rattle.block_bitmap.specs.GivenBits.{least_from, least_word, with_bit, bits_from, bits_in}

-- whether one of these blocks has its bit at this place of the word
abbrev has_bit : ℕ → ℕ → List OwnedBlock → Bool
has_bit word place owned = list_any (λ (o : OwnedBlock). (o.block / 64 == word) && (o.block % 64 == place)) owned

-- whether one of these blocks is this one
abbrev pub has_block : ℕ → List OwnedBlock → Bool
has_block block owned = list_any (λ (o : OwnedBlock). o.block == block) owned

or_none : (x y : Bool) → y ≡ false → (x || y) ≡ x
or_none true y none = refl
or_none false y none = none

or_more : (x y z : Bool) → ((x || y) || z) ≡ (x || (y || z))
or_more true y z = refl
or_more false y z = refl

-- one bit of a number with a power of 2
pow_bit : (bits k i : ℕ) → (bit_at (bit_or bits (2 ^ k)) i == 1) ≡ ((bit_at bits i == 1) || (k == i))
pow_bit bits k i = by (cases_eq i k)
  where
    by : (i ≡ k) ⊎ (i ≢ k) → (bit_at (bit_or bits (2 ^ k)) i == 1) ≡ ((bit_at bits i == 1) || (k == i))
    by (inl same) =
        (let both = bit_at_or bits (2 ^ k) i in
        let low = bit_at-lt bits i in
        let here : bit_at (2 ^ k) i ≡ 1 = ap (bit_at (2 ^ k)) same ∙ bit_at-pow_same k in
        let one : bit_at (bit_or bits (2 ^ k)) i ≡ 1 = both ∙ ap (max (bit_at bits i)) here ∙ (let most : max (bit_at bits i) 1 ≡ 1 = omega (arith, low) in most) in
        eq-eqb (bit_at (bit_or bits (2 ^ k)) i) 1 one ∙ sym (or_right (bit_at bits i == 1) (k == i) (eq-eqb k i (sym same))))
    by (inr other) =
        (let both = bit_at_or bits (2 ^ k) i in
        let here = bit_at-pow_other k i other in
        let same : bit_at (bit_or bits (2 ^ k)) i ≡ bit_at bits i = both ∙ ap (max (bit_at bits i)) here ∙ (let most : max (bit_at bits i) 0 ≡ bit_at bits i = omega arith in most) in
        ap (λ (n : ℕ). n == 1) same ∙ sym (or_none (bit_at bits i == 1) (k == i) (ne_eqb k i (λ e. other (sym e)))))

with_bit_at : (word block bits i : ℕ) → (bit_at (with_bit word block bits) i == 1) ≡ ((bit_at bits i == 1) || ((block / 64 == word) && (block % 64 == i)))
with_bit_at word block bits i = by (block / 64 == word)
  where
    by : (here : Bool) → (bit_at (if here then bit_or bits (2 ^ (block % 64)) else bits) i == 1) ≡ ((bit_at bits i == 1) || (here && (block % 64 == i)))
    by true = pow_bit bits (block % 64) i
    by false = sym (or_none (bit_at bits i == 1) false refl)

bits_from_at : (word bits i : ℕ) (owned : List OwnedBlock) → (bit_at (bits_from word bits owned) i == 1) ≡ ((bit_at bits i == 1) || has_bit word i owned)
bits_from_at word bits i [] = sym (or_none (bit_at bits i == 1) false refl)
bits_from_at word bits i (o ∷ owned) =
    bits_from_at word (with_bit word o.block bits) i owned
    ∙ ap (λ (b : Bool). b || has_bit word i owned) (with_bit_at word o.block bits i)
    ∙ or_more (bit_at bits i == 1) ((o.block / 64 == word) && (o.block % 64 == i)) (has_bit word i owned)

-- a block is the one with its word and its bit
same_block : (word a b : ℕ) → (b / 64 == word) ≡ true → ((a / 64 == word) && (a % 64 == b % 64)) ≡ (a == b)
same_block word a b here = by (cases_eq a b)
  where
    at : b / 64 ≡ word
    at = eqb-true (b / 64) word here

    by : (a ≡ b) ⊎ (a ≢ b) → ((a / 64 == word) && (a % 64 == b % 64)) ≡ (a == b)
    by (inl same) = and_from (a / 64 == word) (a % 64 == b % 64) (eq-eqb (a / 64) word (omega (arith, at, same))) (eq-eqb (a % 64) (b % 64) (omega (arith, same))) ∙ sym (eq-eqb a b same)
    by (inr other) =
        false_from_ne_true ((a / 64 == word) && (a % 64 == b % 64)) (λ both.
        (let parts = and_parts (a / 64 == word) (a % 64 == b % 64) both in
        let high = eqb-true (a / 64) word parts.0 in
        let low = eqb-true (a % 64) (b % 64) parts.1 in
        other (omega (arith, at, high, low))))
        ∙ sym (ne_eqb a b other)

has_bit_block : (word b : ℕ) (owned : List OwnedBlock) → (b / 64 == word) ≡ true → has_bit word (b % 64) owned ≡ has_block b owned
has_bit_block word b [] here = refl
has_bit_block word b (o ∷ owned) here = λ i. same_block word o.block b here i || has_bit_block word b owned here i

-- the bits in a word are those of its blocks
pub among_in : (word b : ℕ) (owned : List OwnedBlock) → is_among word (bits_in word owned) b ≡ ((b / 64 == word) && has_block b owned)
among_in word b owned = by (b / 64 == word) refl
  where
    bit_is : (bit_at (bits_in word owned) (b % 64) == 1) ≡ has_bit word (b % 64) owned
    bit_is = bits_from_at word 0 (b % 64) owned ∙ ap (λ (n : ℕ). (n == 1) || has_bit word (b % 64) owned) (bit_at-zero (b % 64))

    by : (here : Bool) → (b / 64 == word) ≡ here → (here && (bit_at (bits_in word owned) (b % 64) == 1)) ≡ (here && has_block b owned)
    by true here = bit_is ∙ has_bit_block word b owned here
    by false here = refl

-- the blocks that are not of a word
abbrev pub others_of : ℕ → List OwnedBlock → List OwnedBlock
others_of word owned = filter (λ (o : OwnedBlock). not (o.block / 64 == word)) owned

-- whether one of the blocks is of a word
abbrev pub is_in : ℕ → List OwnedBlock → Bool
is_in word owned = list_any (λ (o : OwnedBlock). o.block / 64 == word) owned

and_true : (x y : Bool) → y ≡ true → (x && y) ≡ x
and_true true y one = one
and_true false y one = refl

others_from : (word : ℕ) (all owned : List OwnedBlock) → ((block : ℕ) → has_block block owned ≡ true → has_block block all ≡ true) → owned_but (is_among word (bits_in word all)) owned ≡ others_of word owned
others_from word all [] within = refl
others_from word all (o ∷ owned) within =
    (let here : is_among word (bits_in word all) o.block ≡ (o.block / 64 == word) =
    among_in word o.block all ∙ and_true (o.block / 64 == word) (has_block o.block all) (within o.block (or_left (o.block == o.block) (has_block o.block owned) (eq-eqb o.block o.block refl))) in
    let rest = others_from word all owned (λ block h. within block (or_right (o.block == block) (has_block block owned) h)) in
    λ i. if not (here i) then o ∷ rest i else rest i)

-- after their bits are cleared, those of the word are left out
pub others_left : (word : ℕ) (owned : List OwnedBlock) → owned_but (is_among word (bits_in word owned)) owned ≡ others_of word owned
others_left word owned = others_from word owned owned (λ block h. h)

-- they are no more than before, and fewer where one was of the word
pub no_more_others : (word : ℕ) (owned : List OwnedBlock) → length (others_of word owned) ≤ length owned
no_more_others word [] = omega arith
no_more_others word (o ∷ owned) = by (o.block / 64 == word) (no_more_others word owned)
  where
    by : (here : Bool) → length (others_of word owned) ≤ length owned → length (if not here then o ∷ others_of word owned else others_of word owned) ≤ suc (length owned)
    by true few = omega (arith, few)
    by false few = omega (arith, few)

pub fewer_others : (word : ℕ) (owned : List OwnedBlock) → is_in word owned ≡ true → length (others_of word owned) < length owned
fewer_others word [] some = cc
fewer_others word (o ∷ owned) some = by (o.block / 64 == word) some (λ one. fewer_others word owned one)
  where
    by : (here : Bool) → (here || is_in word owned) ≡ true → (is_in word owned ≡ true → length (others_of word owned) < length owned)
        → length (if not here then o ∷ others_of word owned else others_of word owned) < suc (length owned)
    by true one rest = (let few = no_more_others word owned in omega (arith, few))
    by false one rest = (let few = rest one in omega (arith, few))

-- the least word is that of a block
least_of : (least : ℕ) (owned : List OwnedBlock) → (least_from least owned ≡ least) ⊎ (is_in (least_from least owned) owned ≡ true)
least_of least [] = inl refl
least_of least (o ∷ owned) = by (least_of (min least (o.block / 64)) owned) (cases_lt (o.block / 64) least)
  where
    now : ℕ
    now = least_from (min least (o.block / 64)) owned

    by : (now ≡ min least (o.block / 64)) ⊎ (is_in now owned ≡ true) → (o.block / 64 < least) ⊎ (least ≤ o.block / 64) → (now ≡ least) ⊎ (((o.block / 64 == now) || is_in now owned) ≡ true)
    by (inl same) (inl less) = inr (or_left (o.block / 64 == now) (is_in now owned) (eq-eqb (o.block / 64) now (omega (arith, same, less))))
    by (inl same) (inr low) = inl (omega (arith, same, low))
    by (inr some) order = inr (or_right (o.block / 64 == now) (is_in now owned) some)

pub least_is : (owned : List OwnedBlock) → 0 < length owned → is_in (least_word owned) owned ≡ true
least_is [] some = absurd (omega (arith, some))
least_is (o ∷ owned) some = by (least_of (o.block / 64) owned)
  where
    by : (least_from (o.block / 64) owned ≡ o.block / 64) ⊎ (is_in (least_from (o.block / 64) owned) owned ≡ true) → ((o.block / 64 == least_from (o.block / 64) owned) || is_in (least_from (o.block / 64) owned) owned) ≡ true
    by (inl same) = or_left (o.block / 64 == least_from (o.block / 64) owned) (is_in (least_from (o.block / 64) owned) owned) (eq-eqb (o.block / 64) (least_from (o.block / 64) owned) (sym same))
    by (inr some) = or_right (o.block / 64 == least_from (o.block / 64) owned) (is_in (least_from (o.block / 64) owned) owned) some
