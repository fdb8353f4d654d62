-- Lists of blocks by a test, and what a measure needs of them.
use Rattle.std.specs.Prelude.{ℕ, suc, ◌≡◌, ◌*◌, ◌%◌, ◌^◌, ◌<◌, ◌≤◌, ◌==◌, cond, Bool, true, false, List, [], ◌∷◌, filter, length, bit_or, refl}
use Rattle.std.specs.Int.{bit_at}
use Rattle.std.proofs.Common.{arith, ap, ◌∙◌}
use Rattle.std.proofs.lemmas.Bool.{eqb-true, eq-eqb}
use Rattle.std.proofs.lemmas.List.FromFn.{length-range_with_len}
use Rattle.std.proofs.lemmas.Nat.Bits.{bit_at_or, bit_at-pow_same, bit_at-lt}
use Rattle.block_bitmap.specs.TakeBits.{blocks_of_word, bits_of}

-- as many pass at most where a test is narrower
by_narrow : (a b : Bool) (x : ℕ) (ps qs : List ℕ) → (b ≡ true → a ≡ true) → length qs ≤ length ps → length (cond b (x ∷ qs) qs) ≤ length (cond a (x ∷ ps) ps)
by_narrow true true x ps qs narrow less = omega (arith, less)
by_narrow true false x ps qs narrow less = omega (arith, less)
by_narrow false true x ps qs narrow less = (let never : false ≡ true = narrow refl in cc)
by_narrow false false x ps qs narrow less = less

pub no_more : (p q : ℕ → Bool) → ((x : ℕ) → q x ≡ true → p x ≡ true) → (xs : List ℕ) → length (filter q xs) ≤ length (filter p xs)
no_more p q narrow [] = omega arith
no_more p q narrow (x ∷ xs) = by_narrow (p x) (q x) x (filter p xs) (filter q xs) (narrow x) (no_more p q narrow xs)

-- and fewer where it refuses the first that passes
by_fewer : (a b : Bool) (x h : ℕ) (ps qs t : List ℕ) → (b ≡ true → a ≡ true) → (x ≡ h → b ≡ false) → cond a (x ∷ ps) ps ≡ h ∷ t → length qs ≤ length ps → (ps ≡ h ∷ t → length qs < length ps) → length (cond b (x ∷ qs) qs) < length (cond a (x ∷ ps) ps)
by_fewer true true x h ps qs t narrow refused is less fewer = (let same : x ≡ h = cc in let never : true ≡ false = refused same in cc)
by_fewer true false x h ps qs t narrow refused is less fewer = omega (arith, less)
by_fewer false true x h ps qs t narrow refused is less fewer = (let never : false ≡ true = narrow refl in cc)
by_fewer false false x h ps qs t narrow refused is less fewer = fewer is

pub fewer : (p q : ℕ → Bool) → ((x : ℕ) → q x ≡ true → p x ≡ true) → (h : ℕ) → q h ≡ false → (t xs : List ℕ) → filter p xs ≡ h ∷ t → length (filter q xs) < length (filter p xs)
fewer p q narrow h refused t [] is = cc
fewer p q narrow h refused t (x ∷ xs) is = by_fewer (p x) (q x) x h (filter p xs) (filter q xs) t (narrow x) (λ same. ap q same ∙ refused) is (no_more p q narrow xs) (λ rest. fewer p q narrow h refused t xs rest)

-- no more pass than there are
pub at_most : (p : ℕ → Bool) (xs : List ℕ) → length (filter p xs) ≤ length xs
at_most p [] = omega arith
at_most p (x ∷ xs) = by (p x) (at_most p xs)
  where
    by : (a : Bool) → length (filter p xs) ≤ length xs → length (cond a (x ∷ filter p xs) (filter p xs)) ≤ suc (length xs)
    by true less = omega (arith, less)
    by false less = omega (arith, less)

pub word_blocks : (word : ℕ) → length (blocks_of_word word) ≡ 64
unfolding blocks_of_word
word_blocks word = length-range_with_len (word * 64) 64

-- a bit that a number has, its union with another one has too
pub clear_narrow : (a b place : ℕ) → (bit_at (bit_or a b) place == 0) ≡ true → (bit_at a place == 0) ≡ true
clear_narrow a b place is = eq-eqb (bit_at a place) 0 (let none = eqb-true (bit_at (bit_or a b) place) 0 is in omega (arith, none, bit_at_or a b place))

-- the first of some blocks has its bit among theirs
pub first_bit : (block : ℕ) (blocks : List ℕ) → bit_at (bits_of (block ∷ blocks)) (block % 64) ≡ 1
first_bit block blocks = (let or = bit_at_or (2 ^ (block % 64)) (bits_of blocks) (block % 64) in let one = bit_at-pow_same (block % 64) in let low = bit_at-lt (bits_of blocks) (block % 64) in omega (arith, or, one, low))
