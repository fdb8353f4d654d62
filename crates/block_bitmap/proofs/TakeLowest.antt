-- The lowest bit of a word, and the blocks of the others.
use Rattle.std.proofs.Common.{◌≡◌, ◌≢◌, ◌<◌, ◌≤◌, ◌+◌, ◌-◌, ◌*◌, ◌%◌, ◌^◌, ◌==◌, ℕ, true, false, [], ◌∷◌, ap, ◌∙◌, arith}
use Rattle.std.specs.Prelude.{bit_and, bit_or}
use Rattle.std.specs.Int.{bit_at, trailing_zeros}
use mir.Syntax.{w64}
use Rattle.std.proofs.lemmas.Bool.{eq-eqb, ne_eqb}
use Rattle.std.proofs.lemmas.Nat.Bits.{bit_at-zero, bit_at_or, bit_at-trailing_zeros, bit_at_clear_same, bit_at_clear_other, same_from_bits}
use Rattle.std.proofs.Math.Pow.{pow_mono}
use Rattle.block_bitmap.specs.TakeBits.{blocks_of_word, blocks_in}
use Rattle.block_bitmap.proofs.TakeRanges.{first_passes, none_pass}

-- no bit, no block
pub none_in : (word : ℕ) → blocks_in word 0 ≡ []
unfolding blocks_of_word
none_in word = none_pass (λ x. bit_at 0 (x % 64) == 1) (word * 64) 64 (λ x low high. ne_eqb (bit_at 0 (x % 64)) 1 (λ one. (let none = bit_at-zero (x % 64) in omega (arith, one, none))))

-- the bits but the lowest
abbrev pub bit_of_lowest : ℕ → ℕ
bit_of_lowest bits = 1 * 2 ^ trailing_zeros w64 bits % 2 ^ 64

abbrev pub without_lowest : ℕ → ℕ
without_lowest bits = bit_and bits (2 ^ 64 - 1 - bit_of_lowest bits)

-- the place of a block of a word
pub place_of : (word place : ℕ) → place < 64 → (word * 64 + place) % 64 ≡ place
place_of word place below = omega (arith, below)

at_place : (word bits place bit : ℕ) → place < 64 → bit_at bits place ≡ bit → bit_at bits ((word * 64 + place) % 64) ≡ bit
at_place word bits place bit below is = ap (bit_at bits) (place_of word place below) ∙ is

module _ (word bits : ℕ) (some : 0 < bits) (small : bits < 2 ^ 64) where
  abbrev lowest : ℕ
  lowest = trailing_zeros w64 bits

  pub lowest_inside : lowest < 64
  lowest_inside = (bit_at-trailing_zeros w64 bits some small).0

  here : (bit_at bits ((word * 64 + lowest) % 64) == 1) ≡ true
  here = eq-eqb (bit_at bits ((word * 64 + lowest) % 64)) 1 (at_place word bits lowest 1 lowest_inside (bit_at-trailing_zeros w64 bits some small).1)

  gone : (bit_at (without_lowest bits) ((word * 64 + lowest) % 64) == 1) ≡ false
  gone = (let none = at_place word (without_lowest bits) lowest 0 lowest_inside (bit_at_clear_same w64 bits lowest lowest_inside) in ne_eqb (bit_at (without_lowest bits) ((word * 64 + lowest) % 64)) 1 (λ one. omega (arith, one, none)))

  before : (i : ℕ) → i < lowest → (bit_at bits ((word * 64 + i) % 64) == 1) ≡ false
  before i less = (let inside = lowest_inside in let none = at_place word bits i 0 (omega (arith, less, inside)) ((bit_at-trailing_zeros w64 bits some small).2 i less) in ne_eqb (bit_at bits ((word * 64 + i) % 64)) 1 (λ one. omega (arith, one, none)))

  others : (x : ℕ) → word * 64 ≤ x → x < word * 64 + 64 → x ≢ word * 64 + lowest → (bit_at (without_lowest bits) (x % 64) == 1) ≡ (bit_at bits (x % 64) == 1)
  others x low high apart = ap (λ (n : ℕ). n == 1) (bit_at_clear_other w64 bits lowest lowest_inside (x % 64) (omega arith) (λ same. apart (omega (arith, same, low, high))))

  -- the first block is that of the lowest bit
  pub lowest_in : blocks_in word bits ≡ (word * 64 + lowest) ∷ blocks_in word (without_lowest bits)
  unfolding blocks_of_word
  lowest_in = first_passes (λ x. bit_at bits (x % 64) == 1) (λ x. bit_at (without_lowest bits) (x % 64) == 1) (word * 64) 64 lowest lowest_inside here gone before others

  -- and that bit is the block's
  pub lowest_bit : 2 ^ ((word * 64 + lowest) % 64) ≡ bit_of_lowest bits
  lowest_bit = (let inside = lowest_inside in let most : lowest ≤ 63 = omega (arith, inside) in let below : 2 ^ lowest ≤ 2 ^ 63 = pow_mono most in ap (λ (n : ℕ). 2 ^ n) (place_of word lowest lowest_inside) ∙ omega (arith, below))

-- bits that are put together
pub or_zero : (a : ℕ) → bit_or a 0 ≡ a
or_zero a = same_from_bits (bit_or a 0) a (λ i. (let or = bit_at_or a 0 i in let none = bit_at-zero i in omega (arith, or, none)))

pub or_assoc : (a b c : ℕ) → bit_or (bit_or a b) c ≡ bit_or a (bit_or b c)
or_assoc a b c = same_from_bits (bit_or (bit_or a b) c) (bit_or a (bit_or b c)) (λ i. omega (arith, bit_at_or (bit_or a b) c i, bit_at_or a b i, bit_at_or a (bit_or b c) i, bit_at_or b c i))
