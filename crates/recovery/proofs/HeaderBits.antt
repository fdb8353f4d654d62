-- The bitmap in which only block 0 is taken.
use Rattle.std.proofs.Common.{◌≡◌, ◌<◌, ◌≤◌, ◌+◌, ◌*◌, ◌/◌, ◌%◌, ◌==◌, ◌||◌, ℕ, zero, suc, false, List, [], length, get_or, set, if◌then◌else◌, refl, sym, ◌∙◌, arith, get_or-set_same, get_or-set_other, length-set}
use Rattle.std.specs.Int.{bit_at}
use Rattle.std.proofs.lemmas.Bool.Decides.{nat_tests}
use Rattle.std.proofs.lemmas.Nat.Bits.{bit_at_above, bit_at-zero}
use Rattle.log_image.specs.Image.{Shape, total}
use Rattle.log_image.specs.Taken.{HasBits}

-- a number that is not 0 has no bit set by the test for 0
not_first : (number : ℕ) → ◌≡◌ {A = ℕ} (if (suc number == 0) || false then 1 else 0) 0
not_first number = grind (arith, nat_tests)

-- a bit of the first word, or of another one
header_bit : (taken : List ℕ) (word bit : ℕ) → ((at : ℕ) → get_or taken at 0 ≡ 0) → 0 < length taken → bit < 64 →
    bit_at (get_or (set taken 0 1) word 0) bit ≡ (if (64 * word + bit == 0) || false then 1 else 0)
header_bit taken zero bit clear some below = rw (get_or-set_same taken 0 1 0 some) (at bit)
  where
    at : (index : ℕ) → bit_at 1 index ≡ (if (64 * 0 + index == 0) || false then 1 else 0)
    at zero = refl
    at (suc index) = let e : 64 * 0 + suc index ≡ suc index = omega arith in rw e (bit_at_above 1 1 (suc index) (omega arith) (omega arith) ∙ sym (not_first index))
header_bit taken (suc word) bit clear some below =
    let other : get_or (set taken 0 1) (suc word) 0 ≡ 0 = get_or-set_other taken 0 (suc word) 1 0 (omega arith) ∙ clear (suc word) in
    let e : 64 * suc word + bit ≡ suc (64 * word + 63 + bit) = omega arith in
    rw (other, e) (bit_at-zero bit ∙ sym (not_first (64 * word + 63 + bit)))

pub only_header : (shape : Shape) (taken : List ℕ) → ((at : ℕ) → get_or taken at 0 ≡ 0) → total shape ≤ 64 * length taken → 0 < length taken → HasBits shape (set taken 0 1) []
only_header shape taken clear room some = record {
  room = omega (arith, length-set taken 0 1, room);
  bits = λ block inside.
      header_bit taken (block / 64) (block % 64) clear some (omega arith) ∙ (let e : 64 * (block / 64) + block % 64 ≡ block = omega arith in rw e refl);
}
