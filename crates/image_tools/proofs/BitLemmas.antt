-- A bitmap with two bits set.
use Rattle.std.proofs.Common.{◌≡◌, ◌<◌, ◌≤◌, ◌*◌, ◌/◌, ◌%◌, ◌^◌, ◌==◌, ◌||◌, ℕ, zero, suc, Bool, true, false, List, length, get_or, set, if◌then◌else◌, refl, sym, ap, ◌∙◌, subst, arith, get_or-set_same, get_or-set_other}
use Rattle.std.specs.Prelude.{replicate}
use Rattle.std.specs.Int.{bit_at, div_ceil}
use Rattle.std.specs.Int.RustNames.{bit_or}
use mir.Syntax.{w64}
use Rattle.std.proofs.lemmas.Bool.{ne_eqb, eq-eqb, eqb-true, eqb-false}
use Rattle.std.proofs.lemmas.Grind.{div_ceil_times}
use Rattle.std.proofs.lemmas.List.{length-replicate, length-set}
use Rattle.std.proofs.lemmas.Nat.Bits.{bit_at_set_same, bit_at_set_other, bit_at-pow_other, bit_at-zero}
use Rattle.std.proofs.Math.Nat.{mod-lt, div-add-mod}
use Rattle.log_image.specs.Taken.{bit_of}
use Rattle.image_tools.specs.Made.{HasBitsOf}

pub zeros_at : (count place : ℕ) → ◌≡◌ {A = ℕ} (get_or (replicate count 0) place 0) 0
zeros_at zero place = refl
zeros_at (suc count) zero = refl
zeros_at (suc count) (suc place) = zeros_at count place

-- a place of a list of which one number is changed
set_at : (numbers : List ℕ) (at value place : ℕ) (same : Bool) → at < length numbers → (place == at) ≡ same → get_or (set numbers at value) place 0 ≡ (if same then value else get_or numbers place 0)
set_at numbers at value place true inside is = ap (λ (n : ℕ). get_or (set numbers at value) n 0) (eqb-true place at is) ∙ get_or-set_same numbers at value 0 inside
set_at numbers at value place false inside is = get_or-set_other numbers at place value 0 (eqb-false place at is)

pub written_at : (numbers : List ℕ) (at value place : ℕ) → at < length numbers → get_or (set numbers at value) place 0 ≡ (if place == at then value else get_or numbers place 0)
written_at numbers at value place inside = set_at numbers at value place (place == at) inside refl

-- the first bit of the first word alone
first_bit : (count block : ℕ) → 0 < count → bit_of (set (replicate count 0) 0 1) block ≡ (if block == 0 then 1 else 0)
first_bit count block some =
    ap (λ (n : ℕ). bit_at n (block % 64)) (written_at (replicate count 0) 0 1 (block / 64) (omega (arith, length-replicate count (zero), some)))
    ∙ go (block / 64 == 0) (block == 0) refl refl
  where
    go : (in_first is_first : Bool) → (block / 64 == 0) ≡ in_first → (block == 0) ≡ is_first → bit_at (if in_first then 1 else get_or (replicate count 0) (block / 64) 0) (block % 64) ≡ (if is_first then 1 else 0)
    go true true is also = let none : block % 64 ≡ 0 = omega (arith, eqb-true block 0 also) in ap (bit_at 1) none
    go true false is also = bit_at-pow_other 0 (block % 64) (λ none. eqb-false block 0 also (omega (arith, none, eqb-true (block / 64) 0 is, div-add-mod block 64)))
    go false true is also = absurd (eqb-false (block / 64) 0 is (omega (arith, eqb-true block 0 also)))
    go false false is also = ap (λ (n : ℕ). bit_at n (block % 64)) (zeros_at count (block / 64)) ∙ bit_at-zero (block % 64)

-- the bitmap has the word of each block
pub word_in : (blocks other count : ℕ) → other < blocks → count ≡ div_ceil blocks 64 → other / 64 < count
word_in blocks other count inside is =
    let enough : blocks ≤ count * 64 = subst (λ (n : ℕ). blocks ≤ n * 64) (sym is) (div_ceil_times blocks 64 (omega arith)).0 in
    omega (arith, enough, inside, div-add-mod other 64)

-- two bits of the bitmap
pub two_bits : (blocks other count before : ℕ) → other < blocks → count ≡ div_ceil blocks 64 → before ≡ get_or (set (replicate count 0) 0 1) (other / 64) 0 →
    HasBitsOf blocks other (set (set (replicate count 0) 0 1) (other / 64) (bit_or before (1 * 2 ^ (other % 64) % 18446744073709551616)))
two_bits blocks other count before inside is was = record {
  room = omega (arith, enough, long);
  bits = λ block within. ap (λ (n : ℕ). bit_at n (block % 64)) (written_at first (other / 64) value (block / 64) word_inside)
      ∙ at_word block (block / 64 == other / 64) (block % 64 == other % 64) refl refl;
}
  where
    enough : blocks ≤ count * 64
    enough = subst (λ (n : ℕ). blocks ≤ n * 64) (sym is) (div_ceil_times blocks 64 (omega arith)).0

    some : 0 < count
    some = omega (arith, enough, inside)

    first : List ℕ
    first = set (replicate count 0) 0 1

    value : ℕ
    value = bit_or before (1 * 2 ^ (other % 64) % 18446744073709551616)

    long : length (set first (other / 64) value) ≡ count
    long = length-set first (other / 64) value ∙ length-set {A = ℕ} (replicate count 0) 0 1 ∙ length-replicate count (zero)

    word_inside : other / 64 < length first
    word_inside = omega (arith, length-set {A = ℕ} (replicate count 0) 0 1, length-replicate count (zero), enough, inside, div-add-mod other 64)

    other_block : (block : ℕ) → (other == block) ≡ false → bit_of first block ≡ (if block == 0 || other == block then 1 else 0)
    other_block block differ = first_bit count block some ∙ plain (block == 0) (other == block) differ
      where
        plain : (a b : Bool) → b ≡ false → ◌≡◌ {A = ℕ} (if a then 1 else 0) (if a || b then 1 else 0)
        plain true b none = refl
        plain false b none = rw none refl

    at_word : (block : ℕ) (word bit : Bool) → (block / 64 == other / 64) ≡ word → (block % 64 == other % 64) ≡ bit →
        bit_at (if word then value else get_or first (block / 64) 0) (block % 64) ≡ (if block == 0 || other == block then 1 else 0)
    at_word block true true is also =
        let same : block ≡ other = omega (arith, eqb-true (block / 64) (other / 64) is, eqb-true (block % 64) (other % 64) also, div-add-mod block 64, div-add-mod other 64) in
        ap (bit_at value) (eqb-true (block % 64) (other % 64) also) ∙ bit_at_set_same w64 before (other % 64) (mod-lt other (omega arith)) ∙ one (block == 0) (other == block) (eq-eqb other block (sym same))
      where
        one : (a b : Bool) → b ≡ true → ◌≡◌ {A = ℕ} 1 (if a || b then 1 else 0)
        one true b same = refl
        one false b same = rw same refl
    at_word block true false is also =
        bit_at_set_other w64 before (other % 64) (mod-lt other (omega arith)) (block % 64) (eqb-false (block % 64) (other % 64) also)
        ∙ ap (λ (n : ℕ). bit_at n (block % 64)) (was ∙ ap (λ (n : ℕ). get_or first n 0) (sym (eqb-true (block / 64) (other / 64) is)))
        ∙ other_block block (ne_eqb other block (λ same. eqb-false (block % 64) (other % 64) also (ap (λ (n : ℕ). n % 64) (sym same))))
    at_word block false bit is also = other_block block (ne_eqb other block (λ same. eqb-false (block / 64) (other / 64) is (ap (λ (n : ℕ). n / 64) (sym same))))
