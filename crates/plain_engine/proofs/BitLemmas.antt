-- A bit that is set in a bitmap.
use Rattle.std.proofs.Common.{◌≡◌, ◌≢◌, ℕ, ◌*◌, ◌/◌, ◌%◌, ◌^◌, ◌<◌, ◌==◌, Bool, true, false, List, length, get_or, set, if◌then◌else◌, refl, ap, arith}
use Rattle.std.specs.Prelude.{bit_or}
use Rattle.std.specs.Int.{bit_at}
use Rattle.std.proofs.lemmas.Nat.Bits.{bit_at_or, bit_at-pow_same, bit_at-pow_other}
use Rattle.std.proofs.lemmas.Bool.{eqb-true, eqb-false}
use Rattle.std.proofs.lemmas.List.{get_or-set_same, get_or-set_other}
use Rattle.std.proofs.Math.Nat.{mod-lt, div-add-mod}
use Rattle.std.proofs.Math.Pow.{pow-lt}
use Rattle.log_image.specs.Taken.{bit_of}

bit_small : (n i : ℕ) → bit_at n i < 2
bit_small n i = mod-lt (n / 2 ^ i) (omega arith)

-- the bits after a bit is set
pub bit_set : (taken : List ℕ) (block other : ℕ) → block / 64 < length taken → bit_of (set taken (block / 64) (bit_or (get_or taken (block / 64) 0) (2 ^ (block % 64)))) other ≡ (if other == block then 1 else bit_of taken other)
bit_set taken block other inside = go (other == block) refl (other / 64 == block / 64) refl
  where
    word : ℕ
    word = get_or taken (block / 64) 0

    go : (same : Bool) → (other == block) ≡ same → (near : Bool) → (other / 64 == block / 64) ≡ near → bit_of (set taken (block / 64) (bit_or (get_or taken (block / 64) 0) (2 ^ (block % 64)))) other ≡ (if same then 1 else bit_of taken other)
    go true is near with_word =
        let one : other ≡ block = eqb-true other block is in
        rw (one, get_or-set_same taken (block / 64) (bit_or (get_or taken (block / 64) 0) (2 ^ (block % 64))) 0 inside, bit_at_or (get_or taken (block / 64) 0) (2 ^ (block % 64)) (block % 64), bit_at-pow_same (block % 64))
        (omega (arith, bit_small (get_or taken (block / 64) 0) (block % 64)))
    go false is true with_word =
        let same_word : other / 64 ≡ block / 64 = eqb-true (other / 64) (block / 64) with_word in
        let differ : other % 64 ≢ block % 64 = λ e. eqb-false other block is (omega (arith, e, same_word, div-add-mod other 64, div-add-mod block 64)) in
        rw (same_word, get_or-set_same taken (block / 64) (bit_or (get_or taken (block / 64) 0) (2 ^ (block % 64))) 0 inside, bit_at_or (get_or taken (block / 64) 0) (2 ^ (block % 64)) (other % 64), bit_at-pow_other (block % 64) (other % 64) differ)
        (omega (arith, bit_small (get_or taken (block / 64) 0) (other % 64)))
    go false is false with_word =
        ap (λ (w : ℕ). bit_at w (other % 64)) (get_or-set_other taken (block / 64) (other / 64) (bit_or (get_or taken (block / 64) 0) (2 ^ (block % 64))) 0 (eqb-false (other / 64) (block / 64) with_word))

-- 1 shifted within a word
pub one_shifted : (k : ℕ) → k < 64 → 1 * 2 ^ k % 18446744073709551616 ≡ 2 ^ k
one_shifted k small = (let below : 2 ^ k < 18446744073709551616 = pow-lt small in omega (arith, below))
