-- A bitmap after bits of one of its words are set or cleared.
use Rattle.std.proofs.Common.{◌≡◌, ◌≢◌, ℕ, zero, suc, ◌-◌, ◌/◌, ◌%◌, ◌^◌, ◌<◌, ◌==◌, ◌&&◌, max, min, Bool, true, false, List, length, slice_index, slice_set, bit_or, if◌then◌else◌, refl, sym, ap, ◌∙◌, arith, w64}
use Rattle.std.specs.Int.{bit_at}
use Rattle.std.proofs.lemmas.Nat.Bits.{bit_at_or, bit_at_and, bit_at_not, bit_at-lt}
use Rattle.std.proofs.lemmas.Bool.{eqb-true, eqb-false}
use Rattle.std.proofs.lemmas.List.{get_or-set_same, get_or-set_other}
use Rattle.std.proofs.Math.Nat.{mod-lt}
use Rattle.log_image.specs.Taken.{bit_of}
use Rattle.pmem_words.specs.Owned.{is_among}
use Rattle.asks.specs.Asks.{without_bits}
use Rattle.log_core.specs.Steps.{is_gained}

-- a bit that is set with others, by its value and theirs
or_bit : (found bit : ℕ) → found < 2 → bit < 2 → max found bit ≡ (if (bit == 1) && (found == 0) then 1 else found)
or_bit zero zero small low = refl
or_bit zero (suc zero) small low = refl
or_bit (suc zero) zero small low = refl
or_bit (suc zero) (suc zero) small low = refl
or_bit (suc (suc found)) bit small low = absurd (omega (arith, small))
or_bit zero (suc (suc bit)) small low = absurd (omega (arith, low))
or_bit (suc zero) (suc (suc bit)) small low = absurd (omega (arith, low))

-- and one that is cleared with others
clear_bit : (found bit : ℕ) → found < 2 → bit < 2 → min found (1 - bit) ≡ (if bit == 1 then 0 else found)
clear_bit zero zero small low = refl
clear_bit zero (suc zero) small low = refl
clear_bit (suc zero) zero small low = refl
clear_bit (suc zero) (suc zero) small low = refl
clear_bit (suc (suc found)) bit small low = absurd (omega (arith, small))
clear_bit zero (suc (suc bit)) small low = absurd (omega (arith, low))
clear_bit (suc zero) (suc (suc bit)) small low = absurd (omega (arith, low))

or_at : (found bits i : ℕ) → bit_at (bit_or found bits) i ≡ (if (bit_at bits i == 1) && (bit_at found i == 0) then 1 else bit_at found i)
or_at found bits i = bit_at_or found bits i ∙ or_bit (bit_at found i) (bit_at bits i) (bit_at-lt found i) (bit_at-lt bits i)

without_at : (found bits i : ℕ) → bits < 2 ^ 64 → i < 64 → bit_at (without_bits found bits) i ≡ (if bit_at bits i == 1 then 0 else bit_at found i)
without_at found bits i small low =
    bit_at_and found (2 ^ 64 - 1 - bits) i
    ∙ ap (λ (b : ℕ). min (bit_at found i) b) (bit_at_not w64 bits i small low)
    ∙ clear_bit (bit_at found i) (bit_at bits i) (bit_at-lt found i) (bit_at-lt bits i)

module _ (taken : List ℕ) (word : ℕ) (inside : word < length taken) where
  -- the bits of a word that was written, and of each other word
  written : (value block : ℕ) → block / 64 ≡ word → bit_of (slice_set taken word value) block ≡ bit_at value (block % 64)
  written value block near = rw near (ap (λ (w : ℕ). bit_at w (block % 64)) (get_or-set_same taken word value 0 inside))

  other_word : (value block : ℕ) → block / 64 ≢ word → bit_of (slice_set taken word value) block ≡ bit_of taken block
  other_word value block apart = ap (λ (w : ℕ). bit_at w (block % 64)) (get_or-set_other taken word (block / 64) value 0 apart)

  -- the bits after some of a word are set: those of the blocks gained are new
  pub taken_set : (bits block : ℕ) →
      bit_of (slice_set taken word (bit_or (slice_index taken word) bits)) block ≡ (if is_gained word bits (slice_index taken word) block then 1 else bit_of taken block)
  taken_set bits block = go (block / 64 == word) refl
    where
      go : (near : Bool) → (block / 64 == word) ≡ near →
          bit_of (slice_set taken word (bit_or (slice_index taken word) bits)) block ≡ (if (near && (bit_at bits (block % 64) == 1)) && (bit_at (slice_index taken word) (block % 64) == 0) then 1 else bit_of taken block)
      go true is =
          let same : block / 64 ≡ word = eqb-true (block / 64) word is in
          written (bit_or (slice_index taken word) bits) block same ∙ or_at (slice_index taken word) bits (block % 64)
          ∙ ap (λ (w : ℕ). if (bit_at bits (block % 64) == 1) && (bit_at (slice_index taken word) (block % 64) == 0) then 1 else bit_at (slice_index taken w) (block % 64)) (sym same)
      go false is = other_word (bit_or (slice_index taken word) bits) block (λ near. eqb-false (block / 64) word is near)

  -- the bits after some of a word are cleared
  pub taken_cleared : (bits block : ℕ) → bits < 2 ^ 64 →
      bit_of (slice_set taken word (without_bits (slice_index taken word) bits)) block ≡ (if is_among word bits block then 0 else bit_of taken block)
  taken_cleared bits block small = go (block / 64 == word) refl
    where
      go : (near : Bool) → (block / 64 == word) ≡ near →
          bit_of (slice_set taken word (without_bits (slice_index taken word) bits)) block ≡ (if near && (bit_at bits (block % 64) == 1) then 0 else bit_of taken block)
      go true is =
          let same : block / 64 ≡ word = eqb-true (block / 64) word is in
          written (without_bits (slice_index taken word) bits) block same ∙ without_at (slice_index taken word) bits (block % 64) small (mod-lt block (omega arith))
          ∙ ap (λ (w : ℕ). if bit_at bits (block % 64) == 1 then 0 else bit_at (slice_index taken w) (block % 64)) (sym same)
      go false is = other_word (without_bits (slice_index taken word) bits) block (λ near. eqb-false (block / 64) word is near)

  -- a block that is gained had a clear bit
  pub gained_clear : (bits block : ℕ) → is_gained word bits (slice_index taken word) block ≡ true → bit_of taken block ≡ 0
  gained_clear bits block gains = go (block / 64 == word) refl gains
    where
      go : (near : Bool) → (block / 64 == word) ≡ near → ((near && (bit_at bits (block % 64) == 1)) && (bit_at (slice_index taken word) (block % 64) == 0)) ≡ true → bit_of taken block ≡ 0
      go true is both = rw (eqb-true (block / 64) word is) (eqb-true (bit_at (slice_index taken word) (block % 64)) 0 (last_of (bit_at bits (block % 64) == 1) (bit_at (slice_index taken word) (block % 64) == 0) both))
        where
          last_of : (a b : Bool) → ((true && a) && b) ≡ true → b ≡ true
          last_of true b both = both
          last_of false b both = cc
      go false is both = cc
