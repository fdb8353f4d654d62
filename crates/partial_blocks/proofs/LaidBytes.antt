-- The bytes of a word that is set by its bytes.
use Rattle.std.proofs.Common.{◌≡◌, ℕ, zero, suc, ◌+◌, ◌-◌, ◌^◌, ◌/◌, ◌<◌, ◌&&◌, nat_le, nat_lt, ◌==◌, Bool, true, false, if◌then◌else◌, List, [], ◌∷◌, length, slice_index, get_or, refl, ap, ◌∙◌, arith}
use Rattle.std.specs.List.{list_all}
use Rattle.std.specs.Int.{bytes_low_first, byte_at}
use Rattle.std.proofs.Math.Nat.{mod-lt}
use Rattle.std.proofs.lemmas.Bool.{eqb-true}
use Rattle.std.proofs.lemmas.List.{get_or_append_left}
use Rattle.byteorder.specs.Endian.{little_bytes}
use Rattle.log_entry.specs.WordBytes.{word_bytes}
use Rattle.log_entry.proofs.WordBytesLemmas.{bytes_back}
use Rattle.log_image.proofs.HoldingLemmas.{both_left, both_right}
use Rattle.partial_blocks.specs.Bytes.{byte_of, laid_byte, word_by, laid_word}
use Rattle.partial_blocks.specs.Holding.{AreBytes}

-- the bytes of a number are below 256
at_small : (i x : ℕ) → byte_at i x < 256
at_small zero x = mod-lt x (omega arith)
at_small (suc i) x = mod-lt (x / 256 ^ suc i) (omega arith)

low_small : (n i x k : ℕ) → get_or (bytes_low_first i n x) k 0 < 256
low_small zero i x k = omega arith
low_small (suc n) i x zero = at_small i x
low_small (suc n) i x (suc k) = low_small n (suc i) x k

pub byte_small : (word k : ℕ) → byte_of word k < 256
byte_small word k = low_small 8 0 word k

pub laid_small : (offset : ℕ) (bytes : List ℕ) (place byte : ℕ) → AreBytes bytes → byte < 256 → laid_byte offset bytes place byte < 256
laid_small offset bytes place byte all one = go (nat_le offset place && nat_lt place (offset + length bytes))
  where
    go : (b : Bool) → (if b then slice_index bytes (place - offset) else byte) < 256
    go true = all (place - offset)
    go false = one

-- the bytes of 0 are 0
pub byte_of_zero : (k : ℕ) → byte_of 0 k ≡ 0
byte_of_zero k = zeros (0 ∷ 0 ∷ 0 ∷ 0 ∷ 0 ∷ 0 ∷ 0 ∷ 0 ∷ []) k refl
  where
    zeros : (bytes : List ℕ) (k : ℕ) → list_all (λ (byte : ℕ). byte == 0) bytes ≡ true → get_or bytes k 0 ≡ 0
    zeros [] k all = refl
    zeros (byte ∷ bytes) zero all = eqb-true byte 0 (both_left (byte == 0) (list_all (λ (other : ℕ). other == 0) bytes) all)
    zeros (byte ∷ bytes) (suc k) all = zeros bytes k (both_right (byte == 0) (list_all (λ (other : ℕ). other == 0) bytes) all)

-- a byte of one word
pub word_byte : (word k : ℕ) → k < 8 → slice_index (word_bytes (word ∷ [])) k ≡ byte_of word k
word_byte word k low = get_or_append_left (little_bytes 8 word) [] 0 k low

module _ (byte : ℕ → ℕ) (small : (k : ℕ) → byte k < 256) where
  abbrev eight : List ℕ
  eight = byte 0 ∷ byte 1 ∷ byte 2 ∷ byte 3 ∷ byte 4 ∷ byte 5 ∷ byte 6 ∷ byte 7 ∷ []

  eight_small : (k : ℕ) → get_or eight k 0 < 256
  eight_small zero = small 0
  eight_small (suc zero) = small 1
  eight_small (suc (suc zero)) = small 2
  eight_small (suc (suc (suc zero))) = small 3
  eight_small (suc (suc (suc (suc zero)))) = small 4
  eight_small (suc (suc (suc (suc (suc zero))))) = small 5
  eight_small (suc (suc (suc (suc (suc (suc zero)))))) = small 6
  eight_small (suc (suc (suc (suc (suc (suc (suc zero))))))) = small 7
  eight_small (suc (suc (suc (suc (suc (suc (suc (suc k)))))))) = omega arith

  eight_at : (k : ℕ) → k < 8 → get_or eight k 0 ≡ byte k
  eight_at zero low = refl
  eight_at (suc zero) low = refl
  eight_at (suc (suc zero)) low = refl
  eight_at (suc (suc (suc zero))) low = refl
  eight_at (suc (suc (suc (suc zero)))) low = refl
  eight_at (suc (suc (suc (suc (suc zero))))) low = refl
  eight_at (suc (suc (suc (suc (suc (suc zero)))))) low = refl
  eight_at (suc (suc (suc (suc (suc (suc (suc zero))))))) low = refl
  eight_at (suc (suc (suc (suc (suc (suc (suc (suc k)))))))) low = absurd (omega (arith, low))

  -- the word of eight bytes has them
  pub by_byte : (k : ℕ) → k < 8 → byte_of (word_by byte) k ≡ byte k
  by_byte k low = ap (λ (l : List ℕ). get_or l k 0) (bytes_back eight refl eight_small) ∙ eight_at k low

  pub by_small : word_by byte < 2 ^ 64
  by_small = omega (arith, small 0, small 1, small 2, small 3, small 4, small 5, small 6, small 7)

pub laid_bytes : (offset : ℕ) (bytes : List ℕ) (place word k : ℕ) → AreBytes bytes → k < 8 → byte_of (laid_word offset bytes place word) k ≡ laid_byte offset bytes (place + k) (byte_of word k)
laid_bytes offset bytes place word k small low = by_byte (λ n. laid_byte offset bytes (place + n) (byte_of word n)) (λ n. laid_small offset bytes (place + n) (byte_of word n) small (byte_small word n)) k low

pub laid_word_small : (offset : ℕ) (bytes : List ℕ) (place word : ℕ) → AreBytes bytes → laid_word offset bytes place word < 2 ^ 64
laid_word_small offset bytes place word small = by_small (λ n. laid_byte offset bytes (place + n) (byte_of word n)) (λ n. laid_small offset bytes (place + n) (byte_of word n) small (byte_small word n))
