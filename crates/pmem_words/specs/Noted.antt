-- Blocks noted in words of bits: bit b of word m is block 64 * m + b.
use Rattle.std.specs.Prelude.{ℕ, ◌/◌, ◌%◌, ◌^◌, ◌==◌, bit_or, Bool, true, false, List, [], ◌∷◌, length, replicate, slice_index, slice_set}
use Rattle.std.specs.Int.{bit_at}

-- whether the bit of a block is set
abbrev pub is_noted : List ℕ → ℕ → Bool
is_noted words block = bit_at (slice_index words (block / 64)) (block % 64) == 1

-- with the bits of more blocks
abbrev pub with_noted : List ℕ → List ℕ → List ℕ
with_noted words [] = words
with_noted words (block ∷ blocks) = with_noted (slice_set words (block / 64) (bit_or (slice_index words (block / 64)) (2 ^ (block % 64)))) blocks

-- the first block alone, and more blocks, where they are to be noted
abbrev pub noted_first : Bool → List ℕ → ℕ → List ℕ
noted_first true words block = with_noted (replicate (length words) 0) (block ∷ [])
noted_first false words block = words

abbrev pub noted_more : Bool → List ℕ → List ℕ → List ℕ
noted_more true words blocks = with_noted words blocks
noted_more false words blocks = words
