-- The bits of owned blocks in the words of the bitmap: bit b of word m is block 64 * m + b.
use Rattle.std.specs.Prelude.{ℕ, ◌/◌, ◌%◌, ◌^◌, ◌==◌, min, List, [], ◌∷◌, drop, bit_or, if◌then◌else◌}
use Rattle.pmem_words.specs.Owned.{owned_at}
use Rattle.pmem_words.specs.declared.owned.OwnedBlock.{OwnedBlock}

-- the least of a word and those with the bits of these blocks
abbrev pub least_from : ℕ → List OwnedBlock → ℕ
least_from least [] = least
least_from least (o ∷ owned) = least_from (min least (o.block / 64)) owned

-- the least word with the bit of one of these blocks
abbrev pub least_word : List OwnedBlock → ℕ
least_word owned = least_from ((owned_at owned 0).block / 64) (drop 1 owned)

-- bits of a word, and a block's bit where it is of that word
abbrev pub with_bit : ℕ → ℕ → ℕ → ℕ
with_bit word block bits = if block / 64 == word then bit_or bits (2 ^ (block % 64)) else bits

abbrev pub bits_from : ℕ → ℕ → List OwnedBlock → ℕ
bits_from word bits [] = bits
bits_from word bits (o ∷ owned) = bits_from word (with_bit word o.block bits) owned

-- the bits of these blocks in a word
abbrev pub bits_in : ℕ → List OwnedBlock → ℕ
bits_in word owned = bits_from word 0 owned
