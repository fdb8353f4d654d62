-- Bytes by their places in words, and after others are laid over them.
use Rattle.std.specs.Prelude.{ℕ, ◌+◌, ◌-◌, nat_le, nat_lt, ◌&&◌, if◌then◌else◌, List, [], ◌∷◌, length, slice_index}
use Rattle.byteorder.specs.Endian.{little_bytes, little_number}

-- a byte of a word, the lowest first
abbrev pub byte_of : ℕ → ℕ → ℕ
byte_of word at = slice_index (little_bytes 8 word) at

-- the byte at a place after bytes are laid over it from an offset on
abbrev pub laid_byte : ℕ → List ℕ → ℕ → ℕ → ℕ
laid_byte offset bytes place byte = if nat_le offset place && nat_lt place (offset + length bytes) then slice_index bytes (place - offset) else byte

-- the word that has these bytes
abbrev pub word_by : (ℕ → ℕ) → ℕ
word_by byte = little_number 8 (byte 0 ∷ byte 1 ∷ byte 2 ∷ byte 3 ∷ byte 4 ∷ byte 5 ∷ byte 6 ∷ byte 7 ∷ [])

-- a word, whose first byte has this place, after bytes are laid over it
abbrev pub laid_word : ℕ → List ℕ → ℕ → ℕ → ℕ
laid_word offset bytes place word = word_by (λ (k : ℕ). laid_byte offset bytes (place + k) (byte_of word k))
