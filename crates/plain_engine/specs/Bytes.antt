-- Bytes by their places: in words, in the blocks of a map, and after others are laid over them.
use Rattle.std.specs.Prelude.{ℕ, ◌+◌, ◌-◌, ◌≡◌, ◌<◌, nat_le, nat_lt, ◌&&◌, if◌then◌else◌, List, length, slice_index, Option, Some, None}
use Rattle.byteorder.specs.Endian.{little_bytes}
use Rattle.log_image.specs.Image.{Shape, block_content}

-- a byte of a word, the lowest first
abbrev pub byte_of : ℕ → ℕ → ℕ
byte_of word at = slice_index (little_bytes 8 word) at

-- the byte at a place after bytes are laid over it from an offset on
abbrev pub laid_byte : ℕ → List ℕ → ℕ → ℕ → ℕ
laid_byte offset bytes place byte = if nat_le offset place && nat_lt place (offset + length bytes) then slice_index bytes (place - offset) else byte

-- the byte at a place of a virtual block: its physical block's, or 0 where it has none
abbrev pub present_byte : List ℕ → Shape → Option ℕ → ℕ → ℕ
present_byte words shape None at = 0
present_byte words shape (Some block) at = slice_index (block_content words shape block) at

-- the word at an index of words that begin at this place, or 0 where there are none
abbrev pub source_word : List ℕ → Option ℕ → ℕ → ℕ
source_word words None index = 0
source_word words (Some from) index = slice_index words (from + index)

-- the word is another, whose first byte has this place, with bytes laid over it
abbrev pub IsLaid : ℕ → List ℕ → ℕ → ℕ → ℕ → Type 0
IsLaid offset bytes place word new = (k : ℕ) → k < 8 → byte_of new k ≡ laid_byte offset bytes (place + k) (byte_of word k)
