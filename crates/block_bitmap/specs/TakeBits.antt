-- Blocks and their bits in one word of the bitmap: bit b of word m is block 64 * m + b.
use Rattle.std.specs.Prelude.{ℕ, ◌*◌, ◌%◌, ◌^◌, ◌==◌, List, [], ◌∷◌, filter, bit_or}
use Rattle.std.specs.Int.{bit_at}
use Rattle.std.specs.List.{range_with_len}
use Rattle.log_entry.specs.declared.shapes.Area.{Area}
use Rattle.log_image.specs.Image.{Shape}
use Rattle.log_core.specs.Needs.{is_in_area}

-- the blocks whose bits a word has, the least first
unfoldable pub blocks_of_word : ℕ → List ℕ
blocks_of_word word = range_with_len (word * 64) 64

-- those whose bits are set
abbrev pub blocks_in : ℕ → ℕ → List ℕ
blocks_in word bits = filter (λ (block : ℕ). bit_at bits (block % 64) == 1) (blocks_of_word word)

-- the bits of blocks of one word
abbrev pub bits_of : List ℕ → ℕ
bits_of [] = 0
bits_of (block ∷ blocks) = bit_or (2 ^ (block % 64)) (bits_of blocks)

-- of these blocks those whose bits a word has clear
abbrev pub clear_in : ℕ → List ℕ → List ℕ
clear_in bits blocks = filter (λ (block : ℕ). bit_at bits (block % 64) == 0) blocks

-- the blocks of an area in a word
abbrev pub area_in : Shape → Area → ℕ → List ℕ
area_in image area word = filter (λ (block : ℕ). is_in_area image area block) (blocks_of_word word)

-- those that are not known to be taken
abbrev pub open_blocks : Shape → Area → ℕ → ℕ → List ℕ
open_blocks image area word known = clear_in known (area_in image area word)
