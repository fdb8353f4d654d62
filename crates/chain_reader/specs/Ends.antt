-- Where the entries of a block end.
use Rattle.std.specs.Prelude.{ℕ, ◌+◌, if◌then◌else◌, List, length}
use Rattle.log_image.specs.Image.{Shape, words_in}
use Rattle.log_image.specs.Blocks.{slots_of, entry_words, is_closed}

-- the number of the slot that a block's entries end before: its first empty one, or its number of words where it is full or sealed
abbrev pub end_slot : Shape → List ℕ → ℕ
end_slot shape block = if is_closed (slots_of block) then words_in shape else 3 + length (entry_words (slots_of block))
