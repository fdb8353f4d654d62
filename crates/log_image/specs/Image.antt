-- The words of an image by its blocks.
use Rattle.std.specs.Prelude.{ℕ, ◌+◌, ◌*◌, Bool, ◌&&◌, nat_le, nat_lt, List, slice_index}
use Rattle.std.specs.List.{slice_range}
use Rattle.log_entry.specs.Shape.{words_of_block, total_of}
use Rattle.log_entry.specs.WordBytes.{word_bytes}
use Rattle.log_entry.specs.declared.shapes.Geometry.{Geometry}

-- the numbers that the shape of an image follows from: the blocks of its data and log areas, and the bytes of a block
pub record Shape : Type 0 where
  pub data_blocks : ℕ
  pub log_blocks : ℕ
  pub block_bytes : ℕ

-- the shape of an image of this geometry
abbrev pub shape_by : Geometry → Shape
shape_by geometry = record { data_blocks = geometry.data_blocks; log_blocks = geometry.log_blocks; block_bytes = geometry.block_bytes }

-- how many words a block has
abbrev pub words_in : Shape → ℕ
words_in shape = words_of_block shape.block_bytes

-- the blocks of the image
abbrev pub total : Shape → ℕ
total shape = total_of shape.data_blocks shape.log_blocks shape.block_bytes

-- a block of the data area
abbrev pub is_in_data : Shape → ℕ → Bool
is_in_data shape block = nat_le 1 block && nat_le block shape.data_blocks

-- a block of the log or spare area
abbrev pub is_in_log : Shape → ℕ → Bool
is_in_log shape block = nat_lt shape.data_blocks block && nat_lt block (total shape)

-- a word of a block: by the block's number and the word's number in it
abbrev pub word_in_block : List ℕ → Shape → ℕ → ℕ → ℕ
word_in_block words shape block index = slice_index words (block * words_in shape + index)

-- the words of a block
abbrev pub block_words : List ℕ → Shape → ℕ → List ℕ
block_words words shape block = slice_range words (block * words_in shape) (block * words_in shape + words_in shape)

-- the bytes of a block
abbrev pub block_content : List ℕ → Shape → ℕ → List ℕ
block_content words shape block = word_bytes (block_words words shape block)
