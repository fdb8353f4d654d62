-- A just-made image.
use Rattle.std.specs.Prelude.{ℕ, ◌+◌, ◌*◌, ◌≡◌, ◌==◌, if◌then◌else◌, List, length, slice_index}
use Rattle.log_entry.specs.Fields.{field_word}
use Rattle.log_entry.specs.Words.{head_word, block_word}
use Rattle.log_entry.specs.declared.words.BlockKind.TheVariants.{Log}
use Rattle.log_image.specs.Image.{Shape, words_in, total}
use Rattle.log_image.specs.declared.header.TheConstants.{MAGIC, VERSION, HEADER_VERSION, HEADER_BLOCK_POWER, HEADER_DATA, HEADER_LOG}

-- the power of 2 that the bytes of a block are
abbrev pub block_power : ℕ → ℕ
block_power bytes = if bytes == 64 then 6 else if bytes == 512 then 9 else 12

-- the first block of the log area
abbrev pub first_log : Shape → ℕ
first_log shape = 1 + shape.data_blocks

-- the word at a place: the header with generation 1 and the first block of the log area as the chain, that block's kind and
-- base, and 0 everywhere else
abbrev pub made_word : Shape → ℕ → ℕ
made_word shape place =
    if place == 0 then MAGIC
    else if place == 1 then field_word HEADER_VERSION VERSION + field_word HEADER_BLOCK_POWER (block_power shape.block_bytes)
    else if place == 2 then field_word HEADER_DATA shape.data_blocks + field_word HEADER_LOG shape.log_blocks
    else if place == 3 then head_word (record { generation = 1; block = first_log shape })
    else if place == first_log shape * words_in shape + 1 then block_word (record { kind = Log; base = 0 })
    else 0

-- the words of a just-made image of this shape
pub record IsJustMade (shape : Shape) (words : List ℕ) : Type 0 where
  pub whole : length words ≡ total shape * words_in shape
  pub each : (place : ℕ) → slice_index words place ≡ made_word shape place
