-- The blocks that a chain may have.
use Rattle.std.specs.Prelude.{ℕ, Bool, ◌&&◌, nat_lt, List}
use Rattle.log_image.specs.Image.{Shape, total, block_words}
use Rattle.chain_reader.specs.ChainBlocks.{is_sound}

-- a block of the image that has the words that its kind may have
abbrev pub is_sound_block : List ℕ → Shape → ℕ → Bool
is_sound_block words shape block = nat_lt block (total shape) && is_sound words shape (block_words words shape block)
