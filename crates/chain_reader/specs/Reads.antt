-- What is read of a chain.
use Rattle.std.specs.Prelude.{ℕ, ◌≡◌, List}
use Rattle.log_image.specs.Image.{Shape, block_words}
use Rattle.log_image.specs.Blocks.{base_of}
use Rattle.log_image.specs.Positions.{entries_of, position_of, size_at_end}
use Rattle.log_image.specs.Stands.{StandsBy}
use Rattle.log_image.specs.Tails.{last_block}
use Rattle.chain_reader.specs.Tables.{HasMap}
use Rattle.chain_reader.specs.Ends.{end_slot}
use Rattle.chain_reader.specs.declared.reading.ChainRead.{ChainRead}

-- there is a file that the words stand for
abbrev pub StandForSome : List ℕ → Type 0
StandForSome words = ∥ ((chain : List ℕ) × (file : List ℕ) × (position : ℕ) × StandsBy words chain file position) ∥₁

-- what is read is what the chain says: its blocks, the map, the size and the position that it comes to, and its last block, with
-- the slot that the entries there end before, and the position before the first of them
pub record IsReadOf (words : List ℕ) (shape : Shape) (chain : List ℕ) (read : ChainRead) : Type 0 where
  pub same_chain : read.chain.items ≡ chain
  pub same_map : HasMap read.table (entries_of words shape chain)
  pub same_size : read.table.size ≡ size_at_end words shape chain
  pub same_position : read.position ≡ position_of words shape chain
  pub same_block : read.tail_block ≡ last_block 0 chain
  pub same_slot : read.tail_slot ≡ end_slot shape (block_words words shape (last_block 0 chain))
  pub same_base : read.tail_base ≡ base_of (block_words words shape (last_block 0 chain))
