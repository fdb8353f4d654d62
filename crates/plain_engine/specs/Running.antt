-- What an engine keeps of the image that it runs on.
use Rattle.std.specs.Prelude.{ℕ, ◌≡◌, ◌<◌, ◌≤◌, ◌==◌, true, if◌then◌else◌, List, length}
use Rattle.block_table.specs.FileMap.{FileMap}
use Rattle.log_image.specs.Image.{Shape, words_in}
use Rattle.log_image.specs.Header.{shape_of}
use Rattle.log_image.specs.Positions.{entries_of}
use Rattle.log_image.specs.Stands.{StandsBy}
use Rattle.log_image.specs.Tails.{Tail, AtSlot, AtLink, tail_of, IsClear}
use Rattle.log_image.specs.Taken.{is_taken, HasTaken}
use Rattle.chain_reader.specs.Tables.{HasMap}

-- the tail: a slot of a block, or the block's link where the slot is past its last
abbrev pub tail_at : Shape → ℕ → ℕ → Tail
tail_at shape block slot = if slot == words_in shape then AtLink block else AtSlot block slot

-- nothing stands after the chain's tail, which is the tail; the bitmap has the blocks that the chain names, the table has the
-- map and the size, and no data block before the first that may be clear is clear
pub record Fits (shape : Shape) (words taken : List ℕ) (table : FileMap) (tail_block tail_slot first_clear : ℕ) (chain file : List ℕ) : Type 0 where
  pub same_shape : shape_of words ≡ shape
  pub clear : IsClear words shape (tail_of words shape chain)
  pub tail : tail_of words shape chain ≡ tail_at shape tail_block tail_slot
  pub bitmap : HasTaken words shape chain taken
  pub map : HasMap table (entries_of words shape chain)
  pub size : table.size ≡ length file
  pub low : (block : ℕ) → 1 ≤ block → block < first_clear → is_taken words shape chain block ≡ true

-- the words stand for the file at the position by the chain, and the rest fits them
pub record Runs (shape : Shape) (words taken : List ℕ) (table : FileMap) (position tail_block tail_slot first_clear : ℕ) (chain file : List ℕ) : Type 0 where
  pub stands : StandsBy words chain file position
  pub fits : Fits shape words taken table tail_block tail_slot first_clear chain file

-- some chain and file are such
pub record RunsOnSome (shape : Shape) (words taken : List ℕ) (table : FileMap) (position tail_block tail_slot first_clear : ℕ) : Type 0 where
  pub chain : List ℕ
  pub file : List ℕ
  pub runs : Runs shape words taken table position tail_block tail_slot first_clear chain file

-- each data block before this one is taken
abbrev pub AllTakenBefore : List ℕ → Shape → List ℕ → ℕ → Type 0
AllTakenBefore words shape chain block = (other : ℕ) → 1 ≤ other → other < block → is_taken words shape chain other ≡ true
