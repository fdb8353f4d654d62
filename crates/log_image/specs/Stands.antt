-- When the words of an image stand for a file at a position.
use Rattle.std.specs.Prelude.{ℕ, ◌+◌, ◌*◌, ◌≡◌, ◌<◌, List, length, slice_index, Some, None}
use Rattle.log_image.specs.Image.{Shape, block_content}
use Rattle.log_image.specs.Header.{shape_of, HasHeader}
use Rattle.log_image.specs.Entries.{Meaning}
use Rattle.log_image.specs.Maps.{map_of}
use Rattle.log_image.specs.Chains.{IsChain}
use Rattle.log_image.specs.Positions.{entries_of, position_of, size_at_end}
use Rattle.log_image.specs.Format.{HasFormat}

-- a mapped virtual block holds the file's bytes, and 0 past the file's end; the file is 0 in a virtual block that is not mapped
pub record HoldsFile (words : List ℕ) (shape : Shape) (entries : List Meaning) (file : List ℕ) : Type 0 where
  pub mapped : (virt block : ℕ) → map_of entries virt ≡ Some block → (at : ℕ) → at < shape.block_bytes →
      slice_index (block_content words shape block) at ≡ slice_index file (virt * shape.block_bytes + at)
  pub unmapped : (virt : ℕ) → map_of entries virt ≡ None → (at : ℕ) → at < shape.block_bytes →
      slice_index file (virt * shape.block_bytes + at) ≡ 0

-- the words, in this shape, meet the rules of the format; this chain is theirs and ends at this position, with the file's
-- length as the size; and the mapped blocks hold the file
pub record StandsIn (words : List ℕ) (shape : Shape) (chain file : List ℕ) (position : ℕ) : Type 0 where
  pub is_chain : IsChain words shape chain
  pub format : HasFormat words shape chain
  pub ends_at : position_of words shape chain ≡ position
  pub ends_with : size_at_end words shape chain ≡ length file
  pub holds : HoldsFile words shape (entries_of words shape chain) file

-- the words stand for the file at the position, by this chain
pub record StandsBy (words chain file : List ℕ) (position : ℕ) : Type 0 where
  pub header : HasHeader words
  pub stands : StandsIn words (shape_of words) chain file position

-- the words stand for the file at the position
abbrev pub Stands : List ℕ → List ℕ → ℕ → Type 0
Stands words file position = (chain : List ℕ) × StandsBy words chain file position
