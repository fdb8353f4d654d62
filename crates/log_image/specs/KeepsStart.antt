-- What is kept by an image that a run may start from.
use Rattle.std.specs.Prelude.{ℕ, ◌≡◌, List, length}
use Rattle.log_entry.specs.Geometry.{HasShape}
use Rattle.log_entry.specs.declared.shapes.Geometry.{Geometry}
use Rattle.log_image.specs.Header.{shape_of, generation_of}
use Rattle.log_image.specs.Stands.{StandsBy}
use Rattle.log_image.specs.Tails.{tail_of, IsClear}
use Rattle.log_image.specs.Taken.{HasTaken}

-- the words stand for a file of this size at this position, the geometry and the generation are those of the words, nothing
-- stands after the tail in its block, and the bitmap has the blocks that the chain names
pub record KeepsStart (geometry : Geometry) (words taken : List ℕ) (generation position size : ℕ) : Type 0 where
  pub chain : List ℕ
  pub file : List ℕ
  pub stands : StandsBy words chain file position
  pub same_size : length file ≡ size
  pub same_geometry : HasShape geometry (shape_of words).data_blocks (shape_of words).log_blocks (shape_of words).block_bytes
  pub same_generation : generation_of words ≡ generation
  pub clear : IsClear words (shape_of words) (tail_of words (shape_of words) chain)
  pub bitmap : HasTaken words (shape_of words) chain taken
