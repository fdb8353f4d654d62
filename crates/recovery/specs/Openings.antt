-- What an opened image keeps, and what opening answers.
use Rattle.std.specs.Prelude.{ℕ, ◌*◌, ◌≡◌, List, length}
use Rattle.log_entry.specs.Geometry.{HasShape}
use Rattle.log_entry.specs.declared.shapes.Geometry.{Geometry}
use Rattle.log_image.specs.Header.{shape_of, generation_of}
use Rattle.log_image.specs.Stands.{StandsBy}
use Rattle.log_image.specs.Taken.{HasTaken}
use Rattle.log_image.specs.Tails.{Tail as ImageTail, AtSlot, AtLink, tail_of}
use Rattle.opening_rules.specs.Opening.{Accepts, chain_of}
use Rattle.recovery.specs.declared.tails.Tail.{Tail}
use Rattle.recovery.specs.declared.tails.Tail.TheVariants.{Slot, Link}

-- where a tail is, by its block and its number of word there
abbrev pub as_tail : Tail → ImageTail
as_tail (Slot block slot) = AtSlot block slot
as_tail (Link block) = AtLink block

-- the image is accepted; its words stand for a file of this size at this position by the chain that was walked; the geometry and
-- the generation are those of the words, the bitmap has the blocks that the chain names, and the chain ends with the tail
pub record IsOpened (geometry : Geometry) (words taken : List ℕ) (generation position size : ℕ) (tail : Tail) : Type 0 where
  pub rest : List ℕ
  pub accepts : Accepts (8 * length words) words rest
  pub file : List ℕ
  pub stands : StandsBy words (chain_of words rest) file position
  pub same_size : length file ≡ size
  pub same_geometry : HasShape geometry (shape_of words).data_blocks (shape_of words).log_blocks (shape_of words).block_bytes
  pub same_generation : generation_of words ≡ generation
  pub bitmap : HasTaken words (shape_of words) (chain_of words rest) taken
  pub same_tail : as_tail tail ≡ tail_of words (shape_of words) (chain_of words rest)
