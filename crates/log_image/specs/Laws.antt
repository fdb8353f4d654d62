-- What follows from the definitions for every image.
use Rattle.std.specs.Prelude.{ℕ, ◌≡◌, List, [], ◌∷◌, None}
use Rattle.log_entry.specs.Geometry.{shape_refusal}
use Rattle.log_image.specs.Image.{Shape}
use Rattle.log_image.specs.Header.{shape_of, generation_of}
use Rattle.log_image.specs.Chains.{IsChain}
use Rattle.log_image.specs.Stands.{StandsBy}
use Rattle.log_image.specs.Tails.{tail_of, IsClear, IsSameToTail, IsCleared}
use Rattle.log_image.specs.Taken.{named_blocks}
use Rattle.log_image.specs.JustMade.{first_log, IsJustMade}

-- words have one chain in a shape
abbrev pub HaveOneChain : Type 0
HaveOneChain = (words : List ℕ) (shape : Shape) (chain other : List ℕ) → IsChain words shape chain → IsChain words shape other → chain ≡ other

-- the words stand for one file at one position, by one chain
abbrev pub StandForOne : Type 0
StandForOne = (words chain other file another : List ℕ) (position elsewhere : ℕ) → StandsBy words chain file position → StandsBy words other another elsewhere →
    (chain ≡ other) × (file ≡ another) × (position ≡ elsewhere)

-- a just-made image of a shape that an image may have stands for the empty file at position 0, and has that shape
abbrev pub JustMadeStands : Type 0
JustMadeStands = (shape : Shape) (words : List ℕ) → shape_refusal shape.data_blocks shape.log_blocks shape.block_bytes ≡ None → IsJustMade shape words →
    (shape_of words ≡ shape) × StandsBy words (first_log shape ∷ []) [] 0

-- words that are read as others were: the shape, the generation, the chain, the file and the position are as before, and the chain names
-- the same blocks and has the same tail
pub record IsReadAs (old new chain file : List ℕ) (position : ℕ) : Type 0 where
  pub same_shape : shape_of new ≡ shape_of old
  pub same_generation : generation_of new ≡ generation_of old
  pub stands : StandsBy new chain file position
  pub same_names : named_blocks new (shape_of old) chain ≡ named_blocks old (shape_of old) chain
  pub same_tail : tail_of new (shape_of old) chain ≡ tail_of old (shape_of old) chain

-- the words after clearing: they are read as before, and nothing stands after the tail
pub record StaysCleared (old new chain file : List ℕ) (position : ℕ) : Type 0 where
  pub reads : IsReadAs old new chain file position
  pub clear : IsClear new (shape_of old) (tail_of old (shape_of old) chain)

-- what stands after the tail may be anything: a clearing that was stopped leaves such words
abbrev pub TailKeeps : Type 0
TailKeeps = (old new chain file : List ℕ) (position : ℕ) → StandsBy old chain file position → IsSameToTail (shape_of old) (tail_of old (shape_of old) chain) old new →
    IsReadAs old new chain file position

-- clearing what stands after the tail keeps what the words stand for
abbrev pub ClearingKeeps : Type 0
ClearingKeeps = (old new chain file : List ℕ) (position : ℕ) → StandsBy old chain file position → IsCleared (shape_of old) (tail_of old (shape_of old) chain) old new →
    StaysCleared old new chain file position
