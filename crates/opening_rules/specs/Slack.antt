-- Bytes past the end of the file that are not 0.
use Rattle.std.specs.Prelude.{ℕ, ◌+◌, ◌*◌, ◌≡◌, ◌≢◌, ◌<◌, ◌≤◌, List, slice_index, Some}
use Rattle.log_image.specs.Image.{Shape, block_content}
use Rattle.log_image.specs.Entries.{Meaning}
use Rattle.log_image.specs.Maps.{map_of}

-- a virtual block is mapped to this block, which has a byte past the end of a file of this size that is not 0
pub record HasSlack (words : List ℕ) (shape : Shape) (entries : List Meaning) (size virt block : ℕ) : Type 0 where
  pub mapped : map_of entries virt ≡ Some block
  pub at : ℕ
  pub inside : at < shape.block_bytes
  pub past_end : size ≤ virt * shape.block_bytes + at
  pub nonzero : slice_index (block_content words shape block) at ≢ 0

-- no virtual block has one
abbrev pub HasNoSlack : List ℕ → Shape → List Meaning → ℕ → Type 0
HasNoSlack words shape entries size = (virt block : ℕ) → HasSlack words shape entries size virt block → ⊥

-- the first virtual block that has one is mapped to this block
pub record FirstSlack (words : List ℕ) (shape : Shape) (entries : List Meaning) (size block : ℕ) : Type 0 where
  pub virt : ℕ
  pub here : HasSlack words shape entries size virt block
  pub before : (earlier other : ℕ) → earlier < virt → HasSlack words shape entries size earlier other → ⊥
