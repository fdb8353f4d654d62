-- What two images have in common.
use Rattle.std.specs.Prelude.{ℕ, ◌≡◌, ◌<◌, List, length, slice_index}
use Rattle.std.specs.List.{AllByRecursion}
use Rattle.log_image.specs.Image.{Shape, block_words}

-- as many words, and the same first four, which the header is
pub record SameHeader (old new : List ℕ) : Type 0 where
  pub same_length : length new ≡ length old
  pub each : (place : ℕ) → place < 4 → slice_index new place ≡ slice_index old place

-- these blocks have the same words in both
abbrev pub SameBlocks : Shape → List ℕ → List ℕ → List ℕ → Type 0
SameBlocks shape old new blocks = AllByRecursion (λ (block : ℕ). block_words new shape block ≡ block_words old shape block) blocks
