-- Blocks that hold the map at a position as a snapshot.
use Rattle.std.specs.Prelude.{ℕ, ◌<◌, ◌≡◌, true, List, [], ◌∷◌, length, slice_index, Option}
use Rattle.log_entry.specs.Words.{block_word, snapshot_word}
use Rattle.log_entry.specs.declared.words.BlockKind.TheVariants.{Snapshot}
use Rattle.log_image.specs.Image.{Shape}
use Rattle.log_image.specs.Maps.{map_of}
use Rattle.log_image.specs.Blocks.{entry_count}
use Rattle.log_image.specs.Format.{is_snapshot_block}
use Rattle.log_core.specs.After.{snapshot_meanings}

-- the first of some blocks, or the block that follows them
abbrev pub first_or : List ℕ → ℕ → ℕ
first_or [] following = following
first_or (block ∷ blocks) following = block

-- each block links to the next and the last to the block that follows, and has the words of a snapshot block of this position and size
abbrev pub AreSnapshotBlocks : Shape → (ℕ → List ℕ) → ℕ → ℕ → List ℕ → ℕ → Type 0
AreSnapshotBlocks image content base size [] following = Unit {0}
AreSnapshotBlocks image content base size (block ∷ blocks) following =
    (slice_index (content block) 0 ≡ first_or blocks following)
    × (slice_index (content block) 1 ≡ block_word (record { kind = Snapshot; base = base }))
    × (slice_index (content block) 2 ≡ snapshot_word (record { count = entry_count (content block); size = size }))
    × (is_snapshot_block image (content block) ≡ true)
    × AreSnapshotBlocks image content base size blocks following

-- at least one block; and their entries give each virtual block what the map does
pub record IsSnapshot (image : Shape) (content : ℕ → List ℕ) (base size : ℕ) (blocks : List ℕ) (following : ℕ) (held : ℕ → Option ℕ) : Type 0 where
  pub some : 0 < length blocks
  pub words : AreSnapshotBlocks image content base size blocks following
  pub map_is : (virt : ℕ) → map_of (snapshot_meanings content blocks) virt ≡ held virt
