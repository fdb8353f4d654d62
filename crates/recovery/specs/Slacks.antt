-- The look for bytes past the end of the file that are not 0.
use Rattle.std.specs.Prelude.{ℕ, ◌≡◌, ◌<◌, ◌==◌, Bool, not, List, Option, Some, None}
use Rattle.std.specs.List.{list_any}
use Rattle.block_table.specs.FileMap.{FileMap, block_at}
use Rattle.log_image.specs.Image.{Shape, total}
use Rattle.log_image.specs.Entries.{Meaning}
use Rattle.opening_rules.specs.Slack.{HasNoSlack, FirstSlack}

-- a number among these is not 0
abbrev pub is_some_nonzero : List ℕ → Bool
is_some_nonzero numbers = list_any (λ (number : ℕ). not (number == 0)) numbers

-- each mapped virtual block has a block of the image
pub record MapsInside (shape : Shape) (table : FileMap) : Type 0 where
  pub each : (virt block : ℕ) → block_at table virt ≡ Some block → block < total shape

-- the block of the first virtual block that has one; or none has
abbrev pub LooksForSlack : Option ℕ → List ℕ → Shape → List Meaning → ℕ → Type 0
LooksForSlack None words shape entries size = HasNoSlack words shape entries size
LooksForSlack (Some block) words shape entries size = FirstSlack words shape entries size block
