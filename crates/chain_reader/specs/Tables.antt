-- What entries make of a table: its map and, apart from that, its size.
use Rattle.std.specs.Prelude.{ℕ, ◌≡◌, List}
use Rattle.block_table.specs.FileMap.{FileMap, block_at}
use Rattle.log_image.specs.Image.{Shape}
use Rattle.log_image.specs.Entries.{Meaning}
use Rattle.log_image.specs.Maps.{map_of, size_after}

-- the table gives each virtual block what these entries give it: a physical block, or none
pub record HasMap (table : FileMap) (entries : List Meaning) : Type 0 where
  pub each : (virt : ℕ) → block_at table virt ≡ map_of entries virt

-- the table's size is what these entries make of a size before them
pub record HasSize (table : FileMap) (shape : Shape) (before : ℕ) (entries : List Meaning) : Type 0 where
  pub same : table.size ≡ size_after shape before entries
