-- What the readers of a geometry give, and why three numbers are no geometry.
use Rattle.std.specs.Prelude.{ℕ, ◌+◌, ◌≡◌, ◌==◌, nat_lt, nat_le, not, ◌||◌, Option, Some, None, if◌then◌else◌}
use Rattle.log_entry.specs.Shape.{is_block_bytes, spare_blocks_of, total_of}
use Rattle.log_entry.specs.declared.shapes.Geometry.{Geometry}
use Rattle.log_entry.specs.declared.shapes.Area.{Area}
use Rattle.log_entry.specs.declared.shapes.Area.TheVariants.{Data, Log, Spare}
use Rattle.log_entry.specs.declared.shapes.BadShape.{BadShape}
use Rattle.log_entry.specs.declared.shapes.BadShape.TheVariants.{BadBlock, BadArea, TooManyBlocks}

-- the first thing that is wrong with three numbers as a shape, if anything is
abbrev pub shape_refusal : ℕ → ℕ → ℕ → Option BadShape
shape_refusal data_blocks log_blocks bytes =
    if not (is_block_bytes bytes) then Some (BadBlock bytes)
    else if data_blocks == 0 then Some (BadArea Data)
    else if log_blocks == 0 then Some (BadArea Log)
    else if nat_lt 65535 (total_of data_blocks log_blocks bytes) then Some (TooManyBlocks (total_of data_blocks log_blocks bytes))
    else None

-- the geometry is made of these three numbers
pub record HasShape (shape : Geometry) (data_blocks log_blocks bytes : ℕ) : Type 0 where
  pub same_data : shape.data_blocks ≡ data_blocks
  pub same_log : shape.log_blocks ≡ log_blocks
  pub same_bytes : shape.block_bytes ≡ bytes

-- the blocks of an area
abbrev pub count_of : Geometry → Area → ℕ
count_of shape Data = shape.data_blocks
count_of shape Log = shape.log_blocks
count_of shape Spare = spare_blocks_of shape.data_blocks shape.block_bytes

-- the first block of an area
abbrev pub first_of : Geometry → Area → ℕ
first_of shape Data = 1
first_of shape Log = 1 + shape.data_blocks
first_of shape Spare = 1 + shape.data_blocks + shape.log_blocks

-- the area that a block is in: none for the header and past the end of the image
abbrev pub area_at : Geometry → ℕ → Option Area
area_at shape block =
    if block == 0 || nat_le (total_of shape.data_blocks shape.log_blocks shape.block_bytes) block then None
    else if nat_lt block (first_of shape Log) then Some Data
    else if nat_lt block (first_of shape Spare) then Some Log
    else Some Spare
