-- What a run may start from.
use Rattle.std.specs.Prelude.{ℕ, ◌^◌, ◌<◌, List}
use Rattle.std.specs.List.{AllByRecursion}
use Rattle.log_entry.specs.Geometry.{HasShape}
use Rattle.log_entry.specs.declared.shapes.Geometry.{Geometry}
use Rattle.log_image.specs.Header.{shape_of}
use Rattle.log_image.specs.Stands.{StandsBy}
use Rattle.log_image.specs.Tails.{tail_of, IsClear}
use Rattle.log_image.specs.Taken.{HasTaken}
use Rattle.log_core.specs.Origin.{Origin, first_position}
use Rattle.log_core.specs.Sizes.{HasSeats}

-- the words stand for the file by the chain, in the geometry's shape; nothing stands after the tail in its block; the bitmap has the
-- blocks that the chain names; and there is a seat
pub record IsStart (o : Origin) : Type 0 where
  pub small : AllByRecursion (λ (word : ℕ). word < 2 ^ 64) o.words
  pub stands : StandsBy o.words o.chain o.file (first_position o)
  pub same_shape : HasShape o.geometry (shape_of o.words).data_blocks (shape_of o.words).log_blocks (shape_of o.words).block_bytes
  pub clear : IsClear o.words (shape_of o.words) (tail_of o.words (shape_of o.words) o.chain)
  pub bitmap : HasTaken o.words (shape_of o.words) o.chain o.taken
  pub seats : HasSeats o

-- the start of these parts
abbrev pub origin_of : Geometry → ℕ → ℕ → List ℕ → List ℕ → List ℕ → List ℕ → Origin
origin_of geometry seats made words taken chain file =
    record { geometry = geometry; seats = seats; made = made; words = words; taken = taken; chain = chain; file = file }
