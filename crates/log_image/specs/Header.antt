-- The header of an image: its first four words. The rest of block 0 says nothing.
use Rattle.std.specs.Prelude.{ℕ, ◌*◌, ◌^◌, ◌≡◌, ◌<◌, List, length, slice_index, None}
use Rattle.log_entry.specs.Fields.{field}
use Rattle.log_entry.specs.Geometry.{shape_refusal}
use Rattle.log_entry.specs.declared.layouts.TheConstants.{HEAD_BLOCK, HEAD_UNNAMED, HEAD_GENERATION}
use Rattle.log_image.specs.Image.{Shape, words_in, total}
use Rattle.log_image.specs.declared.header.TheConstants.{MAGIC, VERSION, HEADER_VERSION, HEADER_BLOCK_POWER, HEADER_UNNAMED, HEADER_DATA, HEADER_LOG}

-- the shape that the second and the third word say
abbrev pub shape_of : List ℕ → Shape
shape_of words = record {
  data_blocks = field HEADER_DATA (slice_index words 2);
  log_blocks = field HEADER_LOG (slice_index words 2);
  block_bytes = 2 ^ field HEADER_BLOCK_POWER (slice_index words 1);
}

-- the first block of the present chain
abbrev pub head_block : List ℕ → ℕ
head_block words = field HEAD_BLOCK (slice_index words 3)

-- the present generation
abbrev pub generation_of : List ℕ → ℕ
generation_of words = field HEAD_GENERATION (slice_index words 3)

-- the first word names the format, the second its version and, as a power of 2, the bytes of a block; they and the third
-- are those of a shape that an image may have; there are as many words as that shape has; the head has a generation
pub record HasHeader (words : List ℕ) : Type 0 where
  pub magic : slice_index words 0 ≡ MAGIC
  pub version : field HEADER_VERSION (slice_index words 1) ≡ VERSION
  pub unnamed : field HEADER_UNNAMED (slice_index words 1) ≡ 0
  pub allowed : shape_refusal (shape_of words).data_blocks (shape_of words).log_blocks (shape_of words).block_bytes ≡ None
  pub whole : length words ≡ total (shape_of words) * words_in (shape_of words)
  pub head_unnamed : field HEAD_UNNAMED (slice_index words 3) ≡ 0
  pub generation : 0 < generation_of words
