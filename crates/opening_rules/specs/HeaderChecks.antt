-- The conditions on the size and the header of an image, in their order.
use Rattle.std.specs.Prelude.{ℕ, ◌*◌, ◌==◌, Bool, true, false, not, ◌||◌, nat_lt, List, [], ◌∷◌, slice_index, Option, Some, None}
use Rattle.log_entry.specs.Fields.{field}
use Rattle.log_entry.specs.Geometry.{shape_refusal}
use Rattle.log_entry.specs.declared.shapes.BadShape.{BadShape}
use Rattle.log_entry.specs.declared.layouts.TheConstants.{HEAD_UNNAMED}
use Rattle.log_image.specs.Image.{Shape, words_in, total, is_in_log}
use Rattle.log_image.specs.Header.{shape_of, head_block, generation_of}
use Rattle.log_image.specs.declared.header.TheConstants.{MAGIC, VERSION, HEADER_VERSION, HEADER_BLOCK_POWER, HEADER_UNNAMED}
use Rattle.opening_rules.specs.Checks.{Check, check}
use Rattle.opening_rules.specs.declared.refusals.BadImage.TheVariants.{Short, BadMagic, BadVersion, BadGeometry, BadHead, Long}

-- something is there
abbrev pub is_some : Option BadShape → Bool
is_some None = false
is_some (Some why) = true

-- no shape's power of 2: a block has 2 ^ 6, 2 ^ 9 or 2 ^ 12 bytes
abbrev pub is_bad_power : ℕ → Bool
is_bad_power power = not (power == 6 || power == 9 || power == 12)

-- a shape that no image may have
abbrev pub is_refused : Shape → Bool
is_refused shape = is_some (shape_refusal shape.data_blocks shape.log_blocks shape.block_bytes)

-- the second and the third word are no shape
abbrev pub is_bad_geometry : List ℕ → Bool
is_bad_geometry words =
    is_bad_power (field HEADER_BLOCK_POWER (slice_index words 1)) || not (field HEADER_UNNAMED (slice_index words 1) == 0) || is_refused (shape_of words)

-- the head has no generation, an unnamed bit, or a block outside the log and spare areas
abbrev pub is_bad_head : List ℕ → Bool
is_bad_head words = generation_of words == 0 || not (field HEAD_UNNAMED (slice_index words 3) == 0) || not (is_in_log (shape_of words) (head_block words))

-- the bytes of an image of this shape
abbrev pub image_bytes : Shape → ℕ
image_bytes shape = 8 * (total shape * words_in shape)

-- the conditions on an image of so many bytes, of which these are the whole words
abbrev pub header_checks : ℕ → List ℕ → List Check
header_checks bytes words =
    check (nat_lt bytes 32) (Short bytes)
    ∷ check (not (slice_index words 0 == MAGIC)) BadMagic
    ∷ check (not (field HEADER_VERSION (slice_index words 1) == VERSION)) (BadVersion (field HEADER_VERSION (slice_index words 1)))
    ∷ check (is_bad_geometry words) BadGeometry
    ∷ check (nat_lt bytes (image_bytes (shape_of words))) (Short bytes)
    ∷ check (nat_lt (image_bytes (shape_of words)) bytes) (Long bytes)
    ∷ check (is_bad_head words) (BadHead (slice_index words 3))
    ∷ []
