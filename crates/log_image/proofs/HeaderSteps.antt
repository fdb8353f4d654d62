-- The header of words whose first four are those of others, and of which there are as many.
use Rattle.std.proofs.Common.{◌≡◌, ◌≤◌, ◌<◌, ◌*◌, ◌/◌, ◌^◌, ℕ, List, length, get_or, None, sym, ap, ◌∙◌, subst, arith}
use Rattle.log_entry.specs.Fields.{field}
use Rattle.log_entry.specs.Geometry.{shape_refusal}
use Rattle.log_entry.specs.declared.layouts.TheConstants.{HEAD_UNNAMED, HEAD_GENERATION}
use Rattle.log_image.specs.Image.{Shape, words_in, total}
use Rattle.log_image.specs.Header.{shape_of, HasHeader}
use Rattle.log_image.specs.declared.header.TheConstants.{HEADER_VERSION, HEADER_BLOCK_POWER, HEADER_UNNAMED, HEADER_DATA, HEADER_LOG}
use Rattle.log_image.proofs.ImageLemmas.{allowed_shape}
use Rattle.log_image.proofs.MadeImages.{by_bytes}
use Rattle.log_image.specs.SameWords.{SameHeader}

-- the shape that the second and the third word say
shape_in_words : ℕ → ℕ → Shape
shape_in_words one two = record { data_blocks = field HEADER_DATA two; log_blocks = field HEADER_LOG two; block_bytes = 2 ^ field HEADER_BLOCK_POWER one }

pub header_shape : (old new : List ℕ) → SameHeader old new → shape_of new ≡ shape_of old
unfolding shape_in_words
header_shape old new same =
    ap (λ (w : ℕ). shape_in_words w (get_or new 2 0)) (same.each 1 (omega arith)) ∙ ap (λ (w : ℕ). shape_in_words (get_or old 1 0) w) (same.each 2 (omega arith))

pub header_same : (old new : List ℕ) → SameHeader old new → HasHeader old → HasHeader new
header_same old new same header = record {
  magic = same.each 0 (omega arith) ∙ header.magic;
  version = ap (λ (w : ℕ). field HEADER_VERSION w) (same.each 1 (omega arith)) ∙ header.version;
  unnamed = ap (λ (w : ℕ). field HEADER_UNNAMED w) (same.each 1 (omega arith)) ∙ header.unnamed;
  allowed = subst (λ (s : Shape). shape_refusal s.data_blocks s.log_blocks s.block_bytes ≡ None) (sym (header_shape old new same)) header.allowed;
  whole = subst (λ (s : Shape). length new ≡ total s * words_in s) (sym (header_shape old new same)) (same.same_length ∙ header.whole);
  head_unnamed = ap (λ (w : ℕ). field HEAD_UNNAMED w) (same.each 3 (omega arith)) ∙ header.head_unnamed;
  generation = subst (λ (w : ℕ). 0 < field HEAD_GENERATION w) (sym (same.each 3 (omega arith))) header.generation;
}

-- a block has at least 8 words
pub long_words : (words : List ℕ) → HasHeader words → 8 ≤ words_in (shape_of words)
long_words words header = by_bytes (λ (b : ℕ). 8 ≤ b / 8) (shape_of words).block_bytes (allowed_shape (shape_of words).data_blocks (shape_of words).log_blocks (shape_of words).block_bytes header.allowed).bytes_are (omega arith) (omega arith) (omega arith)
