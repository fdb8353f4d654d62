-- What is given of a start, said of the shape that its geometry has.
use Rattle.std.proofs.Common.{◌≡◌, ℕ, zero, suc, ◌+◌, ◌*◌, ◌^◌, ◌<◌, ◌≤◌, List, [], ◌∷◌, length, get_or, refl, sym, subst, arith}
use Rattle.std.specs.List.{AllByRecursion}
use Rattle.log_entry.specs.Geometry.{HasShape}
use Rattle.log_entry.specs.declared.shapes.Geometry.{Geometry}
use Rattle.log_image.specs.Image.{Shape, words_in, total}
use Rattle.log_image.specs.Header.{shape_of, HasHeader}
use Rattle.log_image.specs.Stands.{StandsIn}
use Rattle.log_image.specs.Tails.{tail_of, IsClear}
use Rattle.log_image.specs.Taken.{HasTaken}
use Rattle.log_image.proofs.ImageLemmas.{length_range}
use Rattle.log_image.proofs.BlockLemmas.{block_inside}
use Rattle.log_image.proofs.HeaderSteps.{long_words}
use Rattle.log_core.specs.Origin.{Origin, shape, first_position, first_generation, first_recorded}
use Rattle.log_core.specs.Starts.{IsStart}

-- the words are of 64 bits, as many as the shape has, and stand for the file; nothing is behind the tail; and the bitmap is the chain's
pub record Facts (o : Origin) : Type 0 where
  pub small : (place : ℕ) → get_or o.words place 0 < 2 ^ 64
  pub header : HasHeader o.words
  pub stands : StandsIn o.words (shape o) o.chain o.file (first_position o)
  pub clear : IsClear o.words (shape o) (tail_of o.words (shape o) o.chain)
  pub bitmap : HasTaken o.words (shape o) o.chain o.taken
  pub whole : length o.words ≡ total (shape o) * words_in (shape o)
  pub wide : 8 ≤ words_in (shape o)
  pub generation : 0 < first_generation o

each_small : (words : List ℕ) → AllByRecursion (λ (word : ℕ). word < 2 ^ 64) words → (place : ℕ) → get_or words place 0 < 2 ^ 64
each_small [] all place = omega arith
each_small (word ∷ words) all zero = all.0
each_small (word ∷ words) all (suc place) = each_small words all.1 place

-- the shape that the words say is the geometry's
pub same_shape : (g : Geometry) (s : Shape) → HasShape g s.data_blocks s.log_blocks s.block_bytes → s ≡ record { data_blocks = g.data_blocks; log_blocks = g.log_blocks; block_bytes = g.block_bytes }
same_shape g s same = rw (same.same_data, same.same_log, same.same_bytes) refl

pub facts : (o : Origin) → IsStart o → Facts o
facts o start = record {
  small = each_small o.words start.small;
  header = start.stands.header;
  stands = subst (λ (s : Shape). StandsIn o.words s o.chain o.file (first_position o)) same start.stands.stands;
  clear = subst (λ (s : Shape). IsClear o.words s (tail_of o.words s o.chain)) same start.clear;
  bitmap = subst (λ (s : Shape). HasTaken o.words s o.chain o.taken) same start.bitmap;
  whole = subst (λ (s : Shape). length o.words ≡ total s * words_in s) same start.stands.header.whole;
  wide = subst (λ (s : Shape). 8 ≤ words_in s) same (long_words o.words start.stands.header);
  generation = start.stands.header.generation;
}
  where
    same : shape_of o.words ≡ shape o
    same = same_shape o.geometry (shape_of o.words) start.same_shape

-- a block of the image has all its words
pub block_long : (o : Origin) → Facts o → (block : ℕ) → block < total (shape o) → length (first_recorded o block) ≡ words_in (shape o)
block_long o s block inside = length_range o.words (block * words_in (shape o)) (words_in (shape o)) (subst (λ (n : ℕ). block * words_in (shape o) + words_in (shape o) ≤ n) (sym s.whole) (block_inside (words_in (shape o)) block (total (shape o)) inside))
