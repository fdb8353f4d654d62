-- An image that a run may start from, with seats, is a start.
use Rattle.std.proofs.Common.{◌≡◌, ℕ, ◌^◌, ◌<◌, List, sym, ap, ◌∙◌, subst}
use Rattle.std.specs.List.{AllByRecursion}
use Rattle.log_entry.specs.declared.shapes.Geometry.{Geometry}
use Rattle.log_image.specs.Image.{Shape}
use Rattle.log_image.specs.Header.{shape_of}
use Rattle.log_image.specs.Positions.{position_of}
use Rattle.log_image.specs.Stands.{StandsBy}
use Rattle.log_image.specs.KeepsStart.{KeepsStart}
use Rattle.log_core.specs.Origin.{first_position, first_generation}
use Rattle.log_core.specs.Sizes.{HasSeats}
use Rattle.log_core.specs.Starts.{IsStart, origin_of}
use Rattle.log_core.proofs.starts.StartFacts.{same_shape}

module _ (g : Geometry) (words taken : List ℕ) (generation position size seats made : ℕ) (k : KeepsStart g words taken generation position size) where
  pub same_position : first_position (origin_of g seats made words taken k.chain k.file) ≡ position
  same_position = ap (λ (s : Shape). position_of words s k.chain) (sym (same_shape g (shape_of words) k.same_geometry)) ∙ k.stands.stands.ends_at

  pub same_generation : first_generation (origin_of g seats made words taken k.chain k.file) ≡ generation
  same_generation = k.same_generation

  pub kept_start : AllByRecursion (λ (word : ℕ). word < 2 ^ 64) words → HasSeats (origin_of g seats made words taken k.chain k.file) → IsStart (origin_of g seats made words taken k.chain k.file)
  kept_start small has_seats = record {
    small = small;
    stands = subst (λ (p : ℕ). StandsBy words k.chain k.file p) (sym same_position) k.stands;
    same_shape = k.same_geometry;
    clear = k.clear;
    bitmap = k.bitmap;
    seats = has_seats;
  }
