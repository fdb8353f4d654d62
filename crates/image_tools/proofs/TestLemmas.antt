-- A run may start from the image after a collection.
use Rattle.std.proofs.Common.{◌≡◌, ℕ, List, [], ◌∷◌, refl, sym, subst, arith}
use Rattle.log_entry.specs.Geometry.{HasShape}
use Rattle.log_entry.specs.declared.shapes.Geometry.{Geometry}
use Rattle.log_image.specs.Header.{shape_of}
use Rattle.log_image.specs.Tails.{AtSlot}
use Rattle.log_image.specs.KeepsStart.{KeepsStart}
use Rattle.log_image.specs.Rows.{collected}
use Rattle.chain_reader.proofs.TestLemmas.{stands_collected}
use Rattle.log_image.proofs.StartRows.{bits_by, clear_by}

-- what is kept of it
pub kept_collected : (geometry : Geometry) (words taken : List ℕ) → HasShape geometry 2 1 64 → words ≡ collected → taken ≡ 55 ∷ [] → KeepsStart geometry words taken 2 3 1
kept_collected geometry words taken shaped same_words same_taken =
    subst (λ (l : List ℕ). KeepsStart geometry l taken 2 3 1) (sym same_words) (subst (λ (l : List ℕ). KeepsStart geometry collected l 2 3 1) (sym same_taken) (record {
      chain = 5 ∷ 4 ∷ [];
      file = 204 ∷ [];
      stands = stands_collected;
      same_size = refl;
      same_geometry = shaped;
      same_generation = refl;
      clear = clear_by collected (shape_of collected) (AtSlot 4 4) 192 refl refl;
      bitmap = record { room = omega arith; bits = bits_by collected (shape_of collected) (5 ∷ 4 ∷ []) (55 ∷ []) 24 refl };
    }))
