-- The just-made image is one that a run may start from.
use Rattle.std.proofs.Common.{◌≡◌, ◌⊎◌, ◌<◌, ◌^◌, ◌==◌, ◌&&◌, nat_lt, if◌then◌else◌, ℕ, true, List, [], ◌∷◌, slice_index, refl, inl, inr, arith}
use Rattle.std.specs.List.{AllByRecursion}
use Rattle.std.proofs.lemmas.Bool.{and_parts, or_cases, eqb-true, ltb-true}
use Rattle.log_image.specs.Header.{shape_of}
use Rattle.log_image.specs.Tails.{tail_of, is_after}
use Rattle.log_image.specs.Rows.{two_blocks}
use Rattle.log_image.specs.Taken.{bit_of, is_taken}
use Rattle.log_image.proofs.JustMadeRows.{just_made_by}
use Rattle.log_core.specs.Starts.{IsStart}
use Rattle.log_core.specs.worked_rows.Samples.{image_a}
use Rattle.log_core.proofs.row_checks.RowChecks.{all_in, below_same, below_implied}

-- each word is below 2^64, where a test finds it so
pub each_small : (words : List ℕ) → all_in (λ word. nat_lt word (2 ^ 64)) words ≡ true → AllByRecursion (λ (word : ℕ). word < 2 ^ 64) words
each_small [] all = tt
each_small (word ∷ words) all = (let parts = and_parts (nat_lt word (2 ^ 64)) (all_in (λ other. nat_lt other (2 ^ 64)) words) all in (ltb-true word (2 ^ 64) parts.0, each_small words parts.1))

-- what stands after the tail is in the one log block
after_inside : (place : ℕ) → is_after (shape_of two_blocks) (tail_of two_blocks (shape_of two_blocks) (3 ∷ [])) place ≡ true → place < 32
after_inside place after = by (or_cases (place == 24) (nat_lt 27 place && nat_lt place 32) after)
  where
    by : ((place == 24) ≡ true) ⊎ ((nat_lt 27 place && nat_lt place 32) ≡ true) → place < 32
    by (inl link) = (let same = eqb-true place 24 link in omega (arith, same))
    by (inr slot) = ltb-true place 32 (and_parts (nat_lt 27 place) (nat_lt place 32) slot).1

pub image_starts : IsStart image_a
image_starts = record {
  small = each_small two_blocks refl;
  stands = just_made_by;
  same_shape = record { same_data = refl; same_log = refl; same_bytes = refl };
  clear = λ place after. eqb-true (slice_index two_blocks place) 0
      (below_implied 32 (λ k. is_after (shape_of two_blocks) (tail_of two_blocks (shape_of two_blocks) (3 ∷ [])) k) (λ k. slice_index two_blocks k == 0) place refl (after_inside place after) after);
  bitmap = record { room = omega arith; bits = λ block less. below_same 24 (λ b. bit_of (9 ∷ []) b) (λ b. if is_taken two_blocks (shape_of two_blocks) (3 ∷ []) b then 1 else 0) block refl less };
  seats = record { some = omega arith; few = omega arith; made = inr refl };
}
