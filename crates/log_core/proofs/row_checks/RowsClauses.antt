-- What one clause alone refuses: bits past a word, marks of owned blocks, floors ahead, and spent views that hold something.
use Rattle.std.proofs.Common.{◌≡◌, ◌<◌, ◌+◌, ◌*◌, ℕ, zero, suc, true, length, refl, arith, ap}
use Rattle.std.proofs.lemmas.Bool.{false≢true}
use Rattle.pmem_words.specs.Owned.{owned_at}
use Rattle.persistence.specs.Memory.{cell}
use Rattle.log_image.specs.Chains.{is_listed}
use Rattle.log_core.specs.Views.{View, view_of}
use Rattle.log_core.specs.Works.{owned_block, content_word}
use Rattle.log_core.specs.Needs.{owned_numbers}
use Rattle.log_core.specs.Certain.{IsCertain}
use Rattle.log_core.specs.May.{OfOwned}
use Rattle.log_core.specs.worked_rows.Rows.{collected}
use Rattle.log_core.specs.worked_rows.Refused.{OwnedOf}
use Rattle.log_core.specs.worked_rows.Gaps.{past_the_word, holder_left, BitPastTheWord, MarkOfOwnedBlock, FloorAhead, SpentViewHolds}
use Rattle.log_core.proofs.row_checks.RowChecks.{below_all, is_certain, certain_by}
use Rattle.log_core.proofs.row_checks.RowsTaken.{all_among}

pub bit_past_the_word : BitPastTheWord
bit_past_the_word = (
  OfOwned (all_among past_the_word (λ b. is_listed (owned_numbers (view_of collected.views 1).seat.blocks.owned) b) refl),
  refl,
  refl,
  λ owners. (let bit = owners.bits.bits 1 (omega arith) in omega (arith, bit)),
  λ may. (let small = may.small in omega (arith, small)),
)

pub mark_of_owned_block : MarkOfOwnedBlock
mark_of_owned_block = (
  refl,
  (refl, λ none. omega (arith, none)),
  record { owned = refl; small = omega arith },
  λ present. (let index = present.0 in omega (arith, index)),
  λ syncs. false≢true (((syncs.views_hold 0).marks refl).1.0.named (λ head. omega (arith, head))),
)

pub floor_ahead : FloorAhead
floor_ahead = (
  refl,
  refl,
  refl,
  refl,
  refl,
  refl,
  λ fits. (let reached = fits.reached 8 in omega (arith, reached)),
)

spent_at : (place word : ℕ) → place < 1 → word < 64 → IsCertain (cell holder_left.memory (owned_block (view_of holder_left.views 1).seat place * 64 + word)) (content_word (view_of holder_left.views 1).seat place word)
spent_at zero word less within =
    certain_by (cell holder_left.memory (64 + word)) (content_word (view_of holder_left.views 1).seat 0 word)
    (below_all 64 (λ w. is_certain (cell holder_left.memory (64 + w)) (content_word (view_of holder_left.views 1).seat 0 w)) word refl within)
spent_at (suc place) word less within = absurd (omega (arith, less))

zero_filled : (place : ℕ) → place < 1 → (owned_at (view_of holder_left.views 0).seat.blocks.owned place).filled ≡ true → ⊥
zero_filled zero less filled = false≢true filled
zero_filled (suc place) less filled = omega (arith, less)

zero_fenced : (place : ℕ) → place < 1 → (owned_at (view_of holder_left.views 0).seat.blocks.owned place).fenced ≡ true → ⊥
zero_fenced zero less fenced = false≢true fenced
zero_fenced (suc place) less fenced = omega (arith, less)

spent_filled : (place : ℕ) → place < 1 → (owned_at (view_of holder_left.views 1).seat.blocks.owned place).filled ≡ true → ⊥
spent_filled zero less filled = false≢true filled
spent_filled (suc place) less filled = omega (arith, less)

holder_holds : OwnedOf holder_left
holder_holds zero = record {
  contents = refl;
  areas = (refl, tt);
  stored = tt;
  filled = λ place less filled. absurd (zero_filled place less filled);
  fenced = λ place word less fenced. absurd (zero_fenced place less fenced);
}
holder_holds (suc zero) = record {
  contents = refl;
  areas = (refl, tt);
  stored = tt;
  filled = λ place less filled. absurd (spent_filled place less filled);
  fenced = λ place word less fenced within. spent_at place word less within;
}
holder_holds (suc (suc seat)) = record { contents = refl; areas = tt; stored = tt; filled = λ place less. absurd (omega (arith, less)); fenced = λ place word less. absurd (omega (arith, less)) }

pub spent_view_holds : SpentViewHolds
spent_view_holds = (
  refl,
  holder_holds,
  record { owned = refl; small = omega arith },
  λ owned. (let other = ((owned 1).fenced 0 0 (omega arith) refl (omega arith)).present in omega (arith, other)),
  λ sizes. (let many = ap (λ (v : View). length v.seat.blocks.owned) (sizes.spent 1 refl) in omega (arith, many)),
)
