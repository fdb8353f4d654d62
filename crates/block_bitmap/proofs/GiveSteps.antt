-- What a step of a giving leaves of the seat.
use Rattle.std.proofs.Common.{ℕ, ◌≡◌, ◌<◌, List, [], length, slice_index, slice_set, sym, ap, ◌∙◌}
use Rattle.pmem_words.specs.Owned.{is_among}
use Rattle.pmem_words.specs.declared.owned.OwnedBlock.{OwnedBlock}
use Rattle.pmem_words.specs.Seats.{Seat, q_of}
use Rattle.asks.specs.Asks.{without_bits}
use Rattle.block_bitmap.specs.BitsIn.{least_is}
use Rattle.block_bitmap.specs.Giving.{next_word, next_bits, given_seat}
use Rattle.block_bitmap.specs.GiveLowering.{left_is}
use Rattle.block_bitmap.specs.Given.{bitmap_without, emptied}
use Rattle.block_bitmap.proofs.GivenLemmas.{cleared_none, cleared_step, none_left}

-- the words of the bitmap after a step
abbrev step_words : Seat → List ℕ → List ℕ
step_words s words = slice_set words (next_word s) (without_bits (slice_index words (next_word s)) (next_bits s))

module _ (s : Seat) (some : 0 < length s.blocks.owned) where
  -- what remains to be cleared is the same before and after a step
  step_cleared : (words : List ℕ) → bitmap_without (given_seat s).blocks.owned (step_words s words) ≡ bitmap_without s.blocks.owned words
  step_cleared words = ap (λ (owned : List OwnedBlock). bitmap_without owned (step_words s words)) (left_is s) ∙ cleared_step (next_word s) s.blocks.owned words (least_is s.blocks.owned some)

  -- and where no block is left nothing remains
  step_last : (given_seat s).blocks.owned ≡ [] → (words : List ℕ) → step_words s words ≡ bitmap_without s.blocks.owned words
  step_last none words = sym (cleared_none 0 (step_words s words)) ∙ ap (λ (owned : List OwnedBlock). bitmap_without owned (step_words s words)) (sym none) ∙ step_cleared words

  pub step_emptied : emptied (given_seat s) ≡ emptied s
  step_emptied = ap (λ (found : List ℕ). record s { blocks = record s.blocks { owned = []; contents = []; found = found } }) (step_cleared s.blocks.found)

  -- where no block is left the seat is empty
  pub step_ended : (given_seat s).blocks.owned ≡ [] → given_seat s ≡ emptied s
  step_ended none = (λ i. record s {
    blocks = record s.blocks {
      owned = none i;
      contents = none_left (q_of s.geometry) (is_among (next_word s) (next_bits s)) s.blocks.owned s.blocks.contents none i;
      found = step_last none s.blocks.found i;
    };
  })
