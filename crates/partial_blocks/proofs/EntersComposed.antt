-- Composing the blocks of a write is what setting their words does, one after the other, and each may be set.
use Rattle.std.proofs.Common.{◌≡◌, ℕ, zero, suc, ◌+◌, ◌-◌, ◌*◌, ◌^◌, ◌<◌, ◌≤◌, Bool, true, false, List, [], ◌∷◌, length, refl, sym, ap, subst, arith}
use Rattle.pmem_words.specs.Owned.{with_filled, with_fenced}
use Rattle.pmem_words.specs.declared.owned.OwnedBlock.{OwnedBlock}
use Rattle.pmem_words.specs.ByteWords.{words_set, word_in}
use Rattle.pmem_words.specs.Seats.{Seat}
use Rattle.log_core.specs.Views.{Ghost}
use Rattle.log_core.specs.Works.{SetsWord, MaySetWord, words_of}
use Rattle.log_core.specs.Answers.{Enters}
use Rattle.log_core.proofs.BlockWords.{q_range}
use Rattle.log_core.proofs.machines.Entering.{enters_same, enters_works}
use Rattle.log_core.proofs.machines.Parts.{enters_more}
use Rattle.block_bitmap.proofs.OwnedFlags.{unmarked_twice, unfilled_many}
use Rattle.partial_blocks.specs.Touching.{first_touched, touched_count, is_in_part}
use Rattle.partial_blocks.specs.Composing.{new_word, word_set, words_laid, composed_by, place_composed, places_composed, composed}
use Rattle.partial_blocks.specs.Holding.{AreBytes}
use Rattle.partial_blocks.proofs.WordsLaid.{words_bare, words_long, places_bare, places_long}
use Rattle.partial_blocks.proofs.LaidBytes.{laid_word_small}
use Rattle.partial_blocks.proofs.WordsSet.{range_bytes, word_small}

module _ (g : Ghost) where
  -- a word of an owned block
  pub enters_word : (s : Seat) (place word value : ℕ) → MaySetWord s place word value → Enters g s (word_set place word value s) []
  enters_word s place word value may = enters_works g s (SetsWord place word value ∷ []) (may, tt) refl

  -- the words of a block that the bytes of the call are
  module _ (s : Seat) (place : ℕ) (inside : place < length s.blocks.owned) (bytes : List ℕ) (small : (word : ℕ) → word_in bytes word < 2 ^ 64) where
    -- after so many of them
    abbrev part : ℕ → Seat
    part count = record s { blocks = record s.blocks { owned = with_fenced (with_filled s.blocks.owned place false) place false; contents = words_set bytes s.blocks.contents (place * words_of s) count } }

    part_more : (count : ℕ) → word_set place count (word_in bytes count) (part count) ≡ part (suc count)
    part_more count = ap (λ (owned : List OwnedBlock). record s { blocks = record s.blocks { owned = owned; contents = words_set bytes s.blocks.contents (place * words_of s) (suc count) } }) (unmarked_twice s.blocks.owned place inside)

    part_inside : (count : ℕ) → place < length (part count).blocks.owned
    part_inside count = (let long = unfilled_many s place in omega (arith, inside, long))

    enters_part : (count : ℕ) → count < words_of s → Enters g s (part (suc count)) []
    enters_part zero low = enters_word s place 0 (word_in bytes 0) (record { owned = inside; inside = low; small = small 0 })
    enters_part (suc count) low = enters_more g s (part (suc count)) (part (suc (suc count))) [] (enters_part count (omega (arith, low)))
        (subst (λ (t : Seat). Enters g (part (suc count)) t []) (part_more (suc count))
        (enters_word (part (suc count)) place (suc count) (word_in bytes (suc count)) (record { owned = part_inside (suc count); inside = low; small = small (suc count) })))

    enters_set : Enters g s (part (words_of s)) []
    enters_set = (let wide = (q_range s.geometry).0 in let some : suc (words_of s - 1) ≡ words_of s = omega (arith, wide) in
        subst (λ (count : ℕ). Enters g s (part count) []) some (enters_part (words_of s - 1) (omega (arith, wide))))

  -- and those of one over which they are laid
  module _ (offset place virt : ℕ) (s : Seat) (inside : place < length s.blocks.owned) (small : AreBytes s.calling.bytes) where
    enters_laid : (count : ℕ) → count ≤ words_of s → Enters g s (words_laid offset place virt count s) []
    enters_laid zero few = enters_same g s s refl
    enters_laid (suc count) few = enters_more g s (words_laid offset place virt count s) (words_laid offset place virt (suc count) s) [] (enters_laid count (omega (arith, few)))
        (enters_word (words_laid offset place virt count s) place count (new_word offset s virt count) (record {
          owned = (let long = words_long offset place virt count s in omega (arith, inside, long));
          inside = (let wide = ap words_of (words_bare offset place virt count s) in omega (arith, few, wide));
          small = laid_word_small offset s.calling.bytes _ _ small;
        }))

    enters_by : (part : Bool) → Enters g s (composed_by part offset place virt s) []
    enters_by true = enters_laid (words_of s) (omega arith)
    enters_by false = enters_set s place inside _ (word_small _ (range_bytes s.calling.bytes (virt * s.geometry.block_bytes - offset) (virt * s.geometry.block_bytes - offset + 8 * words_of s) small))

  pub enters_place : (offset place : ℕ) (s : Seat) → place < length s.blocks.owned → AreBytes s.calling.bytes → Enters g s (place_composed offset place s) []
  enters_place offset place s inside small = enters_by offset place (first_touched offset s + place) s inside small (is_in_part offset s (first_touched offset s + place))

  pub enters_places : (offset : ℕ) (s : Seat) → AreBytes s.calling.bytes → (count : ℕ) → count ≤ length s.blocks.owned → Enters g s (places_composed offset count s) []
  enters_places offset s small zero few = enters_same g s s refl
  enters_places offset s small (suc count) few = enters_more g s (places_composed offset count s) (places_composed offset (suc count) s) [] (enters_places offset s small count (omega (arith, few)))
      (enters_place offset count (places_composed offset count s) (let long = places_long offset count s in omega (arith, long, few))
      (subst AreBytes (sym (ap (λ (u : Seat). u.calling.bytes) (places_bare offset count s))) small))

  pub enters_composed : (offset : ℕ) (s : Seat) → AreBytes s.calling.bytes → touched_count offset s ≤ length s.blocks.owned → Enters g s (composed offset s) []
  enters_composed offset s small least = enters_places offset s small (touched_count offset s) least
