-- Composing the blocks of a write is what setting their words does, one after the other, and each may be set.
use Rattle.std.proofs.Common.{◌≡◌, ℕ, zero, suc, ◌+◌, ◌-◌, ◌*◌, ◌^◌, ◌<◌, ◌≤◌, false, List, [], ◌∷◌, length, refl, sym, ap, subst, arith}
use Rattle.std.specs.List.{slice_range}
use Rattle.log_entry.specs.Words.{run_word, indirect_word}
use Rattle.pmem_words.specs.Owned.{with_filled, with_fenced}
use Rattle.pmem_words.specs.declared.owned.OwnedBlock.{OwnedBlock}
use Rattle.pmem_words.specs.Seats.{Seat}
use Rattle.log_core.specs.Views.{Ghost}
use Rattle.log_core.specs.Works.{SetsWord, MaySetWord, words_of, owned_block}
use Rattle.log_core.specs.Answers.{Enters}
use Rattle.log_core.proofs.BlockWords.{q_range}
use Rattle.log_core.proofs.machines.Entering.{enters_same, enters_works}
use Rattle.log_core.proofs.machines.Parts.{enters_more}
use Rattle.log_core.proofs.writes.IndirectBlocks.{run_small}
use Rattle.block_bitmap.proofs.OwnedFlags.{unfilled_many}
use Rattle.pmem_words.specs.ByteWords.{words_set, word_in}
use Rattle.write_any.specs.Composing.{block_set, blocks_set, run_at, runs_at, word_set, runs_set, runs_composed}
use Rattle.write_any.proofs.Composed.{set_bare, set_long, runs_bare, runs_long}
use Rattle.write_any.proofs.RunsHeld.{runs_range, run_range}
use Rattle.write_any.proofs.SetBlock.{unmarked_again}
use Rattle.write_any.specs.WriteWithin.{AreBytes}
use Rattle.write_any.proofs.WordsSet.{range_bytes, word_small}

-- the words of the runs of so many blocks have 64 bits
module _ (s : Seat) (count : ℕ) (few : count < words_of s) where
  pub run_fits : ((k : ℕ) → k < count → owned_block s k < 2 ^ 16) → (place : ℕ) → place < count → run_word (run_at place s) < 2 ^ 64
  run_fits numbers place low = (let range = run_range s (2 ^ 16) place (λ k before. numbers k (omega (arith, before, low))) in
      run_small (run_at place s) range.0 (let short = range.1 in let wide = (q_range s.geometry).1 in omega (arith, short, low, few, wide)))

  pub first_fits : (virt : ℕ) → 0 < count → virt < 2 ^ 16 → indirect_word (record { virt = virt; count = count; runs = runs_at (count - 1) s; leftover = 0 }) < 2 ^ 64
  first_fits virt some low = (let most = (runs_range s (count - 1)).1 in let wide = (q_range s.geometry).1 in omega (arith, low, most, some, few, wide))

module _ (g : Ghost) where
  -- a word of an owned block
  pub enters_word : (s : Seat) (place word value : ℕ) → MaySetWord s place word value → Enters g s (word_set place word value s) []
  enters_word s place word value may = enters_works g s (SetsWord place word value ∷ []) (may, tt) refl

  -- the words of a block
  module _ (s : Seat) (place : ℕ) (inside : place < length s.blocks.owned) (bytes : List ℕ) (small : (word : ℕ) → word_in bytes word < 2 ^ 64) where
    -- after so many of them
    abbrev part : ℕ → Seat
    part count = record s { blocks = record s.blocks { owned = with_fenced (with_filled s.blocks.owned place false) place false; contents = words_set bytes s.blocks.contents (place * words_of s) count } }

    part_more : (count : ℕ) → word_set place count (word_in bytes count) (part count) ≡ part (suc count)
    part_more count = ap (λ (owned : List OwnedBlock). record s { blocks = record s.blocks { owned = owned; contents = words_set bytes s.blocks.contents (place * words_of s) (suc count) } }) (unmarked_again s.blocks.owned place inside)

    part_inside : (count : ℕ) → place < length (part count).blocks.owned
    part_inside count = (let long = unfilled_many s place in omega (arith, inside, long))

    enters_part : (count : ℕ) → count < words_of s → Enters g s (part (suc count)) []
    enters_part zero low = enters_word s place 0 (word_in bytes 0) (record { owned = inside; inside = low; small = small 0 })
    enters_part (suc count) low = enters_more g s (part (suc count)) (part (suc (suc count))) [] (enters_part count (omega (arith, low)))
        (subst (λ (t : Seat). Enters g (part (suc count)) t []) (part_more (suc count))
        (enters_word (part (suc count)) place (suc count) (word_in bytes (suc count)) (record { owned = part_inside (suc count); inside = low; small = small (suc count) })))

    enters_whole : Enters g s (part (words_of s)) []
    enters_whole = (let wide = (q_range s.geometry).0 in let some : suc (words_of s - 1) ≡ words_of s = omega (arith, wide) in
        subst (λ (count : ℕ). Enters g s (part count) []) some (enters_part (words_of s - 1) (omega (arith, wide))))

  module _ (s : Seat) (small : AreBytes s.calling.bytes) where
    pub enters_blocks : (count : ℕ) → count ≤ length s.blocks.owned → Enters g s (blocks_set count s) []
    enters_blocks zero inside = enters_same g s s refl
    enters_blocks (suc count) inside = enters_more g s t (block_set count t) [] (enters_blocks count (omega (arith, inside)))
        (enters_whole t count (let long = set_long count s in omega (arith, long, inside)) bytes
        (word_small bytes (range_bytes t.calling.bytes (count * t.geometry.block_bytes) (count * t.geometry.block_bytes + 8 * words_of t) (subst AreBytes (sym (ap (λ (u : Seat). u.calling.bytes) (set_bare count s))) small))))
      where
        t : Seat
        t = blocks_set count s

        bytes : List ℕ
        bytes = slice_range (blocks_set count s).calling.bytes (count * (blocks_set count s).geometry.block_bytes) (count * (blocks_set count s).geometry.block_bytes + 8 * words_of (blocks_set count s))

  -- and those of the runs
  module _ (s : Seat) (count : ℕ) (inside : count < length s.blocks.owned) (few : count < words_of s) (numbers : (k : ℕ) → k < count → owned_block s k < 2 ^ 16) where
    runs_inside : (place : ℕ) → count < length (runs_set count place s).blocks.owned
    runs_inside place = (let long = runs_long count place s in omega (arith, long, inside))

    runs_words_of : (place : ℕ) → words_of (runs_set count place s) ≡ words_of s
    runs_words_of place = ap words_of (runs_bare count place s)

    enters_runs : (place : ℕ) → place < count → Enters g s (runs_set count place s) []
    enters_runs zero low = enters_word s count 1 (run_word (run_at 0 s)) (record { owned = inside; inside = omega (arith, low, few); small = run_fits s count few numbers 0 low })
    enters_runs (suc place) low = enters_more g s (runs_set count place s) (runs_set count (suc place) s) [] (enters_runs place (omega (arith, low)))
        (enters_word (runs_set count place s) count (runs_at (suc place) s) (run_word (run_at (suc place) s)) (record {
          owned = runs_inside place;
          inside = (let most = (runs_range s (suc place)).1 in let same = runs_words_of place in omega (arith, most, same, low, few));
          small = run_fits s count few numbers (suc place) low;
        }))

    pub enters_composed_runs : (virt : ℕ) → 0 < count → virt < 2 ^ 16 → Enters g s (runs_composed virt count s) []
    enters_composed_runs virt some low = enters_more g s (runs_set count (count - 1) s) (runs_composed virt count s) [] (enters_runs (count - 1) (omega (arith, some)))
        (enters_word (runs_set count (count - 1) s) count 0 first (record {
          owned = runs_inside (count - 1);
          inside = (let same = runs_words_of (count - 1) in omega (arith, same, few));
          small = first_fits s count few virt some low;
        }))
      where
        first : ℕ
        first = indirect_word (record { virt = virt; count = count; runs = runs_at (count - 1) s; leftover = 0 })
