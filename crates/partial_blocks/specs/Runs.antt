-- The words of the runs of a write's blocks.
use Rattle.std.specs.Prelude.{ℕ, zero, suc, ◌+◌, ◌-◌, ◌*◌, ◌^◌, ◌<◌, ◌≡◌, ◌==◌, Bool, true, false, if◌then◌else◌, List, [], ◌∷◌, ◌++◌, length, drop, slice_index}
use Rattle.log_entry.specs.Words.{indirect_word, run_word}
use Rattle.log_entry.specs.declared.words.RunWord.{RunWord}
use Rattle.pmem_words.specs.declared.owned.OwnedBlock.{OwnedBlock}
use Rattle.pmem_words.specs.Owned.{owned_at}
use Rattle.pmem_words.specs.Seats.{Seat}
use Rattle.log_core.specs.Views.{Ghost}
use Rattle.log_core.specs.Answers.{Enters}
use Rattle.log_core.specs.Works.{words_of, owned_block, content_word}
use Rattle.log_core.proofs.writes.RunLists.{runs_of}
use Rattle.log_core.proofs.writes.IndirectBlocks.{indirect_content}
use Rattle.partial_blocks.specs.Composing.{word_set}
use Rattle.partial_blocks.specs.Holding.{ChangesOnly}
use Rattle.partial_blocks.specs.Touching.{first_touched, touched_count}
use Rattle.partial_blocks.specs.Entries.{leftover_of}
use Rattle.partial_blocks.specs.Committing.{IsDataBlock, AreRunsOf}

-- there is a block behind so many, and it has words for their runs
pub record HasRuns (count leftover : ℕ) (s : Seat) : Type 0 where
  pub some : 0 < count
  pub room : count < words_of s
  pub more : count < length s.blocks.owned
  pub low : leftover < 4096

-- whether blocks are one run, in the order of their list
abbrev pub follow : ℕ → List OwnedBlock → Bool
follow block [] = true
follow block (next ∷ rest) = if next.block == block + 1 then follow next.block rest else false

abbrev pub are_one_run : List OwnedBlock → Bool
are_one_run owned = follow (owned_at owned 0).block (drop 1 owned)

-- the last run of the blocks up to a place, and how many runs they are
abbrev pub longer_if : Bool → RunWord → ℕ → RunWord
longer_if true run block = record { block = run.block; count = run.count + 1 }
longer_if false run block = record { block = block; count = 1 }

abbrev pub is_next : RunWord → ℕ → Bool
is_next run block = run.block + run.count == block

abbrev pub run_at : ℕ → Seat → RunWord
run_at zero s = record { block = owned_block s 0; count = 1 }
run_at (suc place) s = longer_if (is_next (run_at place s) (owned_block s (suc place))) (run_at place s) (owned_block s (suc place))

abbrev pub runs_at : ℕ → Seat → ℕ
runs_at zero s = 1
runs_at (suc place) s = if is_next (run_at place s) (owned_block s (suc place)) then runs_at place s else runs_at place s + 1

-- the words of the runs of the blocks up to a place are set in the block behind them
abbrev pub runs_set : ℕ → ℕ → Seat → Seat
runs_set count zero s = word_set count 1 (run_word (run_at 0 s)) s
runs_set count (suc place) s = word_set count (runs_at (suc place) s) (run_word (run_at (suc place) s)) (runs_set count place s)

-- and its first word
abbrev pub runs_composed : ℕ → ℕ → ℕ → Seat → Seat
runs_composed virt count leftover s =
    word_set count 0 (indirect_word (record { virt = virt; count = count; runs = runs_at (count - 1) s; leftover = leftover })) (runs_set count (count - 1) s)

-- the first blocks of a seat, up to a place
abbrev pub firsts : Seat → ℕ → List ℕ
firsts s zero = owned_block s 0 ∷ []
firsts s (suc place) = firsts s place ++ owned_block s (suc place) ∷ []

-- where the words of a block behind so many were 0 but its first, they are those of an indirect block of their runs then; and no other
-- block has changed
abbrev pub ComposesRuns : Type 0
ComposesRuns = (virt count leftover : ℕ) (s : Seat) → HasRuns count leftover s → length s.blocks.contents ≡ length s.blocks.owned * words_of s →
    ((word : ℕ) → 0 < word → word < words_of s → content_word s count word ≡ 0) →
    ((index : ℕ) → index < words_of s → content_word (runs_composed virt count leftover s) count index ≡ slice_index (indirect_content (words_of s) virt leftover (runs_of (firsts s (count - 1)))) index)
    × ChangesOnly (λ place. place ≡ count) s (runs_composed virt count leftover s)

-- and a call may compute it between two of its steps
abbrev pub MayComposeRuns : Type 0
MayComposeRuns = (virt count leftover : ℕ) (s : Seat) (g : Ghost) → HasRuns count leftover s → virt < 2 ^ 16 → ((place : ℕ) → place < count → owned_block s place < 2 ^ 16) →
    Enters g s (runs_composed virt count leftover s) []

-- blocks that are one run, by their places
abbrev pub AreOneRunByPlace : Type 0
AreOneRunByPlace = (owned : List OwnedBlock) → are_one_run owned ≡ true → (place : ℕ) → place < length owned → (owned_at owned place).block ≡ (owned_at owned 0).block + place

-- and several, where the block behind them has the words
abbrev pub AreRunsByPlace : Type 0
AreRunsByPlace = (offset : ℕ) (s : Seat) → 0 < touched_count offset s → IsDataBlock s (touched_count offset s) →
    ((index : ℕ) → index < words_of s →
    content_word s (touched_count offset s) index ≡ slice_index (indirect_content (words_of s) (first_touched offset s) (leftover_of offset s) (runs_of (firsts s (touched_count offset s - 1)))) index) →
    AreRunsOf offset s (runs_of (firsts s (touched_count offset s - 1)))
