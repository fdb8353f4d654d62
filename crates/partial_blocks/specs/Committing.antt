-- When the entry of a write may be put into the tail's slot: by the state of the seat alone, in each core that knows the seat so.
use Rattle.std.specs.Prelude.{ℕ, ◌+◌, ◌<◌, ◌≤◌, ◌≡◌, ◌≢◌, true, List, [], length, slice_index, Some, None}
use Rattle.log_entry.specs.Shape.{longest_of}
use Rattle.log_entry.specs.Words.{entry_word}
use Rattle.log_entry.specs.declared.calls.Op.{Op}
use Rattle.log_entry.specs.declared.entries.Entry.TheVariants.{Direct, Indirect}
use Rattle.log_entry.specs.declared.shapes.Area.TheVariants.{Data}
use Rattle.log_entry.specs.declared.words.RunWord.{RunWord}
use Rattle.pmem_words.specs.Owned.{owned_at}
use Rattle.pmem_words.specs.Seats.{Seat}
use Rattle.log_core.specs.Entries.{place_in}
use Rattle.log_core.specs.Views.{Ghost, view_of, op_in}
use Rattle.log_core.specs.Origin.{Origin}
use Rattle.log_core.specs.Cores.{Core}
use Rattle.log_core.specs.Works.{seat_shape, words_of, owned_block, content_word}
use Rattle.log_core.specs.May.{refusal_at, IsAtTail, MayCommit}
use Rattle.log_core.specs.Invariant.{Invariant}
use Rattle.log_core.specs.Knows.{Knows}
use Rattle.log_core.proofs.writes.LaidWrites.{LaysAt}
use Rattle.log_core.proofs.writes.RunLists.{blocks_of, AreRuns}
use Rattle.log_core.proofs.writes.IndirectBlocks.{indirect_content}
use Rattle.partial_blocks.specs.Touching.{IsInFile, first_touched, touched_count}
use Rattle.partial_blocks.specs.Holding.{HoldsWrite}
use Rattle.partial_blocks.specs.Entries.{leftover_of}

-- the owned block at a place is a fenced one of the data area
pub record IsDataBlock (s : Seat) (place : ℕ) : Type 0 where
  pub inside : place < length s.blocks.owned
  pub fenced : (owned_at s.blocks.owned place).fenced ≡ true
  pub area : (owned_at s.blocks.owned place).area ≡ Data

-- a seat at its tail's slot runs a write that nothing refuses, and its first owned blocks, one for each touched virtual block, are fenced
-- and hold it
pub record IsTouching (s : Seat) (word offset : ℕ) : Type 0 where
  pub at_tail : IsAtTail s
  pub slot : word ≡ place_in (seat_shape s) s.walk.tail_block s.walk.tail_slot
  pub inside : s.walk.tail_slot < words_of s
  pub op : Op
  pub job : op_in s ≡ Some op
  pub lays : LaysAt s offset op
  pub allowed : refusal_at s.geometry.block_bytes s.walk.position s.walk.size op ≡ None
  pub in_file : IsInFile offset s
  pub few : touched_count offset s ≤ longest_of s.geometry.block_bytes
  pub holds : HoldsWrite offset s
  pub owned : (place : ℕ) → place < touched_count offset s → IsDataBlock s place

-- they are one run
abbrev pub IsOneRun : ℕ → Seat → Type 0
IsOneRun offset s = (place : ℕ) → place < touched_count offset s → owned_block s place ≡ owned_block s 0 + place

-- they are the blocks of these runs, whose words stand in the block behind them
pub record AreRunsOf (offset : ℕ) (s : Seat) (runs : List RunWord) : Type 0 where
  pub are_runs : AreRuns runs
  pub long : length (blocks_of runs) ≡ touched_count offset s
  pub blocks : (place : ℕ) → place < touched_count offset s → slice_index (blocks_of runs) place ≡ owned_block s place
  pub holder : IsDataBlock s (touched_count offset s)
  pub words : (index : ℕ) → index < words_of s →
      content_word s (touched_count offset s) index ≡ slice_index (indirect_content (words_of s) (first_touched offset s) (leftover_of offset s) runs) index

-- the direct entry of a run may be put in
abbrev pub CommitsRun : Type 0
CommitsRun = (o : Origin) (c : Core) (n : ℕ) (s : Seat) (g : Ghost) (pin began : ℕ) → Invariant o c → (view_of c.views n).parts ≢ [] → Knows o c n s g pin began →
    (word offset : ℕ) → IsTouching s word offset → IsOneRun offset s →
    MayCommit o c.history s word (entry_word (Direct (first_touched offset s) (owned_block s 0) (touched_count offset s) (leftover_of offset s)))

-- and the indirect entry of the block with the words of the runs
abbrev pub CommitsRuns : Type 0
CommitsRuns = (o : Origin) (c : Core) (n : ℕ) (s : Seat) (g : Ghost) (pin began : ℕ) → Invariant o c → (view_of c.views n).parts ≢ [] → Knows o c n s g pin began →
    (word offset : ℕ) → IsTouching s word offset → (runs : List RunWord) → AreRunsOf offset s runs →
    MayCommit o c.history s word (entry_word (Indirect (owned_block s (touched_count offset s))))
