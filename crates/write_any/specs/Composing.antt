-- What the blocks of a write hold, and the entry that names them.
use Rattle.std.specs.Prelude.{ℕ, zero, suc, ◌+◌, ◌-◌, ◌*◌, ◌/◌, ◌^◌, ◌<◌, ◌≤◌, ◌≡◌, ◌==◌, nat_lt, Bool, true, false, if◌then◌else◌, List, [], ◌∷◌, length, drop}
use Rattle.std.specs.List.{slice_range}
use Rattle.log_entry.specs.Shape.{longest_of}
use Rattle.log_entry.specs.Words.{entry_word, indirect_word, run_word, block_word}
use Rattle.log_entry.specs.declared.entries.Entry.{Entry}
use Rattle.log_entry.specs.declared.entries.Entry.TheVariants.{Direct, Indirect}
use Rattle.log_entry.specs.declared.words.BlockKind.TheVariants.{Log}
use Rattle.log_entry.specs.declared.words.RunWord.{RunWord}
use Rattle.pmem_words.specs.declared.owned.OwnedBlock.{OwnedBlock}
use Rattle.pmem_words.specs.Owned.{owned_at, with_filled, with_fenced}
use Rattle.pmem_words.specs.ByteWords.{words_set}
use Rattle.pmem_words.specs.Seats.{Seat}
use Rattle.log_core.specs.Works.{SetsWord, state_after_work, words_of, owned_block}

-- how many blocks the bytes of the call fill, and the virtual block at a byte of the file
abbrev pub block_count : Seat → ℕ
block_count s = length s.calling.bytes / s.geometry.block_bytes

abbrev pub virt_at : ℕ → Seat → ℕ
virt_at offset s = offset / s.geometry.block_bytes

-- the bytes of the call fill blocks, one at least and no more than an entry has, from the first byte of one on
pub record IsWhole (offset : ℕ) (s : Seat) : Type 0 where
  pub some : 0 < block_count s
  pub few : block_count s ≤ longest_of s.geometry.block_bytes
  pub starts : offset ≡ virt_at offset s * s.geometry.block_bytes
  pub inside : virt_at offset s + block_count s ≤ 65536
  pub bytes : length s.calling.bytes ≡ block_count s * s.geometry.block_bytes

-- the seat has a block for each
pub record HasBlocks (offset : ℕ) (s : Seat) : Type 0 where
  pub whole : IsWhole offset s
  pub least : block_count s ≤ length s.blocks.owned
  pub most : length s.blocks.owned < 2 ^ 16

-- there is a block behind so many, and it has words for their runs
pub record HasRuns (count : ℕ) (s : Seat) : Type 0 where
  pub some : 0 < count
  pub room : count < words_of s
  pub more : count < length s.blocks.owned

-- there is a last block
pub record HasLast (s : Seat) : Type 0 where
  pub some : 0 < length s.blocks.owned
  pub few : length s.blocks.owned < 2 ^ 16

-- whether blocks are one run, in the order of their list
abbrev pub follow : ℕ → List OwnedBlock → Bool
follow block [] = true
follow block (next ∷ rest) = if next.block == block + 1 then follow next.block rest else false

abbrev pub are_one_run : List OwnedBlock → Bool
are_one_run owned = follow (owned_at owned 0).block (drop 1 owned)

-- a block's content is what the bytes of the call are; and the content of each of the first blocks
abbrev pub block_set : ℕ → Seat → Seat
block_set place s = record s {
  blocks = record s.blocks {
    owned = with_fenced (with_filled s.blocks.owned place false) place false;
    contents = words_set (slice_range s.calling.bytes (place * s.geometry.block_bytes) (place * s.geometry.block_bytes + 8 * words_of s)) s.blocks.contents (place * words_of s) (words_of s);
  };
}

abbrev pub blocks_set : ℕ → Seat → Seat
blocks_set zero s = s
blocks_set (suc count) s = block_set count (blocks_set count s)

-- the last run of the blocks up to a place, and how many runs they are
abbrev pub longer_if : Bool → RunWord → ℕ → RunWord
longer_if true run block = record { block = run.block; count = run.count + 1 }
longer_if false run block = record { block = block; count = 1 }

abbrev pub is_next : RunWord → ℕ → Bool
is_next run block = run.block + run.count == block

abbrev pub run_at : ℕ → Seat → RunWord
run_at zero s = record { block = owned_block s 0; count = 1 }
run_at (suc place) s = longer_if (is_next (run_at place s) (owned_block s (suc place))) (run_at place s) (owned_block s (suc place))

abbrev pub runs_at : ℕ → Seat → ℕ
runs_at zero s = 1
runs_at (suc place) s = if is_next (run_at place s) (owned_block s (suc place)) then runs_at place s else runs_at place s + 1

-- a word of an owned block is set
abbrev pub word_set : ℕ → ℕ → ℕ → Seat → Seat
word_set place word value s = state_after_work s (SetsWord place word value)

-- the words of the runs of the blocks up to a place are set in the block behind them
abbrev pub runs_set : ℕ → ℕ → Seat → Seat
runs_set count zero s = word_set count 1 (run_word (run_at 0 s)) s
runs_set count (suc place) s = word_set count (runs_at (suc place) s) (run_word (run_at (suc place) s)) (runs_set count place s)

abbrev pub runs_composed : ℕ → ℕ → Seat → Seat
runs_composed virt count s =
    word_set count 0 (indirect_word (record { virt = virt; count = count; runs = runs_at (count - 1) s; leftover = 0 })) (runs_set count (count - 1) s)

abbrev pub composed_by : Bool → ℕ → ℕ → Seat → Seat
composed_by true virt count s = runs_composed virt count s
composed_by false virt count s = s

abbrev pub composed : ℕ → Seat → Seat
composed offset s = composed_by (nat_lt (block_count s) (length s.blocks.owned)) (virt_at offset s) (block_count s) (blocks_set (block_count s) s)

-- the last block becomes a log block without entries, whose base is the position
abbrev pub last_place : Seat → ℕ
last_place s = length s.blocks.owned - 1

abbrev pub last_block : Seat → ℕ
last_block s = owned_block s (last_place s)

abbrev pub log_composed : Seat → Seat
log_composed s = word_set (last_place s) 1 (block_word (record { kind = Log; base = s.walk.position })) s

-- the entry for the blocks
abbrev pub entry_by : Bool → ℕ → Seat → Entry
entry_by true offset s = Direct (virt_at offset s) (owned_block s 0) (block_count s) 0
entry_by false offset s = Indirect (owned_block s (block_count s))

abbrev pub entry_at : ℕ → Seat → Entry
entry_at offset s = entry_by (block_count s == length s.blocks.owned) offset s

abbrev pub entry_for : ℕ → Seat → ℕ
entry_for offset s = entry_word (entry_at offset s)
