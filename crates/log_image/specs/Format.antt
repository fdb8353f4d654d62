-- The rules of the format for the words that a chain is made of and names.
use Rattle.std.specs.Prelude.{ℕ, ◌+◌, ◌-◌, ◌^◌, ◌≡◌, ◌<◌, ◌==◌, Bool, true, not, ◌&&◌, ◌||◌, nat_le, nat_lt, if◌then◌else◌, List, [], ◌∷◌, length, drop, slice_index}
use Rattle.std.specs.List.{list_all}
use Rattle.log_entry.specs.Shape.{longest_of, limit_of}
use Rattle.log_entry.specs.Fields.{field}
use Rattle.log_entry.specs.Words.{entry_unnamed}
use Rattle.log_entry.specs.declared.layouts.TheConstants.{ENTRY_KIND, EMPTY, DIRECT, INDIRECT, SEAL, DIRECT_LEFTOVER, INDIRECT_BLOCK, BLOCK_UNNAMED, RUNS_COUNT, RUNS_RUNS, RUNS_UNNAMED, RUN_COUNT, RUN_UNNAMED}
use Rattle.log_image.specs.Image.{Shape, words_in, is_in_data, is_in_log, block_words}
use Rattle.log_image.specs.Entries.{Meaning, direct_meaning, run_words, indirect_blocks, meaning, all_names}
use Rattle.log_image.specs.Blocks.{entry_count, file_size, slots_of, kept_words, entry_words}
use Rattle.log_image.specs.Chains.{all_different, snapshots_of, logs_of}
use Rattle.log_image.specs.Positions.{entries_of, position_of}

-- each word is 0
abbrev pub all_zero : List ℕ → Bool
all_zero words = list_all (λ (word : ℕ). word == 0) words

-- an entry has at least one block and at most so many, its virtual blocks are the file's, its physical blocks are in the data
-- area, and its leftover is less than a block
abbrev pub fits : Shape → ℕ → Meaning → Bool
fits shape longest entry =
    nat_le 1 (length entry.blocks) && nat_le (length entry.blocks) longest
    && nat_le (entry.virt + length entry.blocks) 65536
    && list_all (is_in_data shape) entry.blocks
    && nat_lt entry.leftover shape.block_bytes

-- the word of a direct entry, with no unnamed bit set
abbrev pub is_direct : ℕ → Bool
is_direct word = field ENTRY_KIND word == DIRECT && entry_unnamed word == 0

-- the word of an indirect entry, with no unnamed bit set
abbrev pub is_indirect : ℕ → Bool
is_indirect word = field ENTRY_KIND word == INDIRECT && entry_unnamed word == 0

-- the word of a run of at least one block, with no unnamed bit set
abbrev pub is_run : ℕ → Bool
is_run run = nat_le 1 (field RUN_COUNT run) && field RUN_UNNAMED run == 0

-- an indirect block: its first word has no unnamed bit set, and the number of its runs, from 1 to one less than a block's
-- words, and of the blocks of all of them; after the runs each word is 0
abbrev pub is_indirect_block : Shape → List ℕ → Bool
is_indirect_block shape block =
    field RUNS_UNNAMED (slice_index block 0) == 0
    && nat_le 1 (field RUNS_RUNS (slice_index block 0)) && nat_lt (field RUNS_RUNS (slice_index block 0)) (words_in shape)
    && list_all is_run (run_words block)
    && length (indirect_blocks block) == field RUNS_COUNT (slice_index block 0)
    && all_zero (drop (1 + field RUNS_RUNS (slice_index block 0)) block)

-- the runs of an indirect entry are in an indirect block of the data area
abbrev pub has_runs : List ℕ → Shape → ℕ → Bool
has_runs words shape word =
    is_in_data shape (field INDIRECT_BLOCK word) && is_indirect_block shape (block_words words shape (field INDIRECT_BLOCK word))

-- the word of an entry that a log block may have
abbrev pub is_log_entry : List ℕ → Shape → ℕ → Bool
is_log_entry words shape word =
    (is_direct word || (is_indirect word && has_runs words shape word)) && fits shape (longest_of shape.block_bytes) (meaning words shape word)

-- no used slot follows a seal directly
abbrev pub is_seal_last : List ℕ → Bool
is_seal_last [] = true
is_seal_last (slot ∷ slots) = if slot == EMPTY then true else if slot == SEAL then slice_index slots 0 == EMPTY else is_seal_last slots

-- a seal is not the first slot, and no used slot follows it directly
abbrev pub is_seal_placed : List ℕ → Bool
is_seal_placed slots = not (slice_index slots 0 == SEAL) && is_seal_last slots

-- a log block: its third word is 0, and its slots are entries up to the first that is empty, a seal, or the block's end
abbrev pub is_log_block : List ℕ → Shape → List ℕ → Bool
is_log_block words shape block =
    slice_index block 2 == 0 && list_all (is_log_entry words shape) (entry_words (slots_of block)) && is_seal_placed (slots_of block)

-- the word of an entry that a snapshot block may have: direct, with no leftover, of at most 256 blocks
abbrev pub is_snapshot_entry : Shape → ℕ → Bool
is_snapshot_entry shape word = is_direct word && field DIRECT_LEFTOVER word == 0 && fits shape 256 (direct_meaning word)

-- a snapshot block: as many entries as it says, at most one for each slot, and 0 in each slot after them; a size that a file may have
abbrev pub is_snapshot_block : Shape → List ℕ → Bool
is_snapshot_block shape block =
    nat_le (entry_count block) (words_in shape - 3) && nat_le (file_size block) (limit_of shape.block_bytes)
    && list_all (is_snapshot_entry shape) (kept_words block)
    && all_zero (drop (entry_count block) (slots_of block))

-- no unnamed bit of a chain block's second word is set
abbrev pub is_kind_word : List ℕ → Bool
is_kind_word block = field BLOCK_UNNAMED (slice_index block 1) == 0

-- each block of the chain is in the log or spare area and has the words that its kind may have; no block of the data area is
-- named twice by the chain's entries; the position is one that a file may have
pub record HasFormat (words : List ℕ) (shape : Shape) (chain : List ℕ) : Type 0 where
  pub areas : list_all (is_in_log shape) chain ≡ true
  pub kinds : list_all (λ (block : ℕ). is_kind_word (block_words words shape block)) chain ≡ true
  pub snapshots : list_all (λ (block : ℕ). is_snapshot_block shape (block_words words shape block)) (snapshots_of words shape chain) ≡ true
  pub logs : list_all (λ (block : ℕ). is_log_block words shape (block_words words shape block)) (logs_of words shape chain) ≡ true
  pub named_once : all_different (all_names (entries_of words shape chain)) ≡ true
  pub below_limit : position_of words shape chain < 2 ^ 40
