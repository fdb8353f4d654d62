-- What an entry means. A direct and an indirect entry say the same kind of thing, and differ in where they say it.
use Rattle.std.specs.Prelude.{ℕ, ◌+◌, ◌==◌, if◌then◌else◌, List, [], ◌∷◌, ◌++◌, take, drop, slice_index}
use Rattle.std.specs.List.{flat_map, range_with_len}
use Rattle.log_entry.specs.Fields.{field}
use Rattle.log_entry.specs.declared.layouts.TheConstants.{ENTRY_KIND, DIRECT, DIRECT_VIRT, DIRECT_BLOCK, DIRECT_COUNT, DIRECT_LEFTOVER, INDIRECT_BLOCK, RUNS_VIRT, RUNS_RUNS, RUNS_LEFTOVER, RUN_BLOCK, RUN_COUNT}
use Rattle.log_image.specs.Image.{Shape, block_words}

-- the block that holds its runs, where there is one; its first virtual block; the physical blocks of its virtual blocks, in
-- their order; the bytes of the last one that lie past the end of what was written
pub record Meaning : Type 0 where
  pub holder : List ℕ
  pub virt : ℕ
  pub blocks : List ℕ
  pub leftover : ℕ

-- what a direct entry's word says
abbrev pub direct_meaning : ℕ → Meaning
direct_meaning word = record {
  holder = [];
  virt = field DIRECT_VIRT word;
  blocks = range_with_len (field DIRECT_BLOCK word) (field DIRECT_COUNT word + 1);
  leftover = field DIRECT_LEFTOVER word;
}

-- the run words of an indirect block
abbrev pub run_words : List ℕ → List ℕ
run_words block = take (field RUNS_RUNS (slice_index block 0)) (drop 1 block)

-- the blocks of a run
abbrev pub run_blocks : ℕ → List ℕ
run_blocks run = range_with_len (field RUN_BLOCK run) (field RUN_COUNT run)

-- the blocks of all runs of an indirect block
abbrev pub indirect_blocks : List ℕ → List ℕ
indirect_blocks block = flat_map run_blocks (run_words block)

-- what the words of the indirect block of this number say
abbrev pub indirect_meaning : ℕ → List ℕ → Meaning
indirect_meaning holder block = record {
  holder = holder ∷ [];
  virt = field RUNS_VIRT (slice_index block 0);
  blocks = indirect_blocks block;
  leftover = field RUNS_LEFTOVER (slice_index block 0);
}

-- what an entry's word says in an image of these words
abbrev pub meaning : List ℕ → Shape → ℕ → Meaning
meaning words shape word =
    if field ENTRY_KIND word == DIRECT then direct_meaning word
    else indirect_meaning (field INDIRECT_BLOCK word) (block_words words shape (field INDIRECT_BLOCK word))

-- the blocks of the data area that an entry names
abbrev pub names : Meaning → List ℕ
names entry = entry.holder ++ entry.blocks

-- the blocks of the data area that entries name, in order
abbrev pub all_names : List Meaning → List ℕ
all_names entries = flat_map names entries
