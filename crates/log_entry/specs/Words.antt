-- The words of an image: which word a value has, and which bits its word leaves 0.
use Rattle.std.specs.Prelude.{ℕ, ◌+◌, ◌-◌, ◌^◌, ◌≡◌, ◌==◌, ◌<◌, ◌≤◌, ◌⊎◌, if◌then◌else◌}
use Rattle.log_entry.specs.Fields.{field, field_word}
use Rattle.log_entry.specs.declared.layouts.TheConstants.{ENTRY_KIND, EMPTY, DIRECT, INDIRECT, SEAL, KIND_UNNAMED, DIRECT_VIRT, DIRECT_BLOCK, DIRECT_COUNT, DIRECT_LEFTOVER, DIRECT_UNNAMED, INDIRECT_BLOCK, INDIRECT_UNNAMED, HEAD_BLOCK, HEAD_GENERATION, BLOCK_BASE, BLOCK_UNNAMED, BLOCK_KIND, LOG, SNAPSHOT, SNAPSHOT_SIZE, SNAPSHOT_COUNT, RUNS_VIRT, RUNS_COUNT, RUNS_RUNS, RUNS_LEFTOVER, RUN_BLOCK, RUN_COUNT}
use Rattle.log_entry.specs.declared.entries.Entry.{Entry}
use Rattle.log_entry.specs.declared.entries.Entry.TheVariants.{Empty, Direct, Indirect, Seal}
use Rattle.log_entry.specs.declared.words.Head.{Head}
use Rattle.log_entry.specs.declared.words.BlockKind.{BlockKind}
use Rattle.log_entry.specs.declared.words.BlockKind.TheVariants.{Log, Snapshot}
use Rattle.log_entry.specs.declared.words.BlockWord.{BlockWord}
use Rattle.log_entry.specs.declared.words.SnapshotWord.{SnapshotWord}
use Rattle.log_entry.specs.declared.words.IndirectWord.{IndirectWord}
use Rattle.log_entry.specs.declared.words.RunWord.{RunWord}

-- the word of an entry; a direct one holds its count of blocks less 1
abbrev pub entry_word : Entry → ℕ
entry_word Empty = field_word ENTRY_KIND EMPTY
entry_word (Direct virt block count leftover) = field_word ENTRY_KIND DIRECT + field_word DIRECT_VIRT virt + field_word DIRECT_BLOCK block + field_word DIRECT_COUNT (count - 1) + field_word DIRECT_LEFTOVER leftover
entry_word (Indirect block) = field_word ENTRY_KIND INDIRECT + field_word INDIRECT_BLOCK block
entry_word Seal = field_word ENTRY_KIND SEAL

-- a direct entry has 1 to 256 blocks and a leftover below 4096
abbrev pub IsEncodable : Entry → Type 0
IsEncodable (Direct virt block count leftover) = (0 < count) × (count ≤ 256) × (leftover < 4096)
IsEncodable _ = Unit {0}

-- the blocks of an entry are numbers of 16 bits
abbrev pub HasSmallBlocks : Entry → Type 0
HasSmallBlocks (Direct virt block count leftover) = (virt < 2 ^ 16) × (block < 2 ^ 16)
HasSmallBlocks (Indirect block) = block < 2 ^ 16
HasSmallBlocks _ = Unit {0}

-- the entry is within its ranges, and the word is its word
pub record IsEntryWord (entry : Entry) (word : ℕ) : Type 0 where
  pub encodable : IsEncodable entry
  pub small_blocks : HasSmallBlocks entry
  pub same : entry_word entry ≡ word

-- the bits that an entry of the word's kind leaves 0, as a number
abbrev pub entry_unnamed : ℕ → ℕ
entry_unnamed word =
    if field ENTRY_KIND word == DIRECT then field DIRECT_UNNAMED word
    else if field ENTRY_KIND word == INDIRECT then field INDIRECT_UNNAMED word
    else field KIND_UNNAMED word

-- the word of a head
abbrev pub head_word : Head → ℕ
head_word head = field_word HEAD_GENERATION head.generation + field_word HEAD_BLOCK head.block

-- the head is within its ranges, and the word is its word
pub record IsHeadWord (head : Head) (word : ℕ) : Type 0 where
  pub generation : head.generation < 2 ^ 32
  pub block : head.block < 2 ^ 16
  pub same : head_word head ≡ word

-- the number of a chain block's kind
abbrev pub kind_number : BlockKind → ℕ
kind_number Log = LOG
kind_number Snapshot = SNAPSHOT

-- the word of a chain block's kind and base
abbrev pub block_word : BlockWord → ℕ
block_word block = field_word BLOCK_KIND (kind_number block.kind) + field_word BLOCK_BASE block.base

-- the base is within its range, and the word is that of the kind and the base
pub record IsBlockWord (block : BlockWord) (word : ℕ) : Type 0 where
  pub base : block.base < 2 ^ 40
  pub same : block_word block ≡ word

-- a word that no chain block has: a bit that it leaves 0 is set, or its kind is neither log nor snapshot
abbrev pub IsNoBlockWord : ℕ → Type 0
IsNoBlockWord word = (0 < field BLOCK_UNNAMED word) ⊎ (field BLOCK_KIND word ≡ 0) ⊎ (field BLOCK_KIND word ≡ 3)

-- the word of a snapshot block's count of entries and of the file's size
abbrev pub snapshot_word : SnapshotWord → ℕ
snapshot_word snapshot = field_word SNAPSHOT_COUNT snapshot.count + field_word SNAPSHOT_SIZE snapshot.size

-- the count and the size are within their ranges, and the word is theirs
pub record IsSnapshotWord (snapshot : SnapshotWord) (word : ℕ) : Type 0 where
  pub count : snapshot.count < 2 ^ 16
  pub size : snapshot.size < 2 ^ 48
  pub same : snapshot_word snapshot ≡ word

-- the first word of an indirect block
abbrev pub indirect_word : IndirectWord → ℕ
indirect_word indirect = field_word RUNS_VIRT indirect.virt + field_word RUNS_COUNT indirect.count + field_word RUNS_RUNS indirect.runs + field_word RUNS_LEFTOVER indirect.leftover

-- the four numbers are within their ranges, and the word is theirs
pub record IsIndirectWord (indirect : IndirectWord) (word : ℕ) : Type 0 where
  pub virt : indirect.virt < 2 ^ 16
  pub count : indirect.count < 2 ^ 16
  pub runs : indirect.runs < 2 ^ 16
  pub leftover : indirect.leftover < 4096
  pub same : indirect_word indirect ≡ word

-- the word of a run
abbrev pub run_word : RunWord → ℕ
run_word run = field_word RUN_BLOCK run.block + field_word RUN_COUNT run.count

-- the block and the count are within their ranges, and the word is theirs
pub record IsRunWord (run : RunWord) (word : ℕ) : Type 0 where
  pub block : run.block < 2 ^ 16
  pub count : run.count < 2 ^ 16
  pub same : run_word run ≡ word
