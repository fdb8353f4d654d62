-- What follows for every word of an image: its fields are the numbers that it was made of, and one word has one value.
use Rattle.std.specs.Prelude.{ℕ, ◌+◌, ◌*◌, ◌^◌, ◌<◌, ◌≡◌}
use Rattle.log_entry.specs.Fields.{field, field_word}
use Rattle.log_entry.specs.Words.{IsEntryWord, IsHeadWord, kind_number, IsBlockWord, IsSnapshotWord, IsIndirectWord, IsRunWord}
use Rattle.log_entry.specs.declared.fields.Field.{Field}
use Rattle.log_entry.specs.declared.layouts.TheConstants.{ENTRY_KIND, EMPTY, DIRECT, INDIRECT, SEAL, DIRECT_VIRT, DIRECT_BLOCK, DIRECT_COUNT, DIRECT_LEFTOVER, INDIRECT_BLOCK, HEAD_BLOCK, HEAD_GENERATION, BLOCK_BASE, BLOCK_KIND, SNAPSHOT_SIZE, SNAPSHOT_COUNT, RUNS_VIRT, RUNS_COUNT, RUNS_RUNS, RUNS_LEFTOVER, RUN_BLOCK, RUN_COUNT}
use Rattle.log_entry.specs.declared.entries.Entry.{Entry}
use Rattle.log_entry.specs.declared.entries.Entry.TheVariants.{Empty, Direct, Indirect, Seal}
use Rattle.log_entry.specs.declared.words.Head.{Head}
use Rattle.log_entry.specs.declared.words.BlockWord.{BlockWord}
use Rattle.log_entry.specs.declared.words.SnapshotWord.{SnapshotWord}
use Rattle.log_entry.specs.declared.words.IndirectWord.{IndirectWord}
use Rattle.log_entry.specs.declared.words.RunWord.{RunWord}

-- a field of a sum of a number in it, what stands above it and what stands below it is the number
abbrev pub FieldOfSum : Type 0
FieldOfSum = (at : Field) (above value below : ℕ) → value < 2 ^ at.width → below < 2 ^ at.low → field at (field_word at (above * 2 ^ at.width + value) + below) ≡ value

-- the fields of a word are the numbers of the entry
abbrev pub HasFields : Entry → ℕ → Type 0
HasFields Empty word = word ≡ EMPTY
HasFields (Direct virt block count leftover) word = (field ENTRY_KIND word ≡ DIRECT) × (field DIRECT_VIRT word ≡ virt) × (field DIRECT_BLOCK word ≡ block) × (field DIRECT_COUNT word + 1 ≡ count) × (field DIRECT_LEFTOVER word ≡ leftover)
HasFields (Indirect block) word = (field ENTRY_KIND word ≡ INDIRECT) × (field INDIRECT_BLOCK word ≡ block)
HasFields Seal word = word ≡ SEAL

-- the numbers of an entry stand in the fields of its word
abbrev pub EntryFields : Type 0
EntryFields = (entry : Entry) (word : ℕ) → IsEntryWord entry word → HasFields entry word

-- the numbers of a head stand in the fields of its word
abbrev pub HeadFields : Type 0
HeadFields = (head : Head) (word : ℕ) → IsHeadWord head word → (field HEAD_GENERATION word ≡ head.generation) × (field HEAD_BLOCK word ≡ head.block)

-- the kind and the base of a chain block stand in the fields of its word
abbrev pub BlockFields : Type 0
BlockFields = (block : BlockWord) (word : ℕ) → IsBlockWord block word → (field BLOCK_KIND word ≡ kind_number block.kind) × (field BLOCK_BASE word ≡ block.base)

-- the count and the size of a snapshot block stand in the fields of its word
abbrev pub SnapshotFields : Type 0
SnapshotFields = (snapshot : SnapshotWord) (word : ℕ) → IsSnapshotWord snapshot word → (field SNAPSHOT_COUNT word ≡ snapshot.count) × (field SNAPSHOT_SIZE word ≡ snapshot.size)

-- the numbers of an indirect block stand in the fields of its first word
abbrev pub IndirectFields : Type 0
IndirectFields = (indirect : IndirectWord) (word : ℕ) → IsIndirectWord indirect word → (field RUNS_VIRT word ≡ indirect.virt) × (field RUNS_COUNT word ≡ indirect.count) × (field RUNS_RUNS word ≡ indirect.runs) × (field RUNS_LEFTOVER word ≡ indirect.leftover)

-- the block and the count of a run stand in the fields of its word
abbrev pub RunFields : Type 0
RunFields = (run : RunWord) (word : ℕ) → IsRunWord run word → (field RUN_BLOCK word ≡ run.block) × (field RUN_COUNT word ≡ run.count)

-- no two values of a type have one word
abbrev pub IsOfOne : {T : Type 0} → (T → ℕ → Type 0) → Type 0
IsOfOne {T} HasWord = (word : ℕ) (value other : T) → HasWord value word → HasWord other word → value ≡ other
