-- Worked words of an image: whose word each is, and words that no value has.
use Rattle.std.specs.Prelude.{ℕ, ◌+◌, ◌*◌, ◌^◌}
use Rattle.log_entry.specs.Words.{IsEntryWord, IsHeadWord, IsBlockWord, IsSnapshotWord, IsIndirectWord, IsRunWord}
use Rattle.log_entry.specs.declared.entries.Entry.{Entry}
use Rattle.log_entry.specs.declared.entries.Entry.TheVariants.{Empty, Direct, Indirect, Seal}
use Rattle.log_entry.specs.declared.words.Head.{Head}
use Rattle.log_entry.specs.declared.words.BlockKind.TheVariants.{Log, Snapshot}
use Rattle.log_entry.specs.declared.words.BlockWord.{BlockWord}
use Rattle.log_entry.specs.declared.words.IndirectWord.{IndirectWord}
use Rattle.log_entry.specs.declared.words.RunWord.{RunWord}

-- virtual block 0 is block 1, whose last 63 bytes are past the end
abbrev pub OneBlock : Type 0
OneBlock = IsEntryWord (Direct 0 1 1 63) 277076930461697

-- virtual blocks 0 and 1 are blocks 1 and 2, and the last 62 bytes are past the end
abbrev pub TwoBlocks : Type 0
TwoBlocks = IsEntryWord (Direct 0 1 2 62) 272696063819777

-- the runs are in block 5
abbrev pub RunsInFive : Type 0
RunsInFive = IsEntryWord (Indirect 5) 22

-- a slot of zeros is empty, and 3 is a seal
abbrev pub EmptyAndSeal : Type 0
EmptyAndSeal = IsEntryWord Empty 0 × IsEntryWord Seal 3

-- no entry has the word
abbrev pub IsNoEntryWord : ℕ → Type 0
IsNoEntryWord word = (entry : Entry) → IsEntryWord entry word → ⊥

-- a bit that the entry leaves 0: past the leftover, past the runs' block, and past the kind of a seal and of an empty slot
abbrev pub UnnamedBits : Type 0
UnnamedBits = IsNoEntryWord (277076930461697 + 2 ^ 54) × IsNoEntryWord (22 + 2 ^ 18) × IsNoEntryWord 7 × IsNoEntryWord 4

-- the first generation's chain begins at block 3
abbrev pub FirstHead : Type 0
FirstHead = IsHeadWord (record { generation = 1; block = 3 }) 4294967299

-- no head has bit 16
abbrev pub UnnamedHeadBit : Type 0
UnnamedHeadBit = (head : Head) → IsHeadWord head (4294967299 + 2 ^ 16) → ⊥

-- a log block with base 0, and a snapshot at position 2
abbrev pub LogAndSnapshot : Type 0
LogAndSnapshot = IsBlockWord (record { kind = Log; base = 0 }) 4611686018427387904 × IsBlockWord (record { kind = Snapshot; base = 2 }) 9223372036854775810

-- no chain block has the word
abbrev pub IsWordOfNoBlock : ℕ → Type 0
IsWordOfNoBlock word = (block : BlockWord) → IsBlockWord block word → ⊥

-- kinds 0 and 3, and a bit between the base and the kind
abbrev pub NoKinds : Type 0
NoKinds = IsWordOfNoBlock 0 × IsWordOfNoBlock (3 * 2 ^ 62) × IsWordOfNoBlock (2 ^ 62 + 2 ^ 40)

-- one entry in the block, and one byte in the file
abbrev pub OneByteFile : Type 0
OneByteFile = IsSnapshotWord (record { count = 1; size = 1 }) 281474976710657

-- three blocks from virtual block 2 on in one run, the last 63 bytes past the end; and two blocks from block 7 on
abbrev pub RunsOfThree : Type 0
RunsOfThree = IsIndirectWord (record { virt = 2; count = 3; runs = 1; leftover = 63 }) 17732927827935234 × IsRunWord (record { block = 7; count = 2 }) 131079

-- bits past the leftover of an indirect block, and past the count of a run
abbrev pub UnnamedRunBits : Type 0
UnnamedRunBits = ((indirect : IndirectWord) → IsIndirectWord indirect (2 ^ 60) → ⊥) × ((run : RunWord) → IsRunWord run (131079 + 2 ^ 32) → ⊥)
