-- A block of a chain: its link, its kind, its base, and its slots.
use Rattle.std.specs.Prelude.{ℕ, ◌==◌, Bool, true, false, not, ◌&&◌, ◌||◌, if◌then◌else◌, List, [], ◌∷◌, take, drop, slice_index}
use Rattle.log_entry.specs.Fields.{field}
use Rattle.log_entry.specs.declared.layouts.TheConstants.{EMPTY, SEAL, BLOCK_BASE, BLOCK_KIND, SNAPSHOT, SNAPSHOT_SIZE, SNAPSHOT_COUNT}

-- the link: 0 or the next block of the chain
abbrev pub link_of : List ℕ → ℕ
link_of block = slice_index block 0

-- the number of the block's kind
abbrev pub kind_of : List ℕ → ℕ
kind_of block = field BLOCK_KIND (slice_index block 1)

-- a block of a snapshot of the map, and no log block
abbrev pub is_snapshot : List ℕ → Bool
is_snapshot block = kind_of block == SNAPSHOT

-- the position before a log block's first entry, or that of a snapshot
abbrev pub base_of : List ℕ → ℕ
base_of block = field BLOCK_BASE (slice_index block 1)

-- the number of entries of a snapshot block
abbrev pub entry_count : List ℕ → ℕ
entry_count block = field SNAPSHOT_COUNT (slice_index block 2)

-- the file's size in bytes at a snapshot's position, as one of its blocks says it
abbrev pub file_size : List ℕ → ℕ
file_size block = field SNAPSHOT_SIZE (slice_index block 2)

-- the slots
abbrev pub slots_of : List ℕ → List ℕ
slots_of block = drop 3 block

-- the words of the entries that a snapshot block says it has
abbrev pub kept_words : List ℕ → List ℕ
kept_words block = take (entry_count block) (slots_of block)

-- the words of the entries of a log block: the slots up to the first that is empty or a seal
abbrev pub entry_words : List ℕ → List ℕ
entry_words [] = []
entry_words (slot ∷ slots) = if slot == EMPTY then [] else if slot == SEAL then [] else slot ∷ entry_words slots

-- the slots are full, or their first that is no entry is a seal
abbrev pub is_closed : List ℕ → Bool
is_closed [] = true
is_closed (slot ∷ slots) = if slot == EMPTY then false else if slot == SEAL then true else is_closed slots

-- another block of the chain follows: after every snapshot block, and after a full or sealed log block that has a link
abbrev pub leads_on : List ℕ → Bool
leads_on block = is_snapshot block || (is_closed (slots_of block) && not (link_of block == 0))
