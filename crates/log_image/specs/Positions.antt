-- What a chain says: its entries, and the position, the size and the map that they come to.
use Rattle.std.specs.Prelude.{ℕ, ◌+◌, ◌-◌, List, ◌++◌, length, map, take, if◌then◌else◌, Option}
use Rattle.std.specs.List.{flat_map}
use Rattle.log_image.specs.Image.{Shape, block_words}
use Rattle.log_image.specs.Entries.{Meaning, direct_meaning, meaning}
use Rattle.log_image.specs.Maps.{map_of, size_after}
use Rattle.log_image.specs.Blocks.{is_snapshot, slots_of, kept_words, entry_words}
use Rattle.log_image.specs.Chains.{snapshots_of, logs_of, snapshot_base, snapshot_size}

-- what the entries of a block of these words mean, whether it is a snapshot block or a log block
abbrev pub block_entries : List ℕ → Shape → List ℕ → List Meaning
block_entries words shape block =
    if is_snapshot block then map direct_meaning (kept_words block) else map (meaning words shape) (entry_words (slots_of block))

-- the entries of the snapshot
abbrev pub snapshot_entries : List ℕ → Shape → List ℕ → List Meaning
snapshot_entries words shape chain =
    flat_map (λ (block : ℕ). map direct_meaning (kept_words (block_words words shape block))) (snapshots_of words shape chain)

-- the words of the entries of the log: the one at place k has the snapshot's position plus k + 1
abbrev pub log_words : List ℕ → Shape → List ℕ → List ℕ
log_words words shape chain = flat_map (λ (block : ℕ). entry_words (slots_of (block_words words shape block))) (logs_of words shape chain)

-- what the entries of the log mean, in order
abbrev pub log_entries : List ℕ → Shape → List ℕ → List Meaning
log_entries words shape chain = map (meaning words shape) (log_words words shape chain)

-- all entries of the chain
abbrev pub entries_of : List ℕ → Shape → List ℕ → List Meaning
entries_of words shape chain = snapshot_entries words shape chain ++ log_entries words shape chain

-- the position that the chain ends with
abbrev pub position_of : List ℕ → Shape → List ℕ → ℕ
position_of words shape chain = snapshot_base words shape chain + length (log_words words shape chain)

-- the file's size in bytes that the chain ends with
abbrev pub size_at_end : List ℕ → Shape → List ℕ → ℕ
size_at_end words shape chain = size_after shape (snapshot_size words shape chain) (log_entries words shape chain)

-- the entries of the log up to a position
abbrev pub entries_to : List ℕ → Shape → List ℕ → ℕ → List Meaning
entries_to words shape chain position = take (position - snapshot_base words shape chain) (log_entries words shape chain)

-- the physical block of a virtual block at a position that is not before the snapshot's
abbrev pub map_at : List ℕ → Shape → List ℕ → ℕ → ℕ → Option ℕ
map_at words shape chain position virt = map_of (snapshot_entries words shape chain ++ entries_to words shape chain position) virt

-- the size at such a position
abbrev pub size_at : List ℕ → Shape → List ℕ → ℕ → ℕ
size_at words shape chain position = size_after shape (snapshot_size words shape chain) (entries_to words shape chain position)
