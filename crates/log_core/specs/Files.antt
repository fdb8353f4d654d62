-- The writes of a history, and the file and the map at each position.
use Rattle.std.specs.Prelude.{ℕ, ◌+◌, ◌-◌, ◌*◌, ◌/◌, ◌%◌, ◌≡◌, ◌<◌, nat_lt, if◌then◌else◌, List, [], ◌∷◌, ◌++◌, length, map, take, slice_index, slice_index_or, Option, Some, None}
use Rattle.std.specs.List.{range_with_len}
use Rattle.log_entry.specs.WordBytes.{word_bytes}
use Rattle.log_entry.specs.Legal.{file_after}
use Rattle.log_entry.specs.declared.calls.Op.{Op}
use Rattle.log_entry.specs.declared.calls.Op.TheVariants.{Pwrite, Append, Size}
use Rattle.log_entry.specs.declared.calls.Reply.{Reply}
use Rattle.log_entry.specs.declared.calls.Reply.TheVariants.{Wrote, Appended}
use Rattle.log_entry.specs.declared.calls.Call.{Call}
use Rattle.log_image.specs.Image.{Shape}
use Rattle.log_image.specs.Maps.{map_of, size_after}
use Rattle.log_core.specs.Entries.{LogEntry, no_entry, meanings}
use Rattle.log_core.specs.Origin.{Origin, shape, first_position, start_base, start_size, first_snapshot, first_entries, first_recorded}

-- an accepted write: whose, its number among its seat's calls, what it asked, the file's length before it, and its entry
pub record Write : Type 0 where
  pub seat : ℕ
  pub number : ℕ
  pub op : Op
  pub at : ℕ
  pub entry : LogEntry

abbrev pub no_write : Write
no_write = record { seat = 0; number = 0; op = Size; at = 0; entry = no_entry }

-- the reply of an accepted write, by the file's length before it
abbrev pub accepted_reply : Op → ℕ → Reply
accepted_reply (Pwrite offset bytes) size = Wrote (length bytes)
accepted_reply (Append bytes) size = Appended size (length bytes)
accepted_reply _ size = Wrote 0

-- the record of a write at its position
abbrev pub call_of : ℕ → Write → Call
call_of position w = record { position = position; seat = w.seat; number = w.number; op = w.op; reply = accepted_reply w.op w.at }

abbrev pub file_after_writes : List ℕ → List Write → List ℕ
file_after_writes file [] = file
file_after_writes file (w ∷ writes) = file_after_writes (file_after file w.op (accepted_reply w.op w.at)) writes

-- the position that a history comes to
abbrev pub end_of : Origin → List Write → ℕ
end_of o history = first_position o + length history

-- the write that has a position
abbrev pub write_at : Origin → List Write → ℕ → Write
write_at o history position = slice_index_or history (position - (first_position o + 1)) no_write

-- the entries of the log since the start's snapshot: those of the start, and then those of the writes
abbrev pub entries : Origin → List Write → List LogEntry
entries o history = first_entries o ++ map (λ (w : Write). w.entry) history

-- the entries up to a position
abbrev pub history_entries_to : Origin → List LogEntry → ℕ → List LogEntry
history_entries_to o es position = take (position - start_base o) es

-- the physical block of a virtual block at a position that is not before the start's snapshot, if it has one
abbrev pub history_map_at : Origin → List LogEntry → ℕ → ℕ → Option ℕ
history_map_at o es position virt = map_of (first_snapshot o ++ meanings (history_entries_to o es position)) virt

-- the file's size at such a position
abbrev pub history_size_at : Origin → List LogEntry → ℕ → ℕ
history_size_at o es position = size_after (shape o) (start_size o) (meanings (history_entries_to o es position))

-- a byte of a block, by the words of blocks; 0 where there is none
abbrev pub byte_in : (ℕ → List ℕ) → Option ℕ → ℕ → ℕ
byte_in content None at = 0
byte_in content (Some block) at = slice_index (word_bytes (content block)) at

-- the file at a position before the start's, as far as the start's blocks still hold it
abbrev pub early_file : Origin → ℕ → List ℕ
early_file o position =
    map (λ (place : ℕ). byte_in (first_recorded o) (history_map_at o (first_entries o) position (place / (shape o).block_bytes)) (place % (shape o).block_bytes))
    (range_with_len 0 (history_size_at o (first_entries o) position))

-- the file at a position
abbrev pub file_at : Origin → List Write → ℕ → List ℕ
file_at o history position =
    if nat_lt position (first_position o) then early_file o position
    else file_after_writes o.file (take (position - first_position o) history)

-- each byte of each virtual block is the file's, with 0 past the file's end, and the file is 0 in a virtual block that has no block
pub record Holds (image : Shape) (content : ℕ → List ℕ) (blocks : ℕ → Option ℕ) (file : List ℕ) : Type 0 where
  pub each : (virt at : ℕ) → at < image.block_bytes → byte_in content (blocks virt) at ≡ slice_index file (virt * image.block_bytes + at)

-- the same for the bytes below a size alone
pub record HoldsBelow (image : Shape) (size : ℕ) (content : ℕ → List ℕ) (blocks : ℕ → Option ℕ) (file : List ℕ) : Type 0 where
  pub each : (virt at : ℕ) → at < image.block_bytes → virt * image.block_bytes + at < size → byte_in content (blocks virt) at ≡ slice_index file (virt * image.block_bytes + at)
