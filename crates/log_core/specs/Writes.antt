-- The writes of a history: each is one that is accepted where it stands.
use Rattle.std.specs.Prelude.{ℕ, ◌+◌, ◌<◌, ◌≤◌, ◌≡◌, true, List, length, slice_index_or, None}
use Rattle.log_entry.specs.Shape.{limit_of}
use Rattle.log_entry.specs.Legal.{is_write}
use Rattle.log_core.specs.Origin.{Origin, first_position, start_base}
use Rattle.log_core.specs.Files.{Write, no_write, entries, end_of, file_at, history_size_at, accepted_reply}
use Rattle.log_core.specs.May.{refusal_at}

-- a write at its place in the history: it is of at least one byte, has the length of the file before it, and nothing refuses it there
pub record IsAcceptedAt (o : Origin) (history : List Write) (place : ℕ) (w : Write) : Type 0 where
  pub some_bytes : is_write w.op (accepted_reply w.op w.at) ≡ true
  pub size_before : w.at ≡ length (file_at o history (first_position o + place))
  pub allowed : refusal_at o.geometry.block_bytes (first_position o + place) w.at w.op ≡ None

-- each write is; and at each position from the start's snapshot on the file has the size that the entries give, which is one that a file may have
pub record HistoryHolds (o : Origin) (history : List Write) : Type 0 where
  pub writes : (place : ℕ) → place < length history → IsAcceptedAt o history place (slice_index_or history place no_write)
  pub sizes : (position : ℕ) → start_base o ≤ position → position ≤ end_of o history →
      length (file_at o history position) ≡ history_size_at o (entries o history) position
  pub within : (position : ℕ) → start_base o ≤ position → position ≤ end_of o history → length (file_at o history position) ≤ limit_of o.geometry.block_bytes
