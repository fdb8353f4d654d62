-- What a walk makes of its seat with a word that was loaded: each is what the core's computations make of it, and no word is kept then. In a
-- collection what the chain names is noted.
use Rattle.std.specs.Prelude.{ℕ, ◌+◌, ◌*◌, ◌<◌, ◌≤◌, ◌^◌, ◌≡◌, ◌&&◌, nat_le, nat_lt, Bool, true, false, Option, Some, None, List, remove, [], ◌∷◌, ◌++◌, length, map, drop}
use Rattle.std.specs.List.{slice_get}
use Rattle.log_image.specs.Entries.{Meaning, direct_meaning, names}
use Rattle.pmem_words.specs.declared.keeps.KeptWord.{KeptWord}
use Rattle.pmem_words.specs.Owned.{without_block}
use Rattle.pmem_words.specs.Seats.{Seat, Walk, Calling, q_of}
use Rattle.log_core.specs.Works.{seat_shape, words_of, front, walk_kept, walk_from_log, walk_from_snapshot, walk_read, walk_past, with_entry, without_bases, begun_at_front, blocks_noted}

-- a word of a block is kept
abbrev pub with_kept : Seat → ℕ → ℕ → ℕ → Seat
with_kept s block slot word = record s { walk = record s.walk { kept = s.walk.kept ++ record { block = block; slot = slot; word = word } ∷ [] } }

-- the kept table is taken again, for a chain that begins at this position
abbrev pub table_kept : Seat → ℕ → Seat
table_kept s base = record s { walk = record (walk_kept s.walk base) { kept = [] }; calling = record s.calling { noting = false } }

-- the walk begins at the first log block of a chain without a snapshot, or with the snapshot at its front
abbrev pub log_begun : Seat → ℕ → Seat
log_begun s base = begun_at_front s (walk_from_log s.walk (front s) base)

abbrev pub snapshot_begun : Seat → ℕ → ℕ → Seat
snapshot_begun s base size = begun_at_front s (walk_from_snapshot s.walk s.hold.generation (front s) base size)

-- in a snapshot: an entry is taken in, the next block is begun, the end is reached
abbrev pub run_taken : Seat → ℕ → Seat
run_taken s word = record s { walk = record s.walk { map = with_entry (direct_meaning word) s.walk.map; reading_slot = s.walk.reading_slot + 1; kept = [] }; blocks = blocks_noted s (names (direct_meaning word)) }

abbrev pub next_begun : Seat → ℕ → Seat
next_begun s block = record s { walk = record s.walk { reading_block = block; reading_slot = 3; reading_place = s.walk.reading_place + 1; kept = [] }; blocks = blocks_noted s (block ∷ []) }

abbrev pub reading_ended : Seat → ℕ → Seat
reading_ended s block = record s { walk = walk_read s.walk block; blocks = blocks_noted s (block ∷ []) }

-- in the log: an entry of this meaning, a seal, a link
abbrev pub taken : Seat → Meaning → Seat
taken s meaning = record s { walk = walk_past (seat_shape s) s.walk meaning; calling = without_bases (words_of s) meaning s.calling; blocks = blocks_noted s (names meaning) }

abbrev pub seal_taken : Seat → Seat
seal_taken s = record s { walk = record s.walk { tail_slot = words_of s; kept = [] } }

abbrev pub followed : Seat → ℕ → Seat
followed s block = record s { walk = record s.walk { tail_block = block; tail_slot = 3; tail_base = s.walk.position; kept = [] }; blocks = blocks_noted s (block ∷ []) }

-- the word at the tail was found empty
abbrev pub tail_found : Seat → Seat
tail_found s = record s { walk = record s.walk { at_tail = true; kept = [] } }

-- the words of the indirect block: those kept behind the entry's own
abbrev pub kept_words : Seat → List ℕ
kept_words s = map (λ (kept : KeptWord). kept.word) (drop 1 s.walk.kept)

-- the table has the blocks of an entry: what is left to do with it
abbrev pub passed : Seat → Meaning → Seat
passed s meaning = record s {
  walk = record (walk_past (seat_shape s) s.walk meaning) { map = s.walk.map };
  calling = without_bases (words_of s) meaning s.calling;
}

-- an entry of these virtual blocks, with this leftover
pub record IsOfBlocks (virt count leftover : ℕ) (meaning : Meaning) : Type 0 where
  pub virt_is : meaning.virt ≡ virt
  pub count_is : length meaning.blocks ≡ count
  pub leftover_is : meaning.leftover ≡ leftover

-- a partly touched block is dropped where it is one of these virtual blocks
abbrev pub dropped_if : Bool → ℕ → ℕ → Calling → Calling
dropped_if true q place c = record c { bases = remove c.bases place; base_words = without_block q place c.base_words }
dropped_if false q place c = c

abbrev pub dropped_from : ℕ → ℕ → ℕ → ℕ → Option ℕ → Calling → Calling
dropped_from virt count q place None c = c
dropped_from virt count q place (Some base) c = dropped_if (nat_le virt base && nat_lt base (virt + count)) q place c

abbrev pub dropped : ℕ → ℕ → ℕ → Seat → Seat
dropped virt count place s = record s { calling = dropped_from virt count (q_of s.geometry) place (slice_get s.calling.bases place) s.calling }

-- there is a slot and a position after the tail's
pub record HasRoom (w : Walk) : Type 0 where
  pub slot : w.tail_slot + 1 < 2 ^ 16
  pub position : w.position < 2 ^ 40

-- at most two blocks are touched partly, and no more words of them were read than they have
pub record HasFewBases (q : ℕ) (c : Calling) : Type 0 where
  pub few : length c.bases ≤ 2
  pub words : length c.base_words ≤ length c.bases * q
