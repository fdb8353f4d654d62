-- What the owned blocks of a write are to hold, by the state of the seat alone.
use Rattle.std.specs.Prelude.{ℕ, ◌+◌, ◌*◌, ◌/◌, ◌%◌, ◌<◌, ◌≤◌, ◌≡◌, ◌⊎◌, false, List, [], ◌∷◌, length, map, slice_index, None}
use Rattle.log_entry.specs.WordBytes.{word_bytes}
use Rattle.pmem_words.specs.declared.owned.OwnedBlock.{OwnedBlock}
use Rattle.pmem_words.specs.Owned.{owned_at}
use Rattle.pmem_words.specs.Seats.{Seat}
use Rattle.log_core.specs.Views.{Ghost}
use Rattle.log_core.specs.Works.{words_of, content_word}
use Rattle.log_core.specs.Answers.{Enters}
use Rattle.log_core.proofs.writes.LaidWrites.{IsOldByte}
use Rattle.partial_blocks.specs.Touching.{IsInFile, first_touched, touched_count, lacks_base}
use Rattle.partial_blocks.specs.Composing.{HasWholeBases, place_composed, composed}

-- a byte of the owned block at a place
abbrev pub content_byte : Seat → ℕ → ℕ → ℕ
content_byte s place at = slice_index (word_bytes (content_word s place (at / 8) ∷ [])) (at % 8)

-- the place in the file of a byte of the touched virtual block at a place
abbrev pub byte_place : ℕ → Seat → ℕ → ℕ → ℕ
byte_place offset s place at = (first_touched offset s + place) * s.geometry.block_bytes + at

-- the owned block at a place holds what the touched virtual block at that place is after the write: the call's bytes, and elsewhere the
-- bytes that there are
pub record HoldsPlace (offset place : ℕ) (s : Seat) : Type 0 where
  pub new : (at byte : ℕ) → at < s.geometry.block_bytes → byte < length s.calling.bytes → byte_place offset s place at ≡ offset + byte →
      content_byte s place at ≡ slice_index s.calling.bytes byte
  pub old : (at : ℕ) → at < s.geometry.block_bytes → (byte_place offset s place at < offset) ⊎ (offset + length s.calling.bytes ≤ byte_place offset s place at) →
      IsOldByte s (first_touched offset s + place) at (content_byte s place at)

-- and so the first of them do, one for each touched virtual block
abbrev pub HoldsWrite : ℕ → Seat → Type 0
HoldsWrite offset s = (place : ℕ) → place < touched_count offset s → HoldsPlace offset place s

-- each of these is a byte
abbrev pub AreBytes : List ℕ → Type 0
AreBytes bytes = (k : ℕ) → slice_index bytes k < 256

-- the bytes of the call are bytes within the limit of a file, each owned block has its words, and the call lacks no base
pub record IsReadyToCompose (offset : ℕ) (s : Seat) : Type 0 where
  pub in_file : IsInFile offset s
  pub bytes : AreBytes s.calling.bytes
  pub whole : HasWholeBases s
  pub contents : length s.blocks.contents ≡ length s.blocks.owned * words_of s
  pub none_lacks : lacks_base offset s ≡ None

-- a seat but for its owned blocks; and blocks but for their marks
abbrev pub bare : Seat → Seat
bare s = record s { blocks = record s.blocks { owned = []; contents = [] } }

abbrev pub unmarked : OwnedBlock → OwnedBlock
unmarked block = record block { filled = false; fenced = false }

abbrev pub unmarked_all : List OwnedBlock → List OwnedBlock
unmarked_all owned = map unmarked owned

-- nothing has changed but the marks and the contents of the owned blocks at some places
pub record ChangesOnly (changes : ℕ → Type 0) (s t : Seat) : Type 0 where
  pub rest : bare t ≡ bare s
  pub owned : unmarked_all t.blocks.owned ≡ unmarked_all s.blocks.owned
  pub marks : (place : ℕ) → (changes place → ⊥) → owned_at t.blocks.owned place ≡ owned_at s.blocks.owned place
  pub long : length t.blocks.contents ≡ length s.blocks.contents
  pub others : (place word : ℕ) → (changes place → ⊥) → word < words_of s → content_word t place word ≡ content_word s place word

-- composing one place makes it hold its virtual block, and changes its block alone
abbrev pub ComposesPlace : Type 0
ComposesPlace = (offset place : ℕ) (s : Seat) → IsReadyToCompose offset s → place < touched_count offset s → place < length s.blocks.owned →
    HoldsPlace offset place (place_composed offset place s) × ChangesOnly (λ other. other ≡ place) s (place_composed offset place s)

-- and composing them all makes them hold the write
abbrev pub ComposesWrite : Type 0
ComposesWrite = (offset : ℕ) (s : Seat) → IsReadyToCompose offset s → touched_count offset s ≤ length s.blocks.owned →
    HoldsWrite offset (composed offset s) × ChangesOnly (λ other. other < touched_count offset s) s (composed offset s)

-- and a call may compute both between two of its steps
abbrev pub MayBeComposed : Type 0
MayBeComposed = (offset : ℕ) (s : Seat) (g : Ghost) → AreBytes s.calling.bytes →
    ((place : ℕ) → place < length s.blocks.owned → Enters g s (place_composed offset place s) []) × (touched_count offset s ≤ length s.blocks.owned → Enters g s (composed offset s) [])
