-- What the blocks of a write hold: the bytes of the call where they lie, and elsewhere the bytes that are there.
use Rattle.std.specs.Prelude.{ℕ, zero, suc, ◌+◌, ◌-◌, ◌*◌, ◌^◌, ◌<◌, ◌≤◌, ◌≡◌, Bool, true, false, length, slice_index, Option, Some, None}
use Rattle.std.specs.List.{slice_range}
use Rattle.pmem_words.specs.Owned.{with_filled, with_fenced}
use Rattle.pmem_words.specs.ByteWords.{words_set}
use Rattle.pmem_words.specs.Seats.{Seat}
use Rattle.log_core.specs.Works.{SetsWord, state_after_work, words_of}
use Rattle.partial_blocks.specs.Touching.{IsInFile, first_touched, touched_count, is_in_part, base_place}
use Rattle.partial_blocks.specs.Bytes.{laid_word}

-- a word of a virtual block as it was read, at this place among the bases; 0 where it has none
abbrev pub base_word : Seat → Option ℕ → ℕ → ℕ
base_word s None word = 0
base_word s (Some base) word = slice_index s.calling.base_words (base * words_of s + word)

-- and after the bytes of the call are laid over it
abbrev pub new_word : ℕ → Seat → ℕ → ℕ → ℕ
new_word offset s virt word =
    laid_word offset s.calling.bytes (virt * s.geometry.block_bytes + 8 * word) (base_word s (base_place s.calling.bases virt) word)

-- a word of an owned block is set
abbrev pub word_set : ℕ → ℕ → ℕ → Seat → Seat
word_set place word value s = state_after_work s (SetsWord place word value)

-- the first words of an owned block become a virtual block's
abbrev pub words_laid : ℕ → ℕ → ℕ → ℕ → Seat → Seat
words_laid offset place virt zero s = s
words_laid offset place virt (suc count) s = word_set place count (new_word offset s virt count) (words_laid offset place virt count s)

-- its content is what the bytes of the call from one on are
abbrev pub block_set : ℕ → ℕ → Seat → Seat
block_set place from s = record s {
  blocks = record s.blocks {
    owned = with_fenced (with_filled s.blocks.owned place false) place false;
    contents = words_set (slice_range s.calling.bytes from (from + 8 * words_of s)) s.blocks.contents (place * words_of s) (words_of s);
  };
}

-- an owned block becomes the touched virtual block at its place, which is touched in part or not
abbrev pub composed_by : Bool → ℕ → ℕ → ℕ → Seat → Seat
composed_by true offset place virt s = words_laid offset place virt (words_of s) s
composed_by false offset place virt s = block_set place (virt * s.geometry.block_bytes - offset) s

abbrev pub place_composed : ℕ → ℕ → Seat → Seat
place_composed offset place s = composed_by (is_in_part offset s (first_touched offset s + place)) offset place (first_touched offset s + place) s

-- and so the first of them, and one for each touched virtual block
abbrev pub places_composed : ℕ → ℕ → Seat → Seat
places_composed offset zero s = s
places_composed offset (suc count) s = place_composed offset count (places_composed offset count s)

abbrev pub composed : ℕ → Seat → Seat
composed offset s = places_composed offset (touched_count offset s) s

-- the bases were read whole
abbrev pub HasWholeBases : Seat → Type 0
HasWholeBases s = length s.calling.base_words ≡ length s.calling.bases * words_of s

-- there is such an owned block
pub record MayLay (offset place : ℕ) (s : Seat) : Type 0 where
  pub in_file : IsInFile offset s
  pub owned : place < length s.blocks.owned
  pub whole : HasWholeBases s

-- for one of the touched virtual blocks
pub record MayComposePlace (offset place : ℕ) (s : Seat) : Type 0 where
  pub lay : MayLay offset place s
  pub touched : place < touched_count offset s

-- and for all of them
pub record MayCompose (offset : ℕ) (s : Seat) : Type 0 where
  pub in_file : IsInFile offset s
  pub least : touched_count offset s ≤ length s.blocks.owned
  pub few : touched_count offset s < 2 ^ 16
  pub whole : HasWholeBases s
