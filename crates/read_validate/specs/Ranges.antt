-- The bytes of a range of the file: those of unmapped blocks are 0, and of mapped ones in words of the image.
use Rattle.std.specs.Prelude.{ℕ, zero, suc, ◌+◌, ◌-◌, ◌*◌, ◌/◌, ◌%◌, ◌<◌, ◌≤◌, ◌==◌, ◌++◌, min, nat_lt, Bool, true, false, List, [], ◌∷◌, length, replicate, Option, Some, None}
use Rattle.std.specs.List.{slice_range}
use Rattle.log_entry.specs.WordBytes.{word_bytes}
use Rattle.asks.specs.declared.ask.Ask.TheVariants.{Load}
use Rattle.asks.specs.declared.ask.Place.TheVariants.{Image}
use Rattle.pmem_words.specs.Maps.{map_at}
use Rattle.pmem_words.specs.Seats.{Seat}
use Rattle.pmem_words.specs.Scripts.{After, Script}
use Rattle.pmem_words.specs.declared.TheConstants.{JOB_BYTES}
use Rattle.pmem_words.specs.declared.machine.Turn.TheVariants.{Go, Done}
use Rattle.log_core.specs.Works.{words_of}
use Rattle.read_validate.specs.declared.range.ReadRange.{ReadRange}

-- the virtual block of a byte of the file, and the first byte of the next one
abbrev pub virt_of : Seat → ℕ → ℕ
virt_of s place = place / s.geometry.block_bytes

abbrev pub next_block : Seat → ℕ → ℕ
next_block s place = (virt_of s place + 1) * s.geometry.block_bytes

-- the first byte from a place on that is in a mapped block, or the range's end where there is none before it; so many blocks are looked at
abbrev pub is_unmapped : Option ℕ → Bool
is_unmapped None = true
is_unmapped (Some block) = false

abbrev pub further : Bool → Bool → ℕ → ℕ → ℕ → ℕ
further true true next place end = next
further true false next place end = place
further false unmapped next place end = end

abbrev pub next_from : ℕ → ℕ → ℕ → Seat → ℕ
next_from zero end place s = end
next_from (suc blocks) end place s = further (nat_lt place end) (is_unmapped (map_at s.walk.map (virt_of s place))) (next_from blocks end (next_block s place) s) place end

abbrev pub next_mapped : ℕ → ℕ → Seat → ℕ
next_mapped end place s = next_from (65536 - virt_of s place) end place s

-- the word of the image with a byte of a mapped block
abbrev pub word_in_block : Option ℕ → ℕ → Seat → ℕ
word_in_block None at s = 0
word_in_block (Some block) at s = block * words_of s + at / 8

abbrev pub word_at : ℕ → Seat → ℕ
word_at place s = word_in_block (map_at s.walk.map (virt_of s place)) (place % s.geometry.block_bytes) s

-- bytes laid behind those that were
abbrev pub with_laid : List ℕ → Seat → Seat
with_laid bytes s = record s { calling = record s.calling { bytes = s.calling.bytes ++ bytes } }

-- the zeros of unmapped blocks up to the next mapped one
abbrev pub zeros_laid : ℕ → ℕ → Seat → Seat
zeros_laid end place s = with_laid (replicate (next_mapped end place s - place) 0) s

abbrev pub reading_at : Bool → ℕ → ℕ → Seat → Option ReadRange
reading_at true end place s = None
reading_at false end place s = Some (record { place = place; end = end; word = word_at place s })

-- what is left to read from a place on, once the zeros before it are laid
abbrev pub rest_of : ℕ → ℕ → Seat → Option ReadRange
rest_of end place s = reading_at (next_mapped end place s == end) end (next_mapped end place s) s

-- a place is not behind the end, and there is room for the bytes between
pub record IsInRange (end place : ℕ) (s : Seat) : Type 0 where
  pub upto : place ≤ end
  pub room : length s.calling.bytes + (end - place) ≤ JOB_BYTES

-- how many of a word's bytes are of the range, and these
abbrev pub taken_of : ReadRange → ℕ
taken_of m = min (8 - m.place % 8) (m.end - m.place)

abbrev pub bytes_from : ReadRange → ℕ → List ℕ
bytes_from m word = slice_range (word_bytes (word ∷ [])) (m.place % 8) (m.place % 8 + taken_of m)

abbrev pub word_laid : ReadRange → Seat → ℕ → Seat
word_laid m s a = with_laid (bytes_from m a) s

abbrev pub after_laid : Option ReadRange → ReadRange → Seat → After ReadRange (Unit {0})
after_laid None m s = record { machine = m; seat = s; turn = Done tt }
after_laid (Some next) m s = record { machine = next; seat = s; turn = Go }

abbrev pub range_script : Script ReadRange (Unit {0})
range_script = record {
  asks = λ m s. Load (Image m.word);
  admits = λ m s a. (m.place < m.end) × IsInRange m.end m.place s;
  after = λ m s a. after_laid (rest_of m.end (m.place + taken_of m) (word_laid m s a)) m (zeros_laid m.end (m.place + taken_of m) (word_laid m s a));
  measure = λ m s. m.end - m.place;
}
