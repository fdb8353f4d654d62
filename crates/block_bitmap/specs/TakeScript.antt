-- What taking blocks means.
use Rattle.std.specs.Prelude.{ℕ, ◌+◌, ◌-◌, ◌*◌, ◌/◌, ◌<◌, ◌≤◌, ◌==◌, nat_lt, Bool, true, false, List, [], ◌∷◌, ◌++◌, length, map, take, replicate, slice_index, slice_set, bit_or, Option, Some, None}
use Rattle.log_entry.specs.Geometry.{count_of, first_of}
use Rattle.log_entry.specs.declared.shapes.Area.{Area}
use Rattle.pmem_words.specs.declared.owned.OwnedBlock.{OwnedBlock}
use Rattle.pmem_words.specs.Seats.{Seat, q_of, owned_room}
use Rattle.pmem_words.specs.Scripts.{After, Script}
use Rattle.asks.specs.declared.ask.Ask.{Ask}
use Rattle.asks.specs.declared.ask.Ask.TheVariants.{Load, SetBits}
use Rattle.asks.specs.declared.ask.Place.TheVariants.{Map}
use Rattle.pmem_words.specs.declared.machine.Turn.TheVariants.{Go, Done}
use Rattle.log_core.specs.Works.{seat_shape}
use Rattle.block_bitmap.specs.declared.take.Take.{Take}
use Rattle.block_bitmap.specs.declared.take.Taken.{Taken}
use Rattle.block_bitmap.specs.declared.take.Taken.TheVariants.{Taken as HasTaken, NoSpace}
use Rattle.block_bitmap.specs.TakeBits.{bits_of, clear_in, open_blocks}

-- a pass that has not begun
abbrev pub take_of : Area → ℕ → Take
take_of area count = record { area = area; count = count; passed = 0; known = None }

-- the bitmap word at hand, and the last one that has a block of the area
abbrev pub word_of : Take → Seat → ℕ
word_of m s = first_of s.geometry m.area / 64 + m.passed

abbrev pub last_word : Area → Seat → ℕ
last_word area s = (first_of s.geometry area + count_of s.geometry area - 1) / 64

-- the blocks of the area in the word at hand that are not known to be taken, and those of them that are asked for: the least
abbrev pub open_at : Take → Seat → ℕ → List ℕ
open_at m s known = open_blocks (seat_shape s) m.area (word_of m s) known

abbrev pub wanted_at : Take → Seat → ℕ → List ℕ
wanted_at m s known = take m.count (open_at m s known)

-- a word is loaded, and then the bits of the wanted blocks are set
abbrev pub asks_at : Option ℕ → Take → Seat → Ask
asks_at None m s = Load (Map (word_of m s))
asks_at (Some known) m s = SetBits (Map (word_of m s)) (bits_of (wanted_at m s known))

-- the word has blocks of the area and is one of the bitmap, and the list of owned blocks has a place for each block to be taken
pub record MayTake (m : Take) (s : Seat) : Type 0 where
  pub to : word_of m s ≤ last_word m.area s
  pub inside : word_of m s < length s.blocks.found
  pub room : length s.blocks.owned + m.count ≤ owned_room s.geometry

-- the seat with these bits added to a word of what was found
abbrev pub with_found : ℕ → ℕ → Seat → Seat
with_found word bits s = record s { blocks = record s.blocks { found = slice_set s.blocks.found word (bit_or (slice_index s.blocks.found word) bits) } }

-- a block that was just taken
abbrev pub fresh : Area → ℕ → OwnedBlock
fresh area block = record { block = block; area = area; filled = false; fenced = false }

-- the seat with these blocks of an area taken
abbrev pub with_taken_blocks : Area → List ℕ → Seat → Seat
with_taken_blocks area blocks s = record s {
  blocks = record s.blocks {
    owned = s.blocks.owned ++ map (fresh area) blocks;
    contents = s.blocks.contents ++ replicate (length blocks * q_of s.geometry) 0;
  };
}

-- on from a word that has nothing more to take: to the next one, where there is one
abbrev pub moved_on : Bool → Take → Seat → After Take Taken
moved_on true m s = record { machine = record m { passed = m.passed + 1; known = None }; seat = s; turn = Go }
moved_on false m s = record { machine = m; seat = s; turn = Done (NoSpace m.area) }

-- by the blocks of the word that are not known to be taken: on with the same word, if there are any
abbrev pub settled_by : List ℕ → Take → Seat → ℕ → After Take Taken
settled_by [] m s known = moved_on (nat_lt (word_of m s) (last_word m.area s)) m s
settled_by (block ∷ blocks) m s known = record { machine = record m { known = Some known }; seat = s; turn = Go }

abbrev pub settled : Take → Seat → ℕ → After Take Taken
settled m s known = settled_by (open_at m s known) m s known

-- by whether each wanted block was taken
abbrev pub ended_or : Bool → Take → Seat → ℕ → After Take Taken
ended_or true m s known = record { machine = m; seat = s; turn = Done HasTaken }
ended_or false m s known = settled m s known

-- the blocks that setting bits took: those that were found clear
abbrev pub gained_at : Take → Seat → ℕ → ℕ → List ℕ
gained_at m s known found = clear_in found (wanted_at m s known)

abbrev pub less : Take → ℕ → Take
less m count = record m { count = m.count - count }

-- the seat after bits were set: the blocks that were found clear are its own; and each was found or is now taken
abbrev pub seat_set : Take → Seat → ℕ → ℕ → Seat
seat_set m s known found = with_found (word_of m s) (bit_or found (bits_of (wanted_at m s known))) (with_taken_blocks m.area (gained_at m s known found) s)

abbrev pub known_set : Take → Seat → ℕ → ℕ → ℕ
known_set m s known found = bit_or known (bit_or found (bits_of (wanted_at m s known)))

abbrev pub after_at : Option ℕ → Take → Seat → ℕ → After Take Taken
after_at None m s found = settled m (with_found (word_of m s) found s) found
after_at (Some known) m s found =
    ended_or (m.count - length (gained_at m s known found) == 0) (less m (length (gained_at m s known found))) (seat_set m s known found) (known_set m s known found)

-- 66 for each word that is left; and for the word at hand more than it has blocks, or as many as are not known to be taken
abbrev pub measure_at : Option ℕ → Take → Seat → ℕ
measure_at None m s = (last_word m.area s - word_of m s) * 66 + 65
measure_at (Some known) m s = (last_word m.area s - word_of m s) * 66 + length (open_at m s known)

abbrev pub take_script : Script Take Taken
take_script = record {
  asks = λ m s. asks_at m.known m s;
  admits = λ m s a. MayTake m s;
  after = λ m s a. after_at m.known m s a;
  measure = λ m s. measure_at m.known m s;
}
