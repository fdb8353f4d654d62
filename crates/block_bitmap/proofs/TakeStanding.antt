-- Where taking blocks stands.
use Rattle.std.specs.Prelude.{ℕ, ◌+◌, ◌/◌, ◌<◌, ◌≤◌, ◌≡◌, true, List, length, slice_index, Option, Some, None}
use Rattle.std.specs.Int.{bit_at}
use Rattle.log_entry.specs.declared.shapes.Area.{Area}
use Rattle.log_image.specs.Taken.{bit_of}
use Rattle.pmem_words.specs.Seats.{Seat}
use Rattle.log_core.specs.Views.{Ghost}
use Rattle.log_core.specs.Works.{seat_shape}
use Rattle.log_core.specs.Needs.{is_in_area}
use Rattle.block_bitmap.specs.declared.take.Take.{Take}
use Rattle.block_bitmap.specs.TakeScript.{word_of, last_word}
use Rattle.block_bitmap.specs.TakeWithin.{MayLack, HasGrown}

-- the known bits of the word at hand are those of blocks that the seat has found taken
abbrev pub KnownFound : Option ℕ → Take → Seat → Type 0
KnownFound None m s = Unit {0}
KnownFound (Some known) m s = (place : ℕ) → bit_at known place ≤ bit_at (slice_index s.blocks.found (word_of m s)) place

-- where taking blocks stands: what is still wanted is lacking, and each block of the area in a word that was passed over was found taken
pub record TakeStands (area : Area) (count : ℕ) (first : Seat) (m : Take) (s : Seat) (g : Ghost) : Type 0 where
  pub area_is : m.area ≡ area
  pub may : MayLack area m.count s g
  pub to : word_of m s ≤ last_word area s
  pub blocks : List ℕ
  pub grown : HasGrown area first blocks s
  pub many : length blocks + m.count ≡ count
  pub passed : (block : ℕ) → block / 64 < word_of m s → is_in_area (seat_shape s) area block ≡ true → bit_of s.blocks.found block ≡ 1
  pub known : KnownFound m.known m s
