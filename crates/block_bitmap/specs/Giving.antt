-- What giving blocks back means.
use Rattle.std.specs.Prelude.{ℕ, ◌+◌, ◌-◌, ◌^◌, ◌<◌, ◌==◌, Bool, true, false, length, slice_index, slice_set}
use Rattle.pmem_words.specs.Owned.{is_among, owned_but, contents_but}
use Rattle.pmem_words.specs.Seats.{Seat, q_of}
use Rattle.asks.specs.Asks.{without_bits}
use Rattle.pmem_words.specs.Scripts.{After, Script}
use Rattle.asks.specs.declared.ask.Ask.{Ask}
use Rattle.asks.specs.declared.ask.Ask.TheVariants.{ClearBits}
use Rattle.asks.specs.declared.ask.Place.TheVariants.{Map}
use Rattle.pmem_words.specs.declared.machine.Turn.{Turn}
use Rattle.pmem_words.specs.declared.machine.Turn.TheVariants.{Go, Done}
use Rattle.block_bitmap.specs.declared.give.Give.{Give}
use Rattle.block_bitmap.specs.declared.give.GiveFrom.{GiveFrom}
use Rattle.block_bitmap.specs.GivenBits.{least_word, bits_in}

-- a giving that has not begun
abbrev pub give_of : GiveFrom → Give
give_of from = record { from = from; given = 0 }

-- the least word of the bitmap with blocks to be given, and their bits there
abbrev pub next_word : Seat → ℕ
next_word s = least_word s.blocks.owned

abbrev pub next_bits : Seat → ℕ
next_bits s = bits_in (next_word s) s.blocks.owned

-- it clears them
abbrev pub give_asks : Give → Seat → Ask
give_asks m s = ClearBits (Map (next_word s)) (next_bits s)

-- a block is left, the seat's bits have its word, and the count fits
pub record HasGiven (m : Give) (s : Seat) : Type 0 where
  pub some : 0 < length s.blocks.owned
  pub inside : next_word s < length s.blocks.found
  pub few : m.given + length s.blocks.owned < 2 ^ 32

-- the seat without the blocks of these bits of a word
abbrev pub without_owned : Seat → ℕ → ℕ → Seat
without_owned s word bits = record s {
  blocks = record s.blocks {
    owned = owned_but (is_among word bits) s.blocks.owned;
    contents = contents_but (q_of s.geometry) (is_among word bits) s.blocks.owned s.blocks.contents;
    found = slice_set s.blocks.found word (without_bits (slice_index s.blocks.found word) bits);
  };
}

abbrev pub given_seat : Seat → Seat
given_seat s = without_owned s (next_word s) (next_bits s)

-- how many blocks are given then
abbrev pub given_count : Give → Seat → ℕ
given_count m s = m.given + (length s.blocks.owned - length (given_seat s).blocks.owned)

-- by whether no block is left: it ends with the count of those given
abbrev pub give_turn : Bool → ℕ → Turn ℕ
give_turn true count = Done count
give_turn false count = Go

abbrev pub give_after : Give → Seat → ℕ → After Give ℕ
give_after m s a = record {
  machine = record m { given = given_count m s };
  seat = given_seat s;
  turn = give_turn (length (given_seat s).blocks.owned == 0) (given_count m s);
}

-- each step takes a block at least
abbrev pub give_script : Script Give ℕ
give_script = record { asks = give_asks; admits = λ m s a. HasGiven m s; after = give_after; measure = λ m s. length s.blocks.owned }
