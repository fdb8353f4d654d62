-- What giving one block back means.
use Rattle.std.specs.Prelude.{ℕ, ◌/◌, ◌%◌, ◌^◌, ◌<◌, length}
use Rattle.asks.specs.declared.ask.Ask.TheVariants.{ClearBits}
use Rattle.asks.specs.declared.ask.Place.TheVariants.{Map}
use Rattle.pmem_words.specs.Seats.{Seat}
use Rattle.pmem_words.specs.Scripts.{Script, Lowers}
use Rattle.pmem_words.specs.declared.machine.Turn.TheVariants.{Done}
use Rattle.block_bitmap.specs.Giving.{without_owned}
use Rattle.write_any.specs.declared.give_one.GiveOne.{GiveOne}

abbrev pub give_one_of : ℕ → GiveOne
give_one_of block = record { block = block }

-- the seat without the block
abbrev pub one_given : ℕ → Seat → Seat
one_given block s = without_owned s (block / 64) (2 ^ (block % 64))

-- the bitmap has the block's word
abbrev pub give_one_script : Script GiveOne (Unit {0})
give_one_script = record {
  asks = λ m s. ClearBits (Map (m.block / 64)) (2 ^ (m.block % 64));
  admits = λ m s a. m.block / 64 < length s.blocks.found;
  after = λ m s a. record { machine = m; seat = one_given m.block s; turn = Done tt };
  measure = λ m s. 0;
}

-- it ends at its first answer
pub give_one_lowers : Lowers give_one_script
give_one_lowers m s a admits go = cc
