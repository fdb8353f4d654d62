use Rattle.std.proofs.Common.{◌≡◌, ◌+◌, ◌≤◌, length}
use Rattle.pmem_words.specs.Seats.{owned_room}
use Rattle.block_bitmap.specs.TakeBits.{blocks_in}
use Rattle.block_bitmap.specs.TakeScript.{with_taken_blocks}
use Rattle.block_bitmap.proofs.take_bits.own_blocks.Given as goal

-- with the blocks that are still to be added, those added so far are all
abbrev pub invariant-loop-rest : goal.invariant-loop-rest
invariant-loop-rest l = record {
  seat : with_taken_blocks l.area (blocks_in l.word l.rest) l.seat ≡ with_taken_blocks l.area (blocks_in l.word l.bits) l.fn.seat;
  count : l.count + length (blocks_in l.word l.rest) ≡ length (blocks_in l.word l.bits);
  room : length l.seat.blocks.owned + length (blocks_in l.word l.rest) ≤ owned_room l.seat.geometry;
}

abbrev pub decreases-loop-rest : goal.decreases-loop-rest
decreases-loop-rest l = length (blocks_in l.word l.rest)
