-- Each step of a giving takes a block at least from the list.
use Rattle.std.specs.Prelude.{◌<◌, ◌≤◌, length}
use Rattle.std.proofs.Common.{ap, ◌≡◌, List, arith}
use Rattle.pmem_words.specs.declared.owned.OwnedBlock.{OwnedBlock}
use Rattle.pmem_words.specs.Seats.{Seat}
use Rattle.pmem_words.specs.Scripts.{Lowers}
use Rattle.block_bitmap.specs.BitsIn.{others_of, others_left, no_more_others, fewer_others, least_is}
use Rattle.block_bitmap.specs.Giving.{next_word, given_seat, give_script}

-- the blocks that are left are those of other words
pub left_is : (s : Seat) → (given_seat s).blocks.owned ≡ others_of (next_word s) s.blocks.owned
left_is s = others_left (next_word s) s.blocks.owned

pub left_few : (s : Seat) → length (given_seat s).blocks.owned ≤ length s.blocks.owned
left_few s = (let same : length (given_seat s).blocks.owned ≡ length (others_of (next_word s) s.blocks.owned) = ap (λ (owned : List OwnedBlock). length owned) (left_is s) in
    let few = no_more_others (next_word s) s.blocks.owned in omega (arith, same, few))

pub left_fewer : (s : Seat) → 0 < length s.blocks.owned → length (given_seat s).blocks.owned < length s.blocks.owned
left_fewer s some = (let same : length (given_seat s).blocks.owned ≡ length (others_of (next_word s) s.blocks.owned) = ap (λ (owned : List OwnedBlock). length owned) (left_is s) in
    let few = fewer_others (next_word s) s.blocks.owned (least_is s.blocks.owned some) in omega (arith, same, few))

pub give_lowers : Lowers give_script
give_lowers m s a h go = left_fewer s h.some
