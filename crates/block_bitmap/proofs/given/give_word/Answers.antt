use Rattle.std.proofs.Common.{ℕ, ◌≡◌, length, List, slice_index, slice_set, ap, ◌∙◌, arith}
use Rattle.pmem_words.specs.declared.owned.OwnedBlock.{OwnedBlock}
use Rattle.pmem_words.specs.Seats.{Seat}
use Rattle.asks.specs.Asks.{without_bits}
use Rattle.block_bitmap.specs.GivenBits.{least_word, bits_in}
use Rattle.block_bitmap.specs.Giving.{next_word, next_bits, without_owned, given_seat}
use Rattle.block_bitmap.specs.GiveLowering.{left_few}
use Rattle.block_bitmap.proofs.given.give_word.Goals as goal

abbrev cleared : ℕ → ℕ → Seat → Seat
cleared word bits t = record t { blocks = record t.blocks { found = slice_set t.blocks.found word (without_bits (slice_index t.blocks.found word) bits) } }

seat_is : (c : goal.After-owned-3) → c.remove_found.new.self ≡ given_seat c.args.seat.now
seat_is c =
    let word : c.least_word-word.result ≡ next_word c.args.seat.now = c.least_word-word.ensures ∙ ap least_word c.owned.ensures in
    let bits : c.bits_in-bits.result ≡ next_bits c.args.seat.now = c.bits_in-bits.ensures ∙ (λ i. bits_in (word i) (c.owned-2.ensures i)) in
    c.remove_found.ensures ∙ ap (cleared c.least_word-word.result c.bits_in-bits.result) c.disown_in_word.ensures ∙ (λ i. without_owned c.args.seat.now (word i) (bits i))

-- the blocks left, before and after, by the two lists
before_is : (c : goal.After-owned-3) → length c.owned-before.result.now ≡ length c.args.seat.now.blocks.owned
before_is c = ap (λ (owned : List OwnedBlock). length owned) c.owned-before.ensures

left_is : (c : goal.After-owned-3) → length c.owned-3.result.now ≡ length (given_seat c.args.seat.now).blocks.owned
left_is c = ap (λ (owned : List OwnedBlock). length owned) c.owned-3.ensures ∙ ap (λ (s : Seat). length s.blocks.owned) (seat_is c)

pub overflow_sub-result : goal.overflow_sub-result
overflow_sub-result c = omega (arith, before_is c, left_is c, left_few c.args.seat.now)

pub returns-clause-seat : goal.returns-clause-seat
returns-clause-seat c = seat_is c

pub returns-clause-count : goal.returns-clause-count
returns-clause-count c =
    let now : length c.remove_found.new.self.blocks.owned ≡ length (given_seat c.args.seat.now).blocks.owned = ap (λ (s : Seat). length s.blocks.owned) (seat_is c) in
    omega (arith, now, before_is c, left_is c, left_few c.args.seat.now)
