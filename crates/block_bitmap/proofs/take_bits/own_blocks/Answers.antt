use Rattle.std.proofs.Common.{◌≡◌, ◌<◌, ◌≤◌, ◌+◌, ◌*◌, ◌^◌, ℕ, List, length, sym, ap, ◌∙◌, arith}
use Rattle.std.specs.Int.{trailing_zeros}
use mir.Syntax.{w64}
use Rattle.std.proofs.lemmas.List.{length_push}
use Rattle.log_entry.specs.declared.shapes.Area.{Area}
use Rattle.pmem_words.specs.Seats.{Seat, owned_room}
use Rattle.block_bitmap.specs.TakeBits.{blocks_in}
use Rattle.block_bitmap.specs.TakeScript.{fresh, with_taken_blocks}
use Rattle.block_bitmap.proofs.TakeLowest.{none_in, without_lowest, lowest_in}
use Rattle.block_bitmap.proofs.TakeSteps.{with_one, taken_first, none_taken}
use Rattle.block_bitmap.proofs.take_bits.own_blocks.Goals as goal

-- one block fewer is left
fewer : (word rest : ℕ) → 0 < rest → rest < 2 ^ 64 → length (blocks_in word rest) ≡ length (blocks_in word (without_lowest rest)) + 1
fewer word rest some small = (let first = ap length (lowest_in word rest some small) in omega (arith, first))

-- and one place of the list is used
room_after : (area : Area) (block : ℕ) (s : Seat) (left : ℕ) → length s.blocks.owned + (left + 1) ≤ owned_room s.geometry → length (with_one area block s).blocks.owned + left ≤ owned_room (with_one area block s).geometry
room_after area block s left room = (let long = length_push s.blocks.owned (fresh area block) in omega (arith, room, long))

pub own-requires : goal.own-requires
own-requires c = (let room = c.loop-rest.invariant.room in let count = fewer c.args.word c.loop-rest.rest (omega arith) (omega arith) in omega (arith, room, count))

pub loop-rest-smaller : goal.loop-rest-smaller
loop-rest-smaller c = (let count = fewer c.args.word c.loop-rest.rest (omega arith) (omega arith) in omega (arith, count))

pub loop-rest-preserved : goal.loop-rest-preserved
loop-rest-preserved c =
    (let some : 0 < c.loop-rest.rest = omega arith in
    let small : c.loop-rest.rest < 2 ^ 64 = omega arith in
    let count = fewer c.args.word c.loop-rest.rest some small in
    let before = c.loop-rest.invariant.count in
    let room = c.loop-rest.invariant.room in
    record {
      seat = rw c.own.ensures (sym (taken_first c.args.area (c.args.word * 64 + trailing_zeros w64 c.loop-rest.rest) (blocks_in c.args.word (without_lowest c.loop-rest.rest)) c.loop-rest.seat) ∙ ap (λ (blocks : List ℕ). with_taken_blocks c.args.area blocks c.loop-rest.seat) (sym (lowest_in c.args.word c.loop-rest.rest some small)) ∙ c.loop-rest.invariant.seat);
      count = omega (arith, count, before);
      room = rw c.own.ensures (room_after c.args.area (c.args.word * 64 + trailing_zeros w64 c.loop-rest.rest) c.loop-rest.seat (length (blocks_in c.args.word (without_lowest c.loop-rest.rest))) (omega (arith, count, room)));
    })

pub returns-clause-seat : goal.returns-clause-seat
returns-clause-seat c = (let none : c.loop-rest.rest ≡ 0 = omega arith in
    sym (none_taken c.args.area c.loop-rest.seat) ∙ ap (λ (blocks : List ℕ). with_taken_blocks c.args.area blocks c.loop-rest.seat) (sym (none_in c.args.word)) ∙ ap (λ (rest : ℕ). with_taken_blocks c.args.area (blocks_in c.args.word rest) c.loop-rest.seat) (sym none) ∙ c.loop-rest.invariant.seat)

pub returns-clause-count : goal.returns-clause-count
returns-clause-count c = (let none : c.loop-rest.rest ≡ 0 = omega arith in
    let nothing : length (blocks_in c.args.word c.loop-rest.rest) ≡ 0 = ap (λ (rest : ℕ). length (blocks_in c.args.word rest)) none ∙ ap length (none_in c.args.word) in
    let before = c.loop-rest.invariant.count in omega (arith, nothing, before))
