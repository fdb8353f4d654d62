use Rattle.std.proofs.Common.{◌+◌, ◌^◌, ◌<◌, arith}
use Rattle.pmem_words.proofs.RoomLemmas.{sum_fits, room_fits}
use Rattle.pmem_words.proofs.seat.room.owned_room.Goals as goal

pub overflow_add-result : goal.overflow_add-result
overflow_add-result c =
    let small : c.longest.result + c.snapshot_blocks.result < 2 ^ 32 = sum_fits c.args.geometry.now _ _ c.longest.ensures c.snapshot_blocks.ensures in
    omega (arith, small)

pub overflow_add-result-2 : goal.overflow_add-result-2
overflow_add-result-2 c =
    let small : c.longest.result + c.snapshot_blocks.result + 4 < 2 ^ 32 = room_fits c.args.geometry.now _ _ c.longest.ensures c.snapshot_blocks.ensures in
    omega (arith, small)

pub returns : goal.returns
returns c = λ i. c.longest.ensures i + c.snapshot_blocks.ensures i + 4
