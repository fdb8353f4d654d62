use Rattle.std.proofs.Common.{arith}
use Rattle.drive_bench.proofs.writes.ready_to_write.Goals as goal

pub writing_on-requires-clause-whole : goal.writing_on-requires-clause-whole
writing_on-requires-clause-whole c = rw (c.in_ok-start.ensures.geometry, c.requires.shape, c.requires.bytes)
    (record { some = omega arith; few = omega arith; starts = omega arith; inside = omega arith; whole = omega arith; touched = omega arith; low = omega arith })
