use Rattle.std.proofs.Common.{arith, ℕ, sym, subst}
use Rattle.world_tests.specs.OneSeat.{FillsBlocks}
use Rattle.world_tests.proofs.one_seat_tests.writing_two.Goals as goal

pub writing_on-requires-clause-whole : goal.writing_on-requires-clause-whole
writing_on-requires-clause-whole c = rw c.requires
    (record { some = omega arith; few = omega arith; starts = omega arith; inside = omega arith; whole = omega arith; touched = omega arith; low = omega arith })
