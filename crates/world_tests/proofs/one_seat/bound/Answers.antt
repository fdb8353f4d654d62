use Rattle.std.proofs.Common.{arith}
use Rattle.world_tests.proofs.one_seat.bound.Goals as goal

pub returns : goal.returns
returns c = λ place. omega (arith, c.type_inv.words place)
