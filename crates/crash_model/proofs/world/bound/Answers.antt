use Rattle.std.proofs.Common.{arith}
use Rattle.crash_model.proofs.world.bound.Goals as goal

pub returns : goal.returns
returns c = λ place. omega (arith, c.type_inv.words place)
