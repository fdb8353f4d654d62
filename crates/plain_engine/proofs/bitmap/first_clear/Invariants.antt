use Rattle.plain_engine.specs.Clear.{AllTaken}
use Rattle.plain_engine.proofs.bitmap.first_clear.Given as goal

abbrev pub invariant-loop-block : goal.invariant-loop-block
invariant-loop-block l = AllTaken l.taken l.from l.block
