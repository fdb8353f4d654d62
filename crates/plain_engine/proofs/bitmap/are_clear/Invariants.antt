use Rattle.plain_engine.specs.Clear.{AllClear}
use Rattle.plain_engine.proofs.bitmap.are_clear.Given as goal

abbrev pub invariant-loop-block : goal.invariant-loop-block
invariant-loop-block l = AllClear l.taken l.from l.block
