use Rattle.recovery.proofs.NamesLemmas.{RowTaken}
use Rattle.recovery.proofs.shares.take_run.Given as goal

abbrev pub invariant-loop-place : goal.invariant-loop-place
invariant-loop-place l = RowTaken l.fn.taken l.taken l.first l.count l.place
