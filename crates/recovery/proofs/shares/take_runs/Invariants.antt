use Rattle.log_image.specs.Image.{shape_by}
use Rattle.recovery.proofs.NamesLemmas.{RunsTaken}
use Rattle.recovery.proofs.shares.take_runs.Given as goal

abbrev pub invariant-loop-run : goal.invariant-loop-run
invariant-loop-run l = RunsTaken (shape_by l.fn._geometry) l.fn.taken l.taken l.runs l.run-index
