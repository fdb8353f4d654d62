use Rattle.std.proofs.Common.{◌≡◌}
use Rattle.trace_reader.specs.Generator.{generated}
use Rattle.trace_reader.proofs.generator.generate.Given as goal

abbrev pub invariant-loop-before : goal.invariant-loop-before
invariant-loop-before l = l.jobs.items ≡ generated l.number l.seats l.before
