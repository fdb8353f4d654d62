use Rattle.std.proofs.Common.{◌≡◌}
use Rattle.trace_reader.specs.Generator.{rising_bytes}
use Rattle.trace_reader.proofs.generator.rising_bytes.Given as goal

abbrev pub invariant-loop-at : goal.invariant-loop-at
invariant-loop-at l = l.bytes.items ≡ rising_bytes l.first l.at
