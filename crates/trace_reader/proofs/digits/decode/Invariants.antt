use Rattle.trace_reader.proofs.DigitLemmas.{DecodedTo}
use Rattle.trace_reader.proofs.digits.decode.Given as goal

abbrev pub invariant-loop-at : goal.invariant-loop-at
invariant-loop-at l = DecodedTo l.text l.into l.at l.worst
