use Rattle.std.proofs.Common.{length}
use Rattle.trace_reader.specs.Reading.{IsReadSoFar}
use Rattle.trace_reader.proofs.reading.read_trace.Given as goal

abbrev pub invariant-lines : goal.invariant-lines
invariant-lines l = IsReadSoFar l.seats l.bytes l.jobs.items l.counts.items l.total l.next l.rest

abbrev pub decreases-lines : goal.decreases-lines
decreases-lines l = length l.rest
