use Rattle.std.proofs.Common.{◌≡◌, take}
use Rattle.trace_reader.specs.TraceText.{trace_text}
use Rattle.trace_reader.proofs.printing.print_trace.Given as goal

abbrev pub invariant-loop-job : goal.invariant-loop-job
invariant-loop-job l = l.out.items ≡ trace_text (take l.job-index l.jobs)
