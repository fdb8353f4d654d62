use Rattle.trace_reader.proofs.TraceLemmas.{printed_more}
use Rattle.trace_reader.proofs.printing.print_trace.Goals as goal

pub loop-job-preserved : goal.loop-job-preserved
loop-job-preserved c =
    printed_more c.args.jobs.now c.loop-job.job-index c.job-item.result c.loop-job.out.items _ c.loop-job.invariant c.loop-job-test.true c.job-item.is c.in_ok-push_line.ensures
