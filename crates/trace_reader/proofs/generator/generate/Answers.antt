use Rattle.trace_reader.proofs.GeneratorLemmas.{generated_more}
use Rattle.trace_reader.proofs.generator.generate.Goals as goal

pub loop-before-preserved : goal.loop-before-preserved
loop-before-preserved c =
    generated_more c.args.number c.args.seats c.loop-before.before c.loop-before.jobs.items c.push.new.self.items c.in_ok-job.job c.loop-before.invariant c.in_ok-job.ensures c.in_ok-push.ensures.items
