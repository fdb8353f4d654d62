use Rattle.std.proofs.Common.{arith, ◌∙◌}
use Rattle.io_ends.proofs.GivingLemmas.{gives-next, next-fits}
use Rattle.io_ends.proofs.sinks.write_all.Goals as goal

pub loop-at-preserved : goal.loop-at-preserved
loop-at-preserved g c =
    let so_far = c.loop-at.invariant in
    let step = c.in-Took.ensures in (
      next-fits c.args.bytes.now c.loop-at.at c.in-Took.count so_far.0 step.count.1,
      gives-next (g.K.Sink.written c.args.sink.now) (g.K.Sink.written c.loop-at.sink) (g.K.Sink.written c.write.new.self) c.args.bytes.now c.loop-at.at c.in-Took.count so_far.1 step.bytes,
      omega (arith, so_far.2, step.later),
      λ exact. step.cause exact ∙ so_far.3 exact,
      λ empty. absurd (omega (arith, c.loop-at-test.true, empty)),
    )
