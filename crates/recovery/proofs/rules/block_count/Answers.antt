use Rattle.std.proofs.Common.{◌+◌, ◌∙◌, ap, ℕ, arith}
use Rattle.recovery.proofs.RulesLemmas.{count_more}
use Rattle.recovery.proofs.rules.block_count.Goals as goal

pub loop-run-preserved : goal.loop-run-preserved
loop-run-preserved c = record {
  value = ap (λ (n : ℕ). c.loop-run.count + n) c.of-count.ensures ∙ count_more c.args.runs.now c.loop-run.run-index c.loop-run.count c.loop-run.invariant.value c.loop-run-test.true;
  small = omega arith;
}
