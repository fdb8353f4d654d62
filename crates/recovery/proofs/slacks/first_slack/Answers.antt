-- Each mapped virtual block from the end of the file on is looked at, in ascending order.
use Rattle.std.proofs.Common.{refl, arith}
use Rattle.log_image.specs.Image.{shape_by}
use Rattle.recovery.proofs.SlackLemmas.{run_mapped, slack_before_run, slack_up_to_run, slack_nowhere}
use Rattle.recovery.proofs.slacks.first_slack.Goals as goal

pub returns-then-has_slack : goal.returns-then-has_slack
returns-then-has_slack c = λ entries maps.
    record {
      virt = c.in-Some.run'.virt;
      here = rw c.size-in-Some.ensures at (c.if-has_slack.ensures.yes entries (run_mapped c.args.table.now entries c.mapped.from c.in-Some.run' maps c.in-Some.ensures.run) refl);
      before = slack_before_run c.args.words.now (shape_by c.args.geometry) c.args.table.now entries c.args.table.now.size c.mapped.from c.in-Some.run' maps c.in-Some.ensures.run (c.mapped.invariant.before entries maps);
    }

pub mapped-preserved : goal.mapped-preserved
mapped-preserved c = record {
  small = omega (arith, c.in-Some.ensures.run.in_file, c.in-Some.ensures.run.run.some);
  before = λ entries maps. rw c.from-from.ensures (slack_up_to_run c.args.words.now (shape_by c.args.geometry) c.args.table.now entries c.args.table.now.size c.mapped.from c.in-Some.run' maps c.in-Some.ensures.run (c.mapped.invariant.before entries maps)
      (λ other. rw c.size-in-Some.ensures at (c.if-has_slack.ensures.no entries other (run_mapped c.args.table.now entries c.mapped.from c.in-Some.run' maps c.in-Some.ensures.run) refl)));
}

pub returns : goal.returns
returns c = λ entries maps.
    slack_nowhere c.args.words.now (shape_by c.args.geometry) c.args.table.now entries c.args.table.now.size c.mapped.from maps (c.in_default.ensures.none.0 refl) (c.mapped.invariant.before entries maps)
