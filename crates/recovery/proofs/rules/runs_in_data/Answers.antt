use Rattle.std.proofs.Common.{◌+◌, false}
use Rattle.log_image.specs.Image.{shape_by}
use Rattle.recovery.proofs.RulesLemmas.{data_more, data_not}
use Rattle.recovery.proofs.rules.runs_in_data.Goals as goal

pub returns-then-not-are_in_data : goal.returns-then-not-are_in_data
returns-then-not-are_in_data c =
    data_not (shape_by c.args.geometry) c.args.runs.now (c.loop-run.run-index + 1)
    (data_more (shape_by c.args.geometry) c.args.runs.now c.loop-run.run-index false c.loop-run.invariant c.loop-run-test.true (cc))
