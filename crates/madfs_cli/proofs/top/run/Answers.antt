-- The words ask one thing.
use Rattle.madfs_cli.specs.Commands.{request_of}
use Rattle.madfs_cli.proofs.RequestLemmas.{outcome_of}
use Rattle.madfs_cli.proofs.top.run.Goals as goal

pub returns-in-Some-clause-outcome : goal.returns-in-Some-clause-outcome
returns-in-Some-clause-outcome g c = λ request asks. outcome_of c.args.words.now (request_of c.in-Some.command) request _ c.run_command.result c.in-Some.ensures asks c.run_command.ensures.outcome
