use Rattle.partial_blocks.proofs.Commits.{commits_run, commits_runs}
use Rattle.partial_blocks.proofs.laws.law_commits.Goals as goal

pub returns-clause-run : goal.returns-clause-run
returns-clause-run c = commits_run

pub returns-clause-runs : goal.returns-clause-runs
returns-clause-runs c = commits_runs
