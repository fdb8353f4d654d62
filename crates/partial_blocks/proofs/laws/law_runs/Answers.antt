use Rattle.partial_blocks.proofs.RunForms.{one_run_each, runs_each}
use Rattle.partial_blocks.proofs.RunsChange.{composes_runs, may_compose_runs}
use Rattle.partial_blocks.proofs.laws.law_runs.Goals as goal

pub returns-clause-runs : goal.returns-clause-runs
returns-clause-runs c = composes_runs

pub returns-clause-may : goal.returns-clause-may
returns-clause-may c = may_compose_runs

pub returns-clause-one_run : goal.returns-clause-one_run
returns-clause-one_run c = one_run_each

pub returns-clause-many_runs : goal.returns-clause-many_runs
returns-clause-many_runs c = runs_each
