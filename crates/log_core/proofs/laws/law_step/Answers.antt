use Rattle.log_core.proofs.starts.StartMeets.{start_meets}
use Rattle.log_core.proofs.kinds.RunHolds.{step_keeps, run_from}
use Rattle.log_core.proofs.laws.law_step.Goals as goal

pub returns : goal.returns
returns c = record { each_step = step_keeps; every_run = λ o steps start run. run_from o steps (start_meets o start) run }
