use Rattle.log_core.proofs.starts.StartMeets.{start_meets}
use Rattle.log_core.proofs.laws.law_start.Goals as goal

pub returns : goal.returns
returns c = start_meets
