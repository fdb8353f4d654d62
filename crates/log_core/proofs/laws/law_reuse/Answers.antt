use Rattle.log_core.proofs.following.Reuse.{none_reused}
use Rattle.log_core.proofs.laws.law_reuse.Goals as goal

pub returns : goal.returns
returns c = none_reused
