use Rattle.plain_engine.proofs.AlikeLemmas.{runs_lack_alike}
use Rattle.plain_engine.proofs.laws.law_runs.Goals as goal

pub returns : goal.returns
returns c = runs_lack_alike
