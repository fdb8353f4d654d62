use Rattle.read_validate.proofs.LookAlone.{looks_alone}
use Rattle.read_validate.proofs.laws.law_alone.Goals as goal

pub returns : goal.returns
returns c = looks_alone
