use Rattle.opening_rules.proofs.Accepted.{accepted_stands}
use Rattle.opening_rules.proofs.laws.law_accepted.Goals as goal

pub returns : goal.returns
returns c = accepted_stands
