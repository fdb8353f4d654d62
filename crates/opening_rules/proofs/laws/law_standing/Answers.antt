use Rattle.opening_rules.proofs.Standing.{standing_is_accepted}
use Rattle.opening_rules.proofs.laws.law_standing.Goals as goal

pub returns : goal.returns
returns c = standing_is_accepted
