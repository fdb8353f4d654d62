use Rattle.persistence.proofs.FenceLaws.{steps_keep_order}
use Rattle.persistence.proofs.laws.law_order.Goals as goal

pub returns-clause-steps : goal.returns-clause-steps
returns-clause-steps c = steps_keep_order
