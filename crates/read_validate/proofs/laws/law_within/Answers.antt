use Rattle.read_validate.proofs.LookServes.{looks_within}
use Rattle.read_validate.proofs.LookSeen.{looks_see, looks_record}
use Rattle.read_validate.proofs.laws.law_within.Goals as goal

pub returns-clause-looks : goal.returns-clause-looks
returns-clause-looks c = looks_within

pub returns-clause-sees : goal.returns-clause-sees
returns-clause-sees c = looks_see

pub returns-clause-records : goal.returns-clause-records
returns-clause-records c = looks_record
