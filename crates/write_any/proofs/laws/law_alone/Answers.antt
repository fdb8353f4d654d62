use Rattle.write_any.proofs.LacksExactly.{lacks_alone}
use Rattle.write_any.proofs.WritesAlone.{writes_alone}
use Rattle.write_any.proofs.laws.law_alone.Goals as goal

pub returns-clause-serves_alone : goal.returns-clause-serves_alone
returns-clause-serves_alone c = writes_alone

pub returns-clause-lacks_exactly : goal.returns-clause-lacks_exactly
returns-clause-lacks_exactly c = lacks_alone
