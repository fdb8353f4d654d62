use Rattle.write_any.proofs.GiveOne.{gives_one_within}
use Rattle.write_any.proofs.WriteServes.{writes_whole, loses_few_whole, loses_few_whole_from_begin}
use Rattle.write_any.proofs.laws.law_within.Goals as goal

pub returns-clause-gives_one : goal.returns-clause-gives_one
returns-clause-gives_one c = gives_one_within

pub returns-clause-writes : goal.returns-clause-writes
returns-clause-writes c = writes_whole

pub returns-clause-loses_few : goal.returns-clause-loses_few
returns-clause-loses_few c = loses_few_whole

pub returns-clause-loses_few_from_begin : goal.returns-clause-loses_few_from_begin
returns-clause-loses_few_from_begin c = loses_few_whole_from_begin
