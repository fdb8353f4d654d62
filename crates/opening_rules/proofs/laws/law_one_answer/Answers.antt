use Rattle.opening_rules.proofs.OneAnswer.{one_refusal, not_both}
use Rattle.opening_rules.proofs.WholeWords.{one_refusal_of_bytes, not_both_of_bytes}
use Rattle.opening_rules.proofs.laws.law_one_answer.Goals as goal

pub returns-clause-one_refusal : goal.returns-clause-one_refusal
returns-clause-one_refusal c = one_refusal

pub returns-clause-not_both : goal.returns-clause-not_both
returns-clause-not_both c = not_both

pub returns-clause-one_refusal_of_bytes : goal.returns-clause-one_refusal_of_bytes
returns-clause-one_refusal_of_bytes c = one_refusal_of_bytes

pub returns-clause-not_both_of_bytes : goal.returns-clause-not_both_of_bytes
returns-clause-not_both_of_bytes c = not_both_of_bytes
