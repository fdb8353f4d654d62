use Rattle.log_image.proofs.OneChain.{one_chain, one_meaning}
use Rattle.log_image.proofs.laws.law_one_meaning.Goals as goal

pub returns : goal.returns
returns c = record { one_chain = one_chain; one_file = one_meaning }
