use Rattle.persistence.proofs.ChoiceLemmas.{chosen_survives}
use Rattle.persistence.proofs.laws.law_chosen.Goals as goal

pub returns : goal.returns
returns c = chosen_survives
