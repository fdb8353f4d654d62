use Rattle.image_steps.proofs.StoreStep.{stores_mean_nothing}
use Rattle.image_steps.proofs.laws.law_stores.Goals as goal

pub returns : goal.returns
returns c = stores_mean_nothing
