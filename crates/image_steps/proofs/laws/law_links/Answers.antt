use Rattle.image_steps.proofs.LinkStep.{links_grow_the_log}
use Rattle.image_steps.proofs.laws.law_links.Goals as goal

pub returns : goal.returns
returns c = links_grow_the_log
