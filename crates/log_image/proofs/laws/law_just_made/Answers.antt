use Rattle.log_image.proofs.MadeImages.{just_made_stands}
use Rattle.log_image.proofs.laws.law_just_made.Goals as goal

pub returns : goal.returns
returns c = just_made_stands
