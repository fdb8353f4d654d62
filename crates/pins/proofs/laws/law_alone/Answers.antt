use Rattle.pins.proofs.PinAlone.{pins_alone}
use Rattle.pins.proofs.laws.law_alone.Goals as goal

pub returns : goal.returns
returns c = pins_alone
