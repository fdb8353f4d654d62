use Rattle.log_blocks.proofs.GrowWithin.{grows_within}
use Rattle.log_blocks.proofs.OfferWithin.{offers_within}
use Rattle.log_blocks.proofs.SealWithin.{seals_within}
use Rattle.log_blocks.proofs.WalkServes.{walks_within}
use Rattle.log_blocks.proofs.WalkOn.{walks_on_within}
use Rattle.log_blocks.proofs.laws.law_within.Goals as goal

pub returns : goal.returns
returns c = record { walks = walks_within; walks_on = walks_on_within; offers = offers_within; grows = grows_within; seals = seals_within }
