use Rattle.block_bitmap.proofs.TakeWithinCore.{takes_within}
use Rattle.block_bitmap.proofs.laws.law_takes_within.Goals as goal

pub returns : goal.returns
returns c = takes_within
