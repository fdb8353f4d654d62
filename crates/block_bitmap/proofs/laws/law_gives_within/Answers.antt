use Rattle.block_bitmap.proofs.GiveWithinCore.{gives_within}
use Rattle.block_bitmap.proofs.laws.law_gives_within.Goals as goal

pub returns : goal.returns
returns c = gives_within
