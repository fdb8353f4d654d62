use Rattle.block_bitmap.proofs.FillWithinCore.{fills_within, filled_are_certain}
use Rattle.block_bitmap.proofs.laws.law_fills_within.Goals as goal

pub returns : goal.returns
returns c = record { fills = fills_within; certain = filled_are_certain }
