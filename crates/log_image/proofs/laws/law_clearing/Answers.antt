use Rattle.log_image.proofs.ClearedImages.{clearing_keeps, tail_keeps}
use Rattle.log_image.proofs.laws.law_clearing.Goals as goal

pub returns : goal.returns
returns c = record { cleared = clearing_keeps; stopped = tail_keeps }
