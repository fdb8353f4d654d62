use Rattle.std.proofs.Common.{◌%◌, arith}
use Rattle.std.proofs.Math.Nat.{mod-lt}
use Rattle.plain_engine.proofs.BitLemmas.{bit_set, one_shifted}
use Rattle.plain_engine.proofs.bitmap.mark.Goals as goal

pub returns : goal.returns
returns c = λ other. rw (one_shifted (c.args.block % 64) (mod-lt c.args.block (omega arith))) (bit_set c.args.taken.now c.args.block other (omega (arith, c.requires)))
