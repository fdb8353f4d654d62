use Rattle.std.proofs.Common.{arith}
use Rattle.trace_reader.proofs.DigitLemmas.{decoded_more, decoded_yes, decoded_no}
use Rattle.trace_reader.proofs.digits.decode.Goals as goal

pub loop-at-preserved : goal.loop-at-preserved
loop-at-preserved c =
    decoded_more c.args.text.now c.loop-at.into c.loop-at.at c.value_of-high.result c.value_of-low.result c.loop-at.worst c.max-worst.result (omega arith) (omega arith) c.value_of-high.ensures c.value_of-low.ensures (omega (arith, c.max.ensures, c.max-worst.ensures)) c.loop-at.invariant

pub returns-clause-yes : goal.returns-clause-yes
returns-clause-yes c = decoded_yes c.args.text.now c.loop-at.into c.loop-at.at c.loop-at.worst (omega arith) (omega arith) c.loop-at.invariant

pub returns-clause-no : goal.returns-clause-no
returns-clause-no c = decoded_no c.args.text.now c.loop-at.into c.loop-at.at c.loop-at.worst c.loop-at.invariant
