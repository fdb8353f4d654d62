use Rattle.std.proofs.Common.{arith}
use Rattle.plain_engine.proofs.WordLemmas.{whole_back}
use Rattle.plain_engine.proofs.stores.whole_word.Goals as goal

pub returns : goal.returns
returns c = whole_back c.args.bytes.now c.args.at c.read_u64.result c.requires (λ i. omega (arith, c.type_inv.bytes i)) c.read_u64.ensures
