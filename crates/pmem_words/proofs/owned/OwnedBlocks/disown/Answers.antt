use Rattle.std.proofs.Common.{arith, rules}
use Rattle.pmem_words.proofs.PlaceLemmas.{left_out}
use Rattle.pmem_words.proofs.owned.OwnedBlocks.disown.Goals as goal

pub invariant_of-self : goal.invariant_of-self
invariant_of-self c = (
  omega arith,
  omega arith,
  left_out _ _ _ _ _ _ (search rules) c.remove.ensures.len c.self.invariant.2 c.remove_words.ensures.len,
)
