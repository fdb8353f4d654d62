use Rattle.chain_reader.proofs.SlotLemmas.{AreOpen}
use Rattle.chain_reader.proofs.blocks.is_closed_by.Given as goal

abbrev pub invariant-loop-slot : goal.invariant-loop-slot
invariant-loop-slot l = AreOpen l.slots l.slot-index
