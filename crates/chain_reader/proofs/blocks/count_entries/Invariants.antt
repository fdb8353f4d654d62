use Rattle.chain_reader.proofs.SlotLemmas.{AreEntries}
use Rattle.chain_reader.proofs.blocks.count_entries.Given as goal

abbrev pub invariant-loop-index : goal.invariant-loop-index
invariant-loop-index l = AreEntries l.slots l.index
