use Rattle.std.proofs.Common.{◌≡◌}
use Rattle.log_image.specs.Entries.{direct_meaning}
use Rattle.chain_reader.proofs.SlotLemmas.{MapTaken}
use Rattle.chain_reader.proofs.blocks.take_in_kept.Given as goal

abbrev pub invariant-loop-word : goal.invariant-loop-word
invariant-loop-word l = record {
  taken : MapTaken l.fn.table l.table direct_meaning l.slots l.word-index;
  size : l.table.size ≡ l.fn.table.size;
  unit : l.table.block_bytes ≡ l.fn.table.block_bytes;
}
