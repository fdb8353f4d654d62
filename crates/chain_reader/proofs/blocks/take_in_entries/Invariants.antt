use Rattle.std.proofs.Common.{◌≡◌}
use Rattle.log_image.specs.Entries.{meaning}
use Rattle.log_image.specs.Image.{shape_by}
use Rattle.chain_reader.proofs.SlotLemmas.{MapTaken, SizeTaken}
use Rattle.chain_reader.proofs.blocks.take_in_entries.Given as goal

abbrev pub invariant-loop-word : goal.invariant-loop-word
invariant-loop-word l = record {
  taken : MapTaken l.fn.table l.table (meaning l.words (shape_by l.geometry)) l.entries l.word-index;
  sized : SizeTaken l.fn.table l.table (shape_by l.geometry) (meaning l.words (shape_by l.geometry)) l.entries l.word-index;
  unit : l.table.block_bytes ≡ l.fn.table.block_bytes;
}
