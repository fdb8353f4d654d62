use Rattle.std.proofs.Common.{◌∙◌, refl, arith}
use Rattle.log_image.specs.Entries.{meaning}
use Rattle.log_image.specs.Format.{is_log_entry}
use Rattle.log_image.specs.Image.{shape_by}
use Rattle.chain_reader.proofs.RunsLemmas.{all_at}
use Rattle.chain_reader.proofs.SlotLemmas.{one_mapped, one_sized}
use Rattle.chain_reader.proofs.blocks.take_in_entries.Goals as goal

pub take_in-requires-clause-entry : goal.take_in-requires-clause-entry
take_in-requires-clause-entry c =
    all_at (is_log_entry c.args.words.now (shape_by c.args.geometry)) c.args.entries.now c.loop-word.word-index c.requires.each (omega arith)

pub loop-word-preserved : goal.loop-word-preserved
loop-word-preserved c = record {
  taken = one_mapped c.args.table.now c.loop-word.table c.take_in.new.table (meaning c.args.words.now (shape_by c.args.geometry)) c.args.entries.now c.loop-word.word-index _ (omega arith) refl c.loop-word.invariant.taken c.take_in.ensures.map;
  sized = one_sized c.args.table.now c.loop-word.table c.take_in.new.table (shape_by c.args.geometry) (meaning c.args.words.now (shape_by c.args.geometry)) c.args.entries.now c.loop-word.word-index _ (omega arith) refl c.loop-word.invariant.sized c.take_in.ensures.size;
  unit = c.take_in.ensures.unit ∙ c.loop-word.invariant.unit;
}
