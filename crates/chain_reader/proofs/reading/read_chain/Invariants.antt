use Rattle.std.proofs.Common.{◌≡◌, ◌-◌, ◌*◌, length}
use Rattle.log_image.specs.Image.{words_in, total, block_words, shape_by}
use Rattle.chain_reader.proofs.WalkLemmas.{After}
use Rattle.chain_reader.proofs.reading.read_chain.Given as goal

abbrev pub invariant-loop-next : goal.invariant-loop-next
invariant-loop-next l = record {
  walked : After l.words (shape_by l.geometry) l.chain.items l.block l.table;
  here : l.here ≡ block_words l.words (shape_by l.geometry) l.block;
  whole : length l.words ≡ total (shape_by l.geometry) * words_in (shape_by l.geometry);
  long : length l.here ≡ words_in (shape_by l.geometry);
  unit : l.table.block_bytes ≡ l.geometry.block_bytes;
}

abbrev pub decreases-loop-next : goal.decreases-loop-next
decreases-loop-next l = total (shape_by l.geometry) - length l.chain.items
