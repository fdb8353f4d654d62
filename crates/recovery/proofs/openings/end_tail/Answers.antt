-- The chain's last block is the one in the last place.
use Rattle.std.proofs.Common.{◌∙◌}
use Rattle.log_image.specs.Header.{head_block}
use Rattle.log_image.specs.Image.{shape_by}
use Rattle.recovery.specs.Openings.{as_tail}
use Rattle.recovery.proofs.OpeningLemmas.{tail_by}
use Rattle.recovery.proofs.openings.end_tail.Goals as goal

pub returns : goal.returns
returns c =
    tail_by c.args.words.now (shape_by c.args.geometry) c.args.reading.now.chain.items (head_block c.args.words.now) c.requires.rest c.len.result c.index-last.result.now c.block_at.result.now (as_tail c.tail_in.result)
    c.requires.ends.chain (c.len.ensures ∙ c.args.reading.now.chain.ok.0) c.index-last.ensures (rw c.from.ensures at c.block_at.ensures.value) c.requires.shape c.tail_in.ensures
