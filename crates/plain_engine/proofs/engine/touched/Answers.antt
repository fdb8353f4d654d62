use Rattle.plain_engine.proofs.SpaceLemmas.{touched_from_place}
use Rattle.plain_engine.proofs.engine.touched.Goals as goal

pub returns : goal.returns
returns c = rw c.from-block.ensures (touched_from_place c.args.block_bytes c.args.offset c.args.count c.requires.block c.requires.some)
