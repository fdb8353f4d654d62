use Rattle.history_report.proofs.LegalLemmas.{touched_of}
use Rattle.history_report.proofs.legality.touched.Goals as goal

pub returns : goal.returns
returns c = rw (c.from-block.ensures, c.block_bytes.ensures.value) (touched_of c.args.geometry.now.block_bytes c.args.offset c.args.count (rw c.block_bytes.ensures.value at c.block_bytes.ensures.allowed) c.requires.some)
