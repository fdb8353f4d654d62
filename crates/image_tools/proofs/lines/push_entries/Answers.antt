use Rattle.std.proofs.Common.{arith}
use Rattle.log_image.specs.Format.{is_log_entry}
use Rattle.log_image.specs.Image.{shape_by}
use Rattle.chain_reader.proofs.RunsLemmas.{all_at}
use Rattle.image_tools.proofs.lines.push_entries.Goals as goal

pub push_entry-requires-clause-entry : goal.push_entry-requires-clause-entry
push_entry-requires-clause-entry c = all_at (is_log_entry c.args.words.now (shape_by c.args.geometry)) c.args.entries.now c.loop-index.index c.requires.each (omega arith)
