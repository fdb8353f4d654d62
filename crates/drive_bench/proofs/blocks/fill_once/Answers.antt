use Rattle.pmem_words.specs.Courses.{over}
use Rattle.pmem_words.specs.PlainWords.{plain}
use Rattle.pmem_words.proofs.LeadsLemmas.{safe_by, ends_by}
use Rattle.block_bitmap.specs.Filling.{fill_script}
use Rattle.drive_bench.proofs.BlockLemmas.{fill_leads}
use Rattle.drive_bench.proofs.blocks.fill_once.Goals as goal

pub drive-requires : goal.drive-requires
drive-requires c = rw c.new.ensures (safe_by fill_script (over fill_script plain) _ _ _ _ (fill_leads c.args.seat.now c.args.memory.now c.requires))

pub returns : goal.returns
returns c = ends_by fill_script (over fill_script plain) _ _ _ _ _ _ _ (fill_leads c.args.seat.now c.args.memory.now c.requires) (rw c.new.ensures at c.drive.ensures)
