use Rattle.pmem_words.specs.Courses.{over}
use Rattle.pmem_words.specs.PlainWords.{plain}
use Rattle.pmem_words.proofs.LeadsLemmas.{safe_by, ends_by}
use Rattle.sample_machines.specs.Posting.{post_script}
use Rattle.sample_machines.proofs.PostOverPlain.{post_over_plain}
use Rattle.sample_machines.proofs.alone.post_alone.Goals as goal

pub drive-requires : goal.drive-requires
drive-requires c =
    rw c.new.ensures (safe_by post_script (over post_script plain) _ _ _ _ (post_over_plain c.args.first c.args.value c.args.limit c.args.seat.now c.args.memory.now c.requires))

pub returns : goal.returns
returns c =
    ends_by post_script (over post_script plain) _ _ _ _ _ _ _ (post_over_plain c.args.first c.args.value c.args.limit c.args.seat.now c.args.memory.now c.requires) (rw c.new.ensures at c.drive.ensures)
