use Rattle.pmem_words.specs.Courses.{over}
use Rattle.pmem_words.specs.PlainWords.{plain}
use Rattle.pmem_words.proofs.LeadsLemmas.{safe_by, ends_by}
use Rattle.sample_machines.specs.Laying.{lay_script}
use Rattle.sample_machines.proofs.LayOverPlain.{laid_alone}
use Rattle.sample_machines.proofs.alone.lay_alone.Goals as goal

pub drive-requires : goal.drive-requires
drive-requires c =
    safe_by lay_script (over lay_script plain) _ _ _ _ (laid_alone c.args.first c.args.seat.now c.args.memory.now c.requires.some c.requires.few c.requires.room)

pub returns-clause-seat : goal.returns-clause-seat
returns-clause-seat c =
    (ends_by lay_script (over lay_script plain) _ _ _ _ _ _ _ (laid_alone c.args.first c.args.seat.now c.args.memory.now c.requires.some c.requires.few c.requires.room) c.drive.ensures).seat

pub returns-clause-others : goal.returns-clause-others
returns-clause-others c =
    (ends_by lay_script (over lay_script plain) _ _ _ _ _ _ _ (laid_alone c.args.first c.args.seat.now c.args.memory.now c.requires.some c.requires.few c.requires.room) c.drive.ensures).others

pub returns-clause-laid : goal.returns-clause-laid
returns-clause-laid c =
    (ends_by lay_script (over lay_script plain) _ _ _ _ _ _ _ (laid_alone c.args.first c.args.seat.now c.args.memory.now c.requires.some c.requires.few c.requires.room) c.drive.ensures).laid
