use Rattle.pmem_words.specs.Courses.{over}
use Rattle.pmem_words.specs.PlainWords.{plain}
use Rattle.pmem_words.proofs.LeadsLemmas.{safe_by, ends_by}
use Rattle.sample_machines.specs.Carrying.{carry_script}
use Rattle.sample_machines.proofs.CarryOverPlain.{carried_alone}
use Rattle.drive_bench.proofs.closed.carry_closed.Goals as goal

pub drive-requires : goal.drive-requires
drive-requires c =
    safe_by carry_script (over carry_script plain) _ _ _ _ (carried_alone c.args.from c.args.to c.args.count c.args.seat.now c.args.memory.now c.requires.some c.ranges.count.fits c.requires.apart c.requires.room)

pub returns : goal.returns
returns c =
    (ends_by carry_script (over carry_script plain) _ _ _ _ _ _ _ (carried_alone c.args.from c.args.to c.args.count c.args.seat.now c.args.memory.now c.requires.some c.ranges.count.fits c.requires.apart c.requires.room) c.drive.ensures).carried.same_length
