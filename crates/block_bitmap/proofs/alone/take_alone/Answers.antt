use Rattle.pmem_words.specs.Courses.{over}
use Rattle.pmem_words.specs.PlainWords.{plain}
use Rattle.pmem_words.proofs.LeadsLemmas.{safe_by, ends_by}
use Rattle.block_bitmap.specs.TakeScript.{take_script}
use Rattle.block_bitmap.proofs.TakeOverPlain.{TakenAlone, taken_alone, bits_for}
use Rattle.block_bitmap.proofs.alone.take_alone.Goals as goal

pub drive-requires : goal.drive-requires
drive-requires c =
    rw c.new.ensures
    (safe_by take_script (over take_script plain) _ _ _ _ (taken_alone c.args.area c.args.count c.args.seat.now c.args.memory.now
    (record { room = c.requires.room; found = c.found-words.ensures.len; bitmap = bits_for c.args.area c.args.seat.now c.args.memory.now c.requires.bits }) c.requires.some))

pub returns : goal.returns
returns c =
    let alone : TakenAlone c.args.area c.args.count c.args.seat.now c.args.memory.now c.drive.result c.drive.new.seat c.drive.new.memory =
    ends_by take_script (over take_script plain) _ _ _ _ _ _ _
    (taken_alone c.args.area c.args.count c.args.seat.now c.args.memory.now
    (record { room = c.requires.room; found = c.found-words.ensures.len; bitmap = bits_for c.args.area c.args.seat.now c.args.memory.now c.requires.bits }) c.requires.some)
    (rw c.new.ensures at c.drive.ensures) in
    record { outcome = alone.outcome_is; seat = alone.seat; found = alone.found; set = alone.set; memory = alone.memory }
