use Rattle.world_tests.proofs.WriteLemmas.{begun_write_rests, begun_to_write}
use Rattle.world_tests.proofs.write_turns.begin_write.Goals as goal

pub returns-clause-resting : goal.returns-clause-resting
returns-clause-resting c = rw (c.begin_with.ensures, c.seat.ensures.value)
    (begun_write_rests c.args.world.now c.args.seat c.args.offset c.args.bytes.now c.requires.may c.requires.inside c.requires.no_marks c.requires.resting)

pub returns-clause-begun : goal.returns-clause-begun
returns-clause-begun c = rw (c.begin_with.ensures, c.seat.ensures.value)
    (begun_to_write c.args.world.now c.args.seat c.args.offset c.args.bytes.now c.requires.may c.requires.inside c.bound.ensures)
