use Rattle.world_tests.proofs.LookLemmas.{begun_look_rests, begun_to_look}
use Rattle.world_tests.proofs.look_turns.begin_look.Goals as goal

pub returns-clause-resting : goal.returns-clause-resting
returns-clause-resting c = rw (c.begin_alone.ensures, c.task_of.ensures, c.seat.ensures.value)
    (begun_look_rests c.args.world.now c.args.seat c.args.query c.requires.may c.requires.inside c.requires.no_marks c.requires.resting)

pub returns-clause-begun : goal.returns-clause-begun
returns-clause-begun c = rw (c.begin_alone.ensures, c.task_of.ensures, c.seat.ensures.value)
    (begun_to_look c.args.world.now c.args.seat c.args.query c.requires.may c.requires.inside c.requires.short)
