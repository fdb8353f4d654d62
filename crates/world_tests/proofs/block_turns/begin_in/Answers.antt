use Rattle.world_tests.proofs.BlockLemmas.{begun_rest}
use Rattle.world_tests.proofs.block_turns.begin_in.Goals as goal

pub returns-clause-resting : goal.returns-clause-resting
returns-clause-resting c = rw (c.begin_alone.ensures, c.seat.ensures.value) (begun_rest c.args.world.now c.args.seat c.args.task c.requires.inside c.requires.task c.requires.alone c.requires.resting)
