use Rattle.std.proofs.Common.{arith}
use Rattle.world_tests.proofs.BlockLemmas.{word_rest}
use Rattle.world_tests.proofs.block_turns.set_in.Goals as goal

pub returns-clause-resting : goal.returns-clause-resting
returns-clause-resting c = rw (c.set_word.ensures, c.seat.ensures.value)
    (word_rest c.args.world.now c.args.seat c.args.word c.args.value c.requires.inside c.requires.owned c.requires.word (omega (arith, c.ranges.value)) c.requires.resting)
