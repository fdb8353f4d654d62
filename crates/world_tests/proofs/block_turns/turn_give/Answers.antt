use Rattle.std.proofs.Common.{refl, sym, ◌∙◌}
use Rattle.crash_model.specs.Worlds.{seat_of, answer_in, turned}
use Rattle.crash_model.specs.Led.{HasLeft}
use Rattle.crash_model.proofs.Leading.{fits_led, admits_led, goes_led, inside_led, turn_led, rests_led}
use Rattle.log_core.specs.Within.{no_record}
use Rattle.block_bitmap.specs.Giving.{give_script}
use Rattle.world_tests.specs.AloneSeats.{RunsAlone}
use Rattle.world_tests.proofs.BlockLemmas.{turn_alone}
use Rattle.world_tests.proofs.Gives.{give_one, give_keeps, given_all}
use Rattle.world_tests.proofs.block_turns.turn_give.Goals as goal

pub turn-requires-clause-fits : goal.turn-requires-clause-fits
turn-requires-clause-fits c = fits_led c.args.seat give_script no_record (λ out t v. HasLeft out t v) c.args.give.now c.args.world.now c.requires.led

pub turn-requires-clause-admits : goal.turn-requires-clause-admits
turn-requires-clause-admits c = admits_led c.args.seat give_script no_record (λ out t v. HasLeft out t v) c.args.give.now c.args.world.now
    (give_one c.args.give.now (seat_of c.args.world.now c.args.seat)) c.requires.led

pub returns-clause-keeps : goal.returns-clause-keeps
returns-clause-keeps c = rw c.turn.ensures.world (turn_led give_script c.args.world.now c.args.seat c.args.give.now c.requires.led RunsAlone c.requires.room
    (give_keeps c.args.give.now (seat_of c.args.world.now c.args.seat) (answer_in give_script c.args.world.now c.args.seat c.args.give.now) c.args.seat))

pub returns-clause-alone : goal.returns-clause-alone
returns-clause-alone c = λ alone. rw c.turn.ensures.world (turn_alone c.args.world.now (turned give_script c.args.world.now c.args.seat c.args.give.now) c.args.seat
    (inside_led c.args.seat give_script no_record (λ out t v. HasLeft out t v) c.args.give.now c.args.world.now c.requires.led)
    (turn_led give_script c.args.world.now c.args.seat c.args.give.now c.requires.led RunsAlone c.requires.room
    (give_keeps c.args.give.now (seat_of c.args.world.now c.args.seat) (answer_in give_script c.args.world.now c.args.seat c.args.give.now) c.args.seat))
    refl alone)

pub returns-clause-go : goal.returns-clause-go
returns-clause-go c = λ go. rw (c.turn.ensures.machine, c.turn.ensures.world)
    (goes_led c.args.seat give_script no_record (λ out t v. HasLeft out t v) c.args.give.now c.args.world.now c.requires.led (sym c.turn.ensures.turn ∙ go))

pub returns-clause-done : goal.returns-clause-done
returns-clause-done c = λ out done. rw c.turn.ensures.world (rests_led give_script c.args.world.now c.args.seat c.args.give.now c.requires.led out (sym c.turn.ensures.turn ∙ done))

pub returns-clause-given : goal.returns-clause-given
returns-clause-given c = λ out done. rw c.turn.ensures.world (given_all c.args.give.now c.args.world.now c.args.seat out
    (inside_led c.args.seat give_script no_record (λ out t v. HasLeft out t v) c.args.give.now c.args.world.now c.requires.led) (sym c.turn.ensures.turn ∙ done))
