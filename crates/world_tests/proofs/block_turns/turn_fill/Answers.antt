use Rattle.std.proofs.Common.{sym, ◌∙◌}
use Rattle.crash_model.specs.Worlds.{seat_of, answer_in, turned}
use Rattle.crash_model.specs.Led.{HasLeft}
use Rattle.crash_model.proofs.Leading.{fits_led, admits_led, goes_led, turn_led, rests_led}
use Rattle.log_core.specs.Within.{no_record}
use Rattle.block_bitmap.specs.Filling.{fill_script}
use Rattle.world_tests.specs.AloneSeats.{RunsAlone}
use Rattle.world_tests.proofs.BlockLemmas.{turn_alone_but, all_alone}
use Rattle.world_tests.proofs.Fills.{fill_one, fill_keeps, fill_fenced}
use Rattle.world_tests.proofs.block_turns.turn_fill.Goals as goal

pub turn-requires-clause-fits : goal.turn-requires-clause-fits
turn-requires-clause-fits c = fits_led c.args.seat fill_script no_record (λ out t v. HasLeft out t v) c.args.fill.now c.args.world.now c.requires.led

pub turn-requires-clause-admits : goal.turn-requires-clause-admits
turn-requires-clause-admits c = admits_led c.args.seat fill_script no_record (λ out t v. HasLeft out t v) c.args.fill.now c.args.world.now
    (fill_one c.args.fill.now (seat_of c.args.world.now c.args.seat) (answer_in fill_script c.args.world.now c.args.seat c.args.fill.now)) c.requires.led

pub returns-clause-keeps : goal.returns-clause-keeps
returns-clause-keeps c = rw c.turn.ensures.world (turn_led fill_script c.args.world.now c.args.seat c.args.fill.now c.requires.led RunsAlone c.requires.room
    (fill_keeps c.args.fill.now (seat_of c.args.world.now c.args.seat) (answer_in fill_script c.args.world.now c.args.seat c.args.fill.now) c.args.seat))

pub returns-clause-alone : goal.returns-clause-alone
returns-clause-alone c = λ alone. rw c.turn.ensures.world (turn_alone_but c.args.world.now (turned fill_script c.args.world.now c.args.seat c.args.fill.now) c.args.seat
    (turn_led fill_script c.args.world.now c.args.seat c.args.fill.now c.requires.led RunsAlone c.requires.room
    (fill_keeps c.args.fill.now (seat_of c.args.world.now c.args.seat) (answer_in fill_script c.args.world.now c.args.seat c.args.fill.now) c.args.seat)) alone)

pub returns-clause-go : goal.returns-clause-go
returns-clause-go c = λ go. rw (c.turn.ensures.machine, c.turn.ensures.world)
    (goes_led c.args.seat fill_script no_record (λ out t v. HasLeft out t v) c.args.fill.now c.args.world.now c.requires.led (sym c.turn.ensures.turn ∙ go))

pub returns-clause-done : goal.returns-clause-done
returns-clause-done c = λ out done. rw c.turn.ensures.world (rests_led fill_script c.args.world.now c.args.seat c.args.fill.now c.requires.led out (sym c.turn.ensures.turn ∙ done))

pub returns-clause-fenced : goal.returns-clause-fenced
returns-clause-fenced c = λ out done alone. rw c.turn.ensures.world (all_alone (turned fill_script c.args.world.now c.args.seat c.args.fill.now) c.args.seat
    (turn_alone_but c.args.world.now (turned fill_script c.args.world.now c.args.seat c.args.fill.now) c.args.seat
    (turn_led fill_script c.args.world.now c.args.seat c.args.fill.now c.requires.led RunsAlone c.requires.room
    (fill_keeps c.args.fill.now (seat_of c.args.world.now c.args.seat) (answer_in fill_script c.args.world.now c.args.seat c.args.fill.now) c.args.seat)) alone)
    (fill_fenced c.args.fill.now c.args.world.now c.args.seat out (sym c.turn.ensures.turn ∙ done)))
