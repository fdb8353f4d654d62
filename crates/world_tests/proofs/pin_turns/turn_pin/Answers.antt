use Rattle.std.proofs.Common.{sym, ◌∙◌}
use Rattle.crash_model.specs.Worlds.{seat_of, answer_in}
use Rattle.crash_model.proofs.Leading.{fits_led, admits_led, goes_led, turn_led, rests_led}
use Rattle.log_core.specs.Within.{no_record}
use Rattle.pins.specs.Pinning.{pin_script}
use Rattle.crash_model.specs.Led.{HasLeft}
use Rattle.world_tests.specs.PinSeats.{MayTurn}
use Rattle.world_tests.proofs.PinLemmas.{pin_one, pin_keeps}
use Rattle.world_tests.proofs.pin_turns.turn_pin.Goals as goal

pub turn-requires-clause-fits : goal.turn-requires-clause-fits
turn-requires-clause-fits c = fits_led c.args.seat pin_script no_record (λ out t v. HasLeft out t v) c.args.pin.now c.args.world.now c.requires.led

pub turn-requires-clause-admits : goal.turn-requires-clause-admits
turn-requires-clause-admits c = admits_led c.args.seat pin_script no_record (λ out t v. HasLeft out t v) c.args.pin.now c.args.world.now
    (pin_one c.args.pin.now (seat_of c.args.world.now c.args.seat) (answer_in pin_script c.args.world.now c.args.seat c.args.pin.now)) c.requires.led

pub returns-clause-keeps : goal.returns-clause-keeps
returns-clause-keeps c = rw c.turn.ensures.world (turn_led pin_script c.args.world.now c.args.seat c.args.pin.now c.requires.led MayTurn c.requires.room
    (pin_keeps c.args.pin.now (seat_of c.args.world.now c.args.seat) (answer_in pin_script c.args.world.now c.args.seat c.args.pin.now) c.args.seat))

pub returns-clause-go : goal.returns-clause-go
returns-clause-go c = λ go. rw (c.turn.ensures.machine, c.turn.ensures.world)
    (goes_led c.args.seat pin_script no_record (λ out t v. HasLeft out t v) c.args.pin.now c.args.world.now c.requires.led (sym c.turn.ensures.turn ∙ go))

pub returns-clause-done : goal.returns-clause-done
returns-clause-done c = λ head done. rw c.turn.ensures.world (rests_led pin_script c.args.world.now c.args.seat c.args.pin.now c.requires.led head (sym c.turn.ensures.turn ∙ done))
