use Rattle.std.proofs.Common.{refl}
use Rattle.crash_model.proofs.Leading.{fits_led, turn_led, rests_led}
use Rattle.log_core.specs.Within.{no_record}
use Rattle.pins.specs.Unpinning.{unpin_script, unpin_of}
use Rattle.crash_model.specs.Led.{HasLeft}
use Rattle.world_tests.specs.PinSeats.{MayTurn}
use Rattle.world_tests.proofs.PinLemmas.{unpin_led}
use Rattle.world_tests.proofs.pin_turns.unpin_in.Goals as goal

pub turn-requires-clause-fits : goal.turn-requires-clause-fits
turn-requires-clause-fits c = fits_led c.args.seat unpin_script no_record (λ out t v. HasLeft out t v) unpin_of c.args.world.now
    (unpin_led c.args.world.now c.args.seat c.requires.inside c.requires.resting c.requires.may)

pub returns-clause-resting : goal.returns-clause-resting
returns-clause-resting c = rw c.turn.ensures.world (rests_led unpin_script c.args.world.now c.args.seat unpin_of (unpin_led c.args.world.now c.args.seat c.requires.inside c.requires.resting c.requires.may) tt refl)

pub returns-clause-keeps : goal.returns-clause-keeps
returns-clause-keeps c = rw c.turn.ensures.world (turn_led unpin_script c.args.world.now c.args.seat unpin_of (unpin_led c.args.world.now c.args.seat c.requires.inside c.requires.resting c.requires.may) MayTurn c.requires.room
    (λ may. record { number = may.number; no_sync = may.no_sync }))
