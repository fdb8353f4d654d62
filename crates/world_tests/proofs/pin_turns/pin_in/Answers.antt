use Rattle.std.proofs.Common.{sym, subst}
use Rattle.crash_model.specs.Led.{IsLed, HasLeft}
use Rattle.log_core.specs.Within.{no_record}
use Rattle.pins.specs.declared.pin.Pin.{Pin}
use Rattle.pins.specs.Pinning.{pin_script}
use Rattle.world_tests.proofs.PinLemmas.{pin_led}
use Rattle.world_tests.proofs.pin_turns.pin_in.Goals as goal

pub turn_pin-requires-clause-led : goal.turn_pin-requires-clause-led
turn_pin-requires-clause-led c = subst (λ (m : Pin). IsLed c.args.seat pin_script no_record (λ out t v. HasLeft out t v) m c.args.world.now) (sym c.new-pin.ensures)
    (pin_led c.args.world.now c.args.seat c.requires.inside c.requires.resting c.requires.may)
