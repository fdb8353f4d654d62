use Rattle.std.proofs.Common.{◌∙◌}
use Rattle.world_tests.proofs.PinLemmas.{pin_one, scan_one}
use Rattle.crash_model.specs.Led.{Rests}
use Rattle.world_tests.proofs.PairLemmas.{Pins, Scans, both_begin, to_one, to_zero, both_rest}
use Rattle.world_tests.proofs.pair_turns.pin_and_scan.Goals as goal

pub turn_among-requires-clause-one : goal.turn_among-requires-clause-one
turn_among-requires-clause-one c = pin_one

pub turn_among-requires-2-clause-one : goal.turn_among-requires-2-clause-one
turn_among-requires-2-clause-one c = λ m s a. scan_one m s

pub turn_among-requires-3-clause-one : goal.turn_among-requires-3-clause-one
turn_among-requires-3-clause-one c = pin_one

pub turn_among-requires-4-clause-one : goal.turn_among-requires-4-clause-one
turn_among-requires-4-clause-one c = λ m s a. scan_one m s

pub turn_among-requires-5-clause-one : goal.turn_among-requires-5-clause-one
turn_among-requires-5-clause-one c = pin_one

pub turn_among-requires-clause-led : goal.turn_among-requires-clause-led
turn_among-requires-clause-led c = rw (c.new-scan.ensures, c.new-pin.ensures) (both_begin c.args.world.now 1 c.requires.many c.requires.resting c.requires.may c.requires.look)

pub turn_among-requires-2-clause-led : goal.turn_among-requires-2-clause-led
turn_among-requires-2-clause-led c = to_one (Scans c.new-scan.result) (Pins c.turn_among.new.machine) c.turn_among.new.world (c.turn_among.ensures.many ∙ c.requires.many) (c.turn_among.ensures.go c.in-Go.is)

pub turn_among-requires-3-clause-led : goal.turn_among-requires-3-clause-led
turn_among-requires-3-clause-led c = to_zero (Pins c.turn_among.new.machine) (Scans c.turn_among-2.new.machine) c.turn_among-2.new.world
    (c.turn_among-2.ensures.many ∙ (c.turn_among.ensures.many ∙ c.requires.many)) (c.turn_among-2.ensures.go c.in-Go-turn_among.is)

pub turn_among-requires-4-clause-led : goal.turn_among-requires-4-clause-led
turn_among-requires-4-clause-led c = to_one (Scans c.turn_among-2.new.machine) (Pins c.turn_among-3.new.machine) c.turn_among-3.new.world
    (c.turn_among-3.ensures.many ∙ (c.turn_among-2.ensures.many ∙ (c.turn_among.ensures.many ∙ c.requires.many))) (c.turn_among-3.ensures.go c.in-Go-turn_among-2.is)

pub turn_among-requires-5-clause-led : goal.turn_among-requires-5-clause-led
turn_among-requires-5-clause-led c = to_zero (Pins c.turn_among-3.new.machine) Rests c.turn_among-4.new.world
    (c.turn_among-4.ensures.many ∙ (c.turn_among-3.ensures.many ∙ (c.turn_among-2.ensures.many ∙ (c.turn_among.ensures.many ∙ c.requires.many)))) (c.turn_among-4.ensures.done c.in-Done.found c.in-Done.is)

pub returns-clause-resting : goal.returns-clause-resting
returns-clause-resting c = both_rest c.turn_among-5.new.world 0 (c.turn_among-5.ensures.done c.in-Done-turn_among.head c.in-Done-turn_among.is)
