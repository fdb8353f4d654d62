use Rattle.std.proofs.Common.{sym, subst, ℕ, length, ◌∙◌}
use Rattle.crash_model.specs.Worlds.{seat_of}
use Rattle.crash_model.specs.Led.{IsLed, HasLeft}
use Rattle.log_core.specs.Within.{no_record}
use Rattle.pins.specs.declared.scan.Scan.{Scan}
use Rattle.pins.specs.Scanning.{scan_script}
use Rattle.world_tests.specs.PinSeats.{MayLook}
use Rattle.world_tests.proofs.PinLemmas.{scan_led}
use Rattle.world_tests.proofs.pin_turns.scan_in.Goals as goal

pub turn_scan-requires-clause-led : goal.turn_scan-requires-clause-led
turn_scan-requires-clause-led c = subst (λ (m : Scan). IsLed c.args.seat scan_script no_record (λ out t v. HasLeft out t v) m c.args.world.now) (sym c.new-scan.ensures)
    (scan_led c.args.world.now c.args.seat c.args.generation c.requires.inside c.requires.resting c.requires.may)

pub returns-in-Done-clause-may : goal.returns-in-Done-clause-may
returns-in-Done-clause-may c = subst (λ (n : ℕ). MayLook c.args.seat n (seat_of c.turn_scan.new.world c.args.seat)) (sym c.turn_scan.ensures.keeps.many)
    (c.turn_scan.ensures.look (length c.args.world.now.seats) c.requires.may)

pub returns-in-Done-turn_scan-clause-may : goal.returns-in-Done-turn_scan-clause-may
returns-in-Done-turn_scan-clause-may c = subst (λ (n : ℕ). MayLook c.args.seat n (seat_of c.turn_scan-2.new.world c.args.seat)) (sym (c.turn_scan-2.ensures.keeps.many ∙ c.turn_scan.ensures.keeps.many))
    (c.turn_scan-2.ensures.look (length c.args.world.now.seats) (c.turn_scan.ensures.look (length c.args.world.now.seats) c.requires.may))
