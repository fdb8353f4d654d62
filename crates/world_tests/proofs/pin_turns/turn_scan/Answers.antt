use Rattle.std.proofs.Common.{sym, ◌∙◌, subst}
use Rattle.pmem_words.specs.Seats.{Seat}
use Rattle.crash_model.specs.Worlds.{seat_of, answer_in}
use Rattle.crash_model.proofs.Leading.{fits_led, admits_led, goes_led, inside_led, told_seat, turn_led, rests_led}
use Rattle.log_core.specs.Within.{no_record}
use Rattle.pins.specs.Scanning.{scan_script}
use Rattle.crash_model.specs.Led.{HasLeft}
use Rattle.world_tests.specs.PinSeats.{MayTurn, MayLook}
use Rattle.world_tests.proofs.PinLemmas.{scan_one, scan_keeps, scan_looks}
use Rattle.world_tests.proofs.pin_turns.turn_scan.Goals as goal

pub turn-requires-clause-fits : goal.turn-requires-clause-fits
turn-requires-clause-fits c = fits_led c.args.seat scan_script no_record (λ out t v. HasLeft out t v) c.args.scan.now c.args.world.now c.requires.led

pub turn-requires-clause-admits : goal.turn-requires-clause-admits
turn-requires-clause-admits c = admits_led c.args.seat scan_script no_record (λ out t v. HasLeft out t v) c.args.scan.now c.args.world.now
    (scan_one c.args.scan.now (seat_of c.args.world.now c.args.seat)) c.requires.led

pub returns-clause-keeps : goal.returns-clause-keeps
returns-clause-keeps c = rw c.turn.ensures.world (turn_led scan_script c.args.world.now c.args.seat c.args.scan.now c.requires.led MayTurn c.requires.room
    (scan_keeps c.args.scan.now (seat_of c.args.world.now c.args.seat) (answer_in scan_script c.args.world.now c.args.seat c.args.scan.now) c.args.seat))

pub returns-clause-go : goal.returns-clause-go
returns-clause-go c = λ go. rw (c.turn.ensures.machine, c.turn.ensures.world)
    (goes_led c.args.seat scan_script no_record (λ out t v. HasLeft out t v) c.args.scan.now c.args.world.now c.requires.led (sym c.turn.ensures.turn ∙ go))

pub returns-clause-done : goal.returns-clause-done
returns-clause-done c = λ out done. rw c.turn.ensures.world (rests_led scan_script c.args.world.now c.args.seat c.args.scan.now c.requires.led out (sym c.turn.ensures.turn ∙ done))

pub returns-clause-look : goal.returns-clause-look
returns-clause-look c = λ seats may. rw c.turn.ensures.world
    (subst (λ (s : Seat). MayLook c.args.seat seats s)
    (sym (told_seat scan_script c.args.world.now c.args.seat c.args.scan.now (inside_led c.args.seat scan_script no_record (λ out t v. HasLeft out t v) c.args.scan.now c.args.world.now c.requires.led)))
    (scan_looks c.args.scan.now (seat_of c.args.world.now c.args.seat) (answer_in scan_script c.args.world.now c.args.seat c.args.scan.now) c.args.seat seats may))
