use Rattle.std.proofs.Common.{sym, ◌∙◌}
use Rattle.log_core.specs.Within.{no_record}
use Rattle.crash_model.specs.Worlds.{seat_of, answer_in, turned}
use Rattle.crash_model.specs.Led.{HasLeft}
use Rattle.crash_model.proofs.Leading.{fits_among, admits_among, goes_among, ends_among, rests_after, left_all}
use Rattle.world_tests.proofs.pair_turns.turn_among.Goals as goal

pub turn-requires-clause-fits : goal.turn-requires-clause-fits
turn-requires-clause-fits g c = fits_among (g.B.Beside.holds c.args.beside.now) c.args.seat g.M.Machine.script no_record (λ out t v. HasLeft out t v) c.args.machine.now c.args.world.now c.requires.led

pub turn-requires-clause-admits : goal.turn-requires-clause-admits
turn-requires-clause-admits g c = admits_among (g.B.Beside.holds c.args.beside.now) c.args.seat g.M.Machine.script no_record (λ out t v. HasLeft out t v) c.args.machine.now c.args.world.now
    (c.requires.one c.args.machine.now (seat_of c.args.world.now c.args.seat) (answer_in g.M.Machine.script c.args.world.now c.args.seat c.args.machine.now)) c.requires.led

pub returns-clause-go : goal.returns-clause-go
returns-clause-go g c = λ go. rw (c.turn.ensures.machine, c.turn.ensures.world)
    (goes_among (g.B.Beside.holds c.args.beside.now) c.args.seat g.M.Machine.script no_record (λ out t v. HasLeft out t v) c.args.machine.now c.args.world.now c.requires.led (sym c.turn.ensures.turn ∙ go))

pub returns-clause-done : goal.returns-clause-done
returns-clause-done g c = λ out done. rw c.turn.ensures.world
    (rests_after (g.B.Beside.holds c.args.beside.now) c.args.seat (λ out t v. HasLeft out t v) out (turned g.M.Machine.script c.args.world.now c.args.seat c.args.machine.now) (left_all out)
    (ends_among (g.B.Beside.holds c.args.beside.now) c.args.seat g.M.Machine.script no_record (λ out t v. HasLeft out t v) c.args.machine.now c.args.world.now out c.requires.led (sym c.turn.ensures.turn ∙ done)))
