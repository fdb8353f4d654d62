use Rattle.std.proofs.Common.{◌<◌, length, sym, subst}
use Rattle.asks.specs.declared.ask.Ask.{Ask}
use Rattle.crash_model.specs.Worlds.{WorldNow, HasFitting}
use Rattle.crash_model.proofs.Standing.{seat_made}
use Rattle.crash_model.proofs.world.World.turn.Goals as goal

pub ask-ask-requires : goal.ask-ask-requires
ask-ask-requires g c = seat_made c.args.self.now c.args.seat _ c.requires.fits

pub perform-answer-requires-clause-fits : goal.perform-answer-requires-clause-fits
perform-answer-requires-clause-fits g c = subst (λ (ask : Ask). HasFitting c.args.self.now c.args.seat ask) (sym c.ask-ask.ensures) c.requires.fits

pub tell-requires-clause-seat : goal.tell-requires-clause-seat
tell-requires-clause-seat g c = subst (λ (w : WorldNow). c.args.seat < length w.seats) (sym c.perform-answer.ensures.same) (seat_made c.args.self.now c.args.seat _ c.requires.fits)
