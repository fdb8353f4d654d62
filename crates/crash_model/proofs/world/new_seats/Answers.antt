use Rattle.crash_model.proofs.Standing.{seats_more}
use Rattle.crash_model.proofs.world.new_seats.Goals as goal

pub loop-number-preserved : goal.loop-number-preserved
loop-number-preserved c = seats_more c.args.geometry c.args.seats c.args.position c.loop-number.number c.loop-number.states.items c.push.new.self.items c.in_ok-new.field-0 c.loop-number.invariant c.in_ok-new.ensures c.in_ok-push.ensures.items
