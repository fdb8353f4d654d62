use Rattle.crash_model.proofs.ImageStanding.{room_stands_by}
use Rattle.crash_model.proofs.shared.SharedImage.reserve.Goals as goal

pub invariant_of-self : goal.invariant_of-self
invariant_of-self c =
    room_stands_by (record { geometry = c.self.inside.geometry; cells = c.self.inside.cells; position = c.self.inside.position; synced = c.self.inside.synced })
    c.reserve.new.self c.args.steps c.reserve.result c.reserve.ensures.ok c.reserve.ensures.err c.self.invariant
