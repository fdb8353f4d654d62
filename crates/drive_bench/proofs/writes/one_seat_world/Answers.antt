use Rattle.std.proofs.Common.{max, sym, subst}
use Rattle.crash_model.specs.Worlds.{WorldNow}
use Rattle.crash_model.specs.Led.{IsResting}
use Rattle.crash_model.proofs.Resting.{rests_room}
use Rattle.drive_bench.proofs.writes.one_seat_world.Goals as goal

pub returns-clause-resting : goal.returns-clause-resting
returns-clause-resting c = subst (λ (w : WorldNow). IsResting w) (sym c.in_ok-reserve.ensures.ok) (rests_room c.in_ok-world.world (max c.in_ok-world.world.cells.room c.from.result) c.in_ok-world.ensures.rests)
