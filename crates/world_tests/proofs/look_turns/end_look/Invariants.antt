use Rattle.std.proofs.Common.{◌≡◌, ◌+◌, length}
use Rattle.log_core.specs.Within.{no_record}
use Rattle.crash_model.specs.Led.{Runs, IsAmong, HasLeft}
use Rattle.read_validate.specs.Looking.{look_script}
use Rattle.world_tests.proofs.look_turns.end_look.Given as goal

-- the look goes on, and there is room for the turns that are left
abbrev pub invariant-loop : goal.invariant-loop
invariant-loop g l = record {
  led : IsAmong (g.B.Beside.holds l.beside) l.seat (Runs look_script no_record (λ out t v. HasLeft out t v) l.look) l.world;
  many : length l.world.seats ≡ length l.fn.world.seats;
  room : l.world.cells.room + l.counter ≡ l.fn.world.cells.room;
}
