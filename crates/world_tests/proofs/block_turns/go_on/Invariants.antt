use Rattle.std.proofs.Common.{◌≡◌, ◌≢◌, ◌+◌, ℕ, length}
use Rattle.log_core.specs.Within.{no_record}
use Rattle.crash_model.specs.Worlds.{seat_of}
use Rattle.crash_model.specs.Led.{IsLed, HasLeft}
use Rattle.block_bitmap.specs.Filling.{fill_script}
use Rattle.world_tests.specs.AloneSeats.{AreAloneBut}
use Rattle.world_tests.proofs.block_turns.go_on.Given as goal

-- the fill goes on, and there is room for the turns that are left
abbrev pub invariant-loop : goal.invariant-loop
invariant-loop l = record {
  led : IsLed l.fn.seat fill_script no_record (λ out t v. HasLeft out t v) l.fill l.world;
  alone : AreAloneBut l.world l.fn.seat;
  others : (other : ℕ) → other ≢ l.fn.seat → seat_of l.world other ≡ seat_of l.fn.world other;
  many : length l.world.seats ≡ length l.fn.world.seats;
  room : l.world.cells.room + l.counter ≡ l.fn.world.cells.room;
}
