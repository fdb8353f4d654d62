use Rattle.std.proofs.Common.{◌≡◌, ◌+◌, ◌*◌, ◌<◌, ◌≤◌, ℕ, length}
use Rattle.crash_model.specs.Worlds.{seat_of}
use Rattle.crash_model.specs.Led.{IsResting}
use Rattle.world_tests.specs.PinSeats.{MayTurn}
use Rattle.drive_bench.proofs.world.pinnings.Given as goal

-- each of the sixteen seats is at rest and may take a pin, and there is room for the pinnings that are left
abbrev pub invariant-loop-time : goal.invariant-loop-time
invariant-loop-time l = (length l.world.seats ≡ 16) × IsResting l.world × ((seat : ℕ) → seat < 16 → MayTurn seat (seat_of l.world seat)) × (4 * l.times ≤ 4 * l.time + l.world.cells.room)
