use Rattle.std.proofs.Common.{◌≡◌, ◌≢◌, ℕ, length}
use Rattle.crash_model.specs.Worlds.{seat_of}
use Rattle.crash_model.specs.Led.{IsResting}
use Rattle.world_tests.specs.AloneSeats.{AreAlone}
use Rattle.world_tests.proofs.block_turns.set_all.Given as goal

-- each seat is at rest and runs alone, and this one owns one block
abbrev pub invariant-loop-word : goal.invariant-loop-word
invariant-loop-word l = record {
  resting : IsResting l.world;
  alone : AreAlone l.world;
  owned : length (seat_of l.world l.fn.seat).blocks.owned ≡ 1;
  others : (other : ℕ) → other ≢ l.fn.seat → seat_of l.world other ≡ seat_of l.fn.world other;
  many : length l.world.seats ≡ length l.fn.world.seats;
  room : l.world.cells.room ≡ l.fn.world.cells.room;
}
