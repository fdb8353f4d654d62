-- A seat's state that a world lends.
use Rattle.std.specs.Prelude.{ℕ}
use Rattle.std.specs.Borrow.{Lends, MutBor, Fml}
use Rattle.pmem_words.specs.Seats.{Seat}
use Rattle.pmem_words.specs.contracts.seat.SeatState.{the_row as seat_row}
use Rattle.crash_model.specs.Worlds.{WorldNow, set_seat}
use Rattle.crash_model.specs.contracts.world.World.{the_row}

-- the world ends with the last state behind the reference as that seat's
abbrev pub LendsSeat : MutBor WorldNow → ℕ → MutBor Seat → Fml
LendsSeat w seat r = Lends the_row seat_row w r (set_seat w.now seat)
