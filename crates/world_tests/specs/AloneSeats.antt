-- When machines run alone at the seats of a world.
use Rattle.std.specs.Prelude.{ℕ, ◌<◌, ◌≡◌, ◌≢◌, length, None}
use Rattle.pmem_words.specs.Seats.{Seat}
use Rattle.log_core.specs.Views.{op_in}
use Rattle.crash_model.specs.Worlds.{WorldNow, seat_of}
use Rattle.crash_model.specs.Led.{HasNoMarks}

-- a seat's state by its number runs no call
pub record RunsAlone (seat : ℕ) (s : Seat) : Type 0 where
  pub number : s.number ≡ seat
  pub none_runs : op_in s ≡ None

-- no seat runs a call, and none has marks that no fence followed
pub record AreAlone (w : WorldNow) : Type 0 where
  pub run : (seat : ℕ) → seat < length w.seats → RunsAlone seat (seat_of w seat)
  pub no_marks : (seat : ℕ) → seat < length w.seats → HasNoMarks w seat

-- none but this one has any
pub record AreAloneBut (w : WorldNow) (seat : ℕ) : Type 0 where
  pub run : (other : ℕ) → other < length w.seats → RunsAlone other (seat_of w other)
  pub no_marks : (other : ℕ) → other ≢ seat → other < length w.seats → HasNoMarks w other
