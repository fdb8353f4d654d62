-- When a machine of pins may begin at a seat of a world at rest.
use Rattle.std.specs.Prelude.{ℕ, ◌<◌, ◌≤◌, ◌≡◌, ◌≢◌, true}
use Rattle.pmem_words.specs.declared.keeps.Task.TheVariants.{Sync}
use Rattle.pmem_words.specs.Seats.{Seat}
use Rattle.pmem_words.specs.declared.TheConstants.{SEATS}

-- a seat's state by its number runs no sync
pub record MayTurn (seat : ℕ) (s : Seat) : Type 0 where
  pub number : s.number ≡ seat
  pub no_sync : s.calling.job ≢ Sync

-- and it may scan: it has no pin, knows of all seats, and its last head outlasts a crash
pub record MayLook (seat count : ℕ) (s : Seat) : Type 0 where
  pub number : s.number ≡ seat
  pub seats : s.seats ≡ count
  pub few : s.seats ≤ SEATS
  pub some : 0 < s.seats
  pub head_fenced : s.giving.head_fenced ≡ true
  pub unpinned : s.hold.pin ≡ 0
