-- When a seat of a world at rest may begin to look, and what its state is then.
use Rattle.std.specs.Prelude.{ℕ, ◌≤◌, ◌≡◌, false, [], None}
use Rattle.pmem_words.specs.declared.keeps.Task.{Task}
use Rattle.pmem_words.specs.declared.keeps.Task.TheVariants.{Pread, Size as SizeTask}
use Rattle.pmem_words.specs.declared.TheConstants.{JOB_BYTES}
use Rattle.pmem_words.specs.Seats.{Seat}
use Rattle.log_core.specs.Works.{laid_bytes}
use Rattle.read_validate.specs.declared.query.Query.{Query}
use Rattle.read_validate.specs.declared.query.Query.TheVariants.{Size, Range}
use Rattle.read_validate.specs.LookWithin.{Asks}

-- the call that asks this
abbrev pub task_of : Query → Task
task_of Size = SizeTask
task_of (Range offset count) = Pread offset count

-- a call may have so many bytes
abbrev pub IsShort : Query → Type 0
IsShort Size = Unit {0}
IsShort (Range offset count) = count ≤ JOB_BYTES

-- its call asks this, and has made no step
pub record IsToLook (query : Query) (seat : ℕ) (s : Seat) : Type 0 where
  pub number : s.number ≡ seat
  pub asks : Asks query s
  pub job : s.calling.job ≡ task_of query
  pub none_laid : laid_bytes s.calling.job s.calling.bytes ≡ []
  pub no_bases : s.calling.bases ≡ []
  pub not_won : s.calling.won ≡ false
  pub no_sync : s.calling.sync_to ≡ None
