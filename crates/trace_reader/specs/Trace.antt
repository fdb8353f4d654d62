-- The lists of jobs that a trace may say: which calls, how they are numbered, and how much they read.
use Rattle.std.specs.Prelude.{ℕ, ◌+◌, ◌^◌, ◌≡◌, ◌<◌, ◌≤◌, List, [], ◌∷◌, ◌++◌, All, length}
use Rattle.log_entry.specs.OfTrace.{asked_for}
use Rattle.log_entry.specs.declared.calls.Op.{Op}
use Rattle.log_entry.specs.declared.calls.Op.TheVariants.{Pwrite, Append, Pread, Size, Sync, Collect}
use Rattle.log_entry.specs.declared.calls.Job.{Job}

-- the calls that a line may ask: offsets are below 2^64, and a read is of at most 1,048,576 bytes
abbrev pub IsReadable : Op → Type 0
IsReadable (Pwrite offset bytes) = (offset < 2 ^ 64) × All (λ byte. byte < 256) bytes
IsReadable (Append bytes) = All (λ byte. byte < 256) bytes
IsReadable (Pread offset count) = (offset < 2 ^ 64) × (count ≤ 1048576)
IsReadable Size = Unit {0}
IsReadable Sync = Unit {0}
IsReadable Collect = Unit {0}

-- how many bytes a call asks to read
abbrev pub read_length : Op → ℕ
read_length (Pread offset count) = count
read_length (Pwrite offset bytes) = 0
read_length (Append bytes) = 0
read_length Size = 0
read_length Sync = 0
read_length Collect = 0

-- how many bytes all calls ask to read
abbrev pub read_total : List Job → ℕ
read_total [] = 0
read_total (job ∷ jobs) = read_length job.op + read_total jobs

-- a job that may follow these: of a seat below `seats`, with the next number of its seat
pub record Follows (seats : ℕ) (before : List Job) (job : Job) : Type 0 where
  pub seat : job.seat < seats
  pub number : job.number ≡ length (asked_for job.seat before) + 1
  pub readable : IsReadable job.op
  pub total : read_total before + read_length job.op ≤ 268435456

-- jobs that may follow these, one after another
abbrev pub AllFollow : ℕ → List Job → List Job → Type 0
AllFollow seats before [] = Unit {0}
AllFollow seats before (job ∷ jobs) = Follows seats before job × AllFollow seats (before ++ job ∷ []) jobs

-- the jobs of a trace
abbrev pub IsTrace : ℕ → List Job → Type 0
IsTrace seats jobs = AllFollow seats [] jobs

-- the jobs stand on lines without a gap, from this one on
abbrev pub OnLinesFrom : ℕ → List Job → Type 0
OnLinesFrom at [] = Unit {0}
OnLinesFrom at (job ∷ jobs) = (job.line ≡ at) × OnLinesFrom (at + 1) jobs
