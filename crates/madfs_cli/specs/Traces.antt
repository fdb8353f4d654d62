-- What a command reads of a trace of one seat: the jobs of its lines, where commands make the call of each.
use Rattle.std.specs.Prelude.{ℕ, ◌≡◌, Bool, true, false, if◌then◌else◌, List, [], ◌∷◌, Option, Some, None, Result, Ok, Err}
use Rattle.log_entry.specs.declared.calls.Op.{Op}
use Rattle.log_entry.specs.declared.calls.Op.TheVariants.{Pwrite, Append, Pread, Size, Sync, Collect}
use Rattle.log_entry.specs.declared.calls.Job.{Job}
use Rattle.trace_reader.specs.Reading.{reading_of}
use Rattle.trace_reader.specs.declared.refusals.BadTrace.{BadTrace}
use Rattle.trace_reader.specs.declared.refusals.BadTrace.TheVariants.{BadLine}

-- the calls that commands make so far: a read and a write at an offset
abbrev pub is_made : Op → Bool
is_made (Pwrite offset bytes) = true
is_made (Pread offset count) = true
is_made (Append bytes) = false
is_made Size = false
is_made Sync = false
is_made Collect = false

-- the line of the first job whose call no command makes
abbrev pub unmade_line : List Job → Option ℕ
unmade_line [] = None
unmade_line (job ∷ jobs) = if is_made job.op then unmade_line jobs else Some job.line

abbrev pub jobs_or_line : List Job → Option ℕ → Result (List Job) BadTrace
jobs_or_line jobs None = Ok jobs
jobs_or_line jobs (Some line) = Err (BadLine line)

-- a trace that is read is refused at the first line whose call no command makes
abbrev pub made_alone : Result (List Job) BadTrace → Result (List Job) BadTrace
made_alone (Ok jobs) = jobs_or_line jobs (unmade_line jobs)
made_alone (Err why) = Err why

-- the answer for these bytes
abbrev pub ReadsCalls : List ℕ → Result (List Job) BadTrace → Type 0
ReadsCalls bytes answer = made_alone (reading_of 1 bytes) ≡ answer
