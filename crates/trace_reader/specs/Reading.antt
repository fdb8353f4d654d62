-- What reading a trace answers: the jobs that its lines ask, or the first line that is bad and why.
use Rattle.std.specs.Prelude.{ℕ, ◌+◌, ◌≡◌, ◌<◌, ◌≤◌, nat_lt, if◌then◌else◌, List, [], ◌∷◌, ◌++◌, length, slice_index, Option, Some, None, Result, Ok, Err}
use Rattle.log_entry.specs.OfTrace.{asked_for}
use Rattle.log_entry.specs.declared.calls.Job.{Job}
use Rattle.trace_reader.specs.Lines.{lines_of, fields_of}
use Rattle.trace_reader.specs.Calls.{line_call}
use Rattle.trace_reader.specs.Trace.{IsTrace, read_length, read_total}
use Rattle.trace_reader.specs.declared.lines.SeatCall.{SeatCall}
use Rattle.trace_reader.specs.declared.refusals.BadTrace.{BadTrace}
use Rattle.trace_reader.specs.declared.refusals.BadTrace.TheVariants.{TooMuch, TooLong}
use Rattle.trace_reader.specs.declared.refusals.TraceRefusal.{TraceRefusal}
use Rattle.trace_reader.specs.declared.refusals.TraceRefusal.TheVariants.{Bad, NoMemory}

-- the most bytes that a trace may have
abbrev pub trace_limit : ℕ
trace_limit = 67108864

-- the most bytes that all calls of a trace may read
abbrev pub reads_limit : ℕ
reads_limit = 268435456

-- a call that the line of this number asks, as a job after these
abbrev pub job_after : List Job → ℕ → SeatCall → Job
job_after before at call = record { line = at; seat = call.seat; number = length (asked_for call.seat before) + 1; op = call.op }

-- how reading goes on after a line: with the same jobs, or with one more, or not at all. All reads together are looked at last
abbrev pub after_line : (List Job → Result (List Job) BadTrace) → List Job → ℕ → Result (Option SeatCall) BadTrace → Result (List Job) BadTrace
after_line on before at (Err why) = Err why
after_line on before at (Ok None) = on before
after_line on before at (Ok (Some call)) =
    if nat_lt reads_limit (read_total before + read_length call.op) then Err (TooMuch at) else on (before ++ job_after before at call ∷ [])

-- what lines come to after these jobs, the first of them being the line of this number
abbrev pub reading_from : ℕ → List (List ℕ) → ℕ → List Job → Result (List Job) BadTrace
reading_from seats [] at before = Ok before
reading_from seats (line ∷ lines) at before = after_line (reading_from seats lines (at + 1)) before at (line_call seats at (fields_of line))

-- what a text comes to
abbrev pub reading_of : ℕ → List ℕ → Result (List Job) BadTrace
reading_of seats bytes = if nat_lt trace_limit (length bytes) then Err TooLong else reading_from seats (lines_of bytes) 1 []

-- the answer for these bytes and so many seats
abbrev pub ReadsTrace : ℕ → List ℕ → Result (List Job) BadTrace → Type 0
ReadsTrace seats bytes answer = reading_of seats bytes ≡ answer

-- why these bytes gave no jobs; want of memory may come at any
abbrev pub RefusesTrace : ℕ → List ℕ → TraceRefusal → Type 0
RefusesTrace seats bytes (Bad why) = ReadsTrace seats bytes (Err why)
RefusesTrace seats bytes NoMemory = Unit {0}

-- how far a reader has come: the jobs so far, how many calls each seat has, how many bytes they read, the number of the next line,
-- and the text that is left
pub record IsReadSoFar (seats : ℕ) (bytes : List ℕ) (jobs : List Job) (counts : List ℕ) (sum line : ℕ) (rest : List ℕ) : Type 0 where
  pub goes : reading_of seats bytes ≡ reading_from seats (lines_of rest) line jobs
  pub good : IsTrace seats jobs
  pub seated : length counts ≡ seats
  pub counted : (seat : ℕ) → seat < seats → slice_index counts seat ≡ length (asked_for seat jobs)
  pub read : sum ≡ read_total jobs
  pub few : sum ≤ reads_limit
  pub short : line + length rest ≤ trace_limit + 1
  pub fewer : length jobs < line
