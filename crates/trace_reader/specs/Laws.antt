-- Laws of reading.
use Rattle.std.specs.Prelude.{ℕ, ◌≡◌, ◌+◌, ◌<◌, ◌≤◌, ◌≢◌, List, [], ◌∷◌, ◌++◌, length, Some, Result, Ok, Err}
use Rattle.log_entry.specs.declared.calls.Job.{Job}
use Rattle.trace_reader.specs.TraceText.{trace_text}
use Rattle.trace_reader.specs.Lines.{lines_of, fields_of}
use Rattle.trace_reader.specs.Calls.{Form, form_fields, form_of, line_call}
use Rattle.trace_reader.specs.Trace.{IsTrace, OnLinesFrom}
use Rattle.trace_reader.specs.Reading.{ReadsTrace, reading_from, after_line, trace_limit}
use Rattle.trace_reader.specs.declared.refusals.BadTrace.{BadTrace}
use Rattle.trace_reader.specs.declared.refusals.BadTrace.TheVariants.{TooLong}

-- bytes have at most one answer
abbrev pub OneReading : Type 0
OneReading = (seats : ℕ) (bytes : List ℕ) (one other : Result (List Job) BadTrace) → seats < 256 → ReadsTrace seats bytes one → ReadsTrace seats bytes other → one ≡ other

-- what is printed of a trace, whose jobs stand on lines without a gap, has that trace as its answer
abbrev pub PrintedIsRead : Type 0
PrintedIsRead = (seats : ℕ) (jobs : List Job) → seats < 256 → IsTrace seats jobs → OnLinesFrom 1 jobs → length (trace_text jobs) ≤ trace_limit → ReadsTrace seats (trace_text jobs) (Ok jobs)

-- fields are those of a form exactly where that is their form
abbrev pub FormsAreTheirFields : Type 0
FormsAreTheirFields = ((form : Form) → form_of (form_fields form) ≡ Some form) × ((fields : List (List ℕ)) (form : Form) → form_of fields ≡ Some form → fields ≡ form_fields form)

-- a bad line among those of a text: the lines before it ask these jobs, and it is refused after them
pub record IsFirstBad (seats : ℕ) (lines : List (List ℕ)) (why : BadTrace) : Type 0 where
  pub before : List (List ℕ)
  pub bad : List ℕ
  pub after : List (List ℕ)
  pub split : lines ≡ before ++ bad ∷ after
  pub jobs : List Job
  pub good : reading_from seats before 1 [] ≡ Ok jobs
  pub refused : after_line Ok jobs (length before + 1) (line_call seats (length before + 1) (fields_of bad)) ≡ Err why

-- a refusal, but for that of the length, is that of the first bad line
abbrev pub FirstIsRefused : Type 0
FirstIsRefused = (seats : ℕ) (bytes : List ℕ) (why : BadTrace) → why ≢ TooLong → ReadsTrace seats bytes (Err why) → IsFirstBad seats (lines_of bytes) why
