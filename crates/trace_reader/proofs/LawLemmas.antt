-- A refusal is that of the first bad line.
use Rattle.std.specs.Prelude.{if◌then◌else◌}
use Rattle.std.proofs.Common.{◌≡◌, ◌≢◌, ℕ, ◌+◌, nat_lt, Bool, true, false, List, [], ◌∷◌, ◌++◌, length, Option, Some, None, Result, Ok, Err, refl, sym, ap, ◌∙◌, arith}
use Rattle.log_entry.specs.declared.calls.Job.{Job}
use Rattle.trace_reader.specs.Lines.{lines_of, fields_of}
use Rattle.trace_reader.specs.Calls.{line_call}
use Rattle.trace_reader.specs.Trace.{read_length, read_total}
use Rattle.trace_reader.specs.Reading.{ReadsTrace, reading_from, after_line, job_after, trace_limit, reads_limit}
use Rattle.trace_reader.specs.Laws.{IsFirstBad}
use Rattle.trace_reader.specs.declared.lines.SeatCall.{SeatCall}
use Rattle.trace_reader.specs.declared.refusals.BadTrace.{BadTrace}
use Rattle.trace_reader.specs.declared.refusals.BadTrace.TheVariants.{TooMuch, TooLong}
use Rattle.trace_reader.proofs.TraceLemmas.{more_jobs}

-- a bad line among these, of which the first has this number, after these jobs
record FoundBad (seats : ℕ) (lines : List (List ℕ)) (at : ℕ) (jobs : List Job) (why : BadTrace) : Type 0 where
  pub before : List (List ℕ)
  pub bad : List ℕ
  pub after : List (List ℕ)
  pub split : lines ≡ before ++ bad ∷ after
  pub read : List Job
  pub place : ℕ
  pub place_is : place ≡ at + length before
  pub good : reading_from seats before at jobs ≡ Ok read
  pub refused : after_line Ok read place (line_call seats place (fields_of bad)) ≡ Err why

-- a line more in front
found_behind : (seats : ℕ) (line : List ℕ) (lines : List (List ℕ)) (at : ℕ) (jobs more : List Job) (why : BadTrace)
    → ((rest : List (List ℕ)) → reading_from seats (line ∷ rest) at jobs ≡ reading_from seats rest (at + 1) more) → FoundBad seats lines (at + 1) more why → FoundBad seats (line ∷ lines) at jobs why
found_behind seats line lines at jobs more why on found =
    let place = found.place_is in
    record {
      before = line ∷ found.before;
      bad = found.bad;
      after = found.after;
      split = ap (λ (rest : List (List ℕ)). line ∷ rest) found.split;
      read = found.read;
      place = found.place;
      place_is = omega arith;
      good = on found.before ∙ found.good;
      refused = found.refused;
    }

-- the first line itself
found_here : (seats : ℕ) (line : List ℕ) (lines : List (List ℕ)) (at : ℕ) (jobs : List Job) (why : BadTrace) → after_line Ok jobs at (line_call seats at (fields_of line)) ≡ Err why → FoundBad seats (line ∷ lines) at jobs why
found_here seats line lines at jobs why refused = record { before = []; bad = line; after = lines; split = refl; read = jobs; place = at; place_is = omega arith; good = refl; refused = refused }

too_much : (much : Bool) (at : ℕ) (other : Result (List Job) BadTrace) → much ≡ true → (if much then Err (TooMuch at) else other) ≡ Err (TooMuch at)
too_much true at other told = refl
too_much false at other told = cc told

-- the cause of an answer, or this one
abbrev why_or : BadTrace → Result (List Job) BadTrace → BadTrace
why_or other (Ok jobs) = other
why_or other (Err why) = why

find_call : (much : Bool) (seats : ℕ) (line : List ℕ) (lines : List (List ℕ)) (at : ℕ) (jobs : List Job) (why : BadTrace) (call : SeatCall)
    → ((more : List Job) → reading_from seats lines (at + 1) more ≡ Err why → FoundBad seats lines (at + 1) more why)
    → nat_lt reads_limit (read_total jobs + read_length call.op) ≡ much → line_call seats at (fields_of line) ≡ Ok (Some call)
    → (if much then Err (TooMuch at) else reading_from seats lines (at + 1) (jobs ++ job_after jobs at call ∷ [])) ≡ Err why → FoundBad seats (line ∷ lines) at jobs why
find_call true seats line lines at jobs why call deeper test is answer =
    found_here seats line lines at jobs why (ap (after_line Ok jobs at) is ∙ too_much (nat_lt reads_limit (read_total jobs + read_length call.op)) at (Ok (jobs ++ job_after jobs at call ∷ [])) test ∙ answer)
find_call false seats line lines at jobs why call deeper test is answer =
    found_behind seats line lines at jobs (jobs ++ job_after jobs at call ∷ []) why
    (λ rest. ap (after_line (reading_from seats rest (at + 1)) jobs at) is ∙ more_jobs (nat_lt reads_limit (read_total jobs + read_length call.op)) (reading_from seats rest (at + 1)) at (jobs ++ job_after jobs at call ∷ []) test)
    (deeper (jobs ++ job_after jobs at call ∷ []) answer)

find_line : (seats : ℕ) (line : List ℕ) (lines : List (List ℕ)) (at : ℕ) (jobs : List Job) (why : BadTrace) (asked : Result (Option SeatCall) BadTrace)
    → ((more : List Job) → reading_from seats lines (at + 1) more ≡ Err why → FoundBad seats lines (at + 1) more why)
    → line_call seats at (fields_of line) ≡ asked → after_line (reading_from seats lines (at + 1)) jobs at asked ≡ Err why → FoundBad seats (line ∷ lines) at jobs why
find_line seats line lines at jobs why (Err cause) deeper is answer = found_here seats line lines at jobs why (ap (after_line Ok jobs at) is ∙ answer)
find_line seats line lines at jobs why (Ok None) deeper is answer =
    found_behind seats line lines at jobs jobs why (λ rest. ap (after_line (reading_from seats rest (at + 1)) jobs at) is) (deeper jobs answer)
find_line seats line lines at jobs why (Ok (Some call)) deeper is answer =
    find_call (nat_lt reads_limit (read_total jobs + read_length call.op)) seats line lines at jobs why call deeper refl is answer

find : (seats : ℕ) (lines : List (List ℕ)) (at : ℕ) (jobs : List Job) (why : BadTrace) → reading_from seats lines at jobs ≡ Err why → FoundBad seats lines at jobs why
find seats [] at jobs why answer = cc answer
find seats (line ∷ lines) at jobs why answer =
    find_line seats line lines at jobs why (line_call seats at (fields_of line)) (λ more. λ later. find seats lines (at + 1) more why later) refl answer

first_of_found : (seats : ℕ) (lines : List (List ℕ)) (why : BadTrace) → FoundBad seats lines 1 [] why → IsFirstBad seats lines why
first_of_found seats lines why found =
    let place = found.place_is in
    let at : found.place ≡ length found.before + 1 = omega arith in
    record {
      before = found.before;
      bad = found.bad;
      after = found.after;
      split = found.split;
      jobs = found.read;
      good = found.good;
      refused = ap (λ (n : ℕ). after_line Ok found.read n (line_call seats n (fields_of found.bad))) (sym at) ∙ found.refused;
    }

not_long : (long : Bool) (seats : ℕ) (bytes : List ℕ) (why : BadTrace) → why ≢ TooLong → (if long then Err TooLong else reading_from seats (lines_of bytes) 1 []) ≡ Err why → reading_from seats (lines_of bytes) 1 [] ≡ Err why
not_long true seats bytes why other answer = absurd (other (sym (ap (why_or why) answer)))
not_long false seats bytes why other answer = answer

pub first_is_refused : (seats : ℕ) (bytes : List ℕ) (why : BadTrace) → why ≢ TooLong → ReadsTrace seats bytes (Err why) → IsFirstBad seats (lines_of bytes) why
first_is_refused seats bytes why other answer =
    first_of_found seats (lines_of bytes) why (find seats (lines_of bytes) 1 [] why (not_long (nat_lt trace_limit (length bytes)) seats bytes why other answer))
