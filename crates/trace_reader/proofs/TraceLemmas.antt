-- What a reader knows after each line, and a trace with one job more.
use Rattle.std.specs.Prelude.{if◌then◌else◌}
use Rattle.std.proofs.Common.{◌≡◌, ℕ, suc, ◌+◌, ◌<◌, ◌≤◌, ◌==◌, nat_lt, Bool, cond, true, false, List, [], ◌∷◌, ◌++◌, append_assoc, append-nil, length, take, get_or, set, replicate, Option, Some, None, Result, Ok, Err, inl, inr, eq-eqb, refl, sym, ap, ◌∙◌, arith}
use Rattle.std.proofs.lemmas.Bool.{cases_eq, ne_eqb}
use Rattle.std.proofs.lemmas.List.{take_more, length_push, length-append, length-set, get_or-set_same, get_or-set_other, get_or_read, get_or-replicate, length-replicate, length-map, nil_from_length}
use Rattle.std.proofs.lemmas.List.Elements.{filter-append}
use Rattle.std.specs.List.{filter}
use Rattle.log_entry.specs.OfTrace.{Asked, asked_for}
use Rattle.log_entry.specs.declared.calls.Job.{Job}
use Rattle.trace_reader.specs.TraceText.{line_text, trace_text}
use Rattle.trace_reader.specs.Lines.{lines_of, fields_of}
use Rattle.trace_reader.specs.Calls.{line_call}
use Rattle.trace_reader.specs.Trace.{Follows, AllFollow, IsTrace, read_length, read_total}
use Rattle.trace_reader.specs.Reading.{IsReadSoFar, ReadsTrace, reading_of, reading_from, after_line, job_after, trace_limit, reads_limit}
use Rattle.trace_reader.specs.declared.lines.SeatCall.{SeatCall}
use Rattle.trace_reader.specs.declared.refusals.BadTrace.{BadTrace}
use Rattle.trace_reader.specs.declared.refusals.BadTrace.TheVariants.{TooMuch, TooLong}
use Rattle.trace_reader.proofs.CallLemmas.{call_readable}

-- a job more at the end
all_follow_push : (seats : ℕ) (before jobs : List Job) (job : Job) → AllFollow seats before jobs → Follows seats (before ++ jobs) job → AllFollow seats before (jobs ++ job ∷ [])
all_follow_push seats before [] job all follows = (let P : List Job → Type 0 = λ xs. Follows seats xs job in rw (append-nil before) at follows, tt)
all_follow_push seats before (first ∷ jobs) job all follows =
    (all.0, all_follow_push seats (before ++ first ∷ []) jobs job all.1 (rw (append_assoc before (first ∷ []) jobs) follows))

pub trace_push : (seats : ℕ) (jobs : List Job) (job : Job) → IsTrace seats jobs → Follows seats jobs job → IsTrace seats (jobs ++ job ∷ [])
trace_push seats jobs job all follows = all_follow_push seats [] jobs job all follows

pub trace_text-push : (jobs : List Job) (job : Job) → trace_text (jobs ++ job ∷ []) ≡ trace_text jobs ++ line_text job
trace_text-push [] job = append-nil (line_text job)
trace_text-push (first ∷ jobs) job = ap (λ (xs : List ℕ). line_text first ++ xs) (trace_text-push jobs job) ∙ sym (append_assoc (line_text first) (trace_text jobs) (line_text job))

pub read_total-push : (jobs : List Job) (job : Job) → read_total (jobs ++ job ∷ []) ≡ read_total jobs + read_length job.op
read_total-push [] job = omega arith
read_total-push (first ∷ jobs) job = let rest = read_total-push jobs job in omega (arith, rest)

-- how many calls a seat has with a job more
abbrev pub one_if : Bool → ℕ
one_if true = 1
one_if false = 0

length_one : (b : Bool) (job : Job) → length (cond b (job ∷ []) []) ≡ one_if b
length_one true job = refl
length_one false job = refl

abbrev is_of : ℕ → Job → Bool
is_of seat job = job.seat == seat

abbrev asked : Job → Asked
asked job = record { number = job.number; op = job.op }

pub asked_push : (seat : ℕ) (jobs : List Job) (job : Job) → length (asked_for seat (jobs ++ job ∷ [])) ≡ length (asked_for seat jobs) + one_if (job.seat == seat)
asked_push seat jobs job =
    let new : length (asked_for seat (jobs ++ job ∷ [])) ≡ length (filter (is_of seat) (jobs ++ job ∷ [])) = length-map (filter (is_of seat) (jobs ++ job ∷ [])) asked in
    let old : length (asked_for seat jobs) ≡ length (filter (is_of seat) jobs) = length-map (filter (is_of seat) jobs) asked in
    let split = ap length (filter-append (is_of seat) jobs (job ∷ [])) ∙ length-append (filter (is_of seat) jobs) (filter (is_of seat) (job ∷ [])) in
    let one : length (filter (is_of seat) (job ∷ [])) ≡ one_if (job.seat == seat) = length_one (job.seat == seat) job in
    omega (arith, new, old, split, one)

length_kept : (b : Bool) (job : Job) (jobs : List Job) (n : ℕ) → length jobs ≤ n → length (cond b (job ∷ jobs) jobs) ≤ suc n
length_kept true job jobs n few = omega arith
length_kept false job jobs n few = omega arith

filter_few : (seat : ℕ) (jobs : List Job) → length (filter (is_of seat) jobs) ≤ length jobs
filter_few seat [] = omega arith
filter_few seat (job ∷ jobs) = length_kept (is_of seat job) job (filter (is_of seat) jobs) (length jobs) (filter_few seat jobs)

asked_few : (seat : ℕ) (jobs : List Job) → length (asked_for seat jobs) ≤ length jobs
asked_few seat jobs =
    let same : length (asked_for seat jobs) ≡ length (filter (is_of seat) jobs) = length-map (filter (is_of seat) jobs) asked in
    omega (arith, same, filter_few seat jobs)

-- ---- a reader after each line

pub not_more : (a b : ℕ) → b ≤ a → nat_lt a b ≡ false
not_more a b few = grind (arith)

more : (a b : ℕ) → a < b → nat_lt a b ≡ true
more a b much = grind (arith)

pub too_long : (seats : ℕ) (bytes : List ℕ) → trace_limit < length bytes → ReadsTrace seats bytes (Err TooLong)
too_long seats bytes long =
    let is : nat_lt trace_limit (length bytes) ≡ true = more trace_limit (length bytes) long in
    rw is refl

pub so_far_start : (seats : ℕ) (bytes : List ℕ) (jobs : List Job) (counts : List ℕ) → length bytes ≤ trace_limit → jobs ≡ [] → counts ≡ replicate seats 0 → IsReadSoFar seats bytes jobs counts 0 1 bytes
so_far_start seats bytes jobs counts few none zeros =
    let not_long : nat_lt trace_limit (length bytes) ≡ false = not_more trace_limit (length bytes) few in
    rw (none, zeros) (record {
      goes = rw not_long refl;
      good = tt;
      seated = length-replicate seats 0;
      counted = λ seat below. get_or-replicate seats seat 0 0 below;
      read = refl;
      few = omega arith;
      short = omega arith;
      fewer = omega arith;
    })

counted_push : (counts : List ℕ) (seat other : ℕ) (jobs : List Job) (job : Job) → seat < length counts → job.seat ≡ seat → get_or counts other 0 ≡ length (asked_for other jobs)
    → get_or (set counts seat (get_or counts seat 0 + 1)) other 0 ≡ length (asked_for other (jobs ++ job ∷ []))
counted_push counts seat other jobs job inside at before =
    let push = asked_push other jobs job in
    elim (cases_eq other seat) [
      | inl same ↦
          let is : (job.seat == other) ≡ true = eq-eqb job.seat other (at ∙ sym same) in
          let one : one_if (job.seat == other) ≡ 1 = ap one_if is in
          let new : get_or (set counts seat (get_or counts seat 0 + 1)) other 0 ≡ get_or counts seat 0 + 1 = rw same (get_or-set_same counts seat (get_or counts seat 0 + 1) 0 inside) in
          let here : get_or counts other 0 ≡ get_or counts seat 0 = ap (λ (k : ℕ). get_or counts k 0) same in
          omega (arith, push, one, new, before, here)
      | inr apart ↦
          let is : (job.seat == other) ≡ false = ne_eqb job.seat other (λ e. apart (sym e ∙ at)) in
          let one : one_if (job.seat == other) ≡ 0 = ap one_if is in
          let new : get_or (set counts seat (get_or counts seat 0 + 1)) other 0 ≡ get_or counts other 0 = get_or-set_other counts seat other (get_or counts seat 0 + 1) 0 apart in
          omega (arith, push, one, new, before)
    ]

-- how reading goes on after the line at the front of what is left
on_from : (seats : ℕ) (bytes : List ℕ) (jobs : List Job) (line : ℕ) (rest text behind : List ℕ) (answer : Result (Option SeatCall) BadTrace)
    → reading_of seats bytes ≡ reading_from seats (lines_of rest) line jobs → lines_of rest ≡ text ∷ lines_of behind → line_call seats line (fields_of text) ≡ answer
    → reading_of seats bytes ≡ after_line (reading_from seats (lines_of behind) (line + 1)) jobs line answer
on_from seats bytes jobs line rest text behind answer goes split is =
    goes ∙ ap (λ (lines : List (List ℕ)). reading_from seats lines line jobs) split ∙ ap (after_line (reading_from seats (lines_of behind) (line + 1)) jobs line) is

-- a line that is passed over
pub so_far_passed : (seats : ℕ) (bytes : List ℕ) (jobs : List Job) (counts : List ℕ) (sum line : ℕ) (rest text behind : List ℕ)
    → IsReadSoFar seats bytes jobs counts sum line rest → lines_of rest ≡ text ∷ lines_of behind → length behind < length rest → line_call seats line (fields_of text) ≡ Ok None
    → IsReadSoFar seats bytes jobs counts sum (line + 1) behind
so_far_passed seats bytes jobs counts sum line rest text behind far split shorter is =
    let short = far.short in
    let fewer = far.fewer in
    record {
      goes = on_from seats bytes jobs line rest text behind (Ok None) far.goes split is;
      good = far.good;
      seated = far.seated;
      counted = far.counted;
      read = far.read;
      few = far.few;
      short = omega arith;
      fewer = omega arith;
    }

pub more_jobs : (much : Bool) (on : List Job → Result (List Job) BadTrace) (line : ℕ) (jobs : List Job) → much ≡ false → (if much then Err (TooMuch line) else on jobs) ≡ on jobs
more_jobs true on line jobs is = cc is
more_jobs false on line jobs is = refl

-- a line that asks a call
pub so_far_more : (seats : ℕ) (bytes : List ℕ) (jobs : List Job) (counts : List ℕ) (sum line : ℕ) (rest text behind : List ℕ) (call : SeatCall)
    → IsReadSoFar seats bytes jobs counts sum line rest → lines_of rest ≡ text ∷ lines_of behind → length behind < length rest → line_call seats line (fields_of text) ≡ Ok (Some call)
    → sum + read_length call.op ≤ reads_limit
    → IsReadSoFar seats bytes (jobs ++ job_after jobs line call ∷ []) (set counts call.seat (get_or counts call.seat 0 + 1)) (sum + read_length call.op) (line + 1) behind
so_far_more seats bytes jobs counts sum line rest text behind call far split shorter is few =
    let asks = call_readable seats line (fields_of text) call is in
    let read = far.read in
    let job : Job = job_after jobs line call in
    let follows : Follows seats jobs job = record { seat = asks.0; number = refl; readable = asks.1; total = omega arith } in
    let long = far.seated in
    let short = far.short in
    let fewer = far.fewer in
    let count : length (jobs ++ job ∷ []) ≡ length jobs + 1 = length_push jobs job in
    let seated : call.seat < seats = asks.0 in
    record {
      goes = on_from seats bytes jobs line rest text behind (Ok (Some call)) far.goes split is
          ∙ more_jobs (nat_lt reads_limit (read_total jobs + read_length call.op)) (reading_from seats (lines_of behind) (line + 1)) line (jobs ++ job ∷ []) (not_more reads_limit (read_total jobs + read_length call.op) (omega arith));
      good = trace_push seats jobs job far.good follows;
      seated = length-set counts call.seat (get_or counts call.seat 0 + 1) ∙ long;
      counted = λ other below. counted_push counts call.seat other jobs job (omega arith) refl (far.counted other below);
      read = let total = read_total-push jobs job in omega (arith, total);
      few = few;
      short = omega arith;
      fewer = omega arith;
    }

-- the same, in the words of the code
pub so_far_next : (seats : ℕ) (bytes : List ℕ) (jobs : List Job) (counts : List ℕ) (sum line : ℕ) (rest text behind : List ℕ) (call : SeatCall) (new_jobs : List Job) (index count reads : ℕ) (job : Job)
    → IsReadSoFar seats bytes jobs counts sum line rest → lines_of rest ≡ text ∷ lines_of behind → length behind < length rest → line_call seats line (fields_of text) ≡ Ok (Some call)
    → index ≡ call.seat → count ≡ get_or counts index count → reads ≡ read_length call.op → sum + reads ≤ reads_limit
    → job ≡ record { line = line; seat = call.seat; number = count + 1; op = call.op } → new_jobs ≡ jobs ++ job ∷ []
    → IsReadSoFar seats bytes new_jobs (set counts index (count + 1)) (sum + reads) (line + 1) behind
so_far_next seats bytes jobs counts sum line rest text behind call new_jobs index count reads job far split shorter is at found length_is few job_is push =
    let asks = call_readable seats line (fields_of text) call is in
    let long = far.seated in
    let seated : call.seat < seats = asks.0 in
    let same : count ≡ get_or counts call.seat 0 = get_or_read counts index count (omega arith) found 0 ∙ ap (λ (k : ℕ). get_or counts k 0) at in
    let number : count ≡ length (asked_for call.seat jobs) = same ∙ far.counted call.seat seated in
    let whole : job ≡ job_after jobs line call = job_is ∙ ap (λ (n : ℕ). record { line = line; seat = call.seat; number = n + 1; op = call.op }) number in
    rw (push, whole, at, same, length_is) (so_far_more seats bytes jobs counts sum line rest text behind call far split shorter is (omega (arith, length_is)))

-- no seat has more calls than the trace may have bytes
pub so_far_small : (seats : ℕ) (bytes : List ℕ) (jobs : List Job) (counts : List ℕ) (sum line : ℕ) (rest : List ℕ) (seat : ℕ) → IsReadSoFar seats bytes jobs counts sum line rest → seat < seats → get_or counts seat 0 ≤ trace_limit
so_far_small seats bytes jobs counts sum line rest seat far below =
    let count = far.counted seat below in
    let few = asked_few seat jobs in
    let short = far.short in
    let fewer = far.fewer in
    omega arith

-- where nothing is left, all was read
pub so_far_all : (seats : ℕ) (bytes : List ℕ) (jobs : List Job) (counts : List ℕ) (sum line : ℕ) (rest : List ℕ) → IsReadSoFar seats bytes jobs counts sum line rest → length rest ≡ 0 → ReadsTrace seats bytes (Ok jobs)
so_far_all seats bytes jobs counts sum line rest far none = far.goes ∙ ap (λ (text : List ℕ). reading_from seats (lines_of text) line jobs) (nil_from_length rest none)

-- a bad line ends the reading
pub so_far_bad : (seats : ℕ) (bytes : List ℕ) (jobs : List Job) (counts : List ℕ) (sum line : ℕ) (rest text behind : List ℕ) (why : BadTrace)
    → IsReadSoFar seats bytes jobs counts sum line rest → lines_of rest ≡ text ∷ lines_of behind → line_call seats line (fields_of text) ≡ Err why → ReadsTrace seats bytes (Err why)
so_far_bad seats bytes jobs counts sum line rest text behind why far split is = on_from seats bytes jobs line rest text behind (Err why) far.goes split is

refused : (b : Bool) (line : ℕ) (other : Result (List Job) BadTrace) → b ≡ true → (if b then Err (TooMuch line) else other) ≡ Err (TooMuch line)
refused true line other is = refl
refused false line other is = cc is

-- and so does one whose read is too much
pub so_far_much : (seats : ℕ) (bytes : List ℕ) (jobs : List Job) (counts : List ℕ) (sum line : ℕ) (rest text behind : List ℕ) (call : SeatCall) (reads : ℕ)
    → IsReadSoFar seats bytes jobs counts sum line rest → lines_of rest ≡ text ∷ lines_of behind → line_call seats line (fields_of text) ≡ Ok (Some call) → reads ≡ read_length call.op → reads_limit < sum + reads
    → ReadsTrace seats bytes (Err (TooMuch line))
so_far_much seats bytes jobs counts sum line rest text behind call reads far split is length_is much =
    let read = far.read in
    on_from seats bytes jobs line rest text behind (Ok (Some call)) far.goes split is
    ∙ refused (nat_lt reads_limit (read_total jobs + read_length call.op)) line (reading_from seats (lines_of behind) (line + 1) (jobs ++ job_after jobs line call ∷ [])) (more reads_limit (read_total jobs + read_length call.op) (omega (arith, length_is)))

-- one line more is printed
pub printed_more : (jobs : List Job) (i : ℕ) (job : Job) (old new : List ℕ) → old ≡ trace_text (take i jobs) → i < length jobs → job ≡ get_or jobs i job → new ≡ old ++ line_text job → new ≡ trace_text (take (i + 1) jobs)
printed_more jobs i job old new before inside is push =
    let grown : take (i + 1) jobs ≡ take i jobs ++ job ∷ [] = take_more jobs i job inside ∙ ap (λ (x : Job). take i jobs ++ x ∷ []) (sym is) in
    push ∙ ap (λ (xs : List ℕ). xs ++ line_text job) before ∙ sym (trace_text-push (take i jobs) job) ∙ ap trace_text (sym grown)
