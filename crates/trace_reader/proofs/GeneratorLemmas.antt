-- Generated jobs: each seat's are numbered in turn, and what is printed of them is read as them.
use Rattle.std.proofs.Common.{◌≡◌, ℕ, zero, suc, ◌+◌, ◌*◌, ◌/◌, ◌%◌, ◌^◌, ◌<◌, ◌≤◌, ◌==◌, nat_lt, false, List, [], ◌∷◌, ◌++◌, length, Ok, inl, inr, eq-eqb, refl, sym, ap, subst, ◌∙◌, add-one, arith}
use Rattle.std.proofs.Math.Nat.{zero-mod}
use Rattle.std.proofs.lemmas.Bool.{cases_eq, cases_lt, ne_eqb}
use Rattle.std.proofs.lemmas.List.{length_push}
use Rattle.std.proofs.lemmas.List.Elements.{All-append, All-cons, All-nil}
use Rattle.std.proofs.lemmas.Nat.{div-mul-add, mod_below}
use Rattle.std.specs.List.{All}
use Rattle.log_entry.specs.OfTrace.{asked_for}
use Rattle.log_entry.specs.declared.calls.Job.{Job}
use Rattle.log_entry.specs.declared.calls.Op.{Op}
use Rattle.log_entry.specs.declared.calls.Op.TheVariants.{Pwrite, Append, Pread}
use Rattle.trace_reader.specs.TraceText.{trace_text}
use Rattle.trace_reader.specs.Trace.{IsReadable, Follows, IsTrace, OnLinesFrom, read_length, read_total}
use Rattle.trace_reader.specs.Reading.{ReadsTrace, trace_limit}
use Rattle.trace_reader.specs.Generator.{drawn, upper_half, place_of_draw, rising_bytes, turn_op, generated_job, generated}
use Rattle.trace_reader.proofs.DigitLemmas.{IsByte}
use Rattle.trace_reader.proofs.PrintLemmas.{printed_is_read}
use Rattle.trace_reader.proofs.TraceLemmas.{not_more, one_if, asked_push, trace_push, read_total-push}
use Rattle.trace_reader.proofs.LengthLemmas.{generated_short}
use Rattle.trace_reader.proofs.TurnLemmas.{StepsOn, steps_on, by_turn}

pub generated_more : (number seats before : ℕ) (jobs new : List Job) (job : Job) → jobs ≡ generated number seats before → job ≡ generated_job number seats before → new ≡ jobs ++ job ∷ [] → new ≡ generated number seats (before + 1)
generated_more number seats before jobs new job was is push = rw (add-one, push, was, is) refl

-- ---- the numbers of a seat's jobs

-- how many of so many jobs are a seat's: a turn more where the turn has passed it
abbrev HasTurns : ℕ → ℕ → ℕ → ℕ → Type 0
HasTurns number seats n seat =
    (seat < n % seats → length (asked_for seat (generated number seats n)) ≡ n / seats + 1) × (n % seats ≤ seat → length (asked_for seat (generated number seats n)) ≡ n / seats)

one_of_same : (a b : ℕ) → a ≡ b → one_if (a == b) ≡ 1
one_of_same a b same = ap one_if (eq-eqb a b same)

one_of_other : (a b : ℕ) → (a ≡ b → ⊥) → one_if (a == b) ≡ 0
one_of_other a b other = ap one_if (ne_eqb a b other)

turns_more : (number seats n seat : ℕ) → seat < seats → HasTurns number seats n seat → StepsOn n seats → (m : ℕ) → length (asked_for seat (generated number seats n)) ≡ m
    → length (asked_for seat (generated number seats (n + 1))) ≡ m + one_if ((n % seats) == seat)
turns_more number seats n seat below before step m count =
    ap (λ (k : ℕ). length (asked_for seat (generated number seats k))) (add-one n) ∙ asked_push seat (generated number seats n) (generated_job number seats n) ∙ ap (λ (k : ℕ). k + one_if ((n % seats) == seat)) count

turns_next : (number seats n seat : ℕ) → seat < seats → StepsOn n seats → HasTurns number seats n seat → HasTurns number seats (n + 1) seat
turns_next number seats n seat below step before =
    let more = turns_more number seats n seat below before step (length (asked_for seat (generated number seats n))) refl in
    elim (cases_lt seat (n % seats)) [
      | inl passed ↦
          let count = before.0 passed in
          let none = one_of_other (n % seats) seat (λ same. omega (arith, same)) in
          elim step [
            | inl on ↦ let r = on.0 in let q = on.1 in (λ less. omega (arith, more, count, none, q), λ past. absurd (omega (arith, r)))
            | inr over ↦ let r = over.0 in let q = over.1 in (λ less. absurd (omega (arith, r)), λ past. omega (arith, more, count, none, q))
          ]
      | inr ahead ↦
          let count = before.1 ahead in
          elim (cases_eq (n % seats) seat) [
            | inl same ↦
                let one = one_of_same (n % seats) seat same in
                elim step [
                  | inl on ↦ let r = on.0 in let q = on.1 in (λ less. omega (arith, more, count, one, q), λ past. absurd (omega (arith, r)))
                  | inr over ↦ let r = over.0 in let q = over.1 in (λ less. absurd (omega (arith, r)), λ past. omega (arith, more, count, one, q))
                ]
            | inr other ↦
                let none = one_of_other (n % seats) seat other in
                elim step [
                  | inl on ↦ let r = on.0 in let q = on.1 in (λ less. absurd (omega (arith, r)), λ past. omega (arith, more, count, none, q))
                  | inr over ↦ let r = over.0 in let full = over.2 in absurd (omega (arith, r, full))
                ]
          ]
    ]

turns : (number seats n seat : ℕ) → 0 < seats → seat < seats → HasTurns number seats n seat
turns number seats zero seat some below =
    let r : 0 % seats ≡ 0 = zero-mod seats in
    let none : 0 ≡ 0 * seats + 0 = omega arith in
    let q : 0 / seats ≡ 0 = ap (λ (k : ℕ). k / seats) none ∙ div-mul-add 0 seats 0 some in
    (λ less. absurd (omega (arith, r)), λ past. sym q)
turns number seats (suc n) seat some below =
    subst (λ (k : ℕ). HasTurns number seats k seat) (add-one n) (turns_next number seats n seat below (steps_on n seats some) (turns number seats n seat some below))

-- ---- each job may follow

pub all_bytes : (first count : ℕ) → All IsByte (rising_bytes first count)
all_bytes first zero = All-nil IsByte
all_bytes first (suc count) = All-append IsByte (rising_bytes first count) ((first + count) % 256 ∷ []) (all_bytes first count) (All-cons IsByte ((first + count) % 256) [] (omega arith) (All-nil IsByte))

-- it may be asked, and reads at most 2,048 bytes
abbrev MayTurn : Op → Type 0
MayTurn op = IsReadable op × (read_length op ≤ 2048)

may_turn : (number line seat turn draw : ℕ) → seat < 16 → MayTurn (turn_op number line seat turn draw)
may_turn number line seat turn draw few =
    let draws : draw % 63488 < 63488 = omega arith in
    let place : place_of_draw seat draw < 2 ^ 64 = omega arith in
    by_turn MayTurn (nat_lt (turn % 8) 4) (turn % 8 == 4) (turn % 8 == 5) (turn % 8 == 6) (turn % 16 == 14) (turn % 512 == 511)
    (Pwrite (place_of_draw seat draw) (rising_bytes (number + line) (1 + upper_half draw % 2048))) (Append (rising_bytes (number + line) (1 + upper_half draw % 256))) (Pread (place_of_draw seat draw) (1 + upper_half draw % 2048))
    ((place, all_bytes (number + line) (1 + upper_half draw % 2048)), omega arith)
    (all_bytes (number + line) (1 + upper_half draw % 256), omega arith)
    ((place, omega arith), omega arith)
    (tt, omega arith) (tt, omega arith) (tt, omega arith)

-- so many jobs read at most 2,048 bytes each
reads_few : (number seats n : ℕ) → 0 < seats → seats ≤ 16 → read_total (generated number seats n) ≤ n * 2048
reads_few number seats zero some few = omega arith
reads_few number seats (suc n) some few =
    let before = reads_few number seats n some few in
    let more = read_total-push (generated number seats n) (generated_job number seats n) in
    let seat : n % seats < 16 = let below = mod_below n seats some in omega arith in
    let one = (may_turn number (n + 1) (n % seats) (n / seats) (drawn number (n + 1)) seat).1 in
    omega (arith, more, one)

job_follows : (number seats n : ℕ) → 0 < seats → seats ≤ 16 → n < 20000 → Follows seats (generated number seats n) (generated_job number seats n)
job_follows number seats n some few short =
    let below = mod_below n seats some in
    let seat : n % seats < 16 = omega arith in
    let may = may_turn number (n + 1) (n % seats) (n / seats) (drawn number (n + 1)) seat in
    let total = reads_few number seats n some few in
    let one = may.1 in
    record {
      seat = below;
      number = ap (λ (k : ℕ). k + 1) (sym ((turns number seats n (n % seats) some below).1 (omega arith)));
      readable = may.0;
      total = omega (arith, total, one);
    }

are_trace : (number seats n : ℕ) → 0 < seats → seats ≤ 16 → n ≤ 20000 → IsTrace seats (generated number seats n)
are_trace number seats zero some few short = tt
are_trace number seats (suc n) some few short =
    trace_push seats (generated number seats n) (generated_job number seats n) (are_trace number seats n some few (omega arith)) (job_follows number seats n some few (omega arith))

lines_push : (at : ℕ) (jobs : List Job) (job : Job) → OnLinesFrom at jobs → job.line ≡ at + length jobs → OnLinesFrom at (jobs ++ job ∷ [])
lines_push at [] job lines is = (omega (arith, is), tt)
lines_push at (first ∷ jobs) job lines is = (lines.0, lines_push (at + 1) jobs job lines.1 (omega (arith, is)))

many : (number seats n : ℕ) → length (generated number seats n) ≡ n
many number seats zero = refl
many number seats (suc n) = let before = many number seats n in let more = length_push (generated number seats n) (generated_job number seats n) in omega (arith, before, more)

on_lines : (number seats n : ℕ) → OnLinesFrom 1 (generated number seats n)
on_lines number seats zero = tt
on_lines number seats (suc n) = lines_push 1 (generated number seats n) (generated_job number seats n) (on_lines number seats n) (let long = many number seats n in omega (arith, long))

pub generated_are_read : (number seats calls : ℕ) → 1 ≤ seats → seats ≤ 16 → calls ≤ 20000 → ReadsTrace seats (trace_text (generated number seats calls)) (Ok (generated number seats calls))
generated_are_read number seats calls some few short =
    let text : List ℕ = trace_text (generated number seats calls) in
    let not_long : nat_lt trace_limit (length text) ≡ false = not_more trace_limit (length text) (generated_short number seats calls some few short) in
    rw not_long (printed_is_read seats (generated number seats calls) [] 1 (omega arith) (are_trace number seats calls some few short) (on_lines number seats calls))
