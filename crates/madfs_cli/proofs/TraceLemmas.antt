-- A trace of one seat numbers its calls in turn.
use Rattle.std.proofs.Common.{◌≡◌, ℕ, ◌+◌, List, [], ◌∷◌, ◌++◌, length, refl, ap, ◌∙◌, arith, length-append}
use Rattle.std.proofs.lemmas.List.{length_push, map-append}
use Rattle.std.proofs.lemmas.List.Elements.{filter-append}
use Rattle.log_entry.specs.OfTrace.{asked_for}
use Rattle.log_entry.specs.declared.calls.Job.{Job}
use Rattle.trace_reader.specs.Trace.{AllFollow, IsTrace}
use Rattle.plain_engine.specs.Replaying.{AreNumbered, AreOneSeat}

-- what is asked for a seat with one more job
asked_for-push : (seat : ℕ) (before : List Job) (job : Job) → asked_for seat (before ++ job ∷ []) ≡ asked_for seat before ++ asked_for seat (job ∷ [])
asked_for-push seat before job = simp (filter-append, map-append)

-- one more job of seat 0 among jobs that all are
asked-zero : (before : List Job) (job : Job) → job.seat ≡ 0 → length (asked_for 0 before) ≡ length before → length (asked_for 0 (before ++ job ∷ [])) ≡ length (before ++ job ∷ [])
asked-zero before job zero all =
    let one : length (asked_for 0 (job ∷ [])) ≡ 1 = rw zero refl in
    let both : length (asked_for 0 (before ++ job ∷ [])) ≡ length (asked_for 0 before) + length (asked_for 0 (job ∷ [])) = rw (asked_for-push 0 before job) (length-append (asked_for 0 before) (asked_for 0 (job ∷ []))) in
    omega (arith, length_push before job)

numbered : (before jobs : List Job) → AllFollow 1 before jobs → length (asked_for 0 before) ≡ length before → AreNumbered 0 (length before + 1) jobs
numbered before [] follow zero = tt
numbered before (job ∷ jobs) follow zero =
    let seat : job.seat ≡ 0 = omega (arith, follow.0.seat) in
    let number : job.number ≡ length before + 1 = follow.0.number ∙ ap (λ n. n + 1) (ap (λ s. length (asked_for s before)) seat ∙ zero) in
    let more : length (before ++ job ∷ []) ≡ length before + 1 = length_push before job in
    let rest : AreNumbered 0 (length (before ++ job ∷ []) + 1) jobs = numbered (before ++ job ∷ []) jobs follow.1 (asked-zero before job seat zero) in
    (seat, number, rw more at rest)

pub one_seat : (jobs : List Job) → IsTrace 1 jobs → AreOneSeat jobs
one_seat jobs trace = numbered [] jobs trace refl
