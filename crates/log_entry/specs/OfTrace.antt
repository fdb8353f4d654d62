-- When a list of calls is what a trace asks: each seat's calls in their order, each once, and no others.
use Rattle.std.specs.Prelude.{ℕ, ◌≡◌, ◌==◌, List, length, map, filter, take}
use Rattle.log_entry.specs.declared.calls.Op.{Op}
use Rattle.log_entry.specs.declared.calls.Job.{Job}
use Rattle.log_entry.specs.declared.calls.Call.{Call}

-- one call as it is asked: its number among its seat's, and what it asks
pub record Asked : Type 0 where
  pub number : ℕ
  pub op : Op

-- what the trace asks for a seat, in order
abbrev pub asked_for : ℕ → List Job → List Asked
asked_for seat trace = map (λ (job : Job). record { number = job.number; op = job.op }) (filter (λ (job : Job). job.seat == seat) trace)

-- what a list of calls records of a seat, in order
abbrev pub answered_for : ℕ → List Call → List Asked
answered_for seat calls = map (λ (call : Call). record { number = call.number; op = call.op }) (filter (λ (call : Call). call.seat == seat) calls)

-- the calls are the trace's
abbrev pub OfTrace : List Call → List Job → Type 0
OfTrace calls trace = (seat : ℕ) → answered_for seat calls ≡ asked_for seat trace

-- the calls are a part of the trace's, as those of a run are that stops early: for each seat they are the first so many of its calls, in order,
-- each once, and no others
abbrev pub OfTracePart : List Call → List Job → Type 0
OfTracePart calls trace = (seat : ℕ) → answered_for seat calls ≡ take (length (answered_for seat calls)) (asked_for seat trace)

-- all of a trace's calls are a part of them
abbrev pub WholeIsPart : Type 0
WholeIsPart = (calls : List Call) (trace : List Job) → OfTrace calls trace → OfTracePart calls trace

-- and a part that has as many of each seat's calls as the trace is the whole
abbrev pub LongPartIsWhole : Type 0
LongPartIsWhole = (calls : List Call) (trace : List Job) → OfTracePart calls trace → ((seat : ℕ) → length (answered_for seat calls) ≡ length (asked_for seat trace)) → OfTrace calls trace
