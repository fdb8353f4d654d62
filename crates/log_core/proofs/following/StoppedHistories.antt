-- The calls of a run wherever it stops, with what running calls have put in, are one legal history; and so are those of a run that ends with no call running.
use Rattle.std.proofs.Common.{◌≡◌, ◌≤◌, ℕ, List, [], ◌++◌, IsPermutation, refl, sym, ◌∙◌, ap, subst, append-nil}
use Rattle.std.specs.List.{AllByRecursion}
use Rattle.std.proofs.lemmas.List.Sorted.{IsPermutation-refl}
use Rattle.log_entry.specs.Order.{IsInOrder}
use Rattle.log_entry.specs.declared.calls.Call.{Call}
use Rattle.log_core.specs.Origin.{Origin}
use Rattle.log_core.specs.Cores.{Core}
use Rattle.log_core.specs.Steps.{Step}
use Rattle.log_core.specs.Records.{writes_at}
use Rattle.log_core.specs.Runs.{IsRun, end}
use Rattle.log_core.specs.Starts.{IsStart}
use Rattle.log_core.specs.Invariant.{Invariant}
use Rattle.log_core.specs.Histories.{recorded_calls, running_writes, running_calls, AreQuiet, Ran}
use Rattle.log_core.specs.Following.{IsWholeHistory, IsOneHistory, RunsAreLegal, StoppedRunsAreLegal, StoppedWritesAreLegal}
use Rattle.log_core.proofs.starts.StartMeets.{start_meets}
use Rattle.log_core.proofs.kinds.RunHolds.{run_from}
use Rattle.log_core.proofs.following.Stands.{Stands}
use Rattle.log_core.proofs.following.NumbersRise.{count_calls}
use Rattle.log_core.proofs.following.RecordedCalls.{running_stand, none_running}
use Rattle.log_core.proofs.following.StoppedRuns.{whole_leads}
use Rattle.log_core.proofs.following.StoppedSeats.{IsRunning, whole_never_falls}
use Rattle.log_core.proofs.following.StoppedCollections.{whole_collections}
use Rattle.log_core.proofs.following.RunningCalls.{writes_run, calls_run, running_calls_stand, running_calls_write, writes_counted, calls_counted}

module _ (o : Origin) (start : IsStart o) (steps : List Step) (run : IsRun o steps) (quiet calls : List Call)
    (are : AreQuiet o (end o steps) steps quiet) (same : IsPermutation (recorded_calls (end o steps).views ++ quiet) calls) where
  abbrev c : Core
  c = end o steps

  inv : Invariant o c
  inv = run_from o steps (start_meets o start) run

  -- with further calls of seats whose calls run, each of one, that stand in the history, among them the writes put in
  module _ (late : List Call) (stand : AllByRecursion (Stands o c.history c.generations) late) (writes : (position : ℕ) → writes_at position late ≡ writes_at position (running_writes o c))
      (running : AllByRecursion (IsRunning o steps start run) late) (counted : (seat number : ℕ) → count_calls seat number late ≤ 1)
      (whole : List Call) (put_in : IsPermutation (calls ++ late) whole) (order : IsInOrder whole) where
    whole_history : IsWholeHistory o c whole
    whole_history = (let there = whole_leads o start steps run quiet calls are same late stand writes whole put_in order in record {
      legal = there.legal;
      to_end = there.end_is;
      to_file = there.last_is;
      each_seat = whole_never_falls o steps start run late running counted quiet calls whole are same put_in order;
    })

  with_writes : (whole : List Call) → IsPermutation (calls ++ running_writes o c) whole → IsInOrder whole → IsWholeHistory o c whole
  with_writes whole put_in order = whole_history (running_writes o c) (running_stand o c inv) (λ position. refl) (writes_run o steps start run) (writes_counted o steps start run) whole put_in order

  with_calls : (whole : List Call) → IsPermutation (calls ++ running_calls o c) whole → IsInOrder whole → IsOneHistory o c whole
  with_calls whole put_in order = record {
    whole = whole_history (running_calls o c) (running_calls_stand o steps start run) (running_calls_write o steps start run) (calls_run o steps start run) (calls_counted o steps start run) whole put_in order;
    collected = whole_collections o start steps run quiet calls are same whole put_in order;
  }

-- the same of the core that a run leads to
module _ (o : Origin) (calls whole : List Call) (start : IsStart o) where
  of_ran : (late : Core → List Call) (Says : Core → Type 0) →
      ((steps : List Step) (quiet : List Call) → IsRun o steps → AreQuiet o (end o steps) steps quiet → IsPermutation (recorded_calls (end o steps).views ++ quiet) calls → IsPermutation (calls ++ late (end o steps)) whole → Says (end o steps)) →
      (c : Core) → Ran o calls c → IsPermutation (calls ++ late c) whole → Says c
  of_ran late Says says c ran = subst (λ (d : Core). AreQuiet o d ran.steps ran.quiet → IsPermutation (recorded_calls d.views ++ ran.quiet) calls → IsPermutation (calls ++ late d) whole → Says d) ran.ends
      (λ are same put_in. says ran.steps ran.quiet ran.is_run are same put_in) ran.are_quiet ran.same_calls

pub stopped_runs_are_legal : StoppedRunsAreLegal
stopped_runs_are_legal o calls whole core start ran put_in order = of_ran o calls whole start (λ (c : Core). running_calls o c) (λ (c : Core). IsOneHistory o c whole)
    (λ steps quiet run are same put. with_calls o start steps run quiet calls are same whole put order) core ran put_in

pub stopped_writes_are_legal : StoppedWritesAreLegal
stopped_writes_are_legal o calls whole core start ran put_in order = of_ran o calls whole start (λ (c : Core). running_writes o c) (λ (c : Core). IsWholeHistory o c whole)
    (λ steps quiet run are same put. with_writes o start steps run quiet calls are same whole put order) core ran put_in

-- where no call runs nothing is put in
pub runs_are_legal : RunsAreLegal
runs_are_legal o calls core start ran idle = stopped_runs_are_legal o calls calls core start ran
    (subst (λ (all : List Call). IsPermutation all calls) (sym (ap (λ (others : List Call). calls ++ others) none ∙ append-nil calls)) (IsPermutation-refl calls)) ran.in_order
  where
    none : running_calls o core ≡ []
    none = none_running o core (subst (λ (c : Core). Invariant o c) ran.ends (run_from o ran.steps (start_meets o start) ran.is_run)) idle
