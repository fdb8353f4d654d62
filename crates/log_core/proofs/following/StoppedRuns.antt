-- The calls of a run wherever it stops, with the writes that running calls have put in, are one legal history.
use Rattle.std.proofs.Common.{◌≡◌, ◌<◌, ◌≤◌, ◌+◌, ◌-◌, ◌==◌, ◌&&◌, ℕ, Bool, true, false, not, if◌then◌else◌, List, [], ◌∷◌, ◌++◌, take, IsPermutation, refl, sym, ◌∙◌, ap, subst, arith, sum_by}
use Rattle.std.specs.List.{AllByRecursion}
use Rattle.std.proofs.lemmas.List.Sorted.{sum_by-IsPermutation}
use Rattle.std.proofs.lemmas.List.Sums.{sum_by-cons}
use Rattle.std.proofs.lemmas.Bool.{le-ltb}
use Rattle.log_entry.specs.Legal.{is_write}
use Rattle.log_entry.specs.Order.{IsInOrder}
use Rattle.log_entry.specs.declared.calls.Call.{Call}
use Rattle.log_image.proofs.ListLemmas.{each_join}
use Rattle.log_core.specs.Origin.{Origin, first_position}
use Rattle.log_core.specs.Files.{end_of, file_at, file_after_writes, early_file}
use Rattle.log_core.specs.Cores.{Core}
use Rattle.log_core.specs.Steps.{Step}
use Rattle.log_core.specs.Records.{one_if, writes_at}
use Rattle.log_core.specs.Runs.{IsRun, end}
use Rattle.log_core.specs.Starts.{IsStart}
use Rattle.log_core.specs.Invariant.{Invariant}
use Rattle.log_core.specs.Histories.{recorded_calls, running_writes, IsQuietCall, AreQuiet}
use Rattle.log_core.proofs.Each.{each_weaker}
use Rattle.log_core.proofs.clauses.JoinedParts.{writes_join}
use Rattle.log_core.proofs.starts.StartMeets.{start_meets}
use Rattle.log_core.proofs.kinds.RunHolds.{run_from}
use Rattle.log_core.proofs.following.Rising.{place_number, AllFrom, rises_in_order}
use Rattle.log_core.proofs.following.Stands.{Stands, LeadsTo, legal_from}
use Rattle.log_core.proofs.following.RecordedCalls.{records_stand, written_once}
use Rattle.log_core.proofs.following.CallsInTime.{each_quiet, each_permuted}
use Rattle.log_core.proofs.following.QuietCalls.{no_write_quiet, quiet_stands}

-- the counts of the same calls in another order are the same
writes_sum : (position : ℕ) (calls : List Call) → writes_at position calls ≡ sum_by (λ (call : Call). one_if (is_write call.op call.reply && (call.position == position))) calls
writes_sum position [] = refl
writes_sum position (call ∷ calls) = (let rest = writes_sum position calls in let cons = sum_by-cons (λ (c : Call). one_if (is_write c.op c.reply && (c.position == position))) call calls in omega (arith, rest, cons))

writes_permuted : (position : ℕ) (calls others : List Call) → IsPermutation calls others → writes_at position others ≡ writes_at position calls
writes_permuted position calls others same = writes_sum position others ∙ (sum_by-IsPermutation (λ (c : Call). one_if (is_write c.op c.reply && (c.position == position))) calls others same ∙ sym (writes_sum position calls))

pub no_writes : (position : ℕ) (calls : List Call) → AllByRecursion (λ (call : Call). is_write call.op call.reply ≡ false) calls → writes_at position calls ≡ 0
no_writes position [] none = refl
no_writes position (call ∷ calls) none = (let rest = no_writes position calls none.1 in let here = ap (λ (b : Bool). one_if (b && (call.position == position))) none.0 in omega (arith, rest, here))

-- the file at the start's position
start_file : (o : Origin) (c : Core) → file_at o c.history (first_position o) ≡ o.file
start_file o c = ap (λ (early : Bool). if early then early_file o (first_position o) else file_after_writes o.file (take (first_position o - first_position o) c.history)) (le-ltb (first_position o) (first_position o) (omega arith))
    ∙ (let none : first_position o - first_position o ≡ 0 = omega arith in ap (λ (count : ℕ). file_after_writes o.file (take count c.history)) none)

module _ (o : Origin) (start : IsStart o) (steps : List Step) (run : IsRun o steps) (quiet calls : List Call)
    (are : AreQuiet o (end o steps) steps quiet) (same : IsPermutation (recorded_calls (end o steps).views ++ quiet) calls) where
  abbrev c : Core
  c = end o steps

  are_quiet : AllByRecursion (IsQuietCall o steps c) quiet
  are_quiet = each_quiet o c steps quiet are

  inv : Invariant o c
  inv = run_from o steps (start_meets o start) run

  -- each call of the run stands in its history
  pub calls_stand : AllByRecursion (Stands o c.history c.generations) calls
  calls_stand = each_permuted (Stands o c.history c.generations) (recorded_calls c.views ++ quiet) calls same
      (each_join (Stands o c.history c.generations) (recorded_calls c.views) quiet (records_stand o c inv)
      (each_weaker (IsQuietCall o steps c) (Stands o c.history c.generations) quiet (λ call is. quiet_stands o steps start run c.generations call is) are_quiet))

  -- with further calls that stand in it, among them the writes that running calls have put in
  module _ (late : List Call) (late_stand : AllByRecursion (Stands o c.history c.generations) late) (late_writes : (position : ℕ) → writes_at position late ≡ writes_at position (running_writes o c))
      (whole : List Call) (put_in : IsPermutation (calls ++ late) whole) (order : IsInOrder whole) where
    pub whole_stand : AllByRecursion (Stands o c.history c.generations) whole
    whole_stand = each_permuted (Stands o c.history c.generations) (calls ++ late) whole put_in
        (each_join (Stands o c.history c.generations) calls late calls_stand late_stand)

    writes_once : (position : ℕ) → first_position o < position → position ≤ end_of o c.history → writes_at position whole ≡ 1
    writes_once position from upto =
        (let permuted_whole = writes_permuted position (calls ++ late) whole put_in in
        let both_whole = writes_join position calls late in
        let same_late = late_writes position in
        let permuted = writes_permuted position (recorded_calls c.views ++ quiet) calls same in
        let both = writes_join position (recorded_calls c.views) quiet in
        let once = written_once o c inv position from upto in
        let none = no_writes position quiet (each_weaker (IsQuietCall o steps c) (λ (call : Call). is_write call.op call.reply ≡ false) quiet (λ call is. no_write_quiet o steps start run c.generations call is) are_quiet) in
        omega (arith, permuted_whole, both_whole, same_late, permuted, both, once, none))

    -- each stands at or behind the start's position, and where it is a write behind it
    after_start : AllFrom (first_position o + first_position o + 1) whole
    after_start = each_weaker (Stands o c.history c.generations) (λ (call : Call). first_position o + first_position o + 1 ≤ place_number call) whole (λ call stands. go call (is_write call.op call.reply) stands.holds.write_after stands.holds.from_first) whole_stand
      where
        go : (call : Call) (write : Bool) → (write ≡ true → first_position o < call.position) → first_position o ≤ call.position →
            first_position o + first_position o + 1 ≤ call.position + call.position + one_if (not write)
        go call true after low = (let less = after refl in omega (arith, less))
        go call false after low = omega (arith, low)

    leads : LeadsTo o.geometry.block_bytes (file_at o c.history (first_position o)) (first_position o) whole (file_at o c.history (end_of o c.history)) (end_of o c.history)
    leads = legal_from o c.history c.generations (first_position o) whole (record {
      from_first = omega arith;
      to_end = omega arith;
      all = whole_stand;
      rises = rises_in_order whole order;
      behind = after_start;
      once = writes_once;
    })

    -- so they lead from the start's file to the end and the file there
    pub whole_leads : LeadsTo o.geometry.block_bytes o.file (first_position o) whole (file_at o c.history (end_of o c.history)) (end_of o c.history)
    whole_leads = subst (λ (file : List ℕ). LeadsTo o.geometry.block_bytes file (first_position o) whole (file_at o c.history (end_of o c.history)) (end_of o c.history)) (start_file o c) leads
