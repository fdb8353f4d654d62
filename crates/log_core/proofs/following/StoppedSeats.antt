-- What running calls have put in stands in time with the other calls of a run, so each seat's calls stand by their numbers.
use Rattle.std.specs.List.{AllByRecursion}
use Rattle.std.proofs.Common.{◌≡◌, true, false, List, [], ◌∷◌, refl, sym, ◌∙◌, subst, ℕ, Bool, ap, arith, ◌≢◌, ◌≤◌, ◌+◌, ◌==◌, ◌⊎◌, inl, inr, ⊎_elim, ◌<◌, ◌++◌, None, ◌&&◌, IsPermutation}
use Rattle.log_core.specs.Views.{op_in, View, view_of}
use Rattle.log_entry.specs.declared.calls.Call.{Call}
use Rattle.log_core.specs.Origin.{Origin}
use Rattle.log_core.specs.Steps.{Step}
use Rattle.log_core.specs.Runs.{end, IsRun}
use Rattle.log_core.proofs.Each.{each_weaker, each_both}
use Rattle.std.proofs.lemmas.Bool.{eqb-true, false≢true}
use Rattle.log_entry.specs.Order.{IsInOrder}
use Rattle.log_core.specs.Records.{one_if, NeverFall}
use Rattle.log_image.specs.Chains.{is_listed}
use Rattle.log_image.proofs.ListLemmas.{each_join}
use Rattle.log_core.specs.Cores.{Core}
use Rattle.log_core.specs.Invariant.{Invariant}
use Rattle.log_core.proofs.clauses.OneView.{same_or_other}
use Rattle.log_core.proofs.clauses.GrownRecords.{own_part}
use Rattle.log_core.proofs.kinds.RunHolds.{run_from}
use Rattle.log_core.proofs.following.Seen.{AllSeen, IsCallSeen}
use Rattle.log_core.proofs.following.SeenCalls.{seen_run, records_are_seen}
use Rattle.log_core.proofs.following.SeenStart.{view_or_spent}
use Rattle.log_core.specs.Starts.{IsStart}
use Rattle.log_core.specs.Histories.{IsQuietCall, recorded_calls, AreQuiet}
use Rattle.log_core.proofs.starts.StartMeets.{start_meets}
use Rattle.log_core.proofs.clauses.Others.{unspent_made}
use Rattle.log_core.proofs.following.SeatOrder.{AreInTime, both_seen, quiet_seen}
use Rattle.log_core.proofs.following.RecordedCalls.{each_view, each_record}
use Rattle.log_core.proofs.following.NumbersRise.{InTime, count_calls, never_fall_in_order}
use Rattle.log_core.proofs.following.CallsInTime.{each_quiet, each_permuted, counted_permuted, in_time, some_numbers}
use Rattle.log_core.proofs.following.CountedCalls.{count_join, none_counted, all_counted}

-- each of some calls has a smaller number than those of its seat among others
abbrev ComeBefore : List Call → List Call → Type 0
ComeBefore calls others = AllByRecursion (λ (call : Call). AllByRecursion (λ (other : Call). call.seat ≡ other.seat → call.number < other.number) others) calls

-- where calls have smaller numbers than others of their seats, none of the one is counted, or none of the other
apart_counted : (seat number : ℕ) (calls others : List Call) → ComeBefore calls others → (count_calls seat number calls ≡ 0) ⊎ (count_calls seat number others ≡ 0)
apart_counted seat number [] others before = inl refl
apart_counted seat number (call ∷ calls) others before = by (call.seat == seat) (call.number == number) refl refl (apart_counted seat number calls others before.1)
  where
    by : (one two : Bool) → (call.seat == seat) ≡ one → (call.number == number) ≡ two → (count_calls seat number calls ≡ 0) ⊎ (count_calls seat number others ≡ 0) →
        (one_if (one && two) + count_calls seat number calls ≡ 0) ⊎ (count_calls seat number others ≡ 0)
    by true true a b rest = (let seat_is = eqb-true call.seat seat a in let number_is = eqb-true call.number number b in
        inr (none_counted seat number others (each_weaker (λ (other : Call). call.seat ≡ other.seat → call.number < other.number) (λ (other : Call). other.seat ≡ seat → other.number ≢ number) others
        (λ other less same is. (let low = less (seat_is ∙ sym same) in omega (arith, low, is, number_is))) before.0)))
    by true false a b rest = ⊎_elim (λ none. inl (omega (arith, none))) (λ none. inr none) rest
    by false two a b rest = ⊎_elim (λ none. inl (omega (arith, none))) (λ none. inr none) rest

-- what holds of each of a list and each of another, by one of the first
each_crossed : (R : Call → Call → Type 0) (calls others : List Call) → AllByRecursion (λ (call : Call). AllByRecursion (λ (other : Call). R call other) others) calls →
    AllByRecursion (λ (other : Call). AllByRecursion (λ (call : Call). R call other) calls) others
each_crossed R [] others all = none others
  where
    none : (rest : List Call) → AllByRecursion (λ (other : Call). Unit {0}) rest
    none [] = tt
    none (other ∷ rest) = (tt, none rest)
each_crossed R (call ∷ calls) others all = each_both (λ (other : Call). R call other) (λ (other : Call). AllByRecursion (λ (first : Call). R first other) calls) others all.0 (each_crossed R calls others all.1)

module _ (o : Origin) (steps : List Step) (start : IsStart o) (run : IsRun o steps) where
  abbrev c : Core
  c = end o steps

  inv : Invariant o c
  inv = run_from o steps (start_meets o start) run

  all_seen : AllSeen o steps
  all_seen = seen_run o steps (start_meets o start) run

  -- what is known of what a running call has put in: its view, and its number there; and it is seen at its call's step
  pub record IsRunning (call : Call) : Type 0 where
    pub unspent : (view_of c.views call.seat).parts ≢ []
    pub number_is : call.number ≡ (view_of c.views call.seat).ghost.call.number
    pub runs : op_in (view_of c.views call.seat).seat ≢ None
    pub seen : IsCallSeen o steps call

  module _ (late : List Call) (running : AllByRecursion IsRunning late) (counted : (seat number : ℕ) → count_calls seat number late ≤ 1) where
    -- a record has a smaller number than its seat's running call
    recorded_before : ComeBefore (recorded_calls c.views) late
    recorded_before = each_crossed (λ (r call : Call). call.seat ≡ r.seat → call.number < r.number) late (recorded_calls c.views)
        (each_weaker IsRunning (λ (r : Call). AllByRecursion (λ (call : Call). call.seat ≡ r.seat → call.number < r.number) (recorded_calls c.views)) late
        (λ r is. each_record (λ (call : Call). call.seat ≡ r.seat → call.number < r.number) c.views
        (each_view (λ (u : View). AllByRecursion (λ (call : Call). call.seat ≡ r.seat → call.number < r.number) u.done) c.views (λ j. of_view r is j))) running)
      where
        of_view : (r : Call) → IsRunning r → (j : ℕ) → AllByRecursion (λ (call : Call). call.seat ≡ r.seat → call.number < r.number) (view_of c.views j).done
        of_view r is j = same_or_other j r.seat own other
          where
            own : j ≡ r.seat → AllByRecursion (λ (call : Call). call.seat ≡ r.seat → call.number < r.number) (view_of c.views j).done
            own same = subst (λ (i : ℕ). AllByRecursion (λ (call : Call). call.seat ≡ r.seat → call.number < r.number) (view_of c.views i).done) (sym same)
                (each_weaker (λ (call : Call). call.seat ≡ (view_of c.views r.seat).seat.number → call.number < (view_of c.views r.seat).ghost.call.number) (λ (call : Call). call.seat ≡ r.seat → call.number < r.number)
                (view_of c.views r.seat).done
                (λ call low mine. (let less = low (mine ∙ sym (inv.sizes.each r.seat (unspent_made c.views r.seat is.unspent) is.unspent).number) in let number = is.number_is in omega (arith, less, number)))
                ((inv.records.calls r.seat).numbers.runs is.runs))

            other : j ≢ r.seat → AllByRecursion (λ (call : Call). call.seat ≡ r.seat → call.number < r.number) (view_of c.views j).done
            other apart = each_weaker (λ (call : Call). is_listed (view_of c.views j).parts call.seat ≡ true) (λ (call : Call). call.seat ≡ r.seat → call.number < r.number) (view_of c.views j).done
                (λ call listed mine. absurd (false≢true (sym (absent (view_of c.views j).parts refl) ∙ subst (λ (i : ℕ). is_listed (view_of c.views j).parts i ≡ true) mine listed)))
                (view_or_spent (λ (u : View). AllByRecursion (λ (call : Call). is_listed u.parts call.seat ≡ true) u.done) c.views j tt inv.records.seats_once.records)
              where
                absent : (parts : List ℕ) → (view_of c.views j).parts ≡ parts → is_listed (view_of c.views j).parts r.seat ≡ false
                absent [] none = ap (λ (p : List ℕ). is_listed p r.seat) none
                absent (part ∷ parts) is_parts = own_part c.history c.views inv.records.seats_once r.seat is.unspent j apart (λ none. (let never : (part ∷ parts) ≡ [] = sym is_parts ∙ none in cc))

    module _ (quiet calls whole : List Call) (are : AreQuiet o c steps quiet) (same : IsPermutation (recorded_calls c.views ++ quiet) calls)
        (put : IsPermutation (calls ++ late) whole) (order : IsInOrder whole) where
      each : AllByRecursion (IsQuietCall o steps c) quiet
      each = each_quiet o c steps quiet are

      -- a quiet call was made while its seat ran none, so one that still runs began later
      quiet_before : ComeBefore quiet late
      quiet_before = each_weaker (IsQuietCall o steps c) (λ (b : Call). AllByRecursion (λ (r : Call). b.seat ≡ r.seat → b.number < r.number) late) quiet
          (λ b is. each_weaker IsRunning (λ (r : Call). b.seat ≡ r.seat → b.number < r.number) late
          (λ r runs same_seat. (let number = runs.number_is in
          let low = is.made.before_running (subst (λ (seat : ℕ). op_in (view_of c.views seat).seat ≢ None) (sym same_seat) runs.runs) in
          let one = ap (λ (seat : ℕ). (view_of c.views seat).ghost.call.number) same_seat in omega (arith, number, low, one))) running) each

      recorded_seen : AllByRecursion (IsCallSeen o steps) (recorded_calls c.views)
      recorded_seen = records_are_seen o steps start run

      -- the other calls before one of them
      running_behind : (b : Call) → IsRunning b → AllByRecursion (λ (a : Call). AreInTime a b) calls
      running_behind b is = each_permuted (λ (a : Call). AreInTime a b) (recorded_calls c.views ++ quiet) calls same (each_join (λ (a : Call). AreInTime a b) (recorded_calls c.views) quiet
          (each_weaker (IsCallSeen o steps) (λ (a : Call). AreInTime a b) (recorded_calls c.views) (λ a seen. both_seen o steps start run a b seen is.seen) recorded_seen)
          (each_weaker (IsQuietCall o steps c) (λ (a : Call). AreInTime a b) quiet (λ a quiet_call. quiet_seen o steps start run a quiet_call b is.seen) each))

      -- and one of them before another call, which has a smaller number where it is of its seat
      running_first : (b : Call) → AllByRecursion (λ (r : Call). b.seat ≡ r.seat → b.number < r.number) late → AllByRecursion (λ (r : Call). AreInTime r b) late
      running_first b low = each_weaker (λ (r : Call). b.seat ≡ r.seat → b.number < r.number) (λ (r : Call). AreInTime r b) late
          (λ r less same_seat more. absurd (let smaller = less (sym same_seat) in omega (arith, smaller, more))) low

      calls_before : ComeBefore calls late
      calls_before = each_permuted (λ (b : Call). AllByRecursion (λ (r : Call). b.seat ≡ r.seat → b.number < r.number) late) (recorded_calls c.views ++ quiet) calls same
          (each_join (λ (b : Call). AllByRecursion (λ (r : Call). b.seat ≡ r.seat → b.number < r.number) late) (recorded_calls c.views) quiet recorded_before quiet_before)

      calls_in_time : InTime calls
      calls_in_time = each_weaker (λ (b : Call). AllByRecursion (λ (a : Call). AreInTime a b) (recorded_calls c.views ++ quiet)) (λ (b : Call). AllByRecursion (λ (a : Call). AreInTime a b) calls) calls
          (λ b all. each_permuted (λ (a : Call). AreInTime a b) (recorded_calls c.views ++ quiet) calls same all)
          (each_permuted (λ (b : Call). AllByRecursion (λ (a : Call). AreInTime a b) (recorded_calls c.views ++ quiet)) (recorded_calls c.views ++ quiet) calls same (in_time o steps start run quiet are))

      both_in_time : InTime (calls ++ late)
      both_in_time = each_join (λ (b : Call). AllByRecursion (λ (a : Call). AreInTime a b) (calls ++ late)) calls late
          (each_weaker (λ (b : Call). AllByRecursion (λ (a : Call). AreInTime a b) calls × AllByRecursion (λ (r : Call). b.seat ≡ r.seat → b.number < r.number) late)
          (λ (b : Call). AllByRecursion (λ (a : Call). AreInTime a b) (calls ++ late)) calls
          (λ b both. each_join (λ (a : Call). AreInTime a b) calls late both.0 (running_first b both.1))
          (each_both (λ (b : Call). AllByRecursion (λ (a : Call). AreInTime a b) calls) (λ (b : Call). AllByRecursion (λ (r : Call). b.seat ≡ r.seat → b.number < r.number) late) calls calls_in_time calls_before))
          (each_weaker IsRunning (λ (b : Call). AllByRecursion (λ (a : Call). AreInTime a b) (calls ++ late)) late
          (λ b is. each_join (λ (a : Call). AreInTime a b) calls late (running_behind b is)
          (each_weaker IsRunning (λ (a : Call). AreInTime a b) late (λ a other. both_seen o steps start run a b other.seen is.seen) running)) running)

      both_counted : (of number : ℕ) → count_calls of number (calls ++ late) ≤ 1
      both_counted of number =
          (let both = count_join of number calls late in
          let permuted = counted_permuted of number (recorded_calls c.views ++ quiet) calls same in
          let once = all_counted o c inv steps quiet are each of number in
          let one = counted of number in
          ⊎_elim (λ none. omega (arith, both, one, none)) (λ none. omega (arith, both, permuted, once, none)) (apart_counted of number calls late calls_before))

      both_some : AllByRecursion (λ (call : Call). 0 < call.number) (calls ++ late)
      both_some = each_join (λ (call : Call). 0 < call.number) calls late
          (each_permuted (λ (call : Call). 0 < call.number) (recorded_calls c.views ++ quiet) calls same (some_numbers o steps start run quiet are))
          (each_weaker IsRunning (λ (call : Call). 0 < call.number) late (λ call is. (let some = (inv.records.calls call.seat).numbers.some is.runs in let number = is.number_is in omega (arith, some, number))) running)

      pub whole_never_falls : (seat : ℕ) → NeverFall seat 0 0 whole
      whole_never_falls seat = never_fall_in_order seat whole order
          (each_weaker (λ (b : Call). AllByRecursion (λ (a : Call). AreInTime a b) (calls ++ late)) (λ (b : Call). AllByRecursion (λ (a : Call). AreInTime a b) whole) whole
          (λ b all. each_permuted (λ (a : Call). AreInTime a b) (calls ++ late) whole put all)
          (each_permuted (λ (b : Call). AllByRecursion (λ (a : Call). AreInTime a b) (calls ++ late)) (calls ++ late) whole put both_in_time))
          (λ of number. (let permuted = counted_permuted of number (calls ++ late) whole put in let once = both_counted of number in omega (arith, permuted, once)))
          (each_permuted (λ (call : Call). 0 < call.number) (calls ++ late) whole put both_some)
