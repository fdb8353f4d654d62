-- All calls of a run, the recorded and the quiet ones, stand in time: of two of one seat the one with the smaller number stands first.
use Rattle.std.proofs.Common.{◌≡◌, ◌⊎◌, ◌<◌, ◌≤◌, ℕ, List, [], ◌∷◌, ◌++◌, IsPermutation, refl, sym, ◌∙◌, ap, arith, sum_by}
use Rattle.std.specs.List.{AllByRecursion}
use Rattle.std.proofs.lemmas.List.{append_assoc}
use Rattle.std.proofs.lemmas.List.Elements.{All-from_recursion, recursion_from_All}
use Rattle.std.proofs.lemmas.List.Sorted.{All-permutation, sum_by-IsPermutation}
use Rattle.std.proofs.lemmas.List.Sums.{sum_by-cons}
use Rattle.log_entry.specs.declared.calls.Call.{Call}
use Rattle.log_image.proofs.ListLemmas.{each_join}
use Rattle.log_core.specs.Views.{View, view_of}
use Rattle.log_core.specs.Origin.{Origin}
use Rattle.log_core.specs.Cores.{Core}
use Rattle.log_core.specs.Steps.{Step}
use Rattle.log_core.specs.Records.{one_if}
use Rattle.log_core.specs.Runs.{IsRun, end}
use Rattle.log_core.specs.Starts.{IsStart}
use Rattle.log_core.specs.Invariant.{Invariant}
use Rattle.log_core.specs.Histories.{recorded_calls, IsQuietCall, AreQuiet}
use Rattle.log_core.proofs.Each.{each_weaker, each_both}
use Rattle.log_core.proofs.starts.StartMeets.{start_meets}
use Rattle.log_core.proofs.kinds.RunHolds.{run_from}
use Rattle.log_core.proofs.following.RecordedCalls.{each_view, each_record}
use Rattle.log_core.proofs.following.Seen.{IsCallSeen}
use Rattle.log_core.proofs.following.SeenCalls.{records_are_seen}
use Rattle.log_core.proofs.following.SeatOrder.{AreInTime, both_seen, seen_quiet, quiet_seen, both_quiet, past_last}
use Rattle.log_core.proofs.following.NumbersRise.{InTime, is_call, count_calls}
use Rattle.log_core.proofs.following.CountedCalls.{positive_numbers}

-- a quiet call of an earlier moment is one of the run
abbrev quiet_from : (o : Origin) (core : Core) (steps later here : List Step) (call : Call) → steps ≡ later ++ here → IsQuietCall o here core call → IsQuietCall o steps core call
quiet_from o core steps later here call is quiet = record {
  quiet = quiet.quiet;
  later = later ++ quiet.later;
  earlier = quiet.earlier;
  moment = is ∙ (ap (λ (all : List Step). later ++ all) quiet.moment ∙ sym (append_assoc later quiet.later quiet.earlier));
  made = quiet.made;
  answers = quiet.answers;
}

pub each_quiet : (o : Origin) (core : Core) (steps : List Step) (calls : List Call) → AreQuiet o core steps calls → AllByRecursion (IsQuietCall o steps core) calls
each_quiet o core steps [] are = tt
each_quiet o core steps (call ∷ calls) are = (
  are.0,
  each_weaker (IsQuietCall o are.0.earlier core) (IsQuietCall o steps core) calls
      (λ other quiet. quiet_from o core steps are.0.later are.0.earlier other are.0.moment quiet) (each_quiet o core are.0.earlier calls are.2),
)

-- a fact of each call of a list is one of each call of the same calls in another order
pub each_permuted : (P : Call → Type 0) (calls others : List Call) → IsPermutation calls others → AllByRecursion P calls → AllByRecursion P others
each_permuted P calls others same all = recursion_from_All P others (All-permutation P calls others same (All-from_recursion P calls all))

-- and so are counts
counted_sum : (seat number : ℕ) (calls : List Call) → count_calls seat number calls ≡ sum_by (λ (call : Call). one_if (is_call seat number call)) calls
counted_sum seat number [] = refl
counted_sum seat number (call ∷ calls) = (let rest = counted_sum seat number calls in let cons = sum_by-cons (λ (c : Call). one_if (is_call seat number c)) call calls in omega (arith, rest, cons))

pub counted_permuted : (seat number : ℕ) (calls others : List Call) → IsPermutation calls others → count_calls seat number others ≡ count_calls seat number calls
counted_permuted seat number calls others same = counted_sum seat number others ∙ (sum_by-IsPermutation (λ (c : Call). one_if (is_call seat number c)) calls others same ∙ sym (counted_sum seat number calls))

module _ (o : Origin) (steps : List Step) (start : IsStart o) (run : IsRun o steps) where
  abbrev c : Core
  c = end o steps

  abbrev recorded : List Call
  recorded = recorded_calls c.views

  inv : Invariant o c
  inv = run_from o steps (start_meets o start) run

  seen : AllByRecursion (IsCallSeen o steps) recorded
  seen = records_are_seen o steps start run

  abbrev IsQuiet : Call → Type 0
  IsQuiet call = IsQuietCall o steps c call

  -- the quiet ones among themselves
  quiet_in_time : (later here : List Step) → steps ≡ later ++ here → (calls : List Call) → AreQuiet o c here calls → InTime calls
  quiet_in_time later here is [] are = tt
  quiet_in_time later here is (call ∷ calls) are = (
    ((λ same less. absurd (omega (arith, less))), each_weaker Older (λ (a : Call). AreInTime a call) calls (λ a older. both_quiet o steps start run a call (quiet_from o c steps (later ++ are.0.later) are.0.earlier a whole_is older) (quiet_from o c steps later here call is are.0) older.later older.moment) olders),
    each_weaker (λ (b : Call). (b.seat ≡ call.seat → b.number < call.number) × AllByRecursion (λ (a : Call). AreInTime a b) calls) (λ (b : Call). AllByRecursion (λ (a : Call). AreInTime a b) (call ∷ calls)) calls
        (λ b both. ((λ same less. (let other = both.0 (sym same) in absurd (omega (arith, less, other)))), both.1))
        (each_both (λ (b : Call). b.seat ≡ call.seat → b.number < call.number) (λ (b : Call). AllByRecursion (λ (a : Call). AreInTime a b) calls) calls are.1
        (quiet_in_time (later ++ are.0.later) are.0.earlier whole_is calls are.2)),
  )
    where
      Older : Call → Type 0
      Older a = IsQuietCall o are.0.earlier c a

      olders : AllByRecursion Older calls
      olders = each_quiet o c are.0.earlier calls are.2

      whole_is : steps ≡ (later ++ are.0.later) ++ are.0.earlier
      whole_is = is ∙ (ap (λ (all : List Step). later ++ all) are.0.moment ∙ sym (append_assoc later are.0.later are.0.earlier))

  module _ (quiet : List Call) (are : AreQuiet o c steps quiet) where
    each : AllByRecursion IsQuiet quiet
    each = each_quiet o c steps quiet are

    abbrev all : List Call
    all = recorded ++ quiet

    -- what stands before a recorded one, and before a quiet one
    before_seen : (b : Call) → IsCallSeen o steps b → AllByRecursion (λ (a : Call). AreInTime a b) all
    before_seen b seen_b = each_join (λ (a : Call). AreInTime a b) recorded quiet
        (each_weaker (IsCallSeen o steps) (λ (a : Call). AreInTime a b) recorded (λ a seen_a. both_seen o steps start run a b seen_a seen_b) seen)
        (each_weaker IsQuiet (λ (a : Call). AreInTime a b) quiet (λ a is. quiet_seen o steps start run a is b seen_b) each)

    records_before : (b : Call) → IsQuiet b → AllByRecursion (λ (a : Call). AreInTime a b) recorded
    records_before b is = each_weaker (λ (a : Call). Early a × Either a) (λ (a : Call). AreInTime a b) recorded (λ a both. seen_quiet o steps start run b is a both.0 both.1)
        (each_both Early Either recorded (each_record Early c.views (each_view (λ (v : View). AllByRecursion Early v.done) c.views (past_last o steps start run b is).records)) is.made.before)
      where
        number : ℕ
        number = (view_of (end o is.earlier).views b.seat).ghost.call.number

        Early : Call → Type 0
        Early a = a.seat ≡ b.seat → a.number ≤ number → a.position ≤ b.position

        Either : Call → Type 0
        Either a = a.seat ≡ b.seat → (a.number ≤ number) ⊎ (b.number < a.number)

    pub in_time : InTime all
    in_time = each_join (λ (b : Call). AllByRecursion (λ (a : Call). AreInTime a b) all) recorded quiet
        (each_weaker (IsCallSeen o steps) (λ (b : Call). AllByRecursion (λ (a : Call). AreInTime a b) all) recorded (λ b seen_b. before_seen b seen_b) seen)
        (each_weaker (λ (b : Call). IsQuiet b × AllByRecursion (λ (a : Call). AreInTime a b) quiet) (λ (b : Call). AllByRecursion (λ (a : Call). AreInTime a b) all) quiet
        (λ b both. each_join (λ (a : Call). AreInTime a b) recorded quiet (records_before b both.0) both.1)
        (each_both IsQuiet (λ (b : Call). AllByRecursion (λ (a : Call). AreInTime a b) quiet) quiet each (quiet_in_time [] steps refl quiet are)))

    pub some_numbers : AllByRecursion (λ (call : Call). 0 < call.number) all
    some_numbers = each_join (λ (call : Call). 0 < call.number) recorded quiet
        (each_record (λ (call : Call). 0 < call.number) c.views (each_view (λ (v : View). AllByRecursion (λ (call : Call). 0 < call.number) v.done) c.views
        (λ k. positive_numbers (view_of c.views k).done (λ seat. inv.records.never_fall k seat))))
        (each_weaker IsQuiet (λ (call : Call). 0 < call.number) quiet (λ call is. (let after = is.made.after in omega (arith, after))) each)
