-- The numbers of a seat's calls along a run: they never fall, and what a seat on which no call runs has recorded is all that its calls so far
-- come to.
use Rattle.std.proofs.Common.{◌≡◌, ◌≢◌, ◌⊎◌, inl, inr, ⊎_elim, ◌<◌, ◌≤◌, ℕ, Bool, true, false, List, [], ◌∷◌, ◌++◌, length, refl, sym, ◌∙◌, ap, subst, arith, slice_set, Option, Some, None, length-set}
use Rattle.std.specs.List.{AllByRecursion, list_all}
use Rattle.std.proofs.lemmas.List.{length_push}
use Rattle.std.proofs.lemmas.Bool.{cases_lt, and_parts, false≢true}
use Rattle.log_entry.specs.declared.calls.Op.{Op}
use Rattle.log_entry.specs.declared.calls.Call.{Call}
use Rattle.log_image.specs.Chains.{is_listed}
use Rattle.log_image.proofs.ListLemmas.{each_join}
use Rattle.pmem_words.specs.Seats.{Seat}
use Rattle.asks.specs.declared.ask.Ask.{Ask}
use Rattle.log_core.specs.Views.{View, Ghost, view_of, spent_view, op_in}
use Rattle.log_core.specs.Origin.{Origin, first_position}
use Rattle.log_core.specs.Cores.{Core, first_core}
use Rattle.log_core.specs.Works.{Work, MayWorkAll, state_after_work, state_after_all_work, is_going_on, ended}
use Rattle.log_core.specs.Steps.{Note, Step, Does, Splits, Joins, is_begun, view_after, view_left, view_right, view_joined}
use Rattle.log_core.specs.After.{after}
use Rattle.log_core.specs.Answers.{MayAddAll}
use Rattle.log_core.specs.Runs.{MayNumber, MayStep, MaySplit, MayJoin, Allowed, ghost_left, IsRun, end}
use Rattle.log_core.specs.Invariant.{Invariant}
use Rattle.log_core.specs.Histories.{greatest_position}
use Rattle.log_core.proofs.Each.{each_weaker}
use Rattle.log_core.proofs.clauses.OneView.{each_set, same_or_other, all_at}
use Rattle.log_core.proofs.clauses.GrownRecords.{own_part}
use Rattle.log_core.proofs.kinds.GoingOn.{op_stays}
use Rattle.log_core.proofs.kinds.RunHolds.{run_from}
use Rattle.log_core.proofs.kinds.Splits.{each_grown}
use Rattle.log_core.proofs.kinds.JoinedViews.{each_joined}
use Rattle.log_core.proofs.following.Greatest.{greatest_each, greatest_more}
use Rattle.log_core.proofs.following.Seen.{AllSeen}
use Rattle.log_core.proofs.following.SeenCalls.{seen_run, moves, left_number, last_is, kind, f, step, left}

-- a number that a step may have is not below the one before it, and above it where a call begins
number_low : (begun : Bool) (before number : ℕ) → MayNumber begun before number → before ≤ number
number_low true before number may = omega (arith, may)
number_low false before number may = omega (arith, may)

number_above : (begun : Bool) (before number : ℕ) → begun ≡ true → MayNumber begun before number → before < number
number_above true before number e may = may
number_above false before number e may = cc

begins : (before now : Option Op) → before ≡ None → now ≢ None → is_begun before now ≡ true
begins None None e some = absurd (some refl)
begins None (Some op) e some = refl
begins (Some op) now e some = cc

some_or_none : (op : Option Op) → (op ≡ None) ⊎ (op ≢ None)
some_or_none None = inl refl
some_or_none (Some op) = inr (λ e. cc)

-- going on leaves what a call asks
pub op_going : (g : Ghost) (s : Seat) (works : List Work) → list_all is_going_on works ≡ true → MayWorkAll g s works → op_in (state_after_all_work s works) ≡ op_in s
op_going g s [] going may = refl
op_going g s (work ∷ works) going may = (let parts = and_parts (is_going_on work) (list_all is_going_on works) going in
    op_going g (state_after_work s work) works parts.1 may.1 ∙ op_stays g s work parts.0 may.0)

module _ (o : Origin) (k : ℕ) where
  -- a seat is made, and while its view is not spent its call's number is at least this
  pub record IsNumbered (number : ℕ) (c : Core) : Type 0 where
    pub inside : k < length c.views
    pub low : (view_of c.views k).parts ≢ [] → number ≤ (view_of c.views k).ghost.call.number

  -- of a seat on which no call ran at a moment: a call that runs is a later one, each record of an earlier one is at a position that there was
  -- then, and its view comes to no smaller one
  pub record IsPast (number position : ℕ) (c : Core) : Type 0 where
    pub runs : op_in (view_of c.views k).seat ≢ None → number < (view_of c.views k).ghost.call.number
    pub records : (seat : ℕ) → AllByRecursion (λ (call : Call). call.seat ≡ k → call.number ≤ number → call.position ≤ position) (view_of c.views seat).done
    pub grown : (view_of c.views k).parts ≢ [] → position ≤ greatest_position (first_position o) (view_of c.views k).done

  abbrev Early : ℕ → ℕ → Call → Type 0
  Early number position call = call.seat ≡ k → call.number ≤ number → call.position ≤ position

  module _ (steps : List Step) (inv : Invariant o (end o steps)) (seen : AllSeen o steps) (number : ℕ) (numbered : IsNumbered number (end o steps)) where
    abbrev c : Core
    c = end o steps

    abbrev Low : ℕ → View → Type 0
    Low j w = j ≡ k → w.parts ≢ [] → number ≤ w.ghost.call.number

    low_at : (j : ℕ) → Low j (view_of c.views j)
    low_at j same = subst (λ (i : ℕ). (view_of c.views i).parts ≢ [] → number ≤ (view_of c.views i).ghost.call.number) (sym same) numbered.low

    module _ (n : ℕ) (ask : Ask) (note : Note) (allowed : Allowed o (end o steps) (Does n ask note)) where
      abbrev v : View
      v = view_of c.views n

      abbrev may_step : MayStep o c v (kind o steps inv seen n ask note allowed) note (f o steps inv seen n ask note allowed)
      may_step = allowed.step

      abbrev w : View
      w = view_after v (kind o steps inv seen n ask note allowed) note (f o steps inv seen n ask note allowed)

      number_is : w.ghost.call.number ≡ note.number
      number_is = left_number o steps inv seen n ask note allowed

      number_more : v.ghost.call.number ≤ note.number
      number_more = number_low (is_begun (op_in v.seat) (op_in note.before)) v.ghost.call.number note.number may_step.number

      numbered_does : IsNumbered number (after o c (Does n ask note))
      numbered_does = record {
        inside = (let long = length-set c.views n w in let low = numbered.inside in omega (arith, long, low));
        low = each_set Low c.views n w allowed.made
            (λ same some. (let low = low_at n same allowed.unspent in let more = number_more in let is = number_is in omega (arith, low, more, is)))
            (λ j other. low_at j) k refl;
      }

      module _ (position : ℕ) (past : IsPast number position (end o steps)) where
        same_op : op_in may_step.enters.last ≡ op_in note.before
        same_op = subst (λ (t : Seat). op_in t ≡ op_in (left o steps inv seen n ask note allowed)) (sym may_step.enters.computed.gives)
            (op_going (ghost_left v note (kind o steps inv seen n ask note allowed) (f o steps inv seen n ask note allowed)) (left o steps inv seen n ask note allowed) may_step.enters.computed.works may_step.enters.going_on may_step.enters.computed.may)
            ∙ (moves o steps inv seen n ask note allowed).same_op

        -- a call that runs at the step is a later one
        later_call : n ≡ k → op_in note.before ≢ None → number < note.number
        later_call same some = ⊎_elim
            (λ (none : op_in v.seat ≡ None). (let above = number_above (is_begun (op_in v.seat) (op_in note.before)) v.ghost.call.number note.number (begins (op_in v.seat) (op_in note.before) none some) may_step.number in
            let low = low_at n same allowed.unspent in omega (arith, above, low)))
            (λ (runs : op_in v.seat ≢ None). (let above = subst (λ (i : ℕ). op_in (view_of c.views i).seat ≢ None → number < (view_of c.views i).ghost.call.number) (sym same) past.runs runs in
            let more = number_more in omega (arith, above, more)))
            (some_or_none (op_in v.seat))

        runs_after : n ≡ k → op_in note.seat ≢ None → number < w.ghost.call.number
        runs_after same some = (let more = later_call same (λ none. by note.adds (λ e. some (ap op_in may_step.enters.seat_is ∙ e)) (same_op ∙ none)) in let is = number_is in omega (arith, more, is))
          where
            by : (adds : List Call) → (op_in (ended adds may_step.enters.last) ≡ None → ⊥) → op_in may_step.enters.last ≡ None → ⊥
            by [] some none = some none
            by (call ∷ calls) some none = some refl

        adds_early : (adds : List Call) → MayAddAll (ghost_left v note (kind o steps inv seen n ask note allowed) (f o steps inv seen n ask note allowed)) may_step.enters.last adds → AllByRecursion (Early number position) adds
        adds_early [] may = tt
        adds_early (call ∷ []) may = (λ mine low. absurd (early mine low), tt)
          where
            early : call.seat ≡ k → call.number ≤ number → ⊥
            early mine low = (let same : n ≡ k = sym (may.seat ∙ last_is o steps inv seen n ask note allowed) ∙ mine in
                let some : op_in note.before ≢ None = (λ none. (let never : Some call.op ≡ None = sym may.op ∙ (same_op ∙ none) in cc)) in
                let more = later_call same some in let is = may.number ∙ left_number o steps inv seen n ask note allowed in omega (arith, more, is, low))
        adds_early (call ∷ other ∷ calls) may = absurd may

        past_does : IsPast number position (after o c (Does n ask note))
        past_does = record {
          runs = each_set (λ (j : ℕ) (u : View). j ≡ k → op_in u.seat ≢ None → number < u.ghost.call.number) c.views n w allowed.made runs_after
              (λ j other same. subst (λ (i : ℕ). op_in (view_of c.views i).seat ≢ None → number < (view_of c.views i).ghost.call.number) (sym same) past.runs) k refl;
          records = each_set (λ (j : ℕ) (u : View). AllByRecursion (Early number position) u.done) c.views n w allowed.made
              (each_join (Early number position) v.done note.adds (past.records n) (adds_early note.adds may_step.enters.adds_are)) (λ j other. past.records j);
          grown = each_set (λ (j : ℕ) (u : View). j ≡ k → u.parts ≢ [] → position ≤ greatest_position (first_position o) u.done) c.views n w allowed.made
              (λ same some. (let before = subst (λ (i : ℕ). (view_of c.views i).parts ≢ [] → position ≤ greatest_position (first_position o) (view_of c.views i).done) (sym same) past.grown some in
              let more = greatest_more (first_position o) v.done note.adds in omega (arith, before, more)))
              (λ j other same. subst (λ (i : ℕ). (view_of c.views i).parts ≢ [] → position ≤ greatest_position (first_position o) (view_of c.views i).done) (sym same) past.grown) k refl;
        }

    numbered_splits : MaySplit o c 0 → IsNumbered number (after o c (Splits 0))
    numbered_splits may = record {
      inside = (let long = length_push (slice_set c.views 0 (view_left (view_of c.views 0))) (view_right (view_of c.views 0)) in let same = length-set c.views 0 (view_left (view_of c.views 0)) in let low = numbered.inside in omega (arith, long, same, low));
      low = each_grown o c inv may Low (low_at 0) (λ same. absurd (let low = numbered.inside in omega (arith, low, same))) (λ j other. low_at j) k refl;
    }

    numbered_joins : (seat other : ℕ) → MayJoin c seat other → IsNumbered number (after o c (Joins seat other))
    numbered_joins seat other may = record {
      inside = (let long = length-set (slice_set c.views seat (view_joined (view_of c.views seat) (view_of c.views other))) other spent_view in let same = length-set c.views seat (view_joined (view_of c.views seat) (view_of c.views other)) in let low = numbered.inside in omega (arith, long, same, low));
      low = each_joined o c seat other inv may Low (λ same some. low_at seat same may.unspent) (λ same some. absurd (some refl)) (λ j not_seat not_other. low_at j) k refl;
    }

    module _ (position : ℕ) (past : IsPast number position (end o steps)) where
      abbrev Runs : ℕ → View → Type 0
      Runs j u = j ≡ k → op_in u.seat ≢ None → number < u.ghost.call.number

      abbrev Grown : ℕ → View → Type 0
      Grown j u = j ≡ k → u.parts ≢ [] → position ≤ greatest_position (first_position o) u.done

      runs_at : (j : ℕ) → Runs j (view_of c.views j)
      runs_at j same = subst (λ (i : ℕ). op_in (view_of c.views i).seat ≢ None → number < (view_of c.views i).ghost.call.number) (sym same) past.runs

      grown_at : (j : ℕ) → Grown j (view_of c.views j)
      grown_at j same = subst (λ (i : ℕ). (view_of c.views i).parts ≢ [] → position ≤ greatest_position (first_position o) (view_of c.views i).done) (sym same) past.grown

      past_splits : MaySplit o c 0 → IsPast number position (after o c (Splits 0))
      past_splits may = record {
        runs = each_grown o c inv may Runs (runs_at 0) (λ same some. absurd (some refl)) (λ j other. runs_at j) k refl;
        records = each_grown o c inv may (λ (j : ℕ) (u : View). AllByRecursion (Early number position) u.done) (past.records 0) tt (λ j other. past.records j);
        grown = each_grown o c inv may Grown (grown_at 0) (λ same. absurd (let low = numbered.inside in omega (arith, low, same))) (λ j other. grown_at j) k refl;
      }

      past_joins : (seat other : ℕ) → MayJoin c seat other → IsPast number position (after o c (Joins seat other))
      past_joins seat other may = record {
        runs = each_joined o c seat other inv may Runs (λ same some. runs_at seat same some) (λ same some. absurd (some refl)) (λ j not_seat not_other. runs_at j) k refl;
        records = each_joined o c seat other inv may (λ (j : ℕ) (u : View). AllByRecursion (Early number position) u.done)
            (each_join (Early number position) (view_of c.views seat).done (view_of c.views other).done (past.records seat) (past.records other)) tt (λ j not_seat not_other. past.records j);
        grown = each_joined o c seat other inv may Grown
            (λ same some. (let before = grown_at seat same may.unspent in let more = greatest_more (first_position o) (view_of c.views seat).done (view_of c.views other).done in omega (arith, before, more)))
            (λ same some. absurd (some refl)) (λ j not_seat not_other. grown_at j) k refl;
      }

      past_step : (step : Step) → Allowed o c step → IsPast number position (after o c step)
      past_step (Does n ask note) allowed = past_does n ask note allowed position past
      past_step (Splits seat) allowed = subst (λ (j : ℕ). MaySplit o c j → IsPast number position (after o c (Splits j))) (sym allowed.first) past_splits allowed
      past_step (Joins seat other) allowed = past_joins seat other allowed

    numbered_step : (step : Step) → Allowed o c step → IsNumbered number (after o c step)
    numbered_step (Does n ask note) allowed = numbered_does n ask note allowed
    numbered_step (Splits seat) allowed = subst (λ (j : ℕ). MaySplit o c j → IsNumbered number (after o c (Splits j))) (sym allowed.first) numbered_splits allowed
    numbered_step (Joins seat other) allowed = numbered_joins seat other allowed

  -- and at each later moment of the run
  pub numbered_run : (start : Invariant o (first_core o)) (number : ℕ) (later earlier : List Step) → IsRun o (later ++ earlier) → IsNumbered number (end o earlier) → IsNumbered number (end o (later ++ earlier))
  numbered_run start number [] earlier run numbered = numbered
  numbered_run start number (step ∷ later) earlier run numbered =
      numbered_step (later ++ earlier) (run_from o (later ++ earlier) start run.0) (seen_run o (later ++ earlier) start run.0) number (numbered_run start number later earlier run.0 numbered) step run.1

  pub past_run : (start : Invariant o (first_core o)) (number position : ℕ) (later earlier : List Step) → IsRun o (later ++ earlier) → IsNumbered number (end o earlier) → IsPast number position (end o earlier) →
      IsPast number position (end o (later ++ earlier))
  past_run start number position [] earlier run numbered past = past
  past_run start number position (step ∷ later) earlier run numbered past =
      past_step (later ++ earlier) (run_from o (later ++ earlier) start run.0) (seen_run o (later ++ earlier) start run.0) number (numbered_run start number later earlier run.0 numbered) position
      (past_run start number position later earlier run.0 numbered past) step run.1

  -- a seat on which no call runs has recorded all calls up to its present number
  pub past_now : (c : Core) → Invariant o c → (view_of c.views k).parts ≢ [] → op_in (view_of c.views k).seat ≡ None →
      IsPast (view_of c.views k).ghost.call.number (greatest_position (first_position o) (view_of c.views k).done) c
  past_now c inv unspent idle = record {
    runs = λ some. absurd (some idle);
    records = λ seat. same_or_other seat k (λ same. subst (λ (j : ℕ). AllByRecursion (Early number position) (view_of c.views j).done) (sym same) own) (λ other. others seat other);
    grown = λ some. omega arith;
  }
    where
      number : ℕ
      number = (view_of c.views k).ghost.call.number

      position : ℕ
      position = greatest_position (first_position o) (view_of c.views k).done

      own : AllByRecursion (Early number position) (view_of c.views k).done
      own = each_weaker (λ (call : Call). call.position ≤ position) (Early number position) (view_of c.views k).done (λ call low mine few. low) (greatest_each (first_position o) (view_of c.views k).done)

      not_part : (seat : ℕ) → seat ≢ k → (view_of c.views seat).parts ≢ [] → is_listed (view_of c.views seat).parts k ≡ false
      not_part seat other some = own_part c.history c.views inv.records.seats_once k unspent seat other some

      others : (seat : ℕ) → seat ≢ k → AllByRecursion (Early number position) (view_of c.views seat).done
      others seat other = ⊎_elim
          (λ (low : seat < length c.views). each_weaker (λ (call : Call). is_listed (view_of c.views seat).parts call.seat ≡ true) (Early number position) (view_of c.views seat).done
          (λ call mine same few. absurd (false≢true (sym (absent seat other) ∙ subst (λ (j : ℕ). is_listed (view_of c.views seat).parts j ≡ true) same mine)))
          (all_at (λ (u : View). AllByRecursion (λ (call : Call). is_listed u.parts call.seat ≡ true) u.done) c.views seat low inv.records.seats_once.records))
          (λ (high : length c.views ≤ seat). subst (λ (u : View). AllByRecursion (Early number position) u.done) (sym (Rattle.std.proofs.lemmas.List.get_or_past c.views seat spent_view high)) tt)
          (cases_lt seat (length c.views))
        where
          absent : (j : ℕ) → j ≢ k → is_listed (view_of c.views j).parts k ≡ false
          absent j apart = go (view_of c.views j).parts refl
            where
              go : (parts : List ℕ) → (view_of c.views j).parts ≡ parts → is_listed (view_of c.views j).parts k ≡ false
              go [] none = ap (λ (p : List ℕ). is_listed p k) none
              go (part ∷ parts) is = not_part j apart (λ none. (let never : (part ∷ parts) ≡ [] = sym is ∙ none in cc))
