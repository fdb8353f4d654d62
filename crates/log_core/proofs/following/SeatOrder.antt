-- Of two calls of one seat the one with the smaller number stands at no later position, and before a write: both have steps, or one or both are
-- quiet.
use Rattle.std.proofs.Common.{◌≡◌, ◌≢◌, ◌⊎◌, ⊎_elim, ◌<◌, ◌≤◌, ℕ, Bool, true, false, List, [], ◌∷◌, ◌++◌, length, sym, ◌∙◌, ap, subst, arith, length-append}
use Rattle.std.proofs.lemmas.Bool.{cases_lt, false≢true}
use Rattle.std.proofs.lemmas.List.{get_or-set_same, length-set}
use Rattle.log_entry.specs.Legal.{is_write}
use Rattle.log_entry.specs.declared.calls.Call.{Call}
use Rattle.asks.specs.declared.ask.Ask.{Ask}
use Rattle.log_core.specs.Views.{View, view_of, spent_view, op_in}
use Rattle.log_core.specs.Origin.{Origin, first_position, q_of_origin}
use Rattle.log_core.specs.Files.{end_of}
use Rattle.log_core.specs.Cores.{Core}
use Rattle.log_core.specs.Steps.{Note, Step, Does, Splits, Joins, is_begun, kind_of_ask, view_after}
use Rattle.log_core.specs.Runs.{Allowed, IsRun, end}
use Rattle.log_core.specs.Starts.{IsStart}
use Rattle.log_core.specs.Invariant.{Invariant}
use Rattle.log_core.specs.Histories.{greatest_position, IsQuietCall}
use Rattle.log_core.proofs.starts.StartMeets.{start_meets}
use Rattle.log_core.proofs.clauses.Others.{unspent_made}
use Rattle.log_core.proofs.kinds.RunHolds.{run_from}
use Rattle.log_core.proofs.Each.{each_weaker}
use Rattle.log_core.proofs.following.Greatest.{greatest_high}
use Rattle.log_core.specs.Records.{RecordHolds}
use Rattle.log_core.proofs.following.Moments.{earlier_run, history_grows}
use Rattle.log_core.proofs.following.Numbers.{IsNumbered, IsPast, numbered_run, past_run, past_now}
use Rattle.log_core.proofs.following.QuietCalls.{no_write_quiet}
use Rattle.log_core.proofs.following.Seen.{IsCallSeen}
use Rattle.log_core.proofs.following.SeenCalls.{number_at_ask}

-- where the first of two calls of one seat has the smaller number, it stands at no later position, and before the second where that is a write
abbrev pub AreInTime : Call → Call → Type 0
AreInTime a b = a.seat ≡ b.seat → a.number < b.number → (a.position ≤ b.position) × (is_write b.op b.reply ≡ true → a.position < b.position)

abbrev rest_of : {X : Type 0} → List X → List X
rest_of [] = []
rest_of (x ∷ xs) = xs

-- of two ends of one list the shorter one is an end of the longer
pub shorter_end : {X : Type 0} (before first : List X) (front last : List X) → before ++ first ≡ front ++ last → length first ≤ length last → (middle : List X) × (last ≡ middle ++ first)
shorter_end before first [] last same few = (before, sym same)
shorter_end [] first (y ∷ front) last same few = absurd (let long = ap length same in let both = length-append front last in omega (arith, long, both, few))
shorter_end {X} (x ∷ before) first (y ∷ front) last same few = shorter_end before first front last (ap (λ (xs : List X). rest_of xs) same) few

-- so of two steps of a run the one with fewer before it is before the other
step_before : (before front early late : List Step) (first second : Step) → before ++ first ∷ early ≡ front ++ second ∷ late → length early < length late → (middle : List Step) × (late ≡ middle ++ first ∷ early)
step_before before front early late first second same less = by (shorter_end before (first ∷ early) front (second ∷ late) same (omega (arith, less)))
  where
    by : (middle : List Step) × (second ∷ late ≡ middle ++ first ∷ early) → (middle : List Step) × (late ≡ middle ++ first ∷ early)
    by found = go found.0 found.1
      where
        go : (middle : List Step) → second ∷ late ≡ middle ++ first ∷ early → (rest : List Step) × (late ≡ rest ++ first ∷ early)
        go [] is = absurd (let long = ap length is in omega (arith, long, less))
        go (step ∷ middle) is = (middle, ap (λ (steps : List Step). rest_of steps) is)

abbrev number_in : List Step → ℕ
number_in [] = 0
number_in (Does seat ask note ∷ steps) = note.number
number_in (Splits seat ∷ steps) = 0
number_in (Joins seat other ∷ steps) = 0

-- two steps with as many before them are one
step_same : (before front early late : List Step) (first second : Step) → before ++ first ∷ early ≡ front ++ second ∷ late → length early ≡ length late → number_in (second ∷ late) ≡ number_in (first ∷ early)
step_same before front early late first second same count = by (shorter_end before (first ∷ early) front (second ∷ late) same (omega (arith, count)))
  where
    by : (middle : List Step) × (second ∷ late ≡ middle ++ first ∷ early) → number_in (second ∷ late) ≡ number_in (first ∷ early)
    by found = go found.0 found.1
      where
        go : (middle : List Step) → second ∷ late ≡ middle ++ first ∷ early → number_in (second ∷ late) ≡ number_in (first ∷ early)
        go [] is = ap number_in is
        go (step ∷ middle) is = absurd (let long = ap length is in let both = length-append middle (first ∷ early) in omega (arith, long, both, count))

module _ (o : Origin) (steps : List Step) (start : IsStart o) (run : IsRun o steps) where
  -- an earlier moment of the run
  run_at : (later earlier : List Step) → steps ≡ later ++ earlier → IsRun o earlier
  run_at later earlier is = earlier_run o later earlier (subst (λ (all : List Step). IsRun o all) is run)

  -- behind a step its seat's call has the step's number
  numbered_at : (seat : ℕ) (ask : Ask) (note : Note) (earlier : List Step) → IsRun o (Does seat ask note ∷ earlier) → IsNumbered o seat note.number (end o (Does seat ask note ∷ earlier))
  numbered_at seat ask note earlier there = record {
    inside = (let long = length-set views seat w in let made = there.1.made in omega (arith, long, made));
    low = λ some. subst (λ (u : View). note.number ≤ u.ghost.call.number) (sym (get_or-set_same views seat w spent_view there.1.made))
        (let is = number_at_ask (is_begun (op_in v.seat) (op_in note.before)) v.ghost.call note.number there.1.step.number in omega (arith, is));
  }
    where
      views : List View
      views = (end o earlier).views

      v : View
      v = view_of views seat

      w : View
      w = view_after v (kind_of_ask (q_of_origin o) seat ask) note (Rattle.persistence.specs.Memory.found_answer (end o earlier).memory ask)

  -- at a step of a seat its call's number is not below one that it had
  number_at_step : (number seat : ℕ) (ask : Ask) (note : Note) (earlier : List Step) → IsRun o (Does seat ask note ∷ earlier) → IsNumbered o seat number (end o earlier) → number ≤ note.number
  number_at_step number seat ask note earlier there numbered =
      (let low = numbered.low there.1.unspent in
      let more = go (is_begun (op_in (view_of (end o earlier).views seat).seat) (op_in note.before)) there.1.step.number in omega (arith, low, more))
    where
      go : (begun : Bool) → Rattle.log_core.specs.Runs.MayNumber begun (view_of (end o earlier).views seat).ghost.call.number note.number → (view_of (end o earlier).views seat).ghost.call.number ≤ note.number
      go true may = omega (arith, may)
      go false may = omega (arith, may)

  -- the end never falls
  end_low : (later earlier : List Step) → end_of o (end o earlier).history ≤ end_of o (end o (later ++ earlier)).history
  end_low later earlier = (let more = history_grows o later earlier in omega (arith, more))

  end_at : (last later earlier : List Step) → last ≡ later ++ earlier → end_of o (end o earlier).history ≤ end_of o (end o last).history
  end_at last later earlier is = subst (λ (all : List Step). end_of o (end o earlier).history ≤ end_of o (end o all).history) (sym is) (end_low later earlier)

  -- a call that was seen behind a moment stands at no smaller position, and a write at a greater one
  seen_behind : (call : Call) (seen : IsCallSeen o steps call) (position : ℕ) → position ≤ end_of o (end o seen.earlier).history → (position ≤ call.position) × (is_write call.op call.reply ≡ true → position < call.position)
  seen_behind call seen position low = (
    (let at = seen.at_end in let more = end_low (Does call.seat seen.ask seen.note ∷ []) seen.earlier in omega (arith, low, at, more)),
    (λ write. (let at = seen.put_in write in omega (arith, low, at))),
  )

  -- two calls that have steps
  pub both_seen : (a b : Call) → IsCallSeen o steps a → IsCallSeen o steps b → AreInTime a b
  both_seen a b seen_a seen_b same_seat less = ⊎_elim before
      (λ (not_before : length seen_b.earlier ≤ length seen_a.earlier). ⊎_elim (λ behind. absurd (not_behind behind)) (λ few. absurd (not_same (omega (arith, not_before, few)))) (cases_lt (length seen_b.earlier) (length seen_a.earlier)))
      (cases_lt (length seen_a.earlier) (length seen_b.earlier))
    where
      one_run : seen_a.later ++ Does a.seat seen_a.ask seen_a.note ∷ seen_a.earlier ≡ seen_b.later ++ Does b.seat seen_b.ask seen_b.note ∷ seen_b.earlier
      one_run = sym seen_a.moment ∙ seen_b.moment

      before : length seen_a.earlier < length seen_b.earlier → (a.position ≤ b.position) × (is_write b.op b.reply ≡ true → a.position < b.position)
      before early = (let found = step_before seen_a.later seen_b.later seen_a.earlier seen_b.earlier (Does a.seat seen_a.ask seen_a.note) (Does b.seat seen_b.ask seen_b.note) one_run early in
          seen_behind b seen_b a.position
          (let more = end_at seen_b.earlier found.0 (Does a.seat seen_a.ask seen_a.note ∷ seen_a.earlier) found.1 in let at = seen_a.at_end in omega (arith, more, at)))

      not_behind : length seen_b.earlier < length seen_a.earlier → ⊥
      not_behind late = (let found = step_before seen_b.later seen_a.later seen_b.earlier seen_a.earlier (Does b.seat seen_b.ask seen_b.note) (Does a.seat seen_a.ask seen_a.note) (sym one_run) late in
          let run_a = run_at seen_a.later (Does a.seat seen_a.ask seen_a.note ∷ seen_a.earlier) seen_a.moment in
          let run_b = run_at seen_b.later (Does b.seat seen_b.ask seen_b.note ∷ seen_b.earlier) seen_b.moment in
          let there : IsNumbered o b.seat seen_b.note.number (end o seen_a.earlier) = subst (λ (all : List Step). IsNumbered o b.seat seen_b.note.number (end o all)) (sym found.1)
          (numbered_run o b.seat (start_meets o start) seen_b.note.number found.0 (Does b.seat seen_b.ask seen_b.note ∷ seen_b.earlier) (subst (λ (all : List Step). IsRun o all) found.1 run_a.0)
          (numbered_at b.seat seen_b.ask seen_b.note seen_b.earlier run_b)) in
          let low = number_at_step seen_b.note.number a.seat seen_a.ask seen_a.note seen_a.earlier run_a (subst (λ (seat : ℕ). IsNumbered o seat seen_b.note.number (end o seen_a.earlier)) (sym same_seat) there) in
          let one = seen_a.number_is in let two = seen_b.number_is in omega (arith, low, one, two, less))

      not_same : length seen_a.earlier ≡ length seen_b.earlier → ⊥
      not_same count = (let is = step_same seen_a.later seen_b.later seen_a.earlier seen_b.earlier (Does a.seat seen_a.ask seen_a.note) (Does b.seat seen_b.ask seen_b.note) one_run count in
          let one = seen_a.number_is in let two = seen_b.number_is in omega (arith, is, one, two, less))

  module _ (quiet_call : Call) (quiet : IsQuietCall o steps (end o steps) quiet_call) where
    abbrev then_core : Core
    then_core = end o quiet.earlier

    abbrev v : View
    v = view_of then_core.views quiet_call.seat

    abbrev number : ℕ
    number = v.ghost.call.number

    inv : Invariant o then_core
    inv = run_from o quiet.earlier (start_meets o start) (run_at quiet.later quiet.earlier quiet.moment)

    inside : quiet_call.seat < length then_core.views
    inside = unspent_made then_core.views quiet_call.seat quiet.made.unspent

    pub position_is : quiet_call.position ≡ greatest_position (first_position o) v.done
    position_is = quiet.made.position ∙ ap (λ (first : ℕ). greatest_position first v.done) (inv.sizes.each quiet_call.seat inside quiet.made.unspent).first

    to_end : quiet_call.position ≤ end_of o then_core.history
    to_end = (let at = position_is in
        let high = greatest_high (first_position o) (end_of o then_core.history) v.done (omega arith)
        (each_weaker (RecordHolds o then_core.history then_core.generations) (λ (other : Call). other.position ≤ end_of o then_core.history) v.done (λ other holds. holds.to_end) (inv.records.records quiet_call.seat)) in
        omega (arith, at, high))

    numbered : IsNumbered o quiet_call.seat number then_core
    numbered = record { inside = inside; low = λ some. omega arith }

    past : IsPast o quiet_call.seat number quiet_call.position then_core
    past = subst (λ (position : ℕ). IsPast o quiet_call.seat number position then_core) (sym position_is) (past_now o quiet_call.seat then_core inv quiet.made.unspent quiet.made.no_call)

    -- at any later moment of the run
    past_at : (later last : List Step) → last ≡ later ++ quiet.earlier → IsRun o last → IsPast o quiet_call.seat number quiet_call.position (end o last)
    past_at later last is there = subst (λ (all : List Step). IsPast o quiet_call.seat number quiet_call.position (end o all)) (sym is)
        (past_run o quiet_call.seat (start_meets o start) number quiet_call.position later quiet.earlier (subst (λ (all : List Step). IsRun o all) is there) numbered past)

    pub past_last : IsPast o quiet_call.seat number quiet_call.position (end o steps)
    past_last = past_at quiet.later steps quiet.moment run

    no_write : is_write quiet_call.op quiet_call.reply ≡ false
    no_write = no_write_quiet o steps start run (end o steps).generations quiet_call quiet

    -- a call that has steps, and then a quiet one
    pub seen_quiet : (a : Call) → (a.seat ≡ quiet_call.seat → a.number ≤ number → a.position ≤ quiet_call.position) → (a.seat ≡ quiet_call.seat → (a.number ≤ number) ⊎ (quiet_call.number < a.number)) → AreInTime a quiet_call
    seen_quiet a early either same_seat less = (
      ⊎_elim (λ low. early same_seat low) (λ high. absurd (omega (arith, high, less))) (either same_seat),
      (λ write. absurd (false≢true (sym no_write ∙ write))),
    )

    -- a quiet one, and then a call that has steps
    pub quiet_seen : (b : Call) → IsCallSeen o steps b → AreInTime quiet_call b
    quiet_seen b seen same_seat less = seen_behind b seen quiet_call.position (⊎_elim
        (λ (early : length seen.earlier < length quiet.earlier). absurd (not_before early))
        (λ (late : length quiet.earlier ≤ length seen.earlier).
        (let found = shorter_end quiet.later quiet.earlier (seen.later ++ this ∷ []) seen.earlier (sym quiet.moment ∙ (seen.moment ∙ sym (Rattle.std.proofs.lemmas.List.append_assoc seen.later (this ∷ []) seen.earlier))) late in
        let more = end_at seen.earlier found.0 quiet.earlier found.1 in let low = to_end in omega (arith, more, low)))
        (cases_lt (length seen.earlier) (length quiet.earlier)))
      where
        this : Step
        this = Does b.seat seen.ask seen.note

        not_before : length seen.earlier < length quiet.earlier → ⊥
        not_before early = (let found = shorter_end seen.later (this ∷ seen.earlier) quiet.later quiet.earlier (sym seen.moment ∙ quiet.moment) (omega (arith, early)) in
            let there : IsNumbered o b.seat seen.note.number then_core = subst (λ (all : List Step). IsNumbered o b.seat seen.note.number (end o all)) (sym found.1)
            (numbered_run o b.seat (start_meets o start) seen.note.number found.0 (this ∷ seen.earlier) (subst (λ (all : List Step). IsRun o all) found.1 (run_at quiet.later quiet.earlier quiet.moment))
            (numbered_at b.seat seen.ask seen.note seen.earlier (run_at seen.later (this ∷ seen.earlier) seen.moment))) in
            let low = (subst (λ (seat : ℕ). IsNumbered o seat seen.note.number then_core) (sym same_seat) there).low quiet.made.unspent in
            let after = quiet.made.after in let is = seen.number_is in omega (arith, low, after, is, less))

  -- two quiet ones, the second made when the first was
  pub both_quiet : (older newer : Call) (first : IsQuietCall o steps (end o steps) older) (second : IsQuietCall o steps (end o steps) newer) (later : List Step) → second.earlier ≡ later ++ first.earlier → AreInTime older newer
  both_quiet older newer first second later is same_seat less = (
    (let there = past_at older first later second.earlier is (run_at second.later second.earlier second.moment) in
        let some = subst (λ (seat : ℕ). (view_of (end o second.earlier).views seat).parts ≢ []) (sym same_seat) second.made.unspent in
        let low = there.grown some in
        let at = position_is newer second in
        let same = ap (λ (seat : ℕ). greatest_position (first_position o) (view_of (end o second.earlier).views seat).done) same_seat in
        omega (arith, low, at, same)),
    (λ write. absurd (false≢true (sym (no_write newer second) ∙ write))),
  )
