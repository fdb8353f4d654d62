-- Each record of a run has its causes at steps of its own call: by an induction over runs.
use Rattle.std.proofs.Common.{◌≡◌, ◌≢◌, ℕ, Bool, true, false, List, [], ◌∷◌, map, refl, sym, ◌∙◌, ap, subst, slice_index, Option, Some, None}
use Rattle.std.specs.List.{AllByRecursion, range_with_len}
use Rattle.log_entry.specs.declared.calls.Op.{Op}
use Rattle.log_entry.specs.declared.calls.Call.{Call}
use Rattle.log_image.proofs.ListLemmas.{each_join}
use Rattle.pmem_words.specs.Seats.{Seat}
use Rattle.asks.specs.declared.ask.Ask.{Ask}
use Rattle.log_core.specs.Views.{View, Ghost, view_of, new_view, op_in}
use Rattle.log_core.specs.Origin.{Origin, first_position, made_by}
use Rattle.log_core.specs.Cores.{Core, first_core}
use Rattle.log_core.specs.Works.{ended}
use Rattle.log_core.specs.Steps.{Note, Step, Does, Splits, Joins, Kind, is_begun, call_if, ghost_ended, view_after}
use Rattle.log_core.specs.Answers.{MayAddAll}
use Rattle.log_core.specs.Runs.{MayNumber, MayStep, MaySplit, MayJoin, Allowed, ghost_at, ghost_left, IsRun, end}
use Rattle.log_core.specs.Invariant.{Invariant}
use Rattle.log_core.specs.Knows.{Knows}
use Rattle.log_core.specs.Causes.{IsAtStep, FindsTaken, HasCause, RecordsHaveCauses}
use Rattle.log_core.proofs.Each.{each_weaker}
use Rattle.log_core.proofs.BitmapFacts.{same_shape}
use Rattle.log_core.proofs.starts.StartMeets.{start_meets}
use Rattle.log_core.proofs.clauses.OneView.{each_set}
use Rattle.log_core.proofs.kinds.StepHolds.{at_ask, began}
use Rattle.log_core.proofs.kinds.RunHolds.{run_from}
use Rattle.log_core.proofs.kinds.Splits.{each_grown}
use Rattle.log_core.proofs.kinds.JoinedViews.{each_joined}
use Rattle.log_core.proofs.following.RecordedCalls.{each_view, each_record}
use Rattle.log_core.proofs.following.Seen.{AllSeen}
use Rattle.log_core.proofs.following.SeenCalls.{seen_run, moves, left_number, last_is, kind, f, step, left}
use Rattle.log_core.proofs.following.Numbers.{op_going}
use Rattle.log_core.proofs.following.Causes.{found_bit, Causes, causes_later}
use Rattle.log_core.proofs.following.FoundWorks.{IsOfFound, pins_stay_all, found_stays_all, found_next_all}
use Rattle.log_core.proofs.following.FoundAtSteps.{after_ask}
use Rattle.log_core.proofs.following.CausesOfReplies.{cause_of, cause_later}

-- a call goes on from one that runs
goes_on : (before now : Option Op) → before ≢ None → is_begun before now ≡ false
goes_on None now some = absurd (some refl)
goes_on (Some op) now some = refl

runs_before : (before now : Option Op) → now ≢ None → is_begun before now ≡ false → before ≢ None
runs_before None None some is = absurd (some refl)
runs_before None (Some op) some is = cc
runs_before (Some op) now some is = λ e. cc

kept_number : (begun : Bool) (before number : ℕ) → begun ≡ false → MayNumber begun before number → before ≡ number
kept_number true before number e may = cc
kept_number false before number e may = sym may

-- a running call of a view has its causes, and so has each record
abbrev IsCaused : Origin → List Step → ℕ → View → Type 0
IsCaused o steps seat v = op_in v.seat ≢ None → Causes o steps seat v.ghost.call.number v.seat.blocks.found v.seat.giving.pins_seen v.ghost.call

abbrev IsRecordCaused : Origin → List Step → Call → Type 0
IsRecordCaused o steps call = HasCause o steps call.seat call.number call.reply

record AllCaused (o : Origin) (steps : List Step) : Type 0 where
  pub views : (seat : ℕ) → IsCaused o steps seat (view_of (end o steps).views seat)
  pub records : (seat : ℕ) → AllByRecursion (IsRecordCaused o steps) (view_of (end o steps).views seat).done

view_later : (o : Origin) (steps : List Step) (step : Step) (seat : ℕ) (v : View) → IsCaused o steps seat v → IsCaused o (step ∷ steps) seat v
view_later o steps step seat v caused some = causes_later o steps step seat v.ghost.call.number v.seat.blocks.found v.seat.giving.pins_seen v.ghost.call (caused some)

caused_later : (o : Origin) (steps : List Step) (step : Step) (calls : List Call) → AllByRecursion (IsRecordCaused o steps) calls → AllByRecursion (IsRecordCaused o (step ∷ steps)) calls
caused_later o steps step calls = each_weaker (IsRecordCaused o steps) (IsRecordCaused o (step ∷ steps)) calls (λ call cause. cause_later o steps step call.seat call.number call.reply cause)

module _ (o : Origin) (steps : List Step) (inv : Invariant o (end o steps)) (seen : AllSeen o steps) (caused : AllCaused o steps) where
  abbrev c : Core
  c = end o steps

  module _ (n : ℕ) (ask : Ask) (note : Note) (allowed : Allowed o (end o steps) (Does n ask note)) where
    abbrev v : View
    v = view_of c.views n

    abbrev this : Step
    this = Does n ask note

    abbrev what : Kind
    what = kind o steps inv seen n ask note allowed

    abbrev answered : ℕ
    answered = f o steps inv seen n ask note allowed

    abbrev may_step : MayStep o c v what note answered
    may_step = allowed.step

    abbrev behind : Seat
    behind = left o steps inv seen n ask note allowed

    abbrev final : Seat
    final = may_step.enters.last

    abbrev g : Ghost
    g = ghost_at v note

    abbrev h : Ghost
    h = ghost_left v note what answered

    knows : Knows o c n note.before g (slice_index c.memory.now.pins n) (slice_index (began o c n inv allowed.made allowed.unspent note) n)
    knows = at_ask o c n inv allowed.made allowed.unspent note what answered may_step

    -- where a call runs before the step, it has the step's number
    before : op_in v.seat ≢ None → Causes o steps n note.number v.seat.blocks.found v.seat.giving.pins_seen v.ghost.call
    before runs = subst (λ (number : ℕ). Causes o steps n number v.seat.blocks.found v.seat.giving.pins_seen v.ghost.call)
        (kept_number (is_begun (op_in v.seat) (op_in note.before)) v.ghost.call.number note.number (goes_on (op_in v.seat) (op_in note.before) runs) may_step.number) (caused.views n runs)

    -- at the ask
    at_the_ask : op_in note.before ≢ None → Causes o steps n note.number note.before.blocks.found note.before.giving.pins_seen g.call
    at_the_ask some = go (is_begun (op_in v.seat) (op_in note.before)) refl
      where
        taken : (block : ℕ) → found_bit note.before.blocks.found block ≡ 1 → IsAtStep o steps n note.number (FindsTaken block)
        taken = subst (λ (t : Seat). IsOfFound (λ (block : ℕ). IsAtStep o steps n note.number (FindsTaken block)) t) (sym may_step.begins.gives)
            (found_next_all (λ (block : ℕ). IsAtStep o steps n note.number (FindsTaken block)) v.ghost v.seat may_step.begins.works may_step.begins.may (λ runs. (before runs).taken)) some

        same_pins : note.before.giving.pins_seen ≡ v.seat.giving.pins_seen
        same_pins = ap (λ (t : Seat). t.giving.pins_seen) may_step.begins.gives ∙ pins_stay_all v.seat may_step.begins.works

        go : (begun : Bool) → is_begun (op_in v.seat) (op_in note.before) ≡ begun → Causes o steps n note.number note.before.blocks.found note.before.giving.pins_seen (call_if begun v.ghost.call note.number)
        go true is = record { taken = taken; lacked = λ area any. cc; overtaken = λ other. absurd (other refl); pins_seen = λ put. absurd (put refl) }
        go false is = (let was = before (runs_before (op_in v.seat) (op_in note.before) some is) in record {
          taken = taken;
          lacked = was.lacked;
          overtaken = was.overtaken;
          pins_seen = (subst (λ (pins : List ℕ). Causes o steps n note.number v.seat.blocks.found pins v.ghost.call) (sym same_pins) was).pins_seen;
        })

    -- behind the step
    behind_step : op_in note.before ≢ None → Causes o (this ∷ steps) n note.number behind.blocks.found behind.giving.pins_seen h.call
    behind_step some = after_ask o c (this ∷ steps) n note.number note.before g v.ghost.marks
        (same_shape o c n note.before g (slice_index c.memory.now.pins n) (slice_index (began o c n inv allowed.made allowed.unspent note) n) inv knows allowed.unspent)
        (causes_later o steps this n note.number note.before.blocks.found note.before.giving.pins_seen g.call (at_the_ask some))
        ask (λ holds held. record { ask = ask; note = note; later = []; earlier = steps; moment = refl; number_is = refl; held = held }) may_step.may

    -- and after what is computed then
    same_op : op_in final ≡ op_in note.before
    same_op = subst (λ (t : Seat). op_in t ≡ op_in behind) (sym may_step.enters.computed.gives)
        (op_going h behind may_step.enters.computed.works may_step.enters.going_on may_step.enters.computed.may) ∙ (moves o steps inv seen n ask note allowed).same_op

    finally : op_in final ≢ None → Causes o (this ∷ steps) n note.number final.blocks.found final.giving.pins_seen h.call
    finally some = subst (λ (words : List ℕ). Causes o (this ∷ steps) n note.number words final.giving.pins_seen h.call)
        (sym (ap (λ (t : Seat). t.blocks.found) may_step.enters.computed.gives ∙ found_stays_all behind may_step.enters.computed.works may_step.enters.going_on))
        (subst (λ (pins : List ℕ). Causes o (this ∷ steps) n note.number behind.blocks.found pins h.call)
        (sym (ap (λ (t : Seat). t.giving.pins_seen) may_step.enters.computed.gives ∙ pins_stay_all behind may_step.enters.computed.works))
        (behind_step (λ none. some (same_op ∙ none))))

    number_is : h.call.number ≡ note.number
    number_is = left_number o steps inv seen n ask note allowed

    -- so it is of the view that the step leaves
    entered : (adds : List Call) (t : Seat) → t ≡ ended adds final → op_in t ≢ None → Causes o (this ∷ steps) n note.number t.blocks.found t.giving.pins_seen (ghost_ended adds h).call
    entered adds t is = subst (λ (u : Seat). op_in u ≢ None → Causes o (this ∷ steps) n note.number u.blocks.found u.giving.pins_seen (ghost_ended adds h).call) (sym is) (by adds)
      where
        by : (added : List Call) → op_in (ended added final) ≢ None → Causes o (this ∷ steps) n note.number (ended added final).blocks.found (ended added final).giving.pins_seen (ghost_ended added h).call
        by [] some = (let was = finally some in record { taken = was.taken; lacked = was.lacked; overtaken = was.overtaken; pins_seen = was.pins_seen })
        by (call ∷ calls) some = absurd (some refl)

    -- and of the record that it adds
    added : (adds : List Call) → MayAddAll h final adds → AllByRecursion (IsRecordCaused o (this ∷ steps)) adds
    added [] may = tt
    added (call ∷ []) may = (
      subst (λ (seat : ℕ). HasCause o (this ∷ steps) seat call.number call.reply) (sym (may.seat ∙ last_is o steps inv seen n ask note allowed))
          (subst (λ (number : ℕ). HasCause o (this ∷ steps) n number call.reply) (sym (may.number ∙ number_is))
          (cause_of o (this ∷ steps) n note.number h final (last_is o steps inv seen n ask note allowed)
          (finally (λ none. (let never : Some call.op ≡ None = sym may.op ∙ none in cc))) call.op call.reply may.fits)),
      tt,
    )
    added (call ∷ other ∷ calls) may = absurd may

    caused_does : AllCaused o (this ∷ steps)
    caused_does = record {
      views = each_set (λ (k : ℕ) (w : View). IsCaused o (this ∷ steps) k w) c.views n (view_after v what note answered) allowed.made
          (λ some. subst (λ (number : ℕ). Causes o (this ∷ steps) n number note.seat.blocks.found note.seat.giving.pins_seen (ghost_ended note.adds h).call) (sym number_is) (entered note.adds note.seat may_step.enters.seat_is some))
          (λ k other. view_later o steps this k (view_of c.views k) (caused.views k));
      records = each_set (λ (k : ℕ) (w : View). AllByRecursion (IsRecordCaused o (this ∷ steps)) w.done) c.views n (view_after v what note answered) allowed.made
          (each_join (IsRecordCaused o (this ∷ steps)) v.done note.adds (caused_later o steps this v.done (caused.records n)) (added note.adds may_step.enters.adds_are))
          (λ k other. caused_later o steps this (view_of c.views k).done (caused.records k));
    }

  caused_splits : MaySplit o c 0 → AllCaused o (Splits 0 ∷ steps)
  caused_splits may = record {
    views = each_grown o c inv may (λ (k : ℕ) (w : View). IsCaused o (Splits 0 ∷ steps) k w) (view_later o steps (Splits 0) 0 (view_of c.views 0) (caused.views 0)) (λ some. absurd (some refl))
        (λ k other. view_later o steps (Splits 0) k (view_of c.views k) (caused.views k));
    records = each_grown o c inv may (λ (k : ℕ) (w : View). AllByRecursion (IsRecordCaused o (Splits 0 ∷ steps)) w.done) (caused_later o steps (Splits 0) (view_of c.views 0).done (caused.records 0)) tt
        (λ k other. caused_later o steps (Splits 0) (view_of c.views k).done (caused.records k));
  }

  caused_joins : (seat other : ℕ) → MayJoin c seat other → AllCaused o (Joins seat other ∷ steps)
  caused_joins seat other may = record {
    views = each_joined o c seat other inv may (λ (k : ℕ) (w : View). IsCaused o (Joins seat other ∷ steps) k w) (λ some. absurd (some may.idle.no_call)) (λ some. absurd (some refl))
        (λ k not_seat not_other. view_later o steps (Joins seat other) k (view_of c.views k) (caused.views k));
    records = each_joined o c seat other inv may (λ (k : ℕ) (w : View). AllByRecursion (IsRecordCaused o (Joins seat other ∷ steps)) w.done)
        (each_join (IsRecordCaused o (Joins seat other ∷ steps)) (view_of c.views seat).done (view_of c.views other).done
        (caused_later o steps (Joins seat other) (view_of c.views seat).done (caused.records seat)) (caused_later o steps (Joins seat other) (view_of c.views other).done (caused.records other)))
        tt
        (λ k not_seat not_other. caused_later o steps (Joins seat other) (view_of c.views k).done (caused.records k));
  }

  caused_step : (step : Step) → Allowed o c step → AllCaused o (step ∷ steps)
  caused_step (Does n ask note) allowed = caused_does n ask note allowed
  caused_step (Splits seat) allowed = subst (λ (k : ℕ). MaySplit o c k → AllCaused o (Splits k ∷ steps)) (sym allowed.first) caused_splits allowed
  caused_step (Joins seat other) allowed = caused_joins seat other allowed

-- no call runs at the start
abbrev HasDoneNothing : View → Type 0
HasDoneNothing v = (op_in v.seat ≡ None) × (v.done ≡ [])

all_idle : (o : Origin) (numbers : List ℕ) → AllByRecursion HasDoneNothing (map (λ (number : ℕ). new_view o.geometry o.seats (first_position o) (made_by o.made number) number) numbers)
all_idle o [] = tt
all_idle o (number ∷ numbers) = ((refl, refl), all_idle o numbers)

caused_start : (o : Origin) → AllCaused o []
caused_start o = record {
  views = λ seat some. absurd (some (idle seat).0);
  records = λ seat. subst (λ (calls : List Call). AllByRecursion (IsRecordCaused o []) calls) (sym (idle seat).1) tt;
}
  where
    idle : (seat : ℕ) → HasDoneNothing (view_of (first_core o).views seat)
    idle seat = Rattle.log_core.proofs.following.SeenStart.view_or_spent HasDoneNothing (first_core o).views seat (refl, refl) (all_idle o (range_with_len 0 o.made))

caused_run : (o : Origin) (steps : List Step) → Invariant o (first_core o) → IsRun o steps → AllCaused o steps
caused_run o [] start run = caused_start o
caused_run o (step ∷ steps) start run = caused_step o steps (run_from o steps start run.0) (seen_run o steps start run.0) (caused_run o steps start run.0) step run.1

pub records_have_causes : RecordsHaveCauses
records_have_causes o steps start run = (let caused = caused_run o steps (start_meets o start) run in
    each_record (IsRecordCaused o steps) (end o steps).views (each_view (λ (v : View). AllByRecursion (IsRecordCaused o steps) v.done) (end o steps).views caused.records))
