-- What a core knows of a seat stays where the seat computes: before a step, where a call may begin, and after one.
use Rattle.std.proofs.Common.{◌≡◌, ◌≢◌, ◌<◌, ◌&&◌, ℕ, Bool, true, false, List, [], ◌∷◌, refl, sym, ◌∙◌, ap, subst, slice_index, Option, Some, None}
use Rattle.std.specs.List.{list_all}
use Rattle.log_entry.specs.declared.calls.Op.{Op}
use Rattle.pmem_words.specs.declared.keeps.Task.{Task}
use Rattle.pmem_words.specs.Seats.{Seat}
use Rattle.log_core.specs.Views.{View, Ghost, view_of, op_in, op_of}
use Rattle.log_core.specs.Origin.{Origin}
use Rattle.log_core.specs.Files.{end_of}
use Rattle.log_core.specs.Cores.{Core}
use Rattle.log_core.specs.Works.{Work, Begins, state_after_work, state_after_all_work, MayBegin, MayWork, MayWorkAll, is_going_on}
use Rattle.log_core.specs.Steps.{is_begun, ghost_begun}
use Rattle.log_core.specs.After.{began_if}
use Rattle.log_core.specs.Runs.{MayNumber}
use Rattle.log_core.specs.Invariant.{Invariant}
use Rattle.log_core.specs.Knows.{Knows}
use Rattle.log_core.proofs.kinds.Begun.{begun_facts}
use Rattle.log_core.proofs.kinds.GoingOn.{begins_or_goes_on, op_stays, ghost_if, may_begun, going_facts}

no_begin : (before now : Option Op) → now ≡ None → is_begun before now ≡ false
no_begin None None e = refl
no_begin None (Some op) e = cc
no_begin (Some op) now e = refl

begins_from_none : (before now : Option Op) → before ≡ None → now ≢ None → is_begun before now ≡ true
begins_from_none None None e some = absurd (some refl)
begins_from_none None (Some op) e some = refl
begins_from_none (Some op) now e some = cc

begun_some : (before now : Option Op) → is_begun before now ≡ true → now ≢ None
begun_some None None e = λ none. (let never : false ≡ true = e in cc)
begun_some None (Some op) e = λ none. cc
begun_some (Some op) now e = λ none. (let never : false ≡ true = e in cc)

number_higher : (begun : Bool) (before number : ℕ) → begun ≡ true → MayNumber begun before number → before < number
number_higher true before number e may = may
number_higher false before number e may = cc

both_left : (a b : Bool) → (a && b) ≡ true → a ≡ true
both_left true b e = refl
both_left false b e = cc

both_right : (a b : Bool) → (a && b) ≡ true → b ≡ true
both_right true b e = e
both_right false b e = cc

-- a call that runs goes on running: no other begins
runs_on : (g : Ghost) (s : Seat) (works : List Work) → MayWorkAll g s works → op_in s ≢ None → op_in (state_after_all_work s works) ≡ op_in s
runs_on g s [] may some = refl
runs_on g s (work ∷ works) may some = begins_or_goes_on (λ (w : Work). MayWork g s w → MayWorkAll g (state_after_work s w) works → op_in (state_after_all_work (state_after_work s w) works) ≡ op_in s)
    (λ task bytes one all. absurd (some one.none_runs))
    (λ w going one all. (let same = op_stays g s w going one in runs_on g (state_after_work s w) works all (λ none. some (sym same ∙ none)) ∙ same))
    work may.0 may.1

module _ (o : Origin) (c : Core) (n pin number : ℕ) where
  abbrev v : View
  v = view_of c.views n

  -- the ends after what a seat has computed up to this state
  abbrev pub began_at : Seat → List ℕ
  began_at s = began_if (is_begun (op_in v.seat) (op_in s)) c.began n (end_of o c.history)

  abbrev pub FactsAt : Seat → Type 0
  FactsAt s = Knows o c n s (ghost_begun v.ghost v.seat s number) pin (slice_index (began_at s) n)

  -- a call begins from a state in which none runs
  begin_one : (s : Seat) (task : Task) (bytes : List ℕ) → FactsAt s → (op_in s ≡ None → op_in v.seat ≡ None) → MayBegin v.ghost s task bytes →
      (is_begun (op_in v.seat) (op_of task bytes) ≡ true → v.ghost.call.number < number) → FactsAt (state_after_work s (Begins task bytes))
  begin_one s task bytes facts start may higher =
      (let same : ghost_begun v.ghost v.seat s number ≡ v.ghost = rw (no_begin (op_in v.seat) (op_in s) may.none_runs) refl in
      begun_facts o c n s v.ghost pin (slice_index (began_at s) n) (slice_index (began_at (state_after_work s (Begins task bytes))) n)
      (subst (λ (g : Ghost). Knows o c n s g pin (slice_index (began_at s) n)) same facts) task bytes number
      (is_begun (op_in v.seat) (op_of task bytes)) may higher (begins_from_none (op_in v.seat) (op_of task bytes) (start may.none_runs)))

  module _ (inv : Invariant o c) (unspent : (view_of c.views n).parts ≢ []) where
    -- a computation that goes on
    go_on : (s : Seat) (work : Work) → is_going_on work ≡ true → MayWork v.ghost s work → FactsAt s → FactsAt (state_after_work s work)
    go_on s work going may facts = subst (λ (op : Option Op). Knows o c n (state_after_work s work) (ghost_if v.ghost (is_begun (op_in v.seat) op) number) pin
        (slice_index (began_if (is_begun (op_in v.seat) op) c.began n (end_of o c.history)) n)) (sym (op_stays v.ghost s work going may))
        (going_facts o c n pin (slice_index (began_at s) n) (ghost_begun v.ghost v.seat s number) inv unspent s work going
        (may_begun v.ghost (is_begun (op_in v.seat) (op_in s)) number s work going may) facts)

    -- what a seat computes before a step
    pub works_hold : (s : Seat) (works : List Work) → MayWorkAll v.ghost s works → FactsAt s → (op_in s ≡ None → op_in v.seat ≡ None) →
        MayNumber (is_begun (op_in v.seat) (op_in (state_after_all_work s works))) v.ghost.call.number number → FactsAt (state_after_all_work s works)
    works_hold s [] may facts start higher = facts
    works_hold s (work ∷ works) may facts start higher = begins_or_goes_on
        (λ (w : Work). MayWork v.ghost s w → MayWorkAll v.ghost (state_after_work s w) works →
        MayNumber (is_begun (op_in v.seat) (op_in (state_after_all_work (state_after_work s w) works))) v.ghost.call.number number → FactsAt (state_after_all_work (state_after_work s w) works))
        (λ task bytes may_one all high. works_hold (state_after_work s (Begins task bytes)) works all
        (begin_one s task bytes facts start may_one
        (λ begun. number_higher (is_begun (op_in v.seat) (op_in (state_after_all_work (state_after_work s (Begins task bytes)) works))) v.ghost.call.number number
        (ap (λ (op : Option Op). is_begun (op_in v.seat) op) (runs_on v.ghost (state_after_work s (Begins task bytes)) works all (begun_some (op_in v.seat) (op_of task bytes) begun)) ∙ begun)
        high))
        (λ none. start may_one.none_runs) high)
        (λ w going may_one all high. works_hold (state_after_work s w) works all
        (go_on s w going may_one facts) (λ none. start (sym (op_stays v.ghost s w going may_one) ∙ none)) high)
        work may.0 may.1 higher

-- and what it computes after one
pub later_hold : (o : Origin) (c : Core) (n pin began : ℕ) (g : Ghost) → Invariant o c → (view_of c.views n).parts ≢ [] → (s : Seat) (works : List Work) → list_all is_going_on works ≡ true → MayWorkAll g s works →
    Knows o c n s g pin began → Knows o c n (state_after_all_work s works) g pin began
later_hold o c n pin began g inv unspent s [] going may facts = facts
later_hold o c n pin began g inv unspent s (work ∷ works) going may facts =
    later_hold o c n pin began g inv unspent (state_after_work s work) works (both_right (is_going_on work) (list_all is_going_on works) going) may.1
    (going_facts o c n pin began g inv unspent s work (both_left (is_going_on work) (list_all is_going_on works) going) may.0 facts)
