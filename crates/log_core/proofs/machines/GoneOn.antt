-- A seat that has gone on from its view: no call has begun, so contracts alone see what they see in the view, and each core that has the
-- view knows the seat's state.
use Rattle.std.proofs.Common.{◌≡◌, ◌≢◌, ℕ, Bool, true, false, List, [], ◌∷◌, ◌++◌, refl, sym, ◌∙◌, ap, subst, slice_index, Option, Some, None}
use Rattle.log_entry.specs.declared.calls.Op.{Op}
use Rattle.log_entry.specs.declared.calls.Call.{Call}
use Rattle.pmem_words.specs.Seats.{Seat}
use Rattle.log_core.specs.Views.{View, Ghost, view_of, op_in}
use Rattle.log_core.specs.Origin.{Origin}
use Rattle.log_core.specs.Cores.{Core}
use Rattle.log_core.specs.Steps.{is_begun, ghost_begun, call_if}
use Rattle.log_core.specs.Runs.{MayNumber, IsIdle, IsIdleView}
use Rattle.log_core.specs.Invariant.{Invariant}
use Rattle.log_core.specs.Knows.{Knows}
use Rattle.log_core.specs.Within.{IsLinkedToView, HasGoneOn, StandsAtView}
use Rattle.log_core.proofs.Facts.{facts_of}
use Rattle.log_core.proofs.clauses.Others.{unspent_made}
use Rattle.log_core.proofs.following.Numbers.{op_going}
use Rattle.log_core.proofs.kinds.Worked.{later_hold}
use Rattle.log_core.proofs.machines.Parts.{worked_more, may_more, all_more}
use Rattle.log_core.specs.Works.{Computes, MayWorkAll, state_after_all_work, is_going_on}
use Rattle.std.specs.List.{list_all}

-- no call begins where the state stays
pub stays : (op : Option Op) → is_begun op op ≡ false
stays None = refl
stays (Some op) = refl

same_op : (v : View) (s : Seat) → HasGoneOn v s → op_in s ≡ op_in v.seat
same_op v s on = ap op_in on.computed.gives ∙ op_going v.ghost v.seat on.computed.works on.going_on on.computed.may

none_begun : (v : View) (s : Seat) → HasGoneOn v s → is_begun (op_in v.seat) (op_in s) ≡ false
none_begun v s on = ap (λ (op : Option Op). is_begun (op_in v.seat) op) (same_op v s on) ∙ stays (op_in v.seat)

-- so what contracts alone see is as in its view, and the number stays
pub begun_on : (v : View) (s : Seat) (number : ℕ) → HasGoneOn v s → ghost_begun v.ghost v.seat s number ≡ v.ghost
begun_on v s number on = ap (λ (b : Bool). record (v.ghost) { call = call_if b v.ghost.call number }) (none_begun v s on)

pub number_on : (v : View) (s : Seat) (number : ℕ) → HasGoneOn v s → number ≡ v.ghost.call.number → MayNumber (is_begun (op_in v.seat) (op_in s)) v.ghost.call.number number
number_on v s number on e = subst (λ (b : Bool). MayNumber b v.ghost.call.number number) (sym (none_begun v s on)) e

-- so whatever holds at the view's ghost part holds between two steps
pub linked_on : (rest : List Call) (P : Seat → Ghost → Type 0) (s : Seat) (v : View) → v.parts ≢ [] → v.done ≡ rest → HasGoneOn v s → P s v.ghost → IsLinkedToView v.ghost.call.number rest P s v
linked_on rest P s v unspent done on fits = record {
  unspent = unspent;
  begins = on.computed;
  number_is = number_on v s v.ghost.call.number on refl;
  done = done;
  fits = subst (λ (g : Ghost). P s g) (sym (begun_on v s v.ghost.call.number on)) fits;
}

-- what is computed from a state that was computed
abbrev pub computes_more : (g : Ghost) (s t u : Seat) → Computes g s t → Computes g t u → Computes g s u
computes_more g s t u first more = record {
  works = first.works ++ more.works;
  may = may_more g s first.works more.works first.may (subst (λ (x : Seat). MayWorkAll g x more.works) first.gives more.may);
  gives = more.gives ∙ (ap (λ (x : Seat). state_after_all_work x more.works) first.gives ∙ sym (worked_more s first.works more.works));
}

-- a seat that has gone on goes on
pub gone_more : (v : View) (s t : Seat) → HasGoneOn v s → (more : Computes v.ghost s t) → list_all is_going_on more.works ≡ true → HasGoneOn v t
gone_more v s t on more going = record { computed = computes_more v.ghost v.seat s t on.computed more; going_on = all_more is_going_on on.computed.works more.works on.going_on going }

-- a seat that a call left idle, with its record, has an idle view
pub idle_left : (call : Call) (calls : List Call) (v : View) (s : Seat) → StandsAtView (call ∷ calls) v s → IsIdle s v.ghost → IsIdleView v
idle_left call calls v s same idle = subst (λ (t : Seat). IsIdle t v.ghost) (sym same) idle

-- each core in which the seat has this view knows the state that it has gone on to
pub knows_on : (o : Origin) (c : Core) (seat : ℕ) → Invariant o c → (v : View) → view_of c.views seat ≡ v → v.parts ≢ [] → (s : Seat) → HasGoneOn v s →
    Knows o c seat s v.ghost (slice_index c.memory.now.pins seat) (slice_index c.began seat)
knows_on o c seat inv v at unspent s on =
    subst (λ (u : View). u.parts ≢ [] → HasGoneOn u s → Knows o c seat s u.ghost (slice_index c.memory.now.pins seat) (slice_index c.began seat)) at
    (λ here gone. subst (λ (t : Seat). Knows o c seat t (view_of c.views seat).ghost (slice_index c.memory.now.pins seat) (slice_index c.began seat)) (sym gone.computed.gives)
    (later_hold o c seat (slice_index c.memory.now.pins seat) (slice_index c.began seat) (view_of c.views seat).ghost inv here (view_of c.views seat).seat gone.computed.works gone.going_on gone.computed.may
    (facts_of o c seat inv (unspent_made c.views seat here))))
    unspent on
