-- A fact of the core rides along with a lawful machine whose seat alone makes steps: what each of its steps keeps holds at its end.
use Rattle.std.proofs.Common.{◌≡◌, ◌≢◌, ◌<◌, ℕ, List, [], length, refl, sym, ◌∙◌, ap, subst, slice_index}
use Rattle.std.proofs.lemmas.List.{get_or-set_same}
use Rattle.log_entry.specs.declared.calls.Call.{Call}
use Rattle.pmem_words.specs.Seats.{Seat}
use Rattle.pmem_words.specs.Scripts.{Script}
use Rattle.pmem_words.specs.Leads.{Leads}
use Rattle.pmem_words.specs.declared.machine.Turn.TheVariants.{Go, Done}
use Rattle.pmem_words.proofs.LeadsLemmas.{leads_with}
use Rattle.persistence.specs.Memory.{found_answer}
use Rattle.log_core.specs.Views.{View, Ghost, view_of, spent_view, op_in}
use Rattle.log_core.specs.Origin.{Origin, q_of_origin}
use Rattle.log_core.specs.Cores.{Core, first_core}
use Rattle.log_core.specs.Files.{end_of}
use Rattle.log_core.specs.Steps.{Kind, kind_of_ask, is_begun, ghost_begun, view_after}
use Rattle.log_core.specs.After.{after, began_if}
use Rattle.log_core.specs.May.{May}
use Rattle.log_core.specs.Runs.{IsReached}
use Rattle.log_core.specs.Invariant.{Invariant}
use Rattle.log_core.specs.Knows.{Knows}
use Rattle.log_core.specs.Owners.{SeatOwns}
use Rattle.log_core.specs.Answers.{Enters}
use Rattle.log_core.specs.Within.{no_record, adds_at, seat_found, ghost_found, note_with, IsFound, Lawful, Serves, HasGoneOn}
use Rattle.log_core.proofs.machines.Entering.{none_at}
use Rattle.log_core.proofs.machines.Agreeing.{reached_next}
use Rattle.log_core.proofs.machines.GoneOn.{begun_on}
use Rattle.log_core.proofs.machines.OnCore.{alone, step_on, IsReadyOn}
use Rattle.log_core.proofs.machines.Serving.{reached_keeps, knows_here}

-- the core after a step holds, and the seat owns in it what the step has made its own
pub record HasStepped {M Out : Type 0} (o : Origin) (seat number : ℕ) (script : Script M Out) (m : M) (s : Seat) (c : Core) (d : Core) : Type 0 where
  pub holds : Invariant o d
  pub owns : SeatOwns d.owner seat (seat_found o seat (script.asks m s) s (view_of c.views seat).ghost (found_answer c.memory (script.asks m s)))

-- the core after the step that a machine's ask is
abbrev pub next_core : {M Out : Type 0} → Origin → (seat number : ℕ) → Script M Out → M → Seat → Core → Core
next_core o seat number script m s c = after o c (step_on o seat number script no_record m s c)

-- what contracts alone see of the seat on a core
abbrev pub ghost_on : (seat number : ℕ) → Core → Seat → Ghost
ghost_on seat number c s = ghost_begun (view_of c.views seat).ghost (view_of c.views seat).seat s number

-- a machine makes a step on a core: what the core knows of the seat, and that the step may be made
pub record StepsOn {M Out : Type 0} (o : Origin) (seat number : ℕ) (script : Script M Out) (m : M) (s : Seat) (c : Core) : Type 0 where
  pub holds : Invariant o c
  pub made : seat < length c.views
  pub pin : ℕ
  pub began : ℕ
  pub unspent : (view_of c.views seat).parts ≢ []
  pub knows : Knows o c seat s (ghost_on seat number c s) pin began
  pub may : May o c (ghost_on seat number c s) s (kind_of_ask (q_of_origin o) seat (script.asks m s))

-- what is found there
pub found_of : {M Out : Type 0} (o : Origin) (seat number : ℕ) (script : Script M Out) (m : M) (s : Seat) (c : Core) → StepsOn o seat number script m s c →
    IsFound o seat s (ghost_on seat number c s) (script.asks m s) (found_answer c.memory (script.asks m s))
found_of o seat number script m s c st = record { core = c; pin = st.pin; began = st.began; holds = st.holds; unspent = st.unspent; knows = st.knows; is = refl }

module _ (o : Origin) (start : Invariant o (first_core o)) (seat number : ℕ) {M Out : Type 0} (script : Script M Out) (P : M → Seat → Ghost → Type 0) (R : Out → Seat → Ghost → Type 0)
    (serves : Serves o seat script no_record P R) (F : M → Seat → Core → Type 0) (E : Out → Seat → Core → Type 0) where
  abbrev pub found_on : M → Seat → Core → ℕ
  found_on m s c = found_answer c.memory (script.asks m s)

  -- the fact is kept where the machine goes on, and leads to another one where it ends
  pub record Rides (m : M) (s : Seat) (c : Core) : Type 0 where
    pub goes : (script.after m s (found_on m s c)).turn ≡ Go → F (script.after m s (found_on m s c)).machine (script.after m s (found_on m s c)).seat (next_core o seat number script m s c)
    pub ends : (out : Out) → (script.after m s (found_on m s c)).turn ≡ Done out → E out (script.after m s (found_on m s c)).seat (next_core o seat number script m s c)

  -- it stands so, and has the fact
  abbrev Both : M → Seat → Core → Type 0
  Both m s c = P m s (ghost_on seat number c s) × F m s c

  module _ (m : M) (s : Seat) (c : Core) (ready : IsReadyOn o seat number script no_record m s c) where
    abbrev kind : Kind
    kind = kind_of_ask (q_of_origin o) seat (script.asks m s)

    abbrev f : ℕ
    f = found_answer c.memory (script.asks m s)

    abbrev g : Ghost
    g = ghost_on seat number c s

    abbrev v : View
    v = view_of c.views seat

    steps : StepsOn o seat number script m s c
    steps = record {
      holds = reached_keeps o start c ready.reached;
      made = ready.made;
      pin = slice_index c.memory.now.pins seat;
      began = slice_index (began_if (is_begun (op_in v.seat) (op_in s)) c.began seat (end_of o c.history)) seat;
      unspent = ready.allowed.unspent;
      knows = knows_here o start seat number c s (reached_keeps o start c ready.reached) ready.made ready.allowed.unspent ready.allowed.step.begins ready.allowed.step.number;
      may = ready.allowed.step.may;
    }

    found : IsFound o seat s g (script.asks m s) f
    found = found_of o seat number script m s c steps

    -- the view after a step of these records
    abbrev view_next : List Call → View
    view_next adds = view_after v kind (note_with adds number s (seat_found o seat (script.asks m s) s v.ghost f) (script.after m s f).seat) f

    view_is : view_of (next_core o seat number script m s c).views seat ≡ view_next []
    view_is = get_or-set_same c.views seat (view_next (adds_at no_record (script.after m s f).seat (script.after m s f).turn)) spent_view ready.made
        ∙ ap (λ (adds : List Call). view_next adds) (none_at (script.after m s f).seat (script.after m s f).turn)

    module _ (stands : P m s (ghost_on seat number c s)) where
      laws : Lawful o seat script no_record P R m s g
      laws = serves m s g stands

      enters : Enters (ghost_found o seat (script.asks m s) s g f) (seat_found o seat (script.asks m s) s g f) (script.after m s f).seat []
      enters = subst (λ (adds : List Call). Enters (ghost_found o seat (script.asks m s) s g f) (seat_found o seat (script.asks m s) s g f) (script.after m s f).seat adds)
          (none_at (script.after m s f).seat (script.after m s f).turn) (laws.enters f found ready.admitted)

      gone : HasGoneOn (view_next []) (script.after m s f).seat
      gone = (let e = enters in record { computed = record { works = e.computed.works; may = e.computed.may; gives = e.seat_is ∙ e.computed.gives }; going_on = e.going_on })

      next_reached : IsReached o (next_core o seat number script m s c)
      next_reached = reached_next o c (step_on o seat number script no_record m s c) ready.reached ready.allowed

      stepped : HasStepped o seat number script m s c (next_core o seat number script m s c)
      stepped = (let inv = reached_keeps o start (next_core o seat number script m s c) next_reached in record {
        holds = inv;
        owns = subst (λ (u : View). SeatOwns (next_core o seat number script m s c).owner seat u.seat) view_is (inv.owners.seats seat);
      })

      stands_next : (script.after m s f).turn ≡ Go → P (script.after m s f).machine (script.after m s f).seat (ghost_on seat number (next_core o seat number script m s c) (script.after m s f).seat)
      stands_next go = subst (λ (u : View). P (script.after m s f).machine (script.after m s f).seat (ghost_begun u.ghost u.seat (script.after m s f).seat number)) (sym view_is)
          (subst (λ (h : Ghost). P (script.after m s f).machine (script.after m s f).seat h) (sym (begun_on (view_next []) (script.after m s f).seat number gone)) (laws.goes f found ready.admitted go))

  module _ (rides : (m : M) (s : Seat) (c : Core) → P m s (ghost_on seat number c s) → StepsOn o seat number script m s c → HasStepped o seat number script m s c (next_core o seat number script m s c) → F m s c → Rides m s c) where
    pub rides_along : (Q : Out → Seat → Core → Type 0) (m : M) (s : Seat) (c : Core) → P m s (ghost_on seat number c s) → F m s c → Leads script (alone o seat number script no_record) Q m s c →
        Leads script (alone o seat number script no_record) (λ out t d. Q out t d × E out t d) m s c
    rides_along Q m s c stands fact leads = leads_with script (alone o seat number script no_record) Both Q E
        (λ n t d a e both ready st go. subst (λ (x : Core). Both (script.after n t a).machine (script.after n t a).seat x) (sym st.1)
        (subst (λ (x : ℕ). (script.after n t x).turn ≡ Go → Both (script.after n t x).machine (script.after n t x).seat (next_core o seat number script n t d)) (sym st.0)
        (λ go'. (stands_next n t d ready both.0 go', (rides n t d both.0 (steps n t d ready) (stepped n t d ready both.0) both.1).goes go')) go))
        (λ n t d a e out both ready st done. subst (λ (x : Core). E out (script.after n t a).seat x) (sym st.1)
        (subst (λ (x : ℕ). (script.after n t x).turn ≡ Done out → E out (script.after n t x).seat (next_core o seat number script n t d)) (sym st.0)
        (λ done'. (rides n t d both.0 (steps n t d ready) (stepped n t d ready both.0) both.1).ends out done') done))
        (stands, fact) leads
