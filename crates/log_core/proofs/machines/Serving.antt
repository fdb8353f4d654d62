-- A machine that is lawful leads to its end within a core, whatever others do. `OverPlain` says the same over a plain memory whose
-- words are a core's.
use Rattle.std.proofs.Common.{◌≡◌, ◌≢◌, ◌<◌, ℕ, Bool, true, false, List, [], ◌∷◌, ◌++◌, length, refl, sym, ◌∙◌, ap, subst, slice_index, append-nil}
use Rattle.log_entry.specs.declared.calls.Call.{Call}
use Rattle.pmem_words.specs.Seats.{Seat}
use Rattle.pmem_words.specs.Scripts.{Script, Lowers}
use Rattle.pmem_words.specs.Leads.{Leads, Keeps}
use Rattle.pmem_words.specs.declared.machine.Turn.{Turn}
use Rattle.pmem_words.specs.declared.machine.Turn.TheVariants.{Go, Done}
use Rattle.pmem_words.proofs.LeadsLemmas.{leads_by}
use Rattle.persistence.specs.Memory.{found_answer}
use Rattle.log_core.specs.Views.{View, Ghost, RunningCall, view_of, op_in}
use Rattle.log_core.specs.Origin.{Origin, q_of_origin}
use Rattle.log_core.specs.Cores.{Core, first_core}
use Rattle.log_core.specs.Works.{Computes}
use Rattle.log_core.specs.Steps.{Does, Kind, kind_of_ask, effect, is_begun, ghost_begun, ghost_after, call_if, view_after}
use Rattle.log_core.specs.After.{began_if}
use Rattle.log_core.specs.Files.{end_of}
use Rattle.log_core.specs.Runs.{MayNumber, Allowed, IsReached}
use Rattle.log_core.specs.Invariant.{Invariant}
use Rattle.log_core.specs.Knows.{Knows}
use Rattle.log_core.specs.Within.{adds_at, seat_found, ghost_found, seat_entering, note_with, note_of, Did, within, IsFound, Lawful, Serves, IsLinkedToView, HasGoneOn, StandsAtView, IsLeft}
use Rattle.log_core.proofs.Facts.{facts_of}
use Rattle.log_core.proofs.kinds.Worked.{works_hold}
use Rattle.log_core.proofs.kinds.RunHolds.{run_from}
use Rattle.log_core.proofs.machines.GoneOn.{stays, begun_on, number_on}
use Rattle.log_core.proofs.machines.Entering.{enters_same}
use Rattle.log_core.specs.Answers.{Enters}

-- the number after a step is the one that its note has
number_after : (b : Bool) (call : RunningCall) (number : ℕ) → MayNumber b call.number number → number ≡ (call_if b call number).number
number_after true call number may = refl
number_after false call number may = may

-- where a machine adds no record, what enters the view is what the step makes of the seat
enters_with : (g : Ghost) (e t : Seat) (adds : List Call) → Enters g e t adds → Enters g e (seat_entering adds e t) adds
enters_with g e t [] enters = enters_same g e e refl
enters_with g e t (call ∷ calls) enters = enters

pub reached_keeps : (o : Origin) (start : Invariant o (first_core o)) (c : Core) → IsReached o c → Invariant o c
reached_keeps o start c reached = subst (λ (x : Core). Invariant o x) reached.ends (run_from o reached.steps start reached.is_run)

module _ (o : Origin) (start : Invariant o (first_core o)) (seat number : ℕ) where
  -- what a core knows of the state that a seat has computed from its view
  pub knows_here : (c : Core) (s : Seat) → Invariant o c → seat < length c.views → (view_of c.views seat).parts ≢ [] → (begins : Computes (view_of c.views seat).ghost (view_of c.views seat).seat s) →
      MayNumber (is_begun (op_in (view_of c.views seat).seat) (op_in s)) (view_of c.views seat).ghost.call.number number →
      Knows o c seat s (ghost_begun (view_of c.views seat).ghost (view_of c.views seat).seat s number) (slice_index c.memory.now.pins seat)
      (slice_index (began_if (is_begun (op_in (view_of c.views seat).seat) (op_in s)) c.began seat (end_of o c.history)) seat)
  knows_here c s inv here unspent begins number_is = subst
      (λ (t : Seat). MayNumber (is_begun (op_in (view_of c.views seat).seat) (op_in t)) (view_of c.views seat).ghost.call.number number →
      Knows o c seat t (ghost_begun (view_of c.views seat).ghost (view_of c.views seat).seat t number) (slice_index c.memory.now.pins seat) (slice_index (began_if (is_begun (op_in (view_of c.views seat).seat) (op_in t)) c.began seat (end_of o c.history)) seat))
      (sym begins.gives)
      (λ higher. works_hold o c seat (slice_index c.memory.now.pins seat) number inv unspent (view_of c.views seat).seat begins.works begins.may
      (rw (stays (op_in (view_of c.views seat).seat)) (facts_of o c seat inv here)) (λ e. e) higher)
      number_is

  module _ {M Out : Type 0} (script : Script M Out) (rec : Out → Seat → List Call) (P : M → Seat → Ghost → Type 0) (R : Out → Seat → Ghost → Type 0)
      (serves : Serves o seat script rec P R) (lowers : Lowers script) (rest : List Call) where
    abbrev kind : M → Seat → Kind
    kind m s = kind_of_ask (q_of_origin o) seat (script.asks m s)

    abbrev ghost_next : M → Seat → Ghost → ℕ → Ghost
    ghost_next m s g f = ghost_after g s (effect g.marks s (kind m s) f) (kind m s) f

    -- in a core in which the view is the seat's, what is found is admitted
    admitted_at : (m : M) (s : Seat) (c : Core) → Invariant o c → seat < length c.views → IsLinkedToView number rest (P m) s (view_of c.views seat) → script.admits m s (found_answer c.memory (script.asks m s))
    admitted_at m s c inv here linked =
        (serves m s (ghost_begun (view_of c.views seat).ghost (view_of c.views seat).seat s number) linked.fits).admitted c (slice_index c.memory.now.pins seat)
        (slice_index (began_if (is_begun (op_in (view_of c.views seat).seat) (op_in s)) c.began seat (end_of o c.history)) seat) inv linked.unspent
        (knows_here c s inv here linked.unspent linked.begins linked.number_is)

    -- it is what may be found
    found_at : (m : M) (s : Seat) (c : Core) → Invariant o c → seat < length c.views → IsLinkedToView number rest (P m) s (view_of c.views seat) →
        IsFound o seat s (ghost_begun (view_of c.views seat).ghost (view_of c.views seat).seat s number) (script.asks m s) (found_answer c.memory (script.asks m s))
    found_at m s c inv here linked = record {
      core = c;
      pin = slice_index c.memory.now.pins seat;
      began = slice_index (began_if (is_begun (op_in (view_of c.views seat).seat) (op_in s)) c.began seat (end_of o c.history)) seat;
      holds = inv;
      unspent = linked.unspent;
      knows = knows_here c s inv here linked.unspent linked.begins linked.number_is;
      is = refl;
    }

    -- and the ask is a step
    can_at : (m : M) (s : Seat) (c : Core) → Invariant o c → seat < length c.views → IsLinkedToView number rest (P m) s (view_of c.views seat) →
        Allowed o c (Does seat (script.asks m s) (note_of o seat number script rec m s (view_of c.views seat).ghost (found_answer c.memory (script.asks m s))))
    can_at m s c inv here linked =
        (let g = ghost_begun (view_of c.views seat).ghost (view_of c.views seat).seat s number in
        let laws = serves m s g linked.fits in
        let f = found_answer c.memory (script.asks m s) in
        let admits = admitted_at m s c inv here linked in
        let is = found_at m s c inv here linked in
        record {
          made = here;
          unspent = linked.unspent;
          step = record {
            begins = linked.begins;
            number = linked.number_is;
            may = laws.may c (slice_index c.memory.now.pins seat) (slice_index (began_if (is_begun (op_in (view_of c.views seat).seat) (op_in s)) c.began seat (end_of o c.history)) seat) inv linked.unspent
                (knows_here c s inv here linked.unspent linked.begins linked.number_is);
            enters = enters_with (ghost_found o seat (script.asks m s) s g f) (seat_found o seat (script.asks m s) s g f) (script.after m s f).seat
                (adds_at rec (script.after m s f).seat (script.after m s f).turn) (laws.enters f is admits);
          };
        })

    linked_to : (m : M) (s : Seat) (v : View) (c : Core) → view_of c.views seat ≡ v → IsLinkedToView number rest (P m) s v → IsLinkedToView number rest (P m) s (view_of c.views seat)
    linked_to m s v c at linked = subst (λ (u : View). IsLinkedToView number rest (P m) s u) (sym at) linked

    admitted_here : (m : M) (s : Seat) (v : View) → IsLinkedToView number rest (P m) s v → (f : ℕ) (w : View) → Did o seat v (script.asks m s) (note_of o seat number script rec m s v.ghost) f w → script.admits m s f
    admitted_here m s v linked f w did = subst (λ (x : ℕ). script.admits m s x) did.answer
        (admitted_at m s did.core (reached_keeps o start did.core did.reached) did.made (linked_to m s v did.core did.at linked))

    found_here : (m : M) (s : Seat) (v : View) → IsLinkedToView number rest (P m) s v → (f : ℕ) (w : View) → Did o seat v (script.asks m s) (note_of o seat number script rec m s v.ghost) f w →
        IsFound o seat s (ghost_begun v.ghost v.seat s number) (script.asks m s) f
    found_here m s v linked f w did = subst (λ (u : View). IsFound o seat s (ghost_begun u.ghost u.seat s number) (script.asks m s) f) did.at
        (subst (λ (x : ℕ). IsFound o seat s (ghost_begun (view_of did.core.views seat).ghost (view_of did.core.views seat).seat s number) (script.asks m s) x) did.answer
        (found_at m s did.core (reached_keeps o start did.core did.reached) did.made (linked_to m s v did.core did.at linked)))

    -- what a step adds: no record where the machine goes on, and its record where it ends
    adds_going : (turn : Turn Out) (t : Seat) → turn ≡ Go → adds_at rec t turn ≡ []
    adds_going turn t go = rw go refl

    adds_ending : (turn : Turn Out) (t : Seat) (out : Out) → turn ≡ Done out → adds_at rec t turn ≡ rec out t
    adds_ending turn t out done = rw done refl

    -- the view after a step of these records
    abbrev view_next : M → Seat → View → ℕ → List Call → View
    view_next m s v f adds = view_after v (kind m s) (note_with adds number s (seat_found o seat (script.asks m s) s v.ghost f) (script.after m s f).seat) f

    view_is : (m : M) (s : Seat) (v : View) (f : ℕ) (w : View) (adds : List Call) → adds_at rec (script.after m s f).seat (script.after m s f).turn ≡ adds →
        Did o seat v (script.asks m s) (note_of o seat number script rec m s v.ghost) f w → w ≡ view_next m s v f adds
    view_is m s v f w adds is did = did.left ∙ ap (λ (a : List Call). view_next m s v f a) is

    -- what enters after a step of these records
    abbrev Entered : M → Seat → View → ℕ → List Call → Type 0
    Entered m s v f adds = Enters (ghost_found o seat (script.asks m s) s (ghost_begun v.ghost v.seat s number) f) (seat_found o seat (script.asks m s) s v.ghost f) (script.after m s f).seat adds

    entered : (m : M) (s : Seat) (v : View) → IsLinkedToView number rest (P m) s v → (f : ℕ) (w : View) (adds : List Call) → adds_at rec (script.after m s f).seat (script.after m s f).turn ≡ adds →
        Did o seat v (script.asks m s) (note_of o seat number script rec m s v.ghost) f w → Entered m s v f adds
    entered m s v linked f w adds is did = subst (λ (a : List Call). Entered m s v f a) is
        ((serves m s (ghost_begun v.ghost v.seat s number) linked.fits).enters f (found_here m s v linked f w did) (admitted_here m s v linked f w did))

    -- the seat after a step of these records
    stands_next : (m : M) (s : Seat) (v : View) (f : ℕ) (adds : List Call) → Entered m s v f adds → StandsAtView adds (view_next m s v f adds) (script.after m s f).seat
    stands_next m s v f [] enters = record { computed = record { works = enters.computed.works; may = enters.computed.may; gives = enters.seat_is ∙ enters.computed.gives }; going_on = enters.going_on }
    stands_next m s v f (call ∷ calls) enters = refl

    keeps : (m : M) (s : Seat) (v : View) → IsLinkedToView number rest (P m) s v → Keeps script (within o seat number script rec) (λ n t w. IsLinkedToView number rest (P n) t w) (IsLeft rest rec R) m s v
    keeps m s v linked = record {
      ready = record {
        can = λ c reached here at. subst (λ (u : View). Allowed o c (Does seat (script.asks m s) (note_of o seat number script rec m s u.ghost (found_answer c.memory (script.asks m s))))) at
            (can_at m s c (reached_keeps o start c reached) here (linked_to m s v c at linked));
        admitted = admitted_here m s v linked;
      };
      admitted = admitted_here m s v linked;
      goes = λ f w did go. goes_on f w did go;
      ends = λ f w out did stop. ends_so f w out did stop;
    }
      where
        laws : Lawful o seat script rec P R m s (ghost_begun v.ghost v.seat s number)
        laws = serves m s (ghost_begun v.ghost v.seat s number) linked.fits

        goes_on : (f : ℕ) (w : View) → Did o seat v (script.asks m s) (note_of o seat number script rec m s v.ghost) f w → (script.after m s f).turn ≡ Go → IsLinkedToView number rest (P (script.after m s f).machine) (script.after m s f).seat w
        goes_on f w did go =
            (let none = adds_going (script.after m s f).turn (script.after m s f).seat go in
            let u = view_next m s v f [] in
            let on : HasGoneOn u (script.after m s f).seat = stands_next m s v f [] (entered m s v linked f w [] none did) in
            subst (λ (x : View). IsLinkedToView number rest (P (script.after m s f).machine) (script.after m s f).seat x) (sym (view_is m s v f w [] none did))
            (record {
              unspent = linked.unspent;
              begins = on.computed;
              number_is = number_on u (script.after m s f).seat number on (number_after (is_begun (op_in v.seat) (op_in s)) v.ghost.call number linked.number_is);
              done = append-nil v.done ∙ linked.done;
              fits = subst (λ (g : Ghost). P (script.after m s f).machine (script.after m s f).seat g) (sym (begun_on u (script.after m s f).seat number on))
                  (laws.goes f (found_here m s v linked f w did) (admitted_here m s v linked f w did) go);
            }))

        ends_so : (f : ℕ) (w : View) (out : Out) → Did o seat v (script.asks m s) (note_of o seat number script rec m s v.ghost) f w → (script.after m s f).turn ≡ Done out → IsLeft rest rec R out (script.after m s f).seat w
        ends_so f w out did stop =
            (let adds = rec out (script.after m s f).seat in
            let is = adds_ending (script.after m s f).turn (script.after m s f).seat out stop in
            subst (λ (x : View). IsLeft rest rec R out (script.after m s f).seat x) (sym (view_is m s v f w adds is did))
            (record {
              unspent = linked.unspent;
              seat = stands_next m s v f adds (entered m s v linked f w adds is did);
              done = ap (λ (calls : List Call). calls ++ adds) linked.done;
              fits = laws.ends f out (found_here m s v linked f w did) (admitted_here m s v linked f w did) stop;
            }))

    -- a lawful machine leads to its end within a core, for every interleaving
    pub leads_within : (m : M) (s : Seat) (v : View) → IsLinkedToView number rest (P m) s v → Leads script (within o seat number script rec) (IsLeft rest rec R) m s v
    leads_within m s v linked = leads_by script (within o seat number script rec) (λ n t w. IsLinkedToView number rest (P n) t w) (IsLeft rest rec R) lowers keeps m s v linked
