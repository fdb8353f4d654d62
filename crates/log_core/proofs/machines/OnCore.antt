-- What leads within the core leads on one core where no other seat makes a step; and so over a plain memory that agrees with it.
use Rattle.std.proofs.Common.{◌≡◌, ◌<◌, ◌≤◌, ℕ, List, length, refl, sym, ◌∙◌, ap, subst, arith}
use Rattle.std.proofs.lemmas.List.{length-set, get_or-set_same}
use Rattle.log_entry.specs.declared.calls.Call.{Call}
use Rattle.asks.specs.SharedWords.{SharedWords, answer_of, words_after}
use Rattle.pmem_words.specs.Seats.{Seat}
use Rattle.pmem_words.specs.declared.TheConstants.{SEATS}
use Rattle.pmem_words.specs.Scripts.{Script}
use Rattle.pmem_words.specs.Courses.{Course, over}
use Rattle.pmem_words.specs.Leads.{Leads, asking, LeadsAfter, LeadsAt}
use Rattle.pmem_words.specs.PlainWords.{plain}
use Rattle.pmem_words.specs.declared.machine.Turn.{Turn}
use Rattle.pmem_words.specs.declared.machine.Turn.TheVariants.{Go, Done}
use Rattle.pmem_words.proofs.PlainLemmas.{leads_plain}
use Rattle.persistence.specs.Memory.{found_answer}
use Rattle.persistence.specs.Cells.{MemoryTakes}
use Rattle.log_core.specs.Views.{View, view_of, spent_view}
use Rattle.log_core.specs.Origin.{Origin, q_of_origin}
use Rattle.log_core.specs.Cores.{Core, first_core}
use Rattle.log_core.specs.Steps.{Step, Does, kind_of_ask, view_after}
use Rattle.log_core.specs.After.{after}
use Rattle.log_core.specs.Runs.{Allowed, IsReached}
use Rattle.log_core.specs.Invariant.{Invariant}
use Rattle.log_core.specs.Within.{note_of, Did, within, Agrees}
use Rattle.log_core.proofs.machines.Agreeing.{takes_too, same_answer, agrees_after, reached_next}
use Rattle.log_core.proofs.machines.Serving.{reached_keeps}
use Rattle.log_core.proofs.machines.Takes.{takes_asked}

-- the step that a machine's ask is on a core
abbrev pub step_on : {M Out : Type 0} → Origin → (seat number : ℕ) → Script M Out → (Out → Seat → List Call) → M → Seat → Core → Step
step_on o seat number script rec m s c = Does seat (script.asks m s) (note_of o seat number script rec m s (view_of c.views seat).ghost (found_answer c.memory (script.asks m s)))

-- the ask is a step of the seat on a core that a run reaches, and what is found there is admitted
pub record IsReadyOn {M Out : Type 0} (o : Origin) (seat number : ℕ) (script : Script M Out) (rec : Out → Seat → List Call) (m : M) (s : Seat) (c : Core) : Type 0 where
  pub reached : IsReached o c
  pub made : seat < length c.views
  pub allowed : Allowed o c (step_on o seat number script rec m s c)
  pub admitted : script.admits m s (found_answer c.memory (script.asks m s))

-- a machine that is alone on a core
abbrev pub alone : {M Out : Type 0} → Origin → ℕ → ℕ → Script M Out → (Out → Seat → List Call) → Course M Core
alone o seat number script rec = record {
  ready = λ m s c. IsReadyOn o seat number script rec m s c;
  step = λ m s c a d. (a ≡ found_answer c.memory (script.asks m s)) × (d ≡ after o c (step_on o seat number script rec m s c));
}

-- it has ended on a core that a run reaches, and that has the seat
pub record EndsOnCore {Out : Type 0} (o : Origin) (seat : ℕ) (Q : Out → Seat → View → Type 0) (out : Out) (t : Seat) (d : Core) : Type 0 where
  pub reached : IsReached o d
  pub made : seat < length d.views
  pub ends : Q out t (view_of d.views seat)

-- the end on a core, over a memory that agrees with it
pub record EndsOver {Out : Type 0} (Q : Out → Seat → Core → Type 0) (out : Out) (t : Seat) (q : SharedWords) : Type 0 where
  pub core : Core
  pub agrees : Agrees q core.memory
  pub ends : Q out t core

module _ (o : Origin) (start : Invariant o (first_core o)) (seat number : ℕ) {M Out : Type 0} (script : Script M Out) (rec : Out → Seat → List Call) where
  module _ (Q : Out → Seat → View → Type 0) where
    pub leads_alone : (m : M) (s : Seat) (v : View) (c : Core) → Leads script (within o seat number script rec) Q m s v → IsReached o c → seat < length c.views → view_of c.views seat ≡ v →
        Leads script (alone o seat number script rec) (EndsOnCore o seat Q) m s c
    leads_alone m s v c (asking ready goes ends) reached made at =
        asking
        (record { reached = reached; made = made; allowed = allowed; admitted = ready.admitted f w did })
        (λ a d st go. subst (λ (x : Core). Leads script (alone o seat number script rec) (EndsOnCore o seat Q) (script.after m s a).machine (script.after m s a).seat x) (sym st.1)
        (subst (λ (x : ℕ). (script.after m s x).turn ≡ Go → Leads script (alone o seat number script rec) (EndsOnCore o seat Q) (script.after m s x).machine (script.after m s x).seat next) (sym st.0)
        (λ go'. leads_alone (script.after m s f).machine (script.after m s f).seat w next (goes f w did go') next_reached next_made next_at) go))
        (λ a d out st done. subst (λ (x : Core). EndsOnCore o seat Q out (script.after m s a).seat x) (sym st.1)
        (subst (λ (x : ℕ). (script.after m s x).turn ≡ Done out → EndsOnCore o seat Q out (script.after m s x).seat next) (sym st.0)
        (λ done'. record { reached = next_reached; made = next_made; ends = subst (λ (u : View). Q out (script.after m s f).seat u) (sym next_at) (ends f w out did done') }) done))
      where
        f : ℕ
        f = found_answer c.memory (script.asks m s)

        allowed : Allowed o c (step_on o seat number script rec m s c)
        allowed = subst (λ (u : View). Allowed o c (Does seat (script.asks m s) (note_of o seat number script rec m s u.ghost f))) (sym at) (ready.can c reached made at)

        next : Core
        next = after o c (step_on o seat number script rec m s c)

        w : View
        w = view_after v (kind_of_ask (q_of_origin o) seat (script.asks m s)) (note_of o seat number script rec m s v.ghost f) f

        did : Did o seat v (script.asks m s) (note_of o seat number script rec m s v.ghost) f w
        did = record { core = c; reached = reached; made = made; at = at; answer = refl; left = refl }

        next_reached : IsReached o next
        next_reached = reached_next o c (step_on o seat number script rec m s c) reached allowed

        next_made : seat < length next.views
        next_made = subst (λ (n : ℕ). seat < n) (sym (length-set c.views seat (view_after (view_of c.views seat) (kind_of_ask (q_of_origin o) seat (script.asks m s)) (note_of o seat number script rec m s (view_of c.views seat).ghost f) f))) made

        next_at : view_of next.views seat ≡ w
        next_at = get_or-set_same c.views seat (view_after (view_of c.views seat) (kind_of_ask (q_of_origin o) seat (script.asks m s)) (note_of o seat number script rec m s (view_of c.views seat).ghost f) f) spent_view made
            ∙ ap (λ (u : View). view_after u (kind_of_ask (q_of_origin o) seat (script.asks m s)) (note_of o seat number script rec m s u.ghost f) f) at

  module _ (Q : Out → Seat → Core → Type 0) where
    turns : (m : M) (s : Seat) (turn : Turn Out) (p : SharedWords) → (turn ≡ Go → Leads script (over script plain) (EndsOver Q) m s p) → ((out : Out) → turn ≡ Done out → EndsOver Q out s p) → LeadsAt script (over script plain) (EndsOver Q) m s turn p
    turns m s Go p goes ends = goes refl
    turns m s (Done out) p goes ends = ends out refl

    pub alone_plain : (m : M) (s : Seat) (c : Core) (p : SharedWords) → Leads script (alone o seat number script rec) Q m s c → Agrees p c.memory → Leads script (over script plain) (EndsOver Q) m s p
    alone_plain m s c p (asking ready goes ends) agrees =
        leads_plain script (EndsOver Q) m s p (takes_too p c.memory agrees few (script.asks m s) takes)
        (λ small. subst (λ (x : ℕ). script.admits m s x) (sym same) ready.admitted)
        (subst (λ (x : ℕ). LeadsAfter script (over script plain) (EndsOver Q) (script.after m s x) (words_after p (script.asks m s))) (sym same)
        (turns (script.after m s f).machine (script.after m s f).seat (script.after m s f).turn (words_after p (script.asks m s))
        (λ go. alone_plain (script.after m s f).machine (script.after m s f).seat next (words_after p (script.asks m s)) (goes f next (refl, refl) go) next_agrees)
        (λ out done. record { core = next; agrees = next_agrees; ends = ends f next out (refl, refl) done })))
      where
        f : ℕ
        f = found_answer c.memory (script.asks m s)

        next : Core
        next = after o c (step_on o seat number script rec m s c)

        inv : Invariant o c
        inv = reached_keeps o start c ready.reached

        takes : MemoryTakes c.memory (script.asks m s)
        takes = takes_asked o c seat (script.asks m s) (note_of o seat number script rec m s (view_of c.views seat).ghost f) inv ready.allowed

        few : length c.memory.now.pins ≤ SEATS
        few = (let many = inv.sizes.words.pins in let most = inv.sizes.seats.few in omega (arith, many, most))

        same : answer_of p (script.asks m s) ≡ f
        same = same_answer p c.memory agrees (script.asks m s) takes

        next_agrees : Agrees (words_after p (script.asks m s)) next.memory
        next_agrees = agrees_after p c.memory agrees seat (script.asks m s) takes
