-- A machine that makes no write leaves the history as it is, where its seat alone makes steps.
use Rattle.std.proofs.Common.{◌≡◌, ℕ, List, refl, ◌∙◌, ap}
use Rattle.asks.specs.SharedWords.{SharedWords}
use Rattle.pmem_words.specs.Seats.{Seat}
use Rattle.pmem_words.specs.Scripts.{Script}
use Rattle.pmem_words.specs.Courses.{Course, over}
use Rattle.pmem_words.specs.Leads.{Leads}
use Rattle.pmem_words.specs.PlainWords.{plain}
use Rattle.pmem_words.proofs.LeadsLemmas.{leads_with, leads_weaker}
use Rattle.persistence.specs.Memory.{found, found_answer}
use Rattle.log_core.specs.Views.{View, view_of}
use Rattle.log_core.specs.Origin.{q_of_origin}
use Rattle.log_core.specs.Cores.{Core}
use Rattle.log_core.specs.Files.{Write}
use Rattle.log_core.specs.Steps.{Note, kind_of_ask}
use Rattle.log_core.specs.After.{history_after, after}
use Rattle.log_core.specs.Within.{no_record, note_of, IsLeft}
use Rattle.log_core.specs.Promising.{StartCondition, EndCondition, Promises}
use Rattle.log_core.specs.Alone.{IsAlone, LeftAlone, ghost_alone}
use Rattle.log_core.proofs.machines.OnCore.{alone, step_on, EndsOnCore, EndsOver, leads_alone, alone_plain}
use Rattle.log_core.proofs.starts.StartMeets.{start_meets}

-- none of its steps adds a write
abbrev pub IsSilent : {M Out : Type 0} → Script M Out → Type 0
IsSilent {M} script = (q seat : ℕ) (m : M) (s : Seat) (history : List Write) (note : Note) (f : ℕ) → history_after history seat note (kind_of_ask q seat (script.asks m s)) f ≡ history

module _ {M Out : Type 0} (script : Script M Out) (P : StartCondition) (R : EndCondition Out) (m : M) (s : Seat) (p : SharedWords) (at : IsAlone P s p) where
  abbrev Alone : Course M Core
  Alone = alone at.origin at.seat at.number script no_record

  abbrev Left : Out → Seat → View → Type 0
  Left = IsLeft at.rest no_record (R at.origin at.seat s (ghost_alone P s p at))

  abbrev Ends : Out → Seat → Core → Type 0
  Ends = EndsOnCore at.origin at.seat Left

  abbrev Same : M → Seat → Core → Type 0
  Same n t d = d.history ≡ at.core.history

  abbrev SameEnd : Out → Seat → Core → Type 0
  SameEnd out t d = d.history ≡ at.core.history

  abbrev Both : Out → Seat → Core → Type 0
  Both out t d = Ends out t d × SameEnd out t d

  module _ (promises : Promises script P R m) (silent : IsSilent script) where
    next : (n : M) (t : Seat) (d : Core) (a : ℕ) (e : Core) → d.history ≡ at.core.history → (a ≡ found_answer d.memory (script.asks n t)) × (e ≡ after at.origin d (step_on at.origin at.seat at.number script no_record n t d)) → e.history ≡ at.core.history
    next n t d a e same st = ap (λ (x : Core). x.history) st.1
        ∙ silent (q_of_origin at.origin) at.seat n t d.history (note_of at.origin at.seat at.number script no_record n t (view_of d.views at.seat).ghost (found_answer d.memory (script.asks n t))) (found d.memory (script.asks n t)) ∙ same

    pub silent_alone : Leads script (over script plain) (LeftAlone P R s p at) m s p
    silent_alone =
        leads_weaker script (over script plain) (EndsOver Both) (LeftAlone P R s p at)
        (λ out t q ends. record { core = ends.core; reached = ends.ends.0.reached; agrees = ends.agrees; history = ends.ends.1; left = ends.ends.0.ends })
        (alone_plain at.origin (start_meets at.origin at.start) at.seat at.number script no_record Both m s at.core p
        (leads_with script Alone Same Ends SameEnd
        (λ n t d a e same ready st go. next n t d a e same st) (λ n t d a e out same ready st done. next n t d a e same st) refl
        (leads_alone at.origin (start_meets at.origin at.start) at.seat at.number script no_record Left m s (view_of at.core.views at.seat) at.core
        (promises at.origin at.start at.seat at.number at.rest s (view_of at.core.views at.seat) at.linked) at.reached at.made refl)) at.agrees)
