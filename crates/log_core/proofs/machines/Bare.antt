-- Within the core the steps of a machine that adds no record are of the seat's state, the ask and the answer alone: so the core, as one seat
-- sees it, is a memory for each such machine.
use Rattle.std.proofs.Common.{◌≡◌, ℕ, [], refl, sym, ◌∙◌, ap, subst}
use Rattle.pmem_words.specs.Seats.{Seat}
use Rattle.pmem_words.specs.Scripts.{Script}
use Rattle.pmem_words.specs.Courses.{over}
use Rattle.pmem_words.specs.Leads.{Leads, asking}
use Rattle.pmem_words.specs.declared.machine.Turn.{Turn}
use Rattle.pmem_words.specs.declared.machine.Turn.TheVariants.{Go, Done}
use Rattle.persistence.specs.Memory.{found_answer}
use Rattle.log_core.specs.Views.{View, Ghost}
use Rattle.log_core.specs.Origin.{Origin, q_of_origin}
use Rattle.log_core.specs.Steps.{Note, Does, kind_of_ask, view_after}
use Rattle.log_core.specs.Runs.{Allowed}
use Rattle.log_core.specs.Within.{no_record, adds_at, note_with, bare_note, note_of, Did, within, bare_steps}

-- the note of a part's step says nothing of the part
bare_by : {Out : Type 0} (turn : Turn Out) (number : ℕ) (s found t : Seat) → note_with (adds_at no_record t turn) number s found t ≡ note_with [] number s found s
bare_by Go number s found t = refl
bare_by (Done out) number s found t = refl

module _ {M Out : Type 0} (o : Origin) (seat number : ℕ) (script : Script M Out) where
  pub note_bare : (m : M) (s : Seat) (g : Ghost) (f : ℕ) → note_of o seat number script no_record m s g f ≡ bare_note o seat number (script.asks m s) s g f
  note_bare m s g f = bare_by (script.after m s f).turn number s (Rattle.log_core.specs.Within.seat_found o seat (script.asks m s) s g f) (script.after m s f).seat

  did_by : (m : M) (s : Seat) (v : View) (f : ℕ) (w : View) → Did o seat v (script.asks m s) (bare_note o seat number (script.asks m s) s v.ghost) f w →
      Did o seat v (script.asks m s) (note_of o seat number script no_record m s v.ghost) f w
  did_by m s v f w did = record {
    core = did.core;
    reached = did.reached;
    made = did.made;
    at = did.at;
    answer = did.answer;
    left = did.left ∙ ap (λ (note : Note). view_after v (kind_of_ask (q_of_origin o) seat (script.asks m s)) note f) (sym (note_bare m s v.ghost f));
  }

  -- what leads within the core leads over that memory
  pub leads_bare : (Q : Out → Seat → View → Type 0) (m : M) (s : Seat) (v : View) → Leads script (within o seat number script no_record) Q m s v → Leads script (over script (bare_steps o seat number)) Q m s v
  leads_bare Q m s v (asking ready goes ends) =
      asking
      (record {
        taken = record {
          can = λ c reached made at. subst (λ (note : Note). Allowed o c (Does seat (script.asks m s) note)) (note_bare m s v.ghost (found_answer c.memory (script.asks m s))) (ready.can c reached made at);
        };
        admitted = λ f w did. ready.admitted f w (did_by m s v f w did);
      })
      (λ f w did go. leads_bare Q (script.after m s f).machine (script.after m s f).seat w (goes f w (did_by m s v f w did) go))
      (λ f w out did done. ends f w out (did_by m s v f w did) done)
