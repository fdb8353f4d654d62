-- A machine of one ask, at whose answer it computes and ends, is lawful.
use Rattle.std.proofs.Common.{◌≡◌, ◌≢◌, ℕ, List, [], refl, sym, subst}
use Rattle.log_entry.specs.declared.calls.Call.{Call}
use Rattle.pmem_words.specs.Seats.{Seat}
use Rattle.pmem_words.specs.Scripts.{Script}
use Rattle.pmem_words.specs.declared.machine.Turn.TheVariants.{Go, Done}
use Rattle.persistence.specs.Memory.{found_answer}
use Rattle.log_core.specs.Views.{Ghost, view_of}
use Rattle.log_core.specs.Origin.{Origin, q_of_origin}
use Rattle.log_core.specs.Cores.{Core}
use Rattle.log_core.specs.Steps.{Kind, kind_of_ask, effect, ghost_after}
use Rattle.log_core.specs.May.{May}
use Rattle.log_core.specs.Invariant.{Invariant}
use Rattle.log_core.specs.Knows.{Knows}
use Rattle.log_core.specs.Within.{no_record, adds_at, IsFound, Lawful, Serves}
use Rattle.log_core.specs.Answers.{Enters}
use Rattle.log_core.proofs.machines.Entering.{none_at}
use Rattle.log_core.proofs.machines.OneStep.{MayAlways}

-- the machine stands where it began
pub record IsAtFirst {M : Type 0} (first : M) (s0 : Seat) (g0 : Ghost) (m : M) (s : Seat) (g : Ghost) : Type 0 where
  pub machine : m ≡ first
  pub seat : s ≡ s0
  pub ghost : g ≡ g0

pub at_first : {M : Type 0} (first : M) (s : Seat) (g : Ghost) → IsAtFirst first s g first s g
at_first first s g = record { machine = refl; seat = refl; ghost = refl }

-- its outcome
pub outcome : {Out : Type 0} {a b : Out} → Done a ≡ Done b → a ≡ b
outcome same = cc

module _ {M Out : Type 0} (o : Origin) (seat : ℕ) (script : Script M Out) (R : Out → Seat → Ghost → Type 0) (first : M) (s : Seat) (g : Ghost) (kind : Kind) where
  abbrev pub Found : ℕ → Type 0
  Found f = IsFound o seat s g (script.asks first s) f

  -- in each core that knows the seat so
  abbrev pub InEach : (Core → Type 0) → Type 0
  InEach P = (c : Core) (pin began : ℕ) → Invariant o c → (view_of c.views seat).parts ≢ [] → Knows o c seat s g pin began → P c

  module _ (is : InEach (λ c. kind_of_ask (q_of_origin o) seat (script.asks first s) ≡ kind)) (may : MayAlways o seat s g kind) (admitted : InEach (λ c. script.admits first s (found_answer c.memory (script.asks first s))))
      (enters : (f : ℕ) → Found f → script.admits first s f → Enters (ghost_after g s (effect g.marks s kind f) kind f) (effect g.marks s kind f) (script.after first s f).seat [])
      (stops : (f : ℕ) → (script.after first s f).turn ≡ Go → ⊥)
      (ends : (f : ℕ) (out : Out) → Found f → script.admits first s f → (script.after first s f).turn ≡ Done out → R out (script.after first s f).seat (ghost_after g s (effect g.marks s kind f) kind f)) where
    kind_found : (f : ℕ) → Found f → kind_of_ask (q_of_origin o) seat (script.asks first s) ≡ kind
    kind_found f found = is found.core found.pin found.began found.holds found.unspent found.knows

    lawful : Lawful o seat script no_record (λ m t h. IsAtFirst first s g m t h) R first s g
    lawful = record {
      may = λ c pin began inv unspent knows. subst (λ (k : Kind). May o c g s k) (sym (is c pin began inv unspent knows)) (may c pin began inv unspent knows);
      admitted = admitted;
      enters = λ f found admits. subst (λ (k : Kind). Enters (ghost_after g s (effect g.marks s k f) k f) (effect g.marks s k f) (script.after first s f).seat (adds_at no_record (script.after first s f).seat (script.after first s f).turn)) (sym (kind_found f found))
          (subst (λ (adds : List Call). Enters (ghost_after g s (effect g.marks s kind f) kind f) (effect g.marks s kind f) (script.after first s f).seat adds) (sym (none_at (script.after first s f).seat (script.after first s f).turn)) (enters f found admits));
      goes = λ f found admits go. absurd (stops f go);
      ends = λ f out found admits done. subst (λ (k : Kind). R out (script.after first s f).seat (ghost_after g s (effect g.marks s k f) k f)) (sym (kind_found f found)) (ends f out found admits done);
    }

    pub serves_at_first : Serves o seat script no_record (λ m t h. IsAtFirst first s g m t h) R
    serves_at_first m t h at = subst (λ (n : M). Lawful o seat script no_record (λ m t h. IsAtFirst first s g m t h) R n t h) (sym at.machine)
        (subst (λ (u : Seat). Lawful o seat script no_record (λ m t h. IsAtFirst first s g m t h) R first u h) (sym at.seat)
        (subst (λ (i : Ghost). Lawful o seat script no_record (λ m t h. IsAtFirst first s g m t h) R first s i) (sym at.ghost) lawful))
