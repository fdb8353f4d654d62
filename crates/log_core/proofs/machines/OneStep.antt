-- A machine that ends at its first answer is lawful where its step may always be made.
use Rattle.std.proofs.Common.{◌≡◌, ◌≢◌, ℕ, List, [], refl, sym, ◌∙◌, ap, subst}
use Rattle.log_entry.specs.declared.calls.Call.{Call}
use Rattle.pmem_words.specs.Seats.{Seat}
use Rattle.pmem_words.specs.Scripts.{After, Script}
use Rattle.pmem_words.specs.declared.machine.Turn.TheVariants.{Go, Done}
use Rattle.persistence.specs.Memory.{found_answer}
use Rattle.log_core.specs.Views.{Ghost, view_of}
use Rattle.log_core.specs.Origin.{Origin, q_of_origin}
use Rattle.log_core.specs.Cores.{Core}
use Rattle.log_core.specs.Steps.{Kind, kind_of_ask, effect, ghost_after}
use Rattle.log_core.specs.May.{May}
use Rattle.log_core.specs.Invariant.{Invariant}
use Rattle.log_core.specs.Knows.{Knows}
use Rattle.log_core.specs.Within.{no_record, adds_at, seat_found, ghost_found, Lawful, Serves}
use Rattle.log_core.specs.Answers.{Enters}
use Rattle.log_core.proofs.machines.Entering.{enters_same}
use Rattle.log_core.proofs.machines.MachineLaws.{IsUnmoved}

-- a step of this kind may be made in each core that knows the seat so
abbrev pub MayAlways : Origin → ℕ → Seat → Ghost → Kind → Type 0
MayAlways o seat s g kind = (c : Core) (pin began : ℕ) → Invariant o c → (view_of c.views seat).parts ≢ [] → Knows o c seat s g pin began → May o c g s kind

-- the step has been made, and the outcome is this one of what was found
pub record HasStepped {Out : Type 0} (s0 : Seat) (g0 : Ghost) (kind : Kind) (outcome : ℕ → Out) (out : Out) (t : Seat) (h : Ghost) : Type 0 where
  pub found : ℕ
  pub is : out ≡ outcome found
  pub left : t ≡ effect g0.marks s0 kind found
  pub ghost : h ≡ ghost_after g0 s0 (effect g0.marks s0 kind found) kind found

module _ {M Out : Type 0} (o : Origin) (seat : ℕ) (script : Script M Out) (P : M → Seat → Ghost → Type 0) (m : M) (s : Seat) (g : Ghost) (kind : Kind) (outcome : ℕ → Out)
    (is : kind_of_ask (q_of_origin o) seat (script.asks m s) ≡ kind) (after : (f : ℕ) → script.after m s f ≡ record { machine = m; seat = effect g.marks s kind f; turn = Done (outcome f) })
    (may : MayAlways o seat s g kind)
    (admitted : (c : Core) (pin began : ℕ) → Invariant o c → (view_of c.views seat).parts ≢ [] → Knows o c seat s g pin began → script.admits m s (found_answer c.memory (script.asks m s))) where
  pub one_step : Lawful o seat script no_record P (HasStepped s g kind outcome) m s g
  one_step = record {
    may = λ c pin began inv unspent knows. subst (λ (k : Kind). May o c g s k) (sym is) (may c pin began inv unspent knows);
    admitted = admitted;
    enters = λ f found admits. subst (λ (r : After M Out). Enters (ghost_found o seat (script.asks m s) s g f) (seat_found o seat (script.asks m s) s g f) r.seat (adds_at no_record r.seat r.turn)) (sym (after f))
        (subst (λ (k : Kind). Enters (ghost_after g s (effect g.marks s k f) k f) (effect g.marks s k f) (effect g.marks s kind f) []) (sym is)
        (enters_same (ghost_after g s (effect g.marks s kind f) kind f) (effect g.marks s kind f) (effect g.marks s kind f) refl));
    goes = λ f found admits go. absurd (never (outcome f) (sym (ap (λ (r : After M Out). r.turn) (after f)) ∙ go));
    ends = λ f out found admits done. record {
      found = f;
      is = same out (outcome f) (sym (ap (λ (r : After M Out). r.turn) (after f)) ∙ done);
      left = ap (λ (r : After M Out). r.seat) (after f);
      ghost = ap (λ (k : Kind). ghost_after g s (effect g.marks s k f) k f) is;
    };
  }
    where
      never : (out : Out) → Done out ≡ Go → ⊥
      never out e = cc

      same : (out other : Out) → Done other ≡ Done out → out ≡ other
      same out other e = cc

-- it stands nowhere but where it began
module _ {M Out : Type 0} (o : Origin) (seat : ℕ) (script : Script M Out) (rec : Out → Seat → List Call) (R : Out → Seat → Ghost → Type 0) (s0 : Seat) (g0 : Ghost) where
  abbrev AtFirst : M → Seat → Ghost → Type 0
  AtFirst m s g = IsUnmoved s0 g0 s g

  pub serves_once : ((m : M) → Lawful o seat script rec AtFirst R m s0 g0) → Serves o seat script rec AtFirst R
  serves_once lawful m s g from = subst (λ (t : Seat). Lawful o seat script rec AtFirst R m t g) (sym from.seat)
      (subst (λ (h : Ghost). Lawful o seat script rec AtFirst R m s0 h) (sym from.ghost) (lawful m))
