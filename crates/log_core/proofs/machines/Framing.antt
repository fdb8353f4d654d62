-- A lawful machine, and what each of its steps keeps besides.
use Rattle.std.proofs.Common.{◌≡◌, ℕ, List}
use Rattle.log_entry.specs.declared.calls.Call.{Call}
use Rattle.pmem_words.specs.Seats.{Seat}
use Rattle.pmem_words.specs.Scripts.{Script}
use Rattle.pmem_words.specs.declared.machine.Turn.TheVariants.{Go, Done}
use Rattle.log_core.specs.Views.{Ghost}
use Rattle.log_core.specs.Origin.{Origin}
use Rattle.log_core.specs.Steps.{ghost_ended}
use Rattle.log_core.specs.Within.{ghost_found, IsFound, Lawful, Serves}

module _ {M Out : Type 0} (o : Origin) (seat : ℕ) (script : Script M Out) (rec : Out → Seat → List Call)
    (P : M → Seat → Ghost → Type 0) (R : Out → Seat → Ghost → Type 0) (K : M → Seat → Ghost → Type 0) (E : Out → Seat → Ghost → Type 0) where
  -- K is kept where the machine goes on, and E holds where it ends
  pub record Frames (m : M) (s : Seat) (g : Ghost) (f : ℕ) : Type 0 where
    pub goes : (script.after m s f).turn ≡ Go → K (script.after m s f).machine (script.after m s f).seat (ghost_found o seat (script.asks m s) s g f)
    pub ends : (out : Out) → (script.after m s f).turn ≡ Done out → E out (script.after m s f).seat (ghost_ended (rec out (script.after m s f).seat) (ghost_found o seat (script.asks m s) s g f))

  pub serves_with : ((m : M) (s : Seat) (g : Ghost) (f : ℕ) → P m s g → K m s g → IsFound o seat s g (script.asks m s) f → Frames m s g f)
      → Serves o seat script rec P R → Serves o seat script rec (λ m s g. P m s g × K m s g) (λ out s g. R out s g × E out s g)
  serves_with keeps serves m s g stands = record {
    may = laws.may;
    admitted = laws.admitted;
    enters = laws.enters;
    goes = λ f found admits go. (laws.goes f found admits go, (keeps m s g f stands.0 stands.1 found).goes go);
    ends = λ f out found admits done. (laws.ends f out found admits done, (keeps m s g f stands.0 stands.1 found).ends out done);
  }
    where
      laws : Lawful o seat script rec P R m s g
      laws = serves m s g stands.0

-- a lawful machine, with less at its end
module _ {M Out : Type 0} (o : Origin) (seat : ℕ) (script : Script M Out) (rec : Out → Seat → List Call) (P : M → Seat → Ghost → Type 0) (R E : Out → Seat → Ghost → Type 0) where
  pub serves_as : ((out : Out) (s : Seat) (g : Ghost) → R out s g → E out s g) → Serves o seat script rec P R → Serves o seat script rec P E
  serves_as less serves m s g stands = record {
    may = laws.may;
    admitted = laws.admitted;
    enters = laws.enters;
    goes = laws.goes;
    ends = λ f out found admits done. less out _ _ (laws.ends f out found admits done);
  }
    where
      laws : Lawful o seat script rec P R m s g
      laws = serves m s g stands
