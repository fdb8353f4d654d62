-- What a machine promises within a core, as one statement.
use Rattle.std.specs.Prelude.{ℕ, List}
use Rattle.log_entry.specs.declared.calls.Call.{Call}
use Rattle.pmem_words.specs.Seats.{Seat}
use Rattle.pmem_words.specs.Scripts.{Script}
use Rattle.pmem_words.specs.Leads.{Leads}
use Rattle.log_core.specs.Views.{View, Ghost}
use Rattle.log_core.specs.Origin.{Origin}
use Rattle.log_core.specs.Starts.{IsStart}
use Rattle.log_core.specs.Steps.{ghost_begun}
use Rattle.log_core.specs.Within.{no_record, within, IsLinkedToView, IsLeft}

-- a condition on a seat's state and on what contracts alone see of it
abbrev pub StartCondition : Type 1
StartCondition = Origin → ℕ → Seat → Ghost → Type 0

-- what is left of such a state, with the outcome
abbrev pub EndCondition : Type 0 → Type 1
EndCondition Out = Origin → ℕ → Seat → Ghost → Out → Seat → Ghost → Type 0

-- from each start, at each seat at which P holds, and whatever other seats do between the machine's steps: each of its asks is a step
-- that the core allows, each answer that comes there is admitted, and it ends with what R says
abbrev pub Promises : {M Out : Type 0} → Script M Out → StartCondition → EndCondition Out → M → Type 0
Promises script P R m = (o : Origin) → IsStart o → (seat number : ℕ) (rest : List Call) (s : Seat) (v : View) → IsLinkedToView number rest (P o seat) s v →
    Leads script (within o seat number script no_record) (IsLeft rest no_record (R o seat s (ghost_begun v.ghost v.seat s number))) m s v
