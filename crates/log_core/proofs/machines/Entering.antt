-- What enters the view with a step of a machine that adds no record.
use Rattle.std.proofs.Common.{◌≡◌, true, List, [], refl, sym, subst}
use Rattle.std.specs.List.{list_all}
use Rattle.log_entry.specs.declared.calls.Call.{Call}
use Rattle.pmem_words.specs.Seats.{Seat}
use Rattle.pmem_words.specs.declared.machine.Turn.{Turn}
use Rattle.pmem_words.specs.declared.machine.Turn.TheVariants.{Go, Done}
use Rattle.log_core.specs.Views.{Ghost}
use Rattle.log_core.specs.Works.{Work, MayWorkAll, state_after_all_work, is_going_on}
use Rattle.log_core.specs.Within.{no_record, adds_at}
use Rattle.log_core.specs.Answers.{Enters}

-- a part of a call adds no record
pub none_at : {Out : Type 0} → (s : Seat) (turn : Turn Out) → adds_at no_record s turn ≡ []
none_at s Go = refl
none_at s (Done out) = refl

-- where the step makes the state that the machine does
pub enters_same : (g : Ghost) (e t : Seat) → e ≡ t → Enters g e t []
enters_same g e t same = record { last = e; computed = record { works = []; may = tt; gives = refl }; going_on = refl; adds_are = tt; seat_is = sym same }

-- with what its turn adds
pub enters_turn : {Out : Type 0} → (g : Ghost) (e t : Seat) (turn : Turn Out) → e ≡ t → Enters g e t (adds_at no_record t turn)
enters_turn g e t turn same = subst (λ (adds : List Call). Enters g e t adds) (sym (none_at t turn)) (enters_same g e t same)

-- where the machine computes after the step
pub enters_works : (g : Ghost) (e : Seat) (works : List Work) → MayWorkAll g e works → list_all is_going_on works ≡ true → Enters g e (state_after_all_work e works) []
enters_works g e works may going_on = record { last = state_after_all_work e works; computed = record { works = works; may = may; gives = refl }; going_on = going_on; adds_are = tt; seat_is = refl }
