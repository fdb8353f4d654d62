-- A run goes on with a step that is allowed, with what its call computes before and after it, and with its record.
use Rattle.std.proofs.Common.{◌≡◌, ◌≢◌, ◌<◌, ℕ, true, List, [], length, refl}
use Rattle.std.specs.List.{list_all}
use Rattle.log_entry.specs.declared.calls.Call.{Call}
use Rattle.pmem_words.specs.Seats.{Seat}
use Rattle.asks.specs.declared.ask.Ask.{Ask}
use Rattle.persistence.specs.Memory.{found_answer}
use Rattle.log_core.specs.Views.{View, Ghost, view_of, op_in}
use Rattle.log_core.specs.Origin.{Origin, q_of_origin}
use Rattle.log_core.specs.Cores.{Core}
use Rattle.log_core.specs.Works.{Work, is_going_on, state_after_all_work, MayWorkAll}
use Rattle.log_core.specs.Steps.{Kind, is_begun, ghost_begun, ghost_after, kind_of_ask, effect}
use Rattle.log_core.specs.After.{after}
use Rattle.log_core.specs.May.{May}
use Rattle.log_core.specs.Answers.{MayAddAll}
use Rattle.log_core.specs.Runs.{IsReached, MayNumber}
use Rattle.log_core.specs.worked_rows.Samples.{step_of}
use Rattle.log_core.proofs.row_checks.RowsAllowed.{reach}

module _ (o : Origin) (c : Core) (seat number : ℕ) (ask : Ask) (works later : List Work) (adds : List Call) where
  abbrev mine : View
  mine = view_of c.views seat

  abbrev before : Seat
  before = state_after_all_work mine.seat works

  abbrev kind : Kind
  kind = kind_of_ask (q_of_origin o) seat ask

  abbrev left : Seat
  left = effect mine.ghost.marks before kind (found_answer c.memory ask)

  abbrev begun : Ghost
  begun = ghost_begun mine.ghost mine.seat before number

  abbrev ghost_left : Ghost
  ghost_left = ghost_after begun before left kind (found_answer c.memory ask)

  pub enters_reached : IsReached o c → seat < length c.views → mine.parts ≢ [] → MayWorkAll mine.ghost mine.seat works →
      MayNumber (is_begun (op_in mine.seat) (op_in before)) mine.ghost.call.number number → May o c begun before kind →
      MayWorkAll ghost_left left later → list_all is_going_on later ≡ true → MayAddAll ghost_left (state_after_all_work left later) adds →
      IsReached o (after o c (step_of o c seat ask number works later adds))
  enters_reached run made unspent computes numbered may enters going_on may_add = reach (step_of o c seat ask number works later adds) run (record {
    made = made;
    unspent = unspent;
    step = record {
      begins = record { works = works; may = computes; gives = refl };
      number = numbered;
      may = may;
      enters = record { last = _; computed = record { works = later; may = enters; gives = refl }; going_on = going_on; adds_are = may_add; seat_is = refl };
    };
  })
