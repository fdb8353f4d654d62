-- A machine whose seat alone makes steps: what it needs of a memory of one caller, and what it leaves.
use Rattle.std.specs.Prelude.{ℕ, ◌<◌, ◌≡◌, List, length}
use Rattle.log_entry.specs.declared.calls.Call.{Call}
use Rattle.asks.specs.SharedWords.{SharedWords}
use Rattle.pmem_words.specs.Seats.{Seat}
use Rattle.log_core.specs.Views.{Ghost, view_of}
use Rattle.log_core.specs.Origin.{Origin}
use Rattle.log_core.specs.Cores.{Core}
use Rattle.log_core.specs.Starts.{IsStart}
use Rattle.log_core.specs.Steps.{ghost_begun}
use Rattle.log_core.specs.Runs.{IsReached}
use Rattle.log_core.specs.Within.{no_record, IsLinkedToView, IsLeft, Agrees}
use Rattle.log_core.specs.Promising.{StartCondition, EndCondition}

-- the memory has the words of a core that a run reaches from a start, in which the seat stands as P says
pub record IsAlone (P : StartCondition) (s : Seat) (p : SharedWords) : Type 0 where
  pub origin : Origin
  pub start : IsStart origin
  pub core : Core
  pub reached : IsReached origin core
  pub agrees : Agrees p core.memory
  pub seat : ℕ
  pub made : seat < length core.views
  pub number : ℕ
  pub rest : List Call
  pub linked : IsLinkedToView number rest (P origin seat) s (view_of core.views seat)

-- what contracts alone see of the seat there
abbrev pub ghost_alone : (P : StartCondition) (s : Seat) (p : SharedWords) → IsAlone P s p → Ghost
ghost_alone P s p at = ghost_begun (view_of at.core.views at.seat).ghost (view_of at.core.views at.seat).seat s at.number

-- it has the words of a core that a run reaches, with the same history, in which the seat stands as R says
pub record LeftAlone {Out : Type 0} (P : StartCondition) (R : EndCondition Out) (s : Seat) (p : SharedWords) (at : IsAlone P s p) (out : Out) (t : Seat) (q : SharedWords) : Type 0 where
  pub core : Core
  pub reached : IsReached at.origin core
  pub agrees : Agrees q core.memory
  pub history : core.history ≡ at.core.history
  pub left : IsLeft at.rest no_record (R at.origin at.seat s (ghost_alone P s p at)) out t (view_of core.views at.seat)
