-- Which steps are allowed, and runs. The newest step of a run stands first.
use Rattle.std.specs.Prelude.{ℕ, ◌<◌, ◌≡◌, ◌≢◌, Bool, true, false, List, [], ◌∷◌, length, None}
use Rattle.pmem_words.specs.Seats.{Seat}
use Rattle.asks.specs.declared.ask.Ask.{Ask}
use Rattle.persistence.specs.Memory.{found_answer}
use Rattle.log_core.specs.Views.{View, Ghost, view_of, op_in}
use Rattle.log_core.specs.Origin.{Origin, q_of_origin}
use Rattle.log_core.specs.Cores.{Core, first_core}
use Rattle.log_core.specs.Works.{Computes}
use Rattle.log_core.specs.Steps.{Note, Step, Does, Splits, Joins, Kind, kind_of_ask, effect, is_begun, ghost_begun, ghost_after}
use Rattle.log_core.specs.After.{after}
use Rattle.log_core.specs.May.{May}
use Rattle.log_core.specs.Answers.{Enters}

-- a call that begins has a greater number than the one before it; else the number stays
abbrev pub MayNumber : Bool → ℕ → ℕ → Type 0
MayNumber true before number = before < number
MayNumber false before number = number ≡ before

-- the parts of a step: what contracts alone see at the ask, the kind, and the state that the step leaves
abbrev pub ghost_at : View → Note → Ghost
ghost_at v note = ghost_begun v.ghost v.seat note.before note.number

abbrev pub effect_at : View → Note → Kind → ℕ → Seat
effect_at v note kind f = effect v.ghost.marks note.before kind f

abbrev pub ghost_left : View → Note → Kind → ℕ → Ghost
ghost_left v note kind f = ghost_after (ghost_at v note) note.before (effect_at v note kind f) kind f

-- a step of a seat of this kind, with this answer: the seat computes, or begins a call; the kind's condition holds; and what it makes
-- of the seat's state, with what the call computes after it, enters the view
pub record MayStep (o : Origin) (c : Core) (v : View) (kind : Kind) (note : Note) (f : ℕ) : Type 0 where
  pub begins : Computes v.ghost v.seat note.before
  pub number : MayNumber (is_begun (op_in v.seat) (op_in note.before)) v.ghost.call.number note.number
  pub may : May o c (ghost_at v note) note.before kind
  pub enters : Enters (ghost_left v note kind f) (effect_at v note kind f) note.seat note.adds

-- a step of a seat that is made and not spent
pub record MayDo (o : Origin) (c : Core) (seat : ℕ) (ask : Ask) (note : Note) : Type 0 where
  pub made : seat < length c.views
  pub unspent : (view_of c.views seat).parts ≢ []
  pub step : MayStep o c (view_of c.views seat) (kind_of_ask (q_of_origin o) seat ask) note (found_answer c.memory ask)

-- a split: of seat 0, before any call (each has a number above 0), where fewer seats are made than there may be
pub record MaySplit (o : Origin) (c : Core) (seat : ℕ) : Type 0 where
  pub first : seat ≡ 0
  pub made : 0 < length c.views
  pub unspent : (view_of c.views 0).parts ≢ []
  pub never_called : (view_of c.views 0).ghost.call.number ≡ 0
  pub room : (view_of c.views 0).made < o.seats

-- no call runs at a seat, and it holds nothing but its walk and the blocks kept from collections
pub record IsIdle (s : Seat) (g : Ghost) : Type 0 where
  pub no_call : op_in s ≡ None
  pub unpinned : s.hold.pin ≡ 0
  pub nothing_owned : s.blocks.owned ≡ []
  pub nothing_marked : g.marks ≡ []
  pub not_won : s.calling.won ≡ false
  pub no_head : g.call.put ≡ None
  pub nothing_replaced : s.giving.replaced ≡ []

abbrev pub IsIdleView : View → Type 0
IsIdleView v = IsIdle v.seat v.ghost

-- a join of two idle views
pub record MayJoin (c : Core) (seat other : ℕ) : Type 0 where
  pub apart : seat ≢ other
  pub made : seat < length c.views
  pub made_too : other < length c.views
  pub unspent : (view_of c.views seat).parts ≢ []
  pub unspent_too : (view_of c.views other).parts ≢ []
  pub idle : IsIdleView (view_of c.views seat)
  pub idle_too : IsIdleView (view_of c.views other)

-- the steps that seats make: those whose condition holds
abbrev pub Allowed : Origin → Core → Step → Type 0
Allowed o c (Does seat ask note) = MayDo o c seat ask note
Allowed o c (Splits seat) = MaySplit o c seat
Allowed o c (Joins seat other) = MayJoin c seat other

-- the core after a list of steps
abbrev pub end : Origin → List Step → Core
end o [] = first_core o
end o (step ∷ steps) = after o (end o steps) step

-- each step is allowed where it stands
abbrev pub IsRun : Origin → List Step → Type 0
IsRun o [] = Unit {0}
IsRun o (step ∷ steps) = IsRun o steps × Allowed o (end o steps) step

-- a run leads to this core
pub record IsReached (o : Origin) (c : Core) : Type 0 where
  pub steps : List Step
  pub is_run : IsRun o steps
  pub ends : end o steps ≡ c
