-- A machine within a core, at one seat, whatever other seats do between its steps; and what it owes there.
use Rattle.std.specs.Prelude.{ℕ, ◌<◌, ◌≤◌, ◌≡◌, ◌≢◌, true, List, [], ◌∷◌, ◌++◌, length, slice_index}
use Rattle.std.specs.List.{list_all}
use Rattle.log_entry.specs.declared.calls.Call.{Call}
use Rattle.pmem_words.specs.Seats.{Seat}
use Rattle.pmem_words.specs.Scripts.{Script}
use Rattle.pmem_words.specs.Conducts.{Conduct}
use Rattle.pmem_words.specs.Courses.{Course}
use Rattle.asks.specs.declared.ask.Ask.{Ask}
use Rattle.pmem_words.specs.declared.machine.Turn.{Turn}
use Rattle.pmem_words.specs.declared.machine.Turn.TheVariants.{Go, Done}
use Rattle.pmem_words.specs.Parts.{Next, Into, End}
use Rattle.asks.specs.SharedWords.{SharedWords}
use Rattle.persistence.specs.Memory.{Memory, found_answer}
use Rattle.log_core.specs.Views.{View, Ghost, view_of, op_in}
use Rattle.log_core.specs.Origin.{Origin, q_of_origin}
use Rattle.log_core.specs.Cores.{Core}
use Rattle.log_core.specs.Works.{Computes, is_going_on}
use Rattle.log_core.specs.Steps.{Note, Does, kind_of_ask, effect, is_begun, ghost_begun, ghost_after, ghost_ended, view_after}
use Rattle.log_core.specs.May.{May}
use Rattle.log_core.specs.Answers.{Enters}
use Rattle.log_core.specs.Runs.{MayNumber, Allowed, IsReached}
use Rattle.log_core.specs.Invariant.{Invariant}
use Rattle.log_core.specs.Knows.{Knows}

-- the records that a turn adds: a part of a call adds none
abbrev pub adds_at : {Out : Type 0} → (Out → Seat → List Call) → Seat → Turn Out → List Call
adds_at rec s Go = []
adds_at rec s (Done out) = rec out s

abbrev pub no_record : {Out : Type 0} → Out → Seat → List Call
no_record out s = []

-- the seat's state after the step that an ask is, by the answer, and what contracts alone see of it then
abbrev pub seat_found : Origin → ℕ → Ask → Seat → Ghost → ℕ → Seat
seat_found o seat ask s g f = effect g.marks s (kind_of_ask (q_of_origin o) seat ask) f

abbrev pub ghost_found : Origin → ℕ → Ask → Seat → Ghost → ℕ → Ghost
ghost_found o seat ask s g f = ghost_after g s (seat_found o seat ask s g f) (kind_of_ask (q_of_origin o) seat ask) f

-- the seat's state that enters the view with a step: what the step makes of it; and with records what is computed after it, too
abbrev pub seat_entering : List Call → Seat → Seat → Seat
seat_entering [] found computed = found
seat_entering (call ∷ calls) found computed = computed

-- what enters the view with a step from a state of the seat that makes this of it, after which that is computed
abbrev pub note_with : List Call → ℕ → Seat → Seat → Seat → Note
note_with adds number s found computed = record { before = s; seat = seat_entering adds found computed; adds = adds; number = number }

-- with a step that adds no record: it is of the seat's state, the ask and the answer alone. What is computed from the answer enters
-- with a later step
abbrev pub bare_note : Origin → (seat number : ℕ) → Ask → Seat → Ghost → ℕ → Note
bare_note o seat number ask s g f = note_with [] number s (seat_found o seat ask s g f) s

-- with the step that a machine asks, by the answer
abbrev pub note_of : {M Out : Type 0} → Origin → (seat number : ℕ) → Script M Out → (Out → Seat → List Call) → M → Seat → Ghost → ℕ → Note
note_of o seat number script rec m s g f =
    note_with (adds_at rec (script.after m s f).seat (script.after m s f).turn) number s (seat_found o seat (script.asks m s) s g f) (script.after m s f).seat

-- the ask was a step of the seat, from some core that a run reaches in which the seat has this view, and it left that one
pub record Did (o : Origin) (seat : ℕ) (v : View) (ask : Ask) (note : ℕ → Note) (f : ℕ) (w : View) : Type 0 where
  pub core : Core
  pub reached : IsReached o core
  pub made : seat < length core.views
  pub at : view_of core.views seat ≡ v
  pub answer : found_answer core.memory ask ≡ f
  pub left : w ≡ view_after v (kind_of_ask (q_of_origin o) seat ask) (note f) f

-- the ask is a step of the seat in each core that a run reaches in which the seat has this view, and each answer there is admitted
pub record IsReadyIn {M Out : Type 0} (o : Origin) (seat number : ℕ) (script : Script M Out) (rec : Out → Seat → List Call) (m : M) (s : Seat) (v : View) : Type 0 where
  pub can : (c : Core) → IsReached o c → seat < length c.views → view_of c.views seat ≡ v →
      Allowed o c (Does seat (script.asks m s) (note_of o seat number script rec m s v.ghost (found_answer c.memory (script.asks m s))))
  pub admitted : (f : ℕ) (w : View) → Did o seat v (script.asks m s) (note_of o seat number script rec m s v.ghost) f w → script.admits m s f

-- a machine within the core: others may make any steps between two of its own
abbrev pub within : {M Out : Type 0} → Origin → ℕ → ℕ → Script M Out → (Out → Seat → List Call) → Course M View
within o seat number script rec = record {
  ready = λ m s v. IsReadyIn o seat number script rec m s v;
  step = λ m s v f w. Did o seat v (script.asks m s) (note_of o seat number script rec m s v.ghost) f w;
}

-- a seat in this state, with this view, may make a step of the ask that adds no record, in each core that a run reaches
pub record MayStepBare (o : Origin) (seat number : ℕ) (v : View) (s : Seat) (ask : Ask) : Type 0 where
  pub can : (c : Core) → IsReached o c → seat < length c.views → view_of c.views seat ≡ v → Allowed o c (Does seat ask (bare_note o seat number ask s v.ghost (found_answer c.memory ask)))

-- the core as one seat sees it, as a memory for what adds no record: others may make any steps between two of the seat's own
abbrev pub bare_steps : Origin → ℕ → ℕ → Conduct View
bare_steps o seat number = record {
  takes = λ v s ask. MayStepBare o seat number v s ask;
  step = λ v s ask f w. Did o seat v ask (bare_note o seat number ask s v.ghost) f w;
}

-- this may be found: it is the answer to the ask in some core in which the seat is not spent, and that knows it so
pub record IsFound (o : Origin) (seat : ℕ) (s : Seat) (g : Ghost) (ask : Ask) (f : ℕ) : Type 0 where
  pub core : Core
  pub pin : ℕ
  pub began : ℕ
  pub holds : Invariant o core
  pub unspent : (view_of core.views seat).parts ≢ []
  pub knows : Knows o core seat s g pin began
  pub is : found_answer core.memory ask ≡ f

-- what a machine owes at one machine, seat and ghost part, whoever drives it: its ask may be made, in each core that knows the seat
-- so; it admits what may be found there; what it makes of the seat is what the step does, and what a call may compute after it;
-- and it goes on to what holds on the way, or ends, with its record, in what holds at the end
pub record Lawful {M Out : Type 0} (o : Origin) (seat : ℕ) (script : Script M Out) (rec : Out → Seat → List Call)
    (P : M → Seat → Ghost → Type 0) (R : Out → Seat → Ghost → Type 0) (m : M) (s : Seat) (g : Ghost) : Type 0 where
  pub may : (c : Core) (pin began : ℕ) → Invariant o c → (view_of c.views seat).parts ≢ [] → Knows o c seat s g pin began → May o c g s (kind_of_ask (q_of_origin o) seat (script.asks m s))
  pub admitted : (c : Core) (pin began : ℕ) → Invariant o c → (view_of c.views seat).parts ≢ [] → Knows o c seat s g pin began → script.admits m s (found_answer c.memory (script.asks m s))
  pub enters : (f : ℕ) → IsFound o seat s g (script.asks m s) f → script.admits m s f →
      Enters (ghost_found o seat (script.asks m s) s g f) (seat_found o seat (script.asks m s) s g f) (script.after m s f).seat (adds_at rec (script.after m s f).seat (script.after m s f).turn)
  pub goes : (f : ℕ) → IsFound o seat s g (script.asks m s) f → script.admits m s f → (script.after m s f).turn ≡ Go →
      P (script.after m s f).machine (script.after m s f).seat (ghost_found o seat (script.asks m s) s g f)
  pub ends : (f : ℕ) (out : Out) → IsFound o seat s g (script.asks m s) f → script.admits m s f → (script.after m s f).turn ≡ Done out →
      R out (script.after m s f).seat (ghost_ended (rec out (script.after m s f).seat) (ghost_found o seat (script.asks m s) s g f))

-- wherever P holds the machine is lawful
abbrev pub Serves : {M Out : Type 0} → Origin → ℕ → Script M Out → (Out → Seat → List Call) → (M → Seat → Ghost → Type 0) → (Out → Seat → Ghost → Type 0) → Type 0
Serves {M} {Out} o seat script rec P R = (m : M) (s : Seat) (g : Ghost) → P m s g → Lawful o seat script rec P R m s g

-- what holds between two steps of a seat: its state is the view's, or what is computed from that, and P holds
pub record IsLinkedToView (number : ℕ) (rest : List Call) (P : Seat → Ghost → Type 0) (s : Seat) (v : View) : Type 0 where
  pub unspent : v.parts ≢ []
  pub begins : Computes v.ghost v.seat s
  pub number_is : MayNumber (is_begun (op_in v.seat) (op_in s)) v.ghost.call.number number
  pub done : v.done ≡ rest
  pub fits : P s (ghost_begun v.ghost v.seat s number)

-- the seat's state is the view's, or what its call has computed from that
pub record HasGoneOn (v : View) (s : Seat) : Type 0 where
  pub computed : Computes v.ghost v.seat s
  pub going_on : list_all is_going_on computed.works ≡ true

-- the seat's state at the end of a machine, by the records that it added: with one, the view's; with none, it may have gone on from there
abbrev pub StandsAtView : List Call → View → Seat → Type 0
StandsAtView [] v s = HasGoneOn v s
StandsAtView (call ∷ calls) v s = v.seat ≡ s

-- and at its end: the view has the record, and the seat's state or what that is computed from
pub record IsLeft {Out : Type 0} (rest : List Call) (rec : Out → Seat → List Call) (R : Out → Seat → Ghost → Type 0) (out : Out) (t : Seat) (w : View) : Type 0 where
  pub unspent : w.parts ≢ []
  pub seat : StandsAtView (rec out t) w t
  pub done : w.done ≡ rest ++ rec out t
  pub fits : R out t w.ghost

-- where a part of a machine has ended: the whole computes and goes into its next part, or ends with its record
abbrev pub FitsNext : {C Out : Type 0} → (Out → Seat → List Call) → (C → Seat → Ghost → Type 0) → (Out → Seat → Ghost → Type 0) → Seat → Ghost → Next C Out → Type 0
FitsNext rec P R t g (Into m s) = Enters g t s [] × P m s g
FitsNext rec P R t g (End out s) = Enters g t s (rec out s) × R out s (ghost_ended (rec out s) g)

-- a memory of one caller has the words of a core's: the pin words of the seats that there are, and perhaps more
pub record Agrees (p : SharedWords) (memory : Memory) : Type 0 where
  pub words : p.words ≡ memory.now.words
  pub taken : p.taken ≡ memory.now.taken
  pub long : length memory.now.pins ≤ length p.pins
  pub pins : (seat : ℕ) → seat < length memory.now.pins → slice_index p.pins seat ≡ slice_index memory.now.pins seat
