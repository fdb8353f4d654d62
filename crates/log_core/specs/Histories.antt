-- The calls of a run as one history: with the calls that make no step, in the order of a report; and its collections.
use Rattle.std.specs.Prelude.{ℕ, ◌+◌, ◌^◌, ◌<◌, ◌≤◌, ◌≡◌, ◌≢◌, ◌⊎◌, ◌==◌, ◌-◌, max, Bool, true, List, [], ◌∷◌, ◌++◌, length, map, IsPermutation, Option, Some, None}
use Rattle.std.specs.List.{AllByRecursion, flat_map, list_any}
use Rattle.log_entry.specs.Legal.{Answers}
use Rattle.log_entry.specs.Order.{IsInOrder}
use Rattle.log_entry.specs.declared.calls.Op.{Op}
use Rattle.log_entry.specs.declared.calls.Op.TheVariants.{Collect as CollectOp}
use Rattle.log_entry.specs.declared.calls.CollectRefusal.TheVariants.{Nothing, Overtaken, GenerationLimit}
use Rattle.log_entry.specs.declared.calls.Reply.{Reply}
use Rattle.log_entry.specs.declared.calls.Reply.TheVariants.{Collected, NotCollected}
use Rattle.log_entry.specs.declared.calls.Call.{Call}
use Rattle.log_core.specs.Views.{View, HeadPut, view_of, op_in}
use Rattle.log_core.specs.Origin.{Origin}
use Rattle.log_core.specs.Files.{Write, accepted_reply, file_at}
use Rattle.log_core.specs.Cores.{Core}
use Rattle.log_core.specs.Works.{is_quiet}
use Rattle.log_core.specs.Steps.{Step}
use Rattle.log_core.specs.Runs.{IsRun, end}

-- the records of all views
abbrev pub recorded_calls : List View → List Call
recorded_calls views = flat_map (λ (v : View). v.done) views

-- a write that a running call has put in, whose record is not added yet, as the call that it will be: at its position, with the reply of
-- an accepted write
abbrev pub running_write : Origin → List Write → View → Bool → Option Op → List Call
running_write o history v true (Some op) = record {
  position = v.seat.walk.position;
  seat = v.seat.number;
  number = v.ghost.call.number;
  op = op;
  reply = accepted_reply op (length (file_at o history (v.seat.walk.position - 1)));
} ∷ []
running_write o history v _ _ = []

-- those of all views
abbrev pub running_writes : Origin → Core → List Call
running_writes o c = flat_map (λ (v : View). running_write o c.history v v.seat.calling.won (op_in v.seat)) c.views

-- a collection whose running call has put its head in place, and whose record is not added yet: at its snapshot's position, as if each
-- block that it replaced were given back
abbrev pub running_collection : View → Option HeadPut → List Call
running_collection v (Some put) = record {
  position = put.base;
  seat = v.seat.number;
  number = v.ghost.call.number;
  op = CollectOp;
  reply = Collected (record { generation = put.generation; freed = put.replaced; kept = 0; held = None });
} ∷ []
running_collection v None = []

-- those of all views
abbrev pub running_collections : List View → List Call
running_collections views = flat_map (λ (v : View). running_collection v v.ghost.call.put) views

-- what running calls have put in that has no record yet
abbrev pub running_calls : Origin → Core → List Call
running_calls o c = running_writes o c ++ running_collections c.views

-- the greatest position of some calls, or a first one
abbrev pub greatest_position : ℕ → List Call → ℕ
greatest_position position [] = position
greatest_position position (call ∷ calls) = greatest_position (max position call.position) calls

-- a call that made no step, at a moment of its seat's view: that was not spent, ran no call, and had come to the call's position, by its
-- own records and those that joins gave it. The call stands behind the seat's last one by number, and before the next; and where the seat
-- runs a call in the end, before that one, which began later
pub record IsMadeBy (v last : View) (recorded : List Call) (call : Call) : Type 0 where
  pub unspent : v.parts ≢ []
  pub no_call : op_in v.seat ≡ None
  pub position : call.position ≡ greatest_position v.first v.done
  pub after : v.ghost.call.number < call.number
  pub before : AllByRecursion (λ (other : Call). other.seat ≡ call.seat → (other.number ≤ v.ghost.call.number) ⊎ (call.number < other.number)) recorded
  pub before_running : op_in last.seat ≢ None → call.number < last.ghost.call.number

-- a quiet call of a run: made at one moment of it, with the reply that comes at its position
pub record IsQuietCall (o : Origin) (steps : List Step) (core : Core) (call : Call) : Type 0 where
  pub quiet : is_quiet o.geometry.block_bytes call.op ≡ true
  pub later : List Step
  pub earlier : List Step
  pub moment : steps ≡ later ++ earlier
  pub made : IsMadeBy (view_of (end o earlier).views call.seat) (view_of core.views call.seat) (recorded_calls core.views) call
  pub answers : Answers o.geometry.block_bytes call.position (file_at o core.history call.position) call.op call.reply

-- the quiet calls of a run, the newest first: each was made at a moment of it, and the others by then, with smaller numbers where they are of its seat
abbrev pub AreQuiet : Origin → Core → List Step → List Call → Type 0
AreQuiet o core steps [] = Unit {0}
AreQuiet o core steps (call ∷ calls) =
    (quiet : IsQuietCall o steps core call) × AllByRecursion (λ (other : Call). other.seat ≡ call.seat → other.number < call.number) calls × AreQuiet o core quiet.earlier calls

-- the calls of a run: the records of its views with the quiet calls, in the order of a report
pub record Ran (o : Origin) (calls : List Call) (core : Core) : Type 0 where
  pub steps : List Step
  pub is_run : IsRun o steps
  pub ends : end o steps ≡ core
  pub quiet : List Call
  pub are_quiet : AreQuiet o core steps quiet
  pub same_calls : IsPermutation (recorded_calls core.views ++ quiet) calls
  pub in_order : IsInOrder calls

-- what a list of calls collected: the generations that were put in place, each with its position
pub record Put : Type 0 where
  pub generation : ℕ
  pub position : ℕ

abbrev pub put_by : ℕ → Reply → List Put
put_by position (Collected collected) = record { generation = collected.generation; position = position } ∷ []
put_by position _ = []

abbrev pub collections : List Call → List Put
collections calls = flat_map (λ (call : Call). put_by call.position call.reply) calls

-- each is the next generation, at a greater position
abbrev pub PutInTurn : ℕ → ℕ → List Put → Type 0
PutInTurn generation position [] = Unit {0}
PutInTurn generation position (put ∷ rest) = (put.generation ≡ generation + 1) × (position < put.position) × PutInTurn put.generation put.position rest

-- what the other replies of collections say
abbrev pub SaysOfCollections : ℕ → ℕ → List Put → ℕ → Reply → Type 0
SaysOfCollections generation base puts position (NotCollected Nothing) = list_any (λ (p : ℕ). p == position) (base ∷ map (λ (put : Put). put.position) puts) ≡ true
SaysOfCollections generation base puts position (NotCollected (Overtaken found)) = list_any (λ (put : Put). put.generation == found) puts ≡ true
SaysOfCollections generation base puts position (NotCollected GenerationLimit) = generation + length puts ≡ 2 ^ 32 - 1
SaysOfCollections generation base puts position _ = Unit {0}

-- the collections of a history, from a generation and the position of its snapshot on
pub record HasCollections (generation base : ℕ) (calls : List Call) : Type 0 where
  pub in_turn : PutInTurn generation base (collections calls)
  pub each : AllByRecursion (λ (call : Call). SaysOfCollections generation base (collections calls) call.position call.reply) calls
