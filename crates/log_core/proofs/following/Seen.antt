-- What was seen at a step of a call is seen in the run with further steps, too.
use Rattle.std.proofs.Common.{◌≡◌, ℕ, Bool, true, false, List, ◌∷◌, sym, ◌∙◌, ap, arith, Some}
use Rattle.std.specs.List.{AllByRecursion}
use Rattle.log_entry.specs.declared.calls.Op.{Op}
use Rattle.log_entry.specs.declared.calls.Op.TheVariants.{Collect as CollectOp}
use Rattle.log_entry.specs.declared.calls.Call.{Call}
use Rattle.log_core.specs.Views.{View, HeadPut, view_of, op_in}
use Rattle.log_core.specs.Origin.{Origin}
use Rattle.log_core.specs.Steps.{Step}
use Rattle.log_core.specs.Runs.{end}
use Rattle.log_core.specs.Following.{IsSeen}
use Rattle.log_core.proofs.Each.{each_weaker}
use Rattle.log_core.proofs.following.TailWorks.{StandsWon}
use Rattle.log_entry.specs.Legal.{is_write}

-- a view whose call is at its tail was there at a step of that call
abbrev pub IsTailSeen : Origin → List Step → ℕ → View → Type 0
IsTailSeen o steps seat v = v.seat.walk.at_tail ≡ true → (op : Op) → op_in v.seat ≡ Some op → IsSeen o steps seat v.ghost.call.number v.seat.walk.position op v.seat.calling.won

abbrev pub IsCallSeen : Origin → List Step → Call → Type 0
IsCallSeen o steps call = IsSeen o steps call.seat call.number call.position call.op (is_write call.op call.reply)

-- a call that has put a head in place was at its tail at a step of its own, at the head's position
abbrev pub IsPutSeen : Origin → List Step → ℕ → View → Type 0
IsPutSeen o steps seat v = (head : HeadPut) → v.ghost.call.put ≡ Some head → IsSeen o steps seat v.ghost.call.number head.base CollectOp false

-- so it is of each view, and of each record
pub record AllSeen (o : Origin) (steps : List Step) : Type 0 where
  pub tails : (seat : ℕ) → IsTailSeen o steps seat (view_of (end o steps).views seat)
  pub stands : (seat : ℕ) → StandsWon (view_of (end o steps).views seat).seat
  pub puts : (seat : ℕ) → IsPutSeen o steps seat (view_of (end o steps).views seat)
  pub records : (seat : ℕ) → AllByRecursion (IsCallSeen o steps) (view_of (end o steps).views seat).done

-- and it stays with further steps
pub seen_later : (o : Origin) (steps : List Step) (step : Step) (seat number position : ℕ) (op : Op) (won : Bool) → IsSeen o steps seat number position op won → IsSeen o (step ∷ steps) seat number position op won
seen_later o steps step seat number position op won seen = record {
  ask = seen.ask;
  note = seen.note;
  later = step ∷ seen.later;
  earlier = seen.earlier;
  moment = ap (λ (rest : List Step). step ∷ rest) seen.moment;
  number_is = seen.number_is;
  asks = seen.asks;
  at_end = seen.at_end;
  put_in = seen.put_in;
}

pub tail_later : (o : Origin) (steps : List Step) (step : Step) (seat : ℕ) (v : View) → IsTailSeen o steps seat v → IsTailSeen o (step ∷ steps) seat v
tail_later o steps step seat v seen at op asks = seen_later o steps step seat v.ghost.call.number v.seat.walk.position op v.seat.calling.won (seen at op asks)

pub put_later : (o : Origin) (steps : List Step) (step : Step) (seat : ℕ) (v : View) → IsPutSeen o steps seat v → IsPutSeen o (step ∷ steps) seat v
put_later o steps step seat v seen head is = seen_later o steps step seat v.ghost.call.number head.base CollectOp false (seen head is)

pub records_later : (o : Origin) (steps : List Step) (step : Step) (calls : List Call) → AllByRecursion (IsCallSeen o steps) calls → AllByRecursion (IsCallSeen o (step ∷ steps)) calls
records_later o steps step calls = each_weaker (IsCallSeen o steps) (IsCallSeen o (step ∷ steps)) calls (λ call seen. seen_later o steps step call.seat call.number call.position call.op (is_write call.op call.reply) seen)

pub seen_as : (o : Origin) (steps : List Step) (seat number other position place : ℕ) (op : Op) (won now : Bool) → number ≡ other → position ≡ place → (now ≡ true → won ≡ true) → IsSeen o steps seat number position op won →
    IsSeen o steps seat other place op now
seen_as o steps seat number other position place op won now same_number same_place was seen = record {
  ask = seen.ask;
  note = seen.note;
  later = seen.later;
  earlier = seen.earlier;
  moment = seen.moment;
  number_is = seen.number_is ∙ same_number;
  asks = seen.asks;
  at_end = sym same_place ∙ seen.at_end;
  put_in = λ is. (let low = seen.put_in (was is) in omega (arith, low, same_place));
}
