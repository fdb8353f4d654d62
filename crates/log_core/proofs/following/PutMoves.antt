-- A head that a call has put in place: it had put it before the step, or it was at its tail then, at the head's position.
use Rattle.std.proofs.Common.{◌≡◌, ◌⊎◌, inl, inr, ◌==◌, ℕ, Bool, true, false, Option, Some, None, sym, ap}
use Rattle.log_entry.specs.declared.calls.Op.TheVariants.{Collect as CollectOp}
use Rattle.pmem_words.specs.declared.keeps.Task.{Task}
use Rattle.pmem_words.specs.Seats.{Seat}
use Rattle.log_core.specs.Views.{Ghost, HeadPut, RunningCall, op_in, op_of}
use Rattle.log_core.specs.Origin.{Origin}
use Rattle.log_core.specs.Cores.{Core}
use Rattle.log_core.specs.Steps.{Kind, LoadsHead, StoresOwnPin, LoadsPinWord, LoadsImageWord, LoadsBitmapWord, SetsBits, ClearsBits, StoresWord, ExchangesSlot, ExchangesLink, ExchangesHead, MarksWord, Fences, NoKind, call_if, put_if, put_after}
use Rattle.log_core.specs.May.{May, MayExchangeHead}
use Rattle.log_core.specs.Runs.{MayNumber}

-- a state whose call collects, at its tail, at this position
abbrev pub CollectsAt : Seat → ℕ → Type 0
CollectsAt s base = (s.walk.at_tail ≡ true) × (base ≡ s.walk.position) × (op_in s ≡ Some CollectOp)

abbrev base_in : Option HeadPut → ℕ
base_in None = 0
base_in (Some head) = head.base

module _ (o : Origin) (c : Core) (g : Ghost) (s : Seat) (put : Option HeadPut) (head : HeadPut) where
  abbrev Moves : Kind → ℕ → Type 0
  Moves kind f = put_after put s kind f ≡ Some head → (put ≡ Some head) ⊎ CollectsAt s head.base

  head_moves : (won : Bool) (before next : ℕ) → MayExchangeHead o c g s before next → put_if won put s next ≡ Some head → (put ≡ Some head) ⊎ CollectsAt s head.base
  head_moves true before next may is = inr (may.at_tail, sym (ap base_in is), ap (λ (job : Task). op_of job s.calling.bytes) may.job)
  head_moves false before next may is = inl is

  pub put_moves : (kind : Kind) (f : ℕ) → May o c g s kind → Moves kind f
  put_moves LoadsHead f may is = inl is
  put_moves (StoresOwnPin value) f may is = inl is
  put_moves (LoadsPinWord other) f may is = inl is
  put_moves (LoadsImageWord word) f may is = inl is
  put_moves (LoadsBitmapWord word) f may is = inl is
  put_moves (SetsBits word bits) f may is = inl is
  put_moves (ClearsBits word bits) f may is = inl is
  put_moves (StoresWord word value) f may is = inl is
  put_moves (ExchangesSlot word entry) f may is = inl is
  put_moves (ExchangesLink word block) f may is = inl is
  put_moves (ExchangesHead before next) f may is = head_moves (f == before) before next may is
  put_moves (MarksWord word) f may is = inl is
  put_moves Fences f may is = inl is
  put_moves NoKind f may is = absurd may

-- a call that begins has put none, so one that has put some goes on
pub put_goes_on : (begun : Bool) (call : RunningCall) (number : ℕ) (head : HeadPut) → MayNumber begun call.number number → (call_if begun call number).put ≡ Some head → (call.put ≡ Some head) × (number ≡ call.number)
put_goes_on true call number head may is = cc
put_goes_on false call number head may is = (is, may)
