-- What a reply says that its call found, the call found at its own steps.
use Rattle.std.proofs.Common.{◌≡◌, ◌≢◌, inl, inr, ◌==◌, if◌then◌else◌, nat_lt, ◌+◌, ◌-◌, ℕ, Bool, true, false, List, [], ◌∷◌, length, sym, ◌∙◌, subst, arith, Option, Some, None}
use Rattle.log_entry.specs.Shape.{longest_of, limit_of}
use Rattle.log_entry.specs.Legal.{last_position, touched_blocks, appended_blocks}
use Rattle.log_entry.specs.declared.shapes.Area.{Area}
use Rattle.log_entry.specs.declared.shapes.Area.TheVariants.{Data, Log, Spare}
use Rattle.log_entry.specs.declared.calls.Op.{Op}
use Rattle.log_entry.specs.declared.calls.Op.TheVariants.{Pwrite, Append, Pread, Size, Sync, Collect}
use Rattle.log_entry.specs.declared.calls.WriteRefusal.TheVariants.{TooLong, TooLarge, NoSpace, PositionLimit}
use Rattle.log_entry.specs.declared.calls.CollectRefusal.TheVariants.{Nothing, NoSpace as NoSpareSpace, Overtaken, GenerationLimit}
use Rattle.log_entry.specs.declared.calls.Held.{Held}
use Rattle.log_entry.specs.declared.calls.Reply.{Reply}
use Rattle.log_entry.specs.declared.calls.Reply.TheVariants.{Wrote, Appended, NotWritten, Bytes, Size as FileSize, Synced, Collected, NotCollected}
use Rattle.pmem_words.specs.Seats.{Seat}
use Rattle.log_core.specs.Views.{Ghost}
use Rattle.log_core.specs.Origin.{Origin}
use Rattle.log_core.specs.Steps.{Step}
use Rattle.log_core.specs.Answers.{HasLacked, FitsWrite, FitsHeld, Fits}
use Rattle.log_core.specs.Causes.{IsAtStep, FindsHead, FindsPin, HasCause}
use Rattle.log_core.proofs.Replies.{collected_fits, not_collected_fits}
use Rattle.log_core.proofs.following.Causes.{Causes, at_step_later}

-- a write that is refused for want of space has found it
lacked_by : (g : Ghost) (won long large last : Bool) (blocks size : ℕ) (accepted : Reply) (area : Area) → (NotWritten (NoSpace area) ≡ accepted → ⊥) →
    FitsWrite g won (if long then Some (TooLong blocks) else if large then Some (TooLarge size) else if last then Some PositionLimit else None) accepted (NotWritten (NoSpace area)) → HasLacked g area
lacked_by g true long large last blocks size accepted area never fits = absurd (never fits)
lacked_by g false true large last blocks size accepted area never fits = cc
lacked_by g false false true last blocks size accepted area never fits = cc
lacked_by g false false false true blocks size accepted area never fits = cc
lacked_by g false false false false blocks size accepted Data never (inl here) = here.1
lacked_by g false false false false blocks size accepted Log never (inl here) = (let is = here.0 in cc)
lacked_by g false false false false blocks size accepted Spare never (inl here) = (let is = here.0 in cc)
lacked_by g false false false false blocks size accepted Log never (inr here) = here.1
lacked_by g false false false false blocks size accepted Data never (inr here) = (let is = here.0 in cc)
lacked_by g false false false false blocks size accepted Spare never (inr here) = (let is = here.0 in cc)

lacked_fits : (g : Ghost) (s : Seat) (op : Op) (area : Area) → Fits g s op (NotWritten (NoSpace area)) → HasLacked g area
lacked_fits g s (Pwrite offset []) area fits = absurd fits
lacked_fits g s (Pwrite offset (byte ∷ bytes)) area fits =
    lacked_by g s.calling.won (nat_lt (longest_of s.geometry.block_bytes) (touched_blocks s.geometry.block_bytes offset (length (byte ∷ bytes)))) (nat_lt (limit_of s.geometry.block_bytes) (offset + length (byte ∷ bytes)))
    (s.walk.position == last_position) (touched_blocks s.geometry.block_bytes offset (length (byte ∷ bytes))) (offset + length (byte ∷ bytes)) (Wrote (length (byte ∷ bytes))) area (λ is. cc) fits
lacked_fits g s (Append []) area fits = (let is : NotWritten (NoSpace area) ≡ Appended s.walk.size 0 = fits in cc)
lacked_fits g s (Append (byte ∷ bytes)) area fits =
    lacked_by g s.calling.won (nat_lt (longest_of s.geometry.block_bytes) (appended_blocks s.geometry.block_bytes (length (byte ∷ bytes)))) (nat_lt (limit_of s.geometry.block_bytes) (s.walk.size + length (byte ∷ bytes)))
    (s.walk.position == last_position) (appended_blocks s.geometry.block_bytes (length (byte ∷ bytes))) (s.walk.size + length (byte ∷ bytes)) (Appended (s.walk.size - length (byte ∷ bytes)) (length (byte ∷ bytes))) area (λ is. cc) fits
lacked_fits g s (Pread offset count) area fits = (let is = fits.0 in cc)
lacked_fits g s Size area fits = (let is : NotWritten (NoSpace area) ≡ FileSize s.walk.size = fits in cc)
lacked_fits g s Sync area fits = (let is = fits.0 in cc)
lacked_fits g s Collect area fits = absurd fits

module _ (o : Origin) (steps : List Step) (n number : ℕ) (g : Ghost) (s : Seat) (same : s.number ≡ n) (causes : Causes o steps n number s.blocks.found s.giving.pins_seen g.call) where
  held_by : (kept : ℕ) (held : Option Held) → g.call.put ≢ None → FitsHeld s kept held → (pin : Held) → held ≡ Some pin → (pin.seat ≢ n) × IsAtStep o steps n number (FindsPin pin.seat pin.generation)
  held_by kept None put fits pin is = cc
  held_by kept (Some other) put fits pin is = subst (λ (p : Held). (p.seat ≢ n) × IsAtStep o steps n number (FindsPin p.seat p.generation)) there
      ((λ mine. fits.1.other (mine ∙ sym same)), subst (λ (found : ℕ). IsAtStep o steps n number (FindsPin other.seat found)) fits.1.pin (causes.pins_seen put other.seat fits.1.seen))
    where
      there : other ≡ pin
      there = cc

  pub cause_of : (op : Op) (reply : Reply) → Fits g s op reply → HasCause o steps n number reply
  cause_of op (NotWritten (NoSpace area)) fits = λ block inside. causes.lacked area (lacked_fits g s op area fits) block inside
  cause_of op (NotWritten (TooLong blocks)) fits = tt
  cause_of op (NotWritten (TooLarge size)) fits = tt
  cause_of op (NotWritten PositionLimit) fits = tt
  cause_of op (NotCollected NoSpareSpace) fits = (let why = not_collected_fits g s op NoSpareSpace fits in λ block inside. causes.lacked Spare why.2.2 block inside)
  cause_of op (NotCollected (Overtaken generation)) fits = (let why = not_collected_fits g s op (Overtaken generation) fits in
      subst (λ (k : ℕ). IsAtStep o steps n number (FindsHead k)) why.2.2 (causes.overtaken (λ none. (let above = why.2.1 in let is = why.2.2 in omega (arith, above, is, none)))))
  cause_of op (NotCollected Nothing) fits = tt
  cause_of op (NotCollected GenerationLimit) fits = tt
  cause_of op (Collected done) fits = (let why = collected_fits g s op done fits in
      held_by done.kept done.held (λ none. (let some : Some why.put ≡ None = sym why.put_is ∙ none in cc)) why.held)
  cause_of op (Wrote count) fits = tt
  cause_of op (Appended at count) fits = tt
  cause_of op (Bytes bytes) fits = tt
  cause_of op (FileSize size) fits = tt
  cause_of op (Synced position) fits = tt

-- a cause stays with further steps
pub cause_later : (o : Origin) (steps : List Step) (step : Step) (seat number : ℕ) (reply : Reply) → HasCause o steps seat number reply → HasCause o (step ∷ steps) seat number reply
cause_later o steps step seat number (NotWritten (NoSpace area)) cause = λ block inside. at_step_later o steps step seat number _ (cause block inside)
cause_later o steps step seat number (NotWritten (TooLong blocks)) cause = tt
cause_later o steps step seat number (NotWritten (TooLarge size)) cause = tt
cause_later o steps step seat number (NotWritten PositionLimit) cause = tt
cause_later o steps step seat number (NotCollected NoSpareSpace) cause = λ block inside. at_step_later o steps step seat number _ (cause block inside)
cause_later o steps step seat number (NotCollected (Overtaken generation)) cause = at_step_later o steps step seat number _ cause
cause_later o steps step seat number (NotCollected Nothing) cause = tt
cause_later o steps step seat number (NotCollected GenerationLimit) cause = tt
cause_later o steps step seat number (Collected done) cause = λ pin is. (let found = cause pin is in (found.0, at_step_later o steps step seat number _ found.1))
cause_later o steps step seat number (Wrote count) cause = tt
cause_later o steps step seat number (Appended at count) cause = tt
cause_later o steps step seat number (Bytes bytes) cause = tt
cause_later o steps step seat number (FileSize size) cause = tt
cause_later o steps step seat number (Synced position) cause = tt
