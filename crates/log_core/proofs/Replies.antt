-- What a reply that fits a seat's state says, by the call's ask.
use Rattle.std.proofs.Common.{◌≡◌, inl, inr, ◌-◌, ℕ, Bool, true, false, List, [], ◌∷◌, length, refl, ap, Option, Some, None}
use Rattle.log_entry.specs.Legal.{is_write, AnswersWrite}
use Rattle.log_entry.specs.declared.shapes.Area.TheVariants.{Data, Log}
use Rattle.log_entry.specs.declared.calls.Op.{Op}
use Rattle.log_entry.specs.declared.calls.Op.TheVariants.{Pwrite, Append, Pread, Size, Sync, Collect}
use Rattle.log_entry.specs.declared.calls.WriteRefusal.{WriteRefusal}
use Rattle.log_entry.specs.declared.calls.WriteRefusal.TheVariants.{NoSpace}
use Rattle.log_entry.specs.declared.calls.CollectRefusal.{CollectRefusal}
use Rattle.log_entry.specs.declared.calls.Collected.{Collected as CollectedBlocks}
use Rattle.log_entry.specs.declared.calls.Reply.{Reply}
use Rattle.log_entry.specs.declared.calls.Reply.TheVariants.{Wrote, Appended, NotWritten, Size as FileSize, Synced, Collected, NotCollected}
use Rattle.pmem_words.specs.Seats.{Seat}
use Rattle.log_core.specs.Views.{Ghost}
use Rattle.log_core.specs.May.{refusal_at}
use Rattle.log_core.specs.Answers.{FitsWrite, FitsCollected, FitsCollect, Fits}

-- a write is answered as accepted, or refused
write_reply : {P : Type 0} (g : Ghost) (won : Bool) (why : Option WriteRefusal) (accepted reply : Reply) → FitsWrite g won why accepted reply →
    (reply ≡ accepted → P) → ((refusal : WriteRefusal) → reply ≡ NotWritten refusal → P) → P
write_reply g true why accepted reply fits wins loses = wins fits
write_reply g false (Some why) accepted reply fits wins loses = loses why fits
write_reply g false None accepted reply (inl here) wins loses = loses (NoSpace Data) here.0
write_reply g false None accepted reply (inr log) wins loses = loses (NoSpace Log) log.0

-- one that put in no entry is refused
write_refused : {P : Type 0} (g : Ghost) (won : Bool) (why : Option WriteRefusal) (accepted reply : Reply) → FitsWrite g won why accepted reply →
    won ≡ false → ((refusal : WriteRefusal) → reply ≡ NotWritten refusal → P) → P
write_refused g true why accepted reply fits none loses = cc
write_refused g false (Some why) accepted reply fits none loses = loses why fits
write_refused g false None accepted reply (inl here) none loses = loses (NoSpace Data) here.0
write_refused g false None accepted reply (inr log) none loses = loses (NoSpace Log) log.0

-- by a cause that the history allows there
pub refused_answers : (g : Ghost) (won : Bool) (why : Option WriteRefusal) (accepted other reply : Reply) → won ≡ false →
    FitsWrite g won why accepted reply → AnswersWrite why other reply
refused_answers g true why accepted other reply none fits = cc
refused_answers g false (Some why) accepted other reply none fits = fits
refused_answers g false None accepted other reply none (inl here) = inr (inl here.0)
refused_answers g false None accepted other reply none (inr log) = inr (inr log.0)

-- one that did is accepted
won_accepted : (g : Ghost) (won : Bool) (why : Option WriteRefusal) (accepted reply : Reply) → won ≡ true → FitsWrite g won why accepted reply → reply ≡ accepted
won_accepted g true why accepted reply is fits = fits
won_accepted g false why accepted reply is fits = cc

module _ (g : Ghost) (s : Seat) where
  abbrev why : Op → Option WriteRefusal
  why op = refusal_at s.geometry.block_bytes s.walk.position s.walk.size op

  pub wrote : (offset byte : ℕ) (bytes : List ℕ) (reply : Reply) → s.calling.won ≡ true → Fits g s (Pwrite offset (byte ∷ bytes)) reply →
      reply ≡ Wrote (length (byte ∷ bytes))
  wrote offset byte bytes reply won fits = won_accepted g s.calling.won (why (Pwrite offset (byte ∷ bytes))) (Wrote (length (byte ∷ bytes))) reply won fits

  pub appended : (byte : ℕ) (bytes : List ℕ) (reply : Reply) → s.calling.won ≡ true → Fits g s (Append (byte ∷ bytes)) reply →
      reply ≡ Appended (s.walk.size - length (byte ∷ bytes)) (length (byte ∷ bytes))
  appended byte bytes reply won fits = won_accepted g s.calling.won (why (Append (byte ∷ bytes))) (Appended (s.walk.size - length (byte ∷ bytes)) (length (byte ∷ bytes))) reply won fits

  -- a call that put in no entry is no write of the history
  pub unwon_no_write : (op : Op) (reply : Reply) → s.calling.won ≡ false → Fits g s op reply → is_write op reply ≡ false
  unwon_no_write (Pwrite offset []) reply none fits = absurd fits
  unwon_no_write (Pwrite offset (byte ∷ bytes)) reply none fits =
      write_refused g s.calling.won (why (Pwrite offset (byte ∷ bytes))) (Wrote (length (byte ∷ bytes))) reply fits none (λ refusal is. ap (λ (r : Reply). is_write (Pwrite offset (byte ∷ bytes)) r) is)
  unwon_no_write (Append []) reply none fits = ap (λ (r : Reply). is_write (Append []) r) fits
  unwon_no_write (Append (byte ∷ bytes)) reply none fits =
      write_refused g s.calling.won (why (Append (byte ∷ bytes))) (Appended (s.walk.size - length (byte ∷ bytes)) (length (byte ∷ bytes))) reply fits none
      (λ refusal is. ap (λ (r : Reply). is_write (Append (byte ∷ bytes)) r) is)
  unwon_no_write (Pread offset count) reply none fits = refl
  unwon_no_write Size reply none fits = refl
  unwon_no_write Sync reply none fits = refl
  unwon_no_write Collect reply none fits = refl

  -- a collection alone has its replies
  pub collected_fits : (op : Op) (done : CollectedBlocks) → Fits g s op (Collected done) → FitsCollected g s done
  collected_fits (Pwrite offset []) done fits = absurd fits
  collected_fits (Pwrite offset (byte ∷ bytes)) done fits = write_reply g s.calling.won (why (Pwrite offset (byte ∷ bytes))) (Wrote (length (byte ∷ bytes))) (Collected done) fits (λ is. cc) (λ refusal is. cc)
  collected_fits (Append []) done fits = (let is : Collected done ≡ Appended s.walk.size 0 = fits in cc)
  collected_fits (Append (byte ∷ bytes)) done fits =
      write_reply g s.calling.won (why (Append (byte ∷ bytes))) (Appended (s.walk.size - length (byte ∷ bytes)) (length (byte ∷ bytes))) (Collected done) fits (λ is. cc) (λ refusal is. cc)
  collected_fits (Pread offset count) done fits = (let is = fits.0 in cc)
  collected_fits Size done fits = (let is : Collected done ≡ FileSize s.walk.size = fits in cc)
  collected_fits Sync done fits = (let is = fits.0 in cc)
  collected_fits Collect done fits = fits

  pub not_collected_fits : (op : Op) (cause : CollectRefusal) → Fits g s op (NotCollected cause) → FitsCollect g s (NotCollected cause)
  not_collected_fits (Pwrite offset []) cause fits = absurd fits
  not_collected_fits (Pwrite offset (byte ∷ bytes)) cause fits = write_reply g s.calling.won (why (Pwrite offset (byte ∷ bytes))) (Wrote (length (byte ∷ bytes))) (NotCollected cause) fits (λ is. cc) (λ refusal is. cc)
  not_collected_fits (Append []) cause fits = (let is : NotCollected cause ≡ Appended s.walk.size 0 = fits in cc)
  not_collected_fits (Append (byte ∷ bytes)) cause fits =
      write_reply g s.calling.won (why (Append (byte ∷ bytes))) (Appended (s.walk.size - length (byte ∷ bytes)) (length (byte ∷ bytes))) (NotCollected cause) fits (λ is. cc) (λ refusal is. cc)
  not_collected_fits (Pread offset count) cause fits = (let is = fits.0 in cc)
  not_collected_fits Size cause fits = (let is : NotCollected cause ≡ FileSize s.walk.size = fits in cc)
  not_collected_fits Sync cause fits = (let is = fits.0 in cc)
  not_collected_fits Collect cause fits = fits

  -- and a sync alone its own
  pub synced_fits : (op : Op) (position : ℕ) → Fits g s op (Synced position) → (position ≡ s.walk.position) × (s.calling.sync_to ≡ Some s.walk.position)
  synced_fits (Pwrite offset []) position fits = absurd fits
  synced_fits (Pwrite offset (byte ∷ bytes)) position fits = write_reply g s.calling.won (why (Pwrite offset (byte ∷ bytes))) (Wrote (length (byte ∷ bytes))) (Synced position) fits (λ is. cc) (λ refusal is. cc)
  synced_fits (Append []) position fits = (let is : Synced position ≡ Appended s.walk.size 0 = fits in cc)
  synced_fits (Append (byte ∷ bytes)) position fits =
      write_reply g s.calling.won (why (Append (byte ∷ bytes))) (Appended (s.walk.size - length (byte ∷ bytes)) (length (byte ∷ bytes))) (Synced position) fits (λ is. cc) (λ refusal is. cc)
  synced_fits (Pread offset count) position fits = (let is = fits.0 in cc)
  synced_fits Size position fits = (let is : Synced position ≡ FileSize s.walk.size = fits in cc)
  synced_fits Sync position fits = ((let is : Synced position ≡ Synced s.walk.position = fits.0 in cc), fits.1)
  synced_fits Collect position fits = absurd fits
