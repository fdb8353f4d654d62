-- What a look has seen at its end is the file's, and its record may be added.
use Rattle.std.proofs.Common.{◌≡◌, ◌≢◌, ◌⊎◌, inl, inr, ℕ, ◌-◌, ◌<◌, ◌≤◌, min, Bool, true, false, List, [], length, take, drop, length-drop, slice_index, Some, refl, sym, ap, subst, ◌∙◌, arith}
use Rattle.std.proofs.lemmas.Bool.{cases_lt}
use Rattle.std.proofs.lemmas.List.{take_all}
use Rattle.log_entry.specs.ByteFile.{read}
use Rattle.log_entry.specs.declared.calls.Op.{Op}
use Rattle.log_entry.specs.declared.calls.Op.TheVariants.{Pread as PreadOp}
use Rattle.pmem_words.specs.declared.keeps.Task.{Task}
use Rattle.pmem_words.specs.declared.keeps.Task.TheVariants.{Pread}
use Rattle.pmem_words.specs.Seats.{Seat}
use Rattle.log_core.specs.Views.{Ghost, view_of, op_in, op_of}
use Rattle.log_core.specs.Origin.{Origin, first_position}
use Rattle.log_core.specs.Files.{file_at, end_of, entries}
use Rattle.log_core.specs.Cores.{Core}
use Rattle.log_core.specs.Records.{StandsAtTail}
use Rattle.log_core.specs.Walks.{WalkHolds, HasWalked}
use Rattle.log_core.specs.Answers.{Fits}
use Rattle.log_core.specs.Invariant.{Invariant, around}
use Rattle.log_core.specs.Knows.{Knows}
use Rattle.log_core.proofs.HistoryFiles.{start_low}
use Rattle.log_core.proofs.machines.GoneOn.{knows_on}
use Rattle.log_core.proofs.machines.Serving.{reached_keeps}
use Rattle.log_core.proofs.starts.StartMeets.{start_meets}
use Rattle.read_validate.specs.declared.query.Query.{Query}
use Rattle.read_validate.specs.declared.query.Query.TheVariants.{Size, Range}
use Rattle.read_validate.specs.declared.query.Seen.{Seen}
use Rattle.read_validate.specs.Looking.{count_in, number_of}
use Rattle.read_validate.specs.LookWithin.{Asks, HasRead}
use Rattle.read_validate.specs.LookSees.{IsSeenIn, LooksSee, IsFor, reply_of, LooksRecord}

-- a read that has all bytes that there are
read_whole : (file : List ℕ) (offset count : ℕ) → take (min count (length file - offset)) (drop offset file) ≡ read file offset count
read_whole file offset count = by (cases_lt count (length file - offset))
  where
    by : (count < length file - offset) ⊎ (length file - offset ≤ count) → take (min count (length file - offset)) (drop offset file) ≡ read file offset count
    by (inl low) = ap (λ (k : ℕ). take k (drop offset file)) (omega (arith, low))
    by (inr past) = (let long = length-drop offset file in
        take_all (min count (length file - offset)) (drop offset file) (omega (arith, past, long)) ∙ sym (take_all count (drop offset file) (omega (arith, past, long))))

-- a seat that stands at its tail, with its pin or without
module _ (o : Origin) (c : Core) (n : ℕ) (s : Seat) (g : Ghost) (pin began : ℕ) (inv : Invariant o c) (f : Knows o c n s g pin began) (unspent : (view_of c.views n).parts ≢ []) (at_tail : s.walk.at_tail ≡ true) where
  abbrev File : List ℕ
  File = file_at o c.history s.walk.position

  w : WalkHolds (around o c) s.hold s.walk
  w = f.walk unspent

  stands : StandsAtTail (view_of c.views n).first began s.walk.position s.walk.tail_block (view_of c.views n).done
  stands = f.tail at_tail

  pub from_first : first_position o ≤ s.walk.position
  from_first = subst (λ (first : ℕ). first ≤ s.walk.position) (f.fits unspent).first stands.from_first

  not_reading : s.walk.reading ≡ false
  not_reading = by s.walk.reading (λ reading. (let both : true ≡ false = sym at_tail ∙ (f.calls.reading reading).0 in cc))
    where
      by : (b : Bool) → (b ≡ true → ⊥) → b ≡ false
      by true away = absurd (away refl)
      by false away = refl

  walked : HasWalked o (entries o c.history) c.logs s.walk
  walked = w.walked stands.walked not_reading

  pub file_size : s.walk.size ≡ length File
  file_size = walked.size_is ∙ sym (inv.writes.sizes s.walk.position (let low = start_low o c inv in let late = from_first in omega (arith, low, late)) w.to_end)

  pub bytes_are : (offset count : ℕ) → s.calling.job ≡ Pread offset count → length s.calling.bytes ≡ count_in offset count s → s.calling.bytes ≡ read File offset count
  bytes_are offset count job long = f.calls.laid offset count job
      ∙ (ap (λ (k : ℕ). read File offset k) (long ∙ ap (λ (size : ℕ). min count (size - offset)) file_size) ∙ read_whole File offset count)

-- with what a look has read
seen_in : (query : Query) (o : Origin) (c : Core) (n : ℕ) (s : Seat) (g : Ghost) (pin began : ℕ) → Invariant o c → Knows o c n s g pin began → (view_of c.views n).parts ≢ [] → s.walk.at_tail ≡ true →
    (s0 : Seat) (out : Seen) → Asks query s0 → s.calling.job ≡ s0.calling.job → HasRead query s0 s → out.number ≡ number_of query s → IsSeenIn query (file_at o c.history s.walk.position) out s
seen_in Size o c n s g pin began inv f unspent at_tail s0 out asks job read number = number ∙ file_size o c n s g pin began inv f unspent at_tail
seen_in (Range offset count) o c n s g pin began inv f unspent at_tail s0 out asks job read number = (bytes_are o c n s g pin began inv f unspent at_tail offset count (job ∙ asks.0) read, number)

pub looks_see : LooksSee
looks_see query o start c reached seat rest s0 g0 out s asks left =
    (let inv = reached_keeps o (start_meets o start) c reached in
    let has = left.fits in
    let f = knows_on o c seat inv (view_of c.views seat) refl left.unspent s left.seat in
    let position : out.position ≡ s.walk.position = ap (λ (x : Seen). x.position) has.out_is in
    record {
      from_first = subst (λ (p : ℕ). first_position o ≤ p) (sym position) (from_first o c seat s _ _ _ inv f left.unspent has.at_tail);
      begun = subst (λ (p : ℕ). slice_index c.began seat ≤ p) (sym position) (f.tail has.at_tail).begun;
      to_end = subst (λ (p : ℕ). p ≤ end_of o c.history) (sym position) (f.walk left.unspent).to_end;
      seen = subst (λ (p : ℕ). IsSeenIn query (file_at o c.history p) out s) (sym position)
          (seen_in query o c seat s _ _ _ inv f left.unspent has.at_tail s0 out asks (ap (λ (u : Seat). u.calling.job) has.rest) has.read (ap (λ (x : Seen). x.number) has.out_is));
    })

-- the record
op_read : (offset count : ℕ) (s : Seat) → s.calling.job ≡ Pread offset count → op_in s ≡ Some (PreadOp offset count)
op_read offset count s job = ap (λ (task : Task). op_of task s.calling.bytes) job

asked : (query : Query) (s0 s : Seat) (op : Op) → Asks query s0 → op_in s0 ≡ Some op → IsFor query op → s.calling.job ≡ s0.calling.job → HasRead query s0 s → op_in s ≡ Some op
asked Size s0 s op asks runs for job read = ap (λ (task : Task). op_of task s.calling.bytes) job ∙ (ap (λ (bytes : List ℕ). op_of s0.calling.job bytes) read ∙ runs)
asked (Range offset count) s0 s op asks runs for job read = op_read offset count s (job ∙ asks.0) ∙ ap Some (sym for)

fits_so : (query : Query) (s0 s : Seat) (g : Ghost) (op : Op) (out : Seen) → IsFor query op → HasRead query s0 s → out.number ≡ number_of query s → Fits g s op (reply_of op out s)
fits_so Size s0 s g op out (inl size) read number = subst (λ (x : Op). Fits g s x (reply_of x out s)) (sym size) (ap Rattle.log_entry.specs.declared.calls.Reply.TheVariants.Size number)
fits_so Size s0 s g op out (inr append) read number = subst (λ (x : Op). Fits g s x (reply_of x out s)) (sym append) (ap (λ (n : ℕ). Rattle.log_entry.specs.declared.calls.Reply.TheVariants.Appended n 0) number)
fits_so (Range offset count) s0 s g op out for read number = subst (λ (x : Op). Fits g s x (reply_of x out s)) (sym for) (refl, read)

pub looks_record : LooksRecord
looks_record query o seat s0 g0 op out s g may runs for has = record {
  at_tail = has.at_tail;
  position = ap (λ (x : Seen). x.position) has.out_is;
  seat = refl;
  number = refl;
  op = asked query s0 s op may.asks runs for (ap (λ (u : Seat). u.calling.job) has.rest) has.read;
  fits = fits_so query s0 s g op out for has.read (ap (λ (x : Seen). x.number) has.out_is);
}
