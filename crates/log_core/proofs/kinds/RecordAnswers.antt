-- A record that a call may add holds: it has the reply that comes at its position, and says what is so of the generations.
use Rattle.std.proofs.Common.{◌≡◌, ◌≢◌, ◌<◌, ◌≤◌, ◌-◌, min, ◌⊎◌, inl, inr, ℕ, Bool, true, false, if◌then◌else◌, List, [], ◌∷◌, length, take, drop, refl, sym, ◌∙◌, ap, subst, arith, slice_index, Option, Some, None, length-drop}
use Rattle.std.proofs.lemmas.List.{take_all}
use Rattle.std.specs.Prelude.{◌↔◌, IsSome}
use Rattle.std.proofs.lemmas.Bool.{cases_lt}
use Rattle.log_entry.specs.ByteFile.{read}
use Rattle.log_entry.specs.Legal.{is_write, Answers, AnswersWrite, AnswersCollect}
use Rattle.log_entry.specs.declared.shapes.Geometry.{Geometry}
use Rattle.log_entry.specs.declared.calls.Op.{Op}
use Rattle.log_entry.specs.declared.calls.Op.TheVariants.{Pwrite, Append, Pread, Size, Sync, Collect}
use Rattle.log_entry.specs.declared.calls.Held.{Held}
use Rattle.log_entry.specs.declared.calls.Reply.{Reply}
use Rattle.log_entry.specs.declared.calls.Reply.TheVariants.{Wrote, Appended, NotWritten, Bytes, Size as FileSize, Synced, Collected, NotCollected}
use Rattle.log_entry.specs.declared.calls.Call.{Call}
use Rattle.pmem_words.specs.declared.keeps.Task.{Task}
use Rattle.pmem_words.specs.declared.keeps.Task.TheVariants.{Idle, Pwrite as PwriteTask, Append as AppendTask, Pread as PreadTask, Size as SizeTask, Sync as SyncTask, Collect as CollectTask, Pin, Unpin, Scan, Take, Give, Fill, Walk, Offer, Grow, Seal}
use Rattle.pmem_words.specs.Seats.{Seat}
use Rattle.log_core.specs.Views.{View, Ghost, view_of, op_in, op_of}
use Rattle.log_core.specs.Origin.{Origin, first_position}
use Rattle.log_core.specs.Files.{Write, write_at, call_of, accepted_reply, file_at, end_of, entries}
use Rattle.log_core.specs.Cores.{Core}
use Rattle.log_core.specs.Sizes.{SeatFits}
use Rattle.log_core.specs.May.{refusal_at}
use Rattle.log_core.specs.Walks.{WalkHolds, HasWalked}
use Rattle.log_core.specs.Records.{StandsAtTail, RecordHolds, before_call}
use Rattle.log_core.specs.Answers.{FitsHeld, FitsCollect, Fits, MayAdd}
use Rattle.log_core.specs.Invariant.{Invariant, around}
use Rattle.log_core.proofs.HistoryFiles.{start_low, some_bytes, write_answers, append_offset}
use Rattle.log_core.proofs.Replies.{refused_answers, wrote, appended, unwon_no_write}
use Rattle.log_core.proofs.kinds.RecordGenerations.{says_so}

-- a record has its parts
same_call : (call : Call) (position seat number : ℕ) (op : Op) (reply : Reply) → call.position ≡ position → call.seat ≡ seat → call.number ≡ number →
    call.op ≡ op → call.reply ≡ reply →
    call ≡ record { position = position; seat = seat; number = number; op = op; reply = reply }
same_call call position seat number op reply p s n o r =
    ap (λ (x : ℕ). record { position = x; seat = call.seat; number = call.number; op = call.op; reply = call.reply }) p
    ∙ (ap (λ (x : ℕ). record { position = position; seat = x; number = call.number; op = call.op; reply = call.reply }) s
    ∙ (ap (λ (x : ℕ). record { position = position; seat = seat; number = x; op = call.op; reply = call.reply }) n
    ∙ (ap (λ (x : Op). record { position = position; seat = seat; number = number; op = x; reply = call.reply }) o
    ∙ ap (λ (x : Reply). record { position = position; seat = seat; number = number; op = op; reply = x }) r)))

-- a task that asks for a read is one
read_task : (task : Task) (bytes : List ℕ) (offset count : ℕ) → op_of task bytes ≡ Some (Pread offset count) → task ≡ PreadTask offset count
read_task (PreadTask from most) bytes offset count is = cc
read_task Idle bytes offset count is = cc
read_task (PwriteTask from) bytes offset count is = cc
read_task AppendTask bytes offset count is = cc
read_task SizeTask bytes offset count is = cc
read_task SyncTask bytes offset count is = cc
read_task CollectTask bytes offset count is = cc
read_task Pin bytes offset count is = cc
read_task Unpin bytes offset count is = cc
read_task (Scan generation) bytes offset count is = cc
read_task (Take area most) bytes offset count is = cc
read_task (Give from) bytes offset count is = cc
read_task (Fill first most) bytes offset count is = cc
read_task Walk bytes offset count is = cc
read_task (Offer entry) bytes offset count is = cc
read_task (Grow block) bytes offset count is = cc
read_task Seal bytes offset count is = cc

-- a read that has all bytes that there are
read_whole : (file : List ℕ) (offset count : ℕ) → take (min count (length file - offset)) (drop offset file) ≡ read file offset count
read_whole file offset count = by (cases_lt count (length file - offset))
  where
    by : (count < length file - offset) ⊎ (length file - offset ≤ count) → take (min count (length file - offset)) (drop offset file) ≡ read file offset count
    by (inl low) = ap (λ (k : ℕ). take k (drop offset file)) (omega (arith, low))
    by (inr past) = (let long = length-drop offset file in
        take_all (min count (length file - offset)) (drop offset file) (omega (arith, past, long)) ∙ sym (take_all count (drop offset file) (omega (arith, past, long))))

-- a pin is named exactly where blocks were kept
held_kept : (s : Seat) (kept : ℕ) (held : Option Held) → FitsHeld s kept held → IsSome held ↔ (0 < kept)
held_kept s kept None none = (λ some. cc, λ some. absurd (omega (arith, some, none)))
held_kept s kept (Some pin) fits = (λ some. fits.0, λ some. refl)

module _ (o : Origin) (c : Core) (n : ℕ) (inv : Invariant o c) (here : n < length c.views) (unspent : (view_of c.views n).parts ≢ []) (call : Call)
    (may : MayAdd (view_of c.views n).ghost (view_of c.views n).seat call) where
  abbrev v : View
  v = view_of c.views n

  abbrev s : Seat
  s = v.seat

  abbrev g : Ghost
  g = v.ghost

  abbrev position : ℕ
  position = s.walk.position

  abbrev File : List ℕ
  File = file_at o c.history position

  w : WalkHolds (around o c) s.hold s.walk
  w = inv.walks n unspent

  pub seat_fits : SeatFits o n v
  seat_fits = inv.sizes.each n here unspent

  -- the view stands at its tail
  pub stands : StandsAtTail v.first (slice_index c.began n) position s.walk.tail_block v.done
  stands = inv.records.tails n may.at_tail

  from_first : first_position o ≤ position
  from_first = subst (λ (first : ℕ). first ≤ position) seat_fits.first stands.from_first

  not_reading : s.walk.reading ≡ false
  not_reading = go s.walk.reading (λ reading. (let away = ((inv.records.calls n).reading reading).0 in let both : true ≡ false = sym may.at_tail ∙ away in cc))
    where
      go : (b : Bool) → (b ≡ true → ⊥) → b ≡ false
      go true away = absurd (away refl)
      go false away = refl

  walked : HasWalked o (entries o c.history) c.logs s.walk
  walked = w.walked stands.walked not_reading

  size_is : s.walk.size ≡ length File
  size_is = walked.size_is ∙ sym (inv.writes.sizes position (let low = start_low o c inv in let late = from_first in omega (arith, low, late)) w.to_end)

  -- the write that the call put in, where it did
  abbrev pub write : Write
  write = write_at o c.history position

  module _ (won : s.calling.won ≡ true) where
    late : first_position o < position
    late = ((inv.records.writes n).running won).0

    pub same_op : call.op ≡ write.op
    same_op = (let asks = ((inv.records.writes n).running won).3 in let both : Some call.op ≡ Some write.op = sym may.op ∙ asks in cc)

    -- it is of at least one byte
    put_in : (op : Op) → write.op ≡ op → is_write op (accepted_reply op write.at) ≡ true
    put_in op is = subst (λ (asked : Op). is_write asked (accepted_reply asked write.at) ≡ true) is (some_bytes o c inv position late w.to_end)

    reply_by : (op : Op) → write.op ≡ op → Fits g s op call.reply → call.reply ≡ accepted_reply op write.at
    reply_by (Pwrite offset []) is fits = absurd fits
    reply_by (Pwrite offset (byte ∷ bytes)) is fits = wrote g s offset byte bytes call.reply won fits
    reply_by (Append []) is fits = (let some = put_in (Append []) is in cc)
    reply_by (Append (byte ∷ bytes)) is fits = appended g s byte bytes call.reply won fits
        ∙ ap (λ (at : ℕ). Appended at (length (byte ∷ bytes))) (ap (λ (size : ℕ). size - length (byte ∷ bytes)) size_is ∙ append_offset o c inv position late w.to_end (byte ∷ bytes) is)
    reply_by (Pread offset count) is fits = (let some = put_in (Pread offset count) is in cc)
    reply_by Size is fits = (let some = put_in Size is in cc)
    reply_by Sync is fits = (let some = put_in Sync is in cc)
    reply_by Collect is fits = (let some = put_in Collect is in cc)

    pub same_reply : call.reply ≡ accepted_reply write.op write.at
    same_reply = reply_by write.op refl (subst (λ (op : Op). Fits g s op call.reply) same_op may.fits)

    -- its record is the write's
    pub call_is : call ≡ call_of call.position (write_at o c.history call.position)
    call_is = subst (λ (p : ℕ). call ≡ call_of call.position (write_at o c.history p)) (sym may.position)
        (same_call call call.position write.seat write.number write.op (accepted_reply write.op write.at) refl
        (may.seat ∙ sym ((inv.records.writes n).running won).1) (may.number ∙ sym ((inv.records.writes n).running won).2) same_op same_reply)

  -- a record is of a write of the history exactly where the call put one in
  pub writes_won : is_write call.op call.reply ≡ s.calling.won
  writes_won = go s.calling.won refl
    where
      go : (b : Bool) → s.calling.won ≡ b → is_write call.op call.reply ≡ s.calling.won
      go true won = ap (λ (op : Op). is_write op call.reply) (same_op won) ∙ (ap (λ (reply : Reply). is_write write.op reply) (same_reply won)
          ∙ (some_bytes o c inv position (late won) w.to_end ∙ sym won))
      go false none = unwon_no_write g s call.op call.reply none may.fits ∙ sym none

  -- the position before the call
  before_is : before_call call ≡ (if s.calling.won then position - 1 else position)
  before_is = ap (λ (b : Bool). if b then call.position - 1 else call.position) writes_won ∙ ap (λ (p : ℕ). if s.calling.won then p - 1 else p) may.position

  same_bytes : s.geometry.block_bytes ≡ o.geometry.block_bytes
  same_bytes = ap (λ (geometry : Geometry). geometry.block_bytes) seat_fits.geometry

  -- the replies of calls that put in no entry
  unwon_answers : (op : Op) → op_in s ≡ Some op → s.calling.won ≡ false → Fits g s op call.reply → Answers o.geometry.block_bytes position File op call.reply
  unwon_answers (Pwrite offset []) asks none fits = absurd fits
  unwon_answers (Pwrite offset (byte ∷ bytes)) asks none fits =
      subst (λ (block_bytes : ℕ). AnswersWrite (refusal_at block_bytes position s.walk.size (Pwrite offset (byte ∷ bytes))) (Wrote (length (byte ∷ bytes))) call.reply) same_bytes
      (refused_answers g s.calling.won (refusal_at s.geometry.block_bytes position s.walk.size (Pwrite offset (byte ∷ bytes)))
      (Wrote (length (byte ∷ bytes))) (Wrote (length (byte ∷ bytes))) call.reply none fits)
  unwon_answers (Append []) asks none fits = fits ∙ ap (λ (size : ℕ). Appended size 0) size_is
  unwon_answers (Append (byte ∷ bytes)) asks none fits =
      subst (λ (block_bytes : ℕ). AnswersWrite (refusal_at block_bytes position (length File) (Append (byte ∷ bytes))) (Appended (length File) (length (byte ∷ bytes))) call.reply) same_bytes
      (subst (λ (size : ℕ). AnswersWrite (refusal_at s.geometry.block_bytes position size (Append (byte ∷ bytes))) (Appended (length File) (length (byte ∷ bytes))) call.reply) size_is
      (refused_answers g s.calling.won (refusal_at s.geometry.block_bytes position s.walk.size (Append (byte ∷ bytes)))
      (Appended (s.walk.size - length (byte ∷ bytes)) (length (byte ∷ bytes))) (Appended (length File) (length (byte ∷ bytes))) call.reply none fits))
  unwon_answers (Pread offset count) asks none fits = fits.0 ∙ ap (λ (bytes : List ℕ). Bytes bytes)
      ((inv.records.calls n).laid offset count (read_task s.calling.job s.calling.bytes offset count asks)
      ∙ (ap (λ (long : ℕ). read File offset long) (fits.1 ∙ ap (λ (size : ℕ). min count (size - offset)) size_is) ∙ read_whole File offset count))
  unwon_answers Size asks none fits = fits ∙ ap (λ (size : ℕ). FileSize size) size_is
  unwon_answers Sync asks none fits = fits.0
  unwon_answers Collect asks none fits = by call.reply fits
    where
      by : (reply : Reply) → FitsCollect g s reply → AnswersCollect reply
      by (Collected done) fits = held_kept s done.kept done.held fits.held
      by (NotCollected why) fits = tt
      by (Wrote count) fits = absurd fits
      by (Appended at count) fits = absurd fits
      by (NotWritten why) fits = absurd fits
      by (Bytes bytes) fits = absurd fits
      by (FileSize size) fits = absurd fits
      by (Synced upto) fits = absurd fits

  answers : Answers o.geometry.block_bytes (before_call call) (file_at o c.history (before_call call)) call.op call.reply
  answers = subst (λ (before : ℕ). Answers o.geometry.block_bytes before (file_at o c.history before) call.op call.reply) (sym before_is) (go s.calling.won refl)
    where
      go : (b : Bool) → s.calling.won ≡ b →
          Answers o.geometry.block_bytes (if b then position - 1 else position) (file_at o c.history (if b then position - 1 else position)) call.op call.reply
      go true won = subst (λ (op : Op). Answers o.geometry.block_bytes (position - 1) (file_at o c.history (position - 1)) op call.reply) (sym (same_op won))
          (subst (λ (reply : Reply). Answers o.geometry.block_bytes (position - 1) (file_at o c.history (position - 1)) write.op reply) (sym (same_reply won)) (write_answers o c inv position (late won) w.to_end))
      go false none = unwon_answers call.op may.op none may.fits

  pub record_holds : RecordHolds o c.history c.generations call
  record_holds = record {
    to_end = subst (λ (p : ℕ). p ≤ end_of o c.history) (sym may.position) w.to_end;
    from_first = subst (λ (p : ℕ). first_position o ≤ p) (sym may.position) from_first;
    write_after = λ is. subst (λ (p : ℕ). first_position o < p) (sym may.position) (late (sym writes_won ∙ is));
    answers = answers;
    of_generations = says_so o c n inv unspent call may;
  }
