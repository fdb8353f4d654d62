-- The file at the position of a write, and the reply that comes to a write where it stands.
use Rattle.std.proofs.Common.{◌≡◌, ◌<◌, ◌≤◌, ◌+◌, ◌-◌, ℕ, zero, suc, true, Bool, if◌then◌else◌, List, [], ◌∷◌, length, map, take, refl, sym, ◌∙◌, ap, subst, arith, inl, slice_index_or, length-append, Option, Some, None}
use Rattle.std.proofs.lemmas.Bool.{le-ltb}
use Rattle.std.proofs.lemmas.List.{length-map}
use Rattle.log_entry.specs.Legal.{is_write, file_after, Answers, AnswersWrite, write_refusal, touched_blocks, appended_blocks}
use Rattle.log_entry.specs.declared.calls.Op.{Op}
use Rattle.log_entry.specs.declared.calls.Op.TheVariants.{Pwrite, Append, Pread, Size, Sync, Collect}
use Rattle.log_entry.specs.declared.calls.Reply.{Reply}
use Rattle.log_entry.specs.declared.calls.Reply.TheVariants.{Wrote, Appended}
use Rattle.log_entry.specs.declared.calls.WriteRefusal.{WriteRefusal}
use Rattle.log_core.specs.Origin.{Origin, first_position, start_base, first_entries}
use Rattle.log_core.specs.Files.{Write, no_write, write_at, accepted_reply, file_after_writes, file_at, end_of, early_file}
use Rattle.log_core.specs.Cores.{Core}
use Rattle.log_core.specs.May.{refusal_at}
use Rattle.log_core.specs.Writes.{IsAcceptedAt}
use Rattle.log_core.specs.Invariant.{Invariant}

-- one write more
one_more : (file : List ℕ) (history : List Write) (count : ℕ) → count < length history →
    file_after_writes file (take (suc count) history)
    ≡ file_after (file_after_writes file (take count history)) (slice_index_or history count no_write).op
    (accepted_reply (slice_index_or history count no_write).op (slice_index_or history count no_write).at)
one_more file [] count inside = absurd (omega (arith, inside))
one_more file (w ∷ history) zero inside = refl
one_more file (w ∷ history) (suc count) inside = one_more (file_after file w.op (accepted_reply w.op w.at)) history count (omega (arith, inside))

-- the file at a position that is not before the start's
pub late_file : (o : Origin) (history : List Write) (position : ℕ) → first_position o ≤ position →
    file_at o history position ≡ file_after_writes o.file (take (position - first_position o) history)
late_file o history position late = ap (λ (early : Bool). if early then early_file o position else file_after_writes o.file (take (position - first_position o) history)) (le-ltb position (first_position o) late)

module _ (o : Origin) (history : List Write) (position : ℕ) (late : first_position o < position) (upto : position ≤ end_of o history) where
  abbrev w : Write
  w = write_at o history position

  abbrev number : ℕ
  number = position - (first_position o + 1)

  next_number : position - first_position o ≡ suc number
  next_number = omega (arith, late)

  -- the file after a write is that before it with the write
  pub file_next : file_at o history position ≡ file_after (file_at o history (position - 1)) w.op (accepted_reply w.op w.at)
  file_next = late_file o history position (omega (arith, late))
      ∙ (ap (λ (count : ℕ). file_after_writes o.file (take count history)) next_number
      ∙ (one_more o.file history number (omega (arith, late, upto))
      ∙ ap (λ (file : List ℕ). file_after file w.op (accepted_reply w.op w.at)) (sym (late_file o history (position - 1) (omega (arith, late)) ∙ ap (λ (count : ℕ). file_after_writes o.file (take count history)) (omega (arith, late))))))

-- an append makes the file longer by its bytes
appended_size : (file : List ℕ) (op : Op) (at : ℕ) (bytes : List ℕ) → op ≡ Append bytes →
    length (file_after file op (accepted_reply op at)) ≡ length file + length bytes
appended_size file op at bytes is = ap (λ (o : Op). length (file_after file o (accepted_reply o at))) is ∙ length-append file bytes

-- a write that nothing refuses is answered as accepted
write_answered : (why : Option WriteRefusal) (accepted : Reply) → why ≡ None → AnswersWrite why accepted accepted
write_answered None accepted none = inl refl
write_answered (Some why) accepted none = cc

accepted_answers : (block_bytes position : ℕ) (file : List ℕ) (op : Op) (at : ℕ) → is_write op (accepted_reply op at) ≡ true → at ≡ length file →
    refusal_at block_bytes position at op ≡ None →
    Answers block_bytes position file op (accepted_reply op at)
accepted_answers block_bytes position file (Pwrite offset []) at some size allowed = cc
accepted_answers block_bytes position file (Pwrite offset (byte ∷ bytes)) at some size allowed =
    write_answered (write_refusal block_bytes position (touched_blocks block_bytes offset (length (byte ∷ bytes))) (offset + length (byte ∷ bytes))) (Wrote (length (byte ∷ bytes))) allowed
accepted_answers block_bytes position file (Append []) at some size allowed = cc
accepted_answers block_bytes position file (Append (byte ∷ bytes)) at some size allowed =
    subst (λ (long : ℕ). AnswersWrite (write_refusal block_bytes position (appended_blocks block_bytes (length (byte ∷ bytes))) (long + length (byte ∷ bytes))) (Appended long (length (byte ∷ bytes))) (Appended at (length (byte ∷ bytes)))) size
    (write_answered (write_refusal block_bytes position (appended_blocks block_bytes (length (byte ∷ bytes))) (at + length (byte ∷ bytes))) (Appended at (length (byte ∷ bytes))) allowed)
accepted_answers block_bytes position file (Pread offset count) at some size allowed = cc
accepted_answers block_bytes position file Size at some size allowed = cc
accepted_answers block_bytes position file Sync at some size allowed = cc
accepted_answers block_bytes position file Collect at some size allowed = cc

module _ (o : Origin) (c : Core) (inv : Invariant o c) where
  -- the start's snapshot is not past the start's position
  pub start_low : start_base o ≤ first_position o
  start_low =
      (let count = inv.order.log.count in
      let long = length-append (first_entries o) (map (λ (w : Write). w.entry) c.history) in
      let writes : length (map (λ (w : Write). w.entry) c.history) ≡ length c.history = length-map c.history (λ (w : Write). w.entry) in
      omega (arith, count, long, writes))

  module _ (position : ℕ) (late : first_position o < position) (upto : position ≤ end_of o c.history) where
    accepted : IsAcceptedAt o c.history (position - (first_position o + 1)) (write_at o c.history position)
    accepted = inv.writes.writes (position - (first_position o + 1)) (omega (arith, late, upto))

    before : first_position o + (position - (first_position o + 1)) ≡ position - 1
    before = omega (arith, late)

    pub some_bytes : is_write (write_at o c.history position).op (accepted_reply (write_at o c.history position).op (write_at o c.history position).at) ≡ true
    some_bytes = accepted.some_bytes

    pub size_before : (write_at o c.history position).at ≡ length (file_at o c.history (position - 1))
    size_before = subst (λ (k : ℕ). (write_at o c.history position).at ≡ length (file_at o c.history k)) before accepted.size_before

    -- a write of the history has the reply that comes where it stands
    pub write_answers : Answers o.geometry.block_bytes (position - 1) (file_at o c.history (position - 1)) (write_at o c.history position).op (accepted_reply (write_at o c.history position).op (write_at o c.history position).at)
    write_answers = accepted_answers o.geometry.block_bytes (position - 1) (file_at o c.history (position - 1)) (write_at o c.history position).op (write_at o c.history position).at some_bytes size_before
        (subst (λ (k : ℕ). refusal_at o.geometry.block_bytes k (write_at o c.history position).at (write_at o c.history position).op ≡ None) before accepted.allowed)

    -- so an append's offset is the size less its bytes
    pub append_offset : (bytes : List ℕ) → (write_at o c.history position).op ≡ Append bytes →
        length (file_at o c.history position) - length bytes ≡ (write_at o c.history position).at
    append_offset bytes is =
        (let next = ap (λ (file : List ℕ). length file) (file_next o c.history position late upto) in
        let more = appended_size (file_at o c.history (position - 1)) (write_at o c.history position).op (write_at o c.history position).at bytes is in
        let size = size_before in
        omega (arith, next, more, size))
