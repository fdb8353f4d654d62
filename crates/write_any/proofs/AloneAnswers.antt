-- What a write that alone makes steps comes to: the reply is the legal one, and the words stand for the file after it.
use Rattle.std.proofs.Common.{◌≡◌, ◌≢◌, inl, inr, ℕ, ◌+◌, ◌*◌, ◌<◌, ◌≤◌, ◌==◌, nat_lt, Bool, true, false, if◌then◌else◌, List, [], ◌∷◌, ◌++◌, length, length-append, Option, Some, None, refl, sym, ap, subst, ◌∙◌, arith, mul-le-mul_right}
use Rattle.std.proofs.lemmas.Bool.{le-ltb, eq-eqb, ne_eqb}
use Rattle.std.proofs.lemmas.List.{take_all}
use Rattle.log_entry.specs.Legal.{Answers, AnswersWrite, AnswersPwrite, write_refusal, touched_blocks, last_position, file_after, position_after, is_some_bytes}
use Rattle.log_entry.specs.Shape.{longest_of, limit_of}
use Rattle.log_entry.specs.declared.shapes.Area.TheVariants.{Data, Log, Spare}
use Rattle.log_entry.specs.declared.calls.Reply.{Reply}
use Rattle.log_entry.specs.declared.calls.Reply.TheVariants.{Wrote, NotWritten}
use Rattle.log_entry.specs.declared.calls.WriteRefusal.{WriteRefusal}
use Rattle.log_entry.specs.declared.calls.WriteRefusal.TheVariants.{TooLong, TooLarge, NoSpace, PositionLimit}
use Rattle.log_image.specs.Stands.{Stands}
use Rattle.log_image.proofs.OneChain.{one_meaning}
use Rattle.asks.specs.SharedWords.{SharedWords}
use Rattle.pmem_words.specs.declared.written.Written.{Written}
use Rattle.pmem_words.specs.Seats.{Seat}
use Rattle.log_core.specs.Origin.{Origin}
use Rattle.log_core.specs.Files.{Write as WriteOf, accepted_reply, file_after_writes, end_of}
use Rattle.log_core.specs.Cores.{Core}
use Rattle.log_core.specs.Crashes.{file_after_first}
use Rattle.log_core.specs.Needs.{touched_from}
use Rattle.log_core.specs.Runs.{IsReached}
use Rattle.log_core.specs.Starts.{IsStart}
use Rattle.log_core.proofs.crashes.Recovered.{present_words_have_all}
use Rattle.write_any.specs.Composing.{block_count, virt_at, IsWhole}
use Rattle.write_any.specs.WriteAlone.{op_at, reply_by, reply_to, write_at_end, HasAdded, IsAnswered}
use Rattle.write_any.proofs.AloneStanding.{IsFor, EndsBy}
use Rattle.write_any.proofs.Lacks.{some_bytes, touched_count}

-- the words of a core that a run reaches stand for the file after its history
pub words_have_all : (o : Origin) → IsStart o → (c : Core) → IsReached o c → Stands c.memory.now.words (file_after_first o c (length c.history)) (end_of o c.history)
words_have_all o start c reached = subst (λ (x : Core). Stands x.memory.now.words (file_after_first o x (length x.history)) (end_of o x.history)) reached.ends (present_words_have_all o reached.steps start reached.is_run)

all_file : (o : Origin) (c : Core) → file_after_first o c (length c.history) ≡ file_after_writes o.file c.history
all_file o c = ap (λ (h : List WriteOf). file_after_writes o.file h) (take_all (length c.history) c.history (omega arith))

-- a write more
one_more : (file : List ℕ) (history : List WriteOf) (w : WriteOf) → file_after_writes file (history ++ w ∷ []) ≡ file_after (file_after_writes file history) w.op (accepted_reply w.op w.at)
one_more file [] w = refl
one_more file (x ∷ history) w = one_more (file_after file x.op (accepted_reply x.op x.at)) history w

-- why a write of whole blocks is refused whatever is free: the position alone
refusal_is : (block_bytes position touched end : ℕ) (limit : Bool) → touched ≤ longest_of block_bytes → end ≤ limit_of block_bytes → (position == last_position) ≡ limit → write_refusal block_bytes position touched end ≡ (if limit then Some PositionLimit else None)
refusal_is block_bytes position touched end limit few low is =
    ap (λ (b : Bool). if b then Some (TooLong touched) else if nat_lt (limit_of block_bytes) end then Some (TooLarge end) else if position == last_position then Some PositionLimit else None) (le-ltb (longest_of block_bytes) touched few)
    ∙ (ap (λ (b : Bool). if b then Some (TooLarge end) else if position == last_position then Some PositionLimit else None) (le-ltb (limit_of block_bytes) end low)
    ∙ ap (λ (b : Bool). if b then Some PositionLimit else None) is)

answers_by : (block_bytes position offset : ℕ) (bytes : List ℕ) (reply : Reply) (limit : Bool) → 0 < length bytes → touched_from block_bytes offset bytes ≤ longest_of block_bytes → offset + length bytes ≤ limit_of block_bytes →
    (position == last_position) ≡ limit → AnswersWrite (if limit then Some PositionLimit else None) (Wrote (length bytes)) reply → AnswersPwrite block_bytes position offset bytes reply
answers_by block_bytes position offset [] reply limit some few low is answers = absurd (omega (arith, some))
answers_by block_bytes position offset (byte ∷ bytes) reply limit some few low is answers =
    subst (λ (why : Option WriteRefusal). AnswersWrite why (Wrote (length (byte ∷ bytes))) reply) (sym (refusal_is block_bytes position (touched_blocks block_bytes offset (length (byte ∷ bytes))) (offset + length (byte ∷ bytes)) limit few low is)) answers

some_there : (bytes : List ℕ) → 0 < length bytes → is_some_bytes bytes ≡ true
some_there [] some = absurd (omega (arith, some))
some_there (byte ∷ bytes) some = refl

module _ (offset : ℕ) (o : Origin) (seat number : ℕ) (s : Seat) (c0 d : Core) (start : IsStart o) (whole : IsWhole offset s) (reached : IsReached o c0) (reached_too : IsReached o d) (words : List ℕ) (file : List ℕ) (position : ℕ)
    (same : words ≡ c0.memory.now.words) (stands : Stands words file position) where
  -- the file and the position are the history's
  one : (file ≡ file_after_first o c0 (length c0.history)) × (position ≡ end_of o c0.history)
  one = (let mine = words_have_all o start c0 reached in
      let there : Stands c0.memory.now.words file position = subst (λ (l : List ℕ). Stands l file position) same stands in
      let all = one_meaning c0.memory.now.words there.0 mine.0 file (file_after_first o c0 (length c0.history)) position (end_of o c0.history) there.1 mine.1 in
      (all.1, all.2))

  file_is : file ≡ file_after_writes o.file c0.history
  file_is = one.0 ∙ all_file o c0

  pub position_is : position ≡ end_of o c0.history
  position_is = one.1

  some : 0 < length s.calling.bytes
  some = some_bytes offset s whole

  few : touched_from s.geometry.block_bytes offset s.calling.bytes ≤ longest_of s.geometry.block_bytes
  few = (let touched = touched_count offset s whole in let most = whole.few in omega (arith, touched, most))

  low : offset + length s.calling.bytes ≤ limit_of s.geometry.block_bytes
  low = (let starts = whole.starts in let bytes = whole.bytes in
      let most : (virt_at offset s + block_count s) * s.geometry.block_bytes ≤ 65536 * s.geometry.block_bytes = mul-le-mul_right s.geometry.block_bytes whole.inside in
      let split : (virt_at offset s + block_count s) * s.geometry.block_bytes ≡ virt_at offset s * s.geometry.block_bytes + block_count s * s.geometry.block_bytes = omega arith in
      omega (arith, starts, bytes, most, split))

  -- the reply at a position that is the last one, or not
  replies : (limit : Bool) (reply : Reply) → (position == last_position) ≡ limit → AnswersWrite (if limit then Some PositionLimit else None) (Wrote (length s.calling.bytes)) reply → Answers s.geometry.block_bytes position file (op_at offset s) reply
  replies limit reply is answers = answers_by s.geometry.block_bytes position offset s.calling.bytes reply limit some few low is answers

  below_limit : end_of o c0.history ≢ last_position → (position == last_position) ≡ false
  below_limit below = ne_eqb position last_position (λ last. below (sym position_is ∙ last))

  refused_replies : (why : WriteRefusal) (at : ℕ) → at ≡ end_of o c0.history → IsFor offset o seat number s c0 why at → Answers s.geometry.block_bytes position file (op_at offset s) (NotWritten why)
  refused_replies PositionLimit at same_at cause = replies true (NotWritten PositionLimit) (eq-eqb position last_position (position_is ∙ (sym same_at ∙ cause))) refl
  refused_replies (NoSpace Data) at same_at cause = replies false (NotWritten (NoSpace Data)) (below_limit (λ last. cause.0 (same_at ∙ last))) (inr (inl refl))
  refused_replies (NoSpace Log) at same_at cause = replies false (NotWritten (NoSpace Log)) (below_limit (λ last. cause.0 (same_at ∙ last))) (inr (inr refl))
  refused_replies (NoSpace Spare) at same_at cause = absurd cause
  refused_replies (TooLong blocks) at same_at cause = absurd cause
  refused_replies (TooLarge end) at same_at cause = absurd cause

  module _ (q : SharedWords) (same_too : q.words ≡ d.memory.now.words) where
    later : Stands q.words (file_after_writes o.file d.history) (end_of o d.history)
    later = subst (λ (l : List ℕ). Stands l (file_after_writes o.file d.history) (end_of o d.history)) (sym same_too)
        (subst (λ (l : List ℕ). Stands d.memory.now.words l (end_of o d.history)) (all_file o d) (words_have_all o start d reached_too))

    -- with this write more
    added_stands : HasAdded None o seat number offset s c0.history d.history → Stands q.words (file_after file (op_at offset s) (Wrote (length s.calling.bytes))) (position + 1)
    added_stands (entry, added) =
        (let w = write_at_end o seat number offset s c0.history entry in
        let end : end_of o d.history ≡ position + 1 = (let is = position_is in let long = ap (λ (h : List WriteOf). length h) added ∙ length-append c0.history (w ∷ []) in omega (arith, is, long)) in
        let now : file_after_writes o.file d.history ≡ file_after file (op_at offset s) (Wrote (length s.calling.bytes)) =
        ap (λ (h : List WriteOf). file_after_writes o.file h) added ∙ (one_more o.file c0.history w ∙ ap (λ (l : List ℕ). file_after l (op_at offset s) (Wrote (length s.calling.bytes))) (sym file_is)) in
        subst (λ (l : List ℕ). Stands q.words l (position + 1)) now (subst (λ (n : ℕ). Stands q.words (file_after_writes o.file d.history) n) end later))

    pub answered_by : (out : Written) (refusal : Option WriteRefusal) → out.refusal ≡ refusal → EndsBy offset o seat number s c0 refusal out.position d → IsAnswered offset s q out file position
    answered_by out None is x =
        (let next : position_after position (op_at offset s) (Wrote (length s.calling.bytes)) ≡ position + 1 = ap (λ (b : Bool). if b then position + 1 else position) (some_there s.calling.bytes some) in
        let reply : reply_to out s ≡ Wrote (length s.calling.bytes) = ap (λ (r : Option WriteRefusal). reply_by r (length s.calling.bytes)) is in
        record {
          answers = subst (λ (r : Reply). Answers s.geometry.block_bytes position file (op_at offset s) r) (sym reply) (replies false (Wrote (length s.calling.bytes)) (below_limit x.below) (inl refl));
          position_is = x.position_is ∙ (ap (λ (n : ℕ). n + 1) (sym position_is) ∙ (sym next ∙ ap (λ (r : Reply). position_after position (op_at offset s) r) (sym reply)));
          stands = subst (λ (r : Reply). Stands q.words (file_after file (op_at offset s) r) (position_after position (op_at offset s) r)) (sym reply)
              (subst (λ (n : ℕ). Stands q.words (file_after file (op_at offset s) (Wrote (length s.calling.bytes))) n) (sym next) (added_stands x.added));
        })
    answered_by out (Some why) is x =
        (let reply : reply_to out s ≡ NotWritten why = ap (λ (r : Option WriteRefusal). reply_by r (length s.calling.bytes)) is in
        record {
          answers = subst (λ (r : Reply). Answers s.geometry.block_bytes position file (op_at offset s) r) (sym reply) (refused_replies why out.position x.position_is x.cause);
          position_is = x.position_is ∙ (sym position_is ∙ ap (λ (r : Reply). position_after position (op_at offset s) r) (sym reply));
          stands = subst (λ (r : Reply). Stands q.words (file_after file (op_at offset s) r) (position_after position (op_at offset s) r)) (sym reply)
              (subst (λ (l : List ℕ). Stands q.words l position) (ap (λ (h : List WriteOf). file_after_writes o.file h) x.history ∙ sym file_is)
              (subst (λ (n : ℕ). Stands q.words (file_after_writes o.file d.history) n) (ap (λ (h : List WriteOf). end_of o h) x.history ∙ sym position_is) later));
        })
