-- Two runs of the same calls find the same space lacking.
use Rattle.std.proofs.Common.{◌≡◌, ◌<◌, ◌≤◌, ◌+◌, ◌==◌, ◌&&◌, ◌||◌, inl, inr, ℕ, zero, suc, Bool, List, [], ◌∷◌, length, get_or, not, Option, Some, None, if◌then◌else◌, refl, sym, ap, ◌∙◌, subst, arith}
use Rattle.std.specs.Prelude.{filter}
use Rattle.std.specs.List.{range_with_len}
use Rattle.log_entry.specs.Legal.{Legal, Answers, AnswersWrite, write_refusal, touched_blocks, appended_blocks, is_write, file_after, position_after}
use Rattle.log_entry.specs.declared.shapes.Area.{Area}
use Rattle.log_entry.specs.declared.shapes.Area.TheVariants.{Data, Log}
use Rattle.log_entry.specs.declared.calls.Call.{Call}
use Rattle.log_entry.specs.declared.calls.Op.{Op}
use Rattle.log_entry.specs.declared.calls.Op.TheVariants.{Pwrite, Append, Pread, Size, Sync, Collect}
use Rattle.log_entry.specs.declared.calls.WriteRefusal.{WriteRefusal}
use Rattle.log_entry.specs.declared.calls.Reply.{Reply}
use Rattle.log_entry.specs.declared.calls.Reply.TheVariants.{Wrote, Appended}
use Rattle.log_image.specs.Image.{Shape, total}
use Rattle.log_image.specs.Tails.{Tail, tail_of}
use Rattle.log_image.specs.Taken.{is_taken}
use Rattle.plain_engine.specs.Space.{clear_blocks, least_data, least_log, begins_run, lacks_data, is_link, lacks_log}
use Rattle.plain_engine.specs.Names.{is_in_run, is_linked, slot_chain, entry_tail, chain_after, tail_after, is_taken_after, NamesAfter}
use Rattle.plain_engine.specs.Serving.{wanted_blocks, lacking_for, refused_area, touched_by, written_blocks}
use Rattle.plain_engine.specs.Served.{IsServed, AreServed}
use Rattle.plain_engine.specs.Alike.{NameAlike, ops_of, refused_areas, RunsLackAlike}

-- two tests that agree on a range
filter_alike : (p q : ℕ → Bool) (first count : ℕ) → ((b : ℕ) → first ≤ b → b < first + count → p b ≡ q b) → filter p (range_with_len first count) ≡ filter q (range_with_len first count)
filter_alike p q first zero same = refl
filter_alike p q first (suc count) same = rw (same first (omega arith) (omega arith), filter_alike p q (first + 1) count (λ b low high. same b (omega (arith, low)) (omega (arith, high)))) refl

-- the same blocks are clear
clear_alike : (shape : Shape) (words chain other other_chain : List ℕ) (first count : ℕ) → NameAlike shape words chain other other_chain → first + count ≤ total shape → clear_blocks other shape other_chain first count ≡ clear_blocks words shape chain first count
clear_alike shape words chain other other_chain first count alike inside =
    filter_alike (λ (b : ℕ). not (is_taken other shape other_chain b)) (λ (b : ℕ). not (is_taken words shape chain b)) first count (λ b low high. ap (λ (t : Bool). not t) (alike.taken b (omega (arith, high, inside))))

data_alike : (shape : Shape) (words chain other other_chain : List ℕ) → NameAlike shape words chain other other_chain → clear_blocks other shape other_chain 1 shape.data_blocks ≡ clear_blocks words shape chain 1 shape.data_blocks
data_alike shape words chain other other_chain alike = clear_alike shape words chain other other_chain 1 shape.data_blocks alike (omega arith)

log_alike : (shape : Shape) (words chain other other_chain : List ℕ) → NameAlike shape words chain other other_chain → clear_blocks other shape other_chain (1 + shape.data_blocks) shape.log_blocks ≡ clear_blocks words shape chain (1 + shape.data_blocks) shape.log_blocks
log_alike shape words chain other other_chain alike = clear_alike shape words chain other other_chain (1 + shape.data_blocks) shape.log_blocks alike (omega arith)

-- so the same is lacking
lacking_alike : (shape : Shape) (words chain other other_chain : List ℕ) (wanted : Option ℕ) → NameAlike shape words chain other other_chain → lacking_for other shape other_chain wanted ≡ lacking_for words shape chain wanted
lacking_alike shape words chain other other_chain None alike = refl
lacking_alike shape words chain other other_chain (Some count) alike =
    ap (λ (l : List ℕ). if not (begins_run (get_or l 0 0) count l) then Some Data else if lacks_log other shape other_chain then Some Log else None) (data_alike shape words chain other other_chain alike)
    ∙ ap (λ (h : Tail). if lacks_data words shape chain count then Some Data else if is_link h && length (clear_blocks other shape other_chain (1 + shape.data_blocks) shape.log_blocks) == 0 then Some Log else None) alike.tail
    ∙ ap (λ (l : List ℕ). if lacks_data words shape chain count then Some Data else if is_link (tail_of words shape chain) && length l == 0 then Some Log else None) (log_alike shape words chain other other_chain alike)

-- and calls that write as many blocks leave chains that name alike
next_alike : (shape : Shape) (words chain other other_chain : List ℕ) (written also : Option ℕ) (new longer other_new other_longer : List ℕ) → NameAlike shape words chain other other_chain → also ≡ written → NamesAfter shape words chain written new longer → NamesAfter shape other other_chain also other_new other_longer →
    NameAlike shape new longer other_new other_longer
next_alike shape words chain other other_chain written also new longer other_new other_longer alike same one two = record {
  chain_is = two.chain_is ∙ ap (λ (w : Option ℕ). chain_after other shape other_chain w) same ∙ chains written ∙ sym one.chain_is;
  tail = two.tail ∙ ap (λ (w : Option ℕ). tail_after other shape other_chain w) same ∙ tails written ∙ sym one.tail;
  taken = λ block inside. two.taken block inside ∙ ap (λ (w : Option ℕ). is_taken_after other shape other_chain w block) same ∙ blocks written block inside ∙ sym (one.taken block inside);
}
  where
    least : least_data other shape other_chain ≡ least_data words shape chain
    least = ap (λ (l : List ℕ). get_or l 0 0) (data_alike shape words chain other other_chain alike)

    linked : least_log other shape other_chain ≡ least_log words shape chain
    linked = ap (λ (l : List ℕ). get_or l 0 0) (log_alike shape words chain other other_chain alike)

    chains : (w : Option ℕ) → chain_after other shape other_chain w ≡ chain_after words shape chain w
    chains None = alike.chain_is
    chains (Some count) =
        ap (λ (h : Tail). slot_chain h (least_log other shape other_chain) other_chain) alike.tail
        ∙ ap (λ (n : ℕ). slot_chain (tail_of words shape chain) n other_chain) linked
        ∙ ap (λ (l : List ℕ). slot_chain (tail_of words shape chain) (least_log words shape chain) l) alike.chain_is

    tails : (w : Option ℕ) → tail_after other shape other_chain w ≡ tail_after words shape chain w
    tails None = alike.tail
    tails (Some count) = ap (λ (h : Tail). entry_tail shape h (least_log other shape other_chain)) alike.tail ∙ ap (λ (n : ℕ). entry_tail shape (tail_of words shape chain) n) linked

    blocks : (w : Option ℕ) (block : ℕ) → block < total shape → is_taken_after other shape other_chain w block ≡ is_taken_after words shape chain w block
    blocks None block inside = alike.taken block inside
    blocks (Some count) block inside =
        ap (λ (b : Bool). (b || is_in_run (least_data other shape other_chain) count block) || is_linked (tail_of other shape other_chain) (least_log other shape other_chain) block) (alike.taken block inside)
        ∙ ap (λ (n : ℕ). (is_taken words shape chain block || is_in_run n count block) || is_linked (tail_of other shape other_chain) (least_log other shape other_chain) block) least
        ∙ ap (λ (h : Tail). (is_taken words shape chain block || is_in_run (least_data words shape chain) count block) || is_linked h (least_log other shape other_chain) block) alike.tail
        ∙ ap (λ (n : ℕ). (is_taken words shape chain block || is_in_run (least_data words shape chain) count block) || is_linked (tail_of words shape chain) n block) linked

-- replies to one write that say the same of space are the same
one_reply : (refusal : Option WriteRefusal) (accepted reply other : Reply) → refused_area accepted ≡ None → AnswersWrite refusal accepted reply → AnswersWrite refusal accepted other → refused_area other ≡ refused_area reply → other ≡ reply
one_reply (Some why) accepted reply other none a b same = b ∙ sym a
one_reply None accepted reply other none (inl a) (inl b) same = b ∙ sym a
one_reply None accepted reply other none (inl a) (inr (inl b)) same = (let wrong : Some Data ≡ None = sym (ap (λ (r : Reply). refused_area r) b) ∙ same ∙ ap (λ (r : Reply). refused_area r) a ∙ none in cc)
one_reply None accepted reply other none (inl a) (inr (inr b)) same = (let wrong : Some Log ≡ None = sym (ap (λ (r : Reply). refused_area r) b) ∙ same ∙ ap (λ (r : Reply). refused_area r) a ∙ none in cc)
one_reply None accepted reply other none (inr (inl a)) (inl b) same = (let wrong : Some Data ≡ None = sym (ap (λ (r : Reply). refused_area r) a) ∙ sym same ∙ ap (λ (r : Reply). refused_area r) b ∙ none in cc)
one_reply None accepted reply other none (inr (inr a)) (inl b) same = (let wrong : Some Log ≡ None = sym (ap (λ (r : Reply). refused_area r) a) ∙ sym same ∙ ap (λ (r : Reply). refused_area r) b ∙ none in cc)
one_reply None accepted reply other none (inr (inl a)) (inr (inl b)) same = b ∙ sym a
one_reply None accepted reply other none (inr (inr a)) (inr (inr b)) same = b ∙ sym a
one_reply None accepted reply other none (inr (inl a)) (inr (inr b)) same = (let wrong : Some Data ≡ Some Log = sym (ap (λ (r : Reply). refused_area r) a) ∙ sym same ∙ ap (λ (r : Reply). refused_area r) b in cc)
one_reply None accepted reply other none (inr (inr a)) (inr (inl b)) same = (let wrong : Some Data ≡ Some Log = sym (ap (λ (r : Reply). refused_area r) b) ∙ same ∙ ap (λ (r : Reply). refused_area r) a in cc)

-- then the file goes on alike, and both or none are writes
after_alike : (block_bytes position : ℕ) (file : List ℕ) (op : Op) (reply other : Reply) → Answers block_bytes position file op reply → Answers block_bytes position file op other → refused_area other ≡ refused_area reply → (file_after file op other ≡ file_after file op reply) × (is_write op other ≡ is_write op reply)
after_alike block_bytes position file (Pwrite offset []) reply other a b same = (let one : other ≡ reply = b ∙ sym a in (ap (λ (r : Reply). file_after file (Pwrite offset []) r) one, ap (λ (r : Reply). is_write (Pwrite offset []) r) one))
after_alike block_bytes position file (Pwrite offset (byte ∷ bytes)) reply other a b same =
    let one : other ≡ reply = one_reply (write_refusal block_bytes position (touched_blocks block_bytes offset (length (byte ∷ bytes))) (offset + length (byte ∷ bytes))) (Wrote (length (byte ∷ bytes))) reply other refl a b same in
    (ap (λ (r : Reply). file_after file (Pwrite offset (byte ∷ bytes)) r) one, ap (λ (r : Reply). is_write (Pwrite offset (byte ∷ bytes)) r) one)
after_alike block_bytes position file (Append []) reply other a b same = (let one : other ≡ reply = b ∙ sym a in (ap (λ (r : Reply). file_after file (Append []) r) one, ap (λ (r : Reply). is_write (Append []) r) one))
after_alike block_bytes position file (Append (byte ∷ bytes)) reply other a b same =
    let one : other ≡ reply = one_reply (write_refusal block_bytes position (appended_blocks block_bytes (length (byte ∷ bytes))) (length file + length (byte ∷ bytes))) (Appended (length file) (length (byte ∷ bytes))) reply other refl a b same in
    (ap (λ (r : Reply). file_after file (Append (byte ∷ bytes)) r) one, ap (λ (r : Reply). is_write (Append (byte ∷ bytes)) r) one)
after_alike block_bytes position file (Pread offset count) reply other a b same = (refl, refl)
after_alike block_bytes position file Size reply other a b same = (refl, refl)
after_alike block_bytes position file Sync reply other a b same = (refl, refl)
after_alike block_bytes position file Collect reply other a b same = (refl, refl)

-- one call of each run
record Step (shape : Shape) (words chain other other_chain file : List ℕ) (position : ℕ) (call also : Call) (new longer other_new other_longer : List ℕ) : Type 0 where
  area : refused_area also.reply ≡ refused_area call.reply
  same_file : file_after file also.op also.reply ≡ file_after file call.op call.reply
  same_place : position_after position also.op also.reply ≡ position_after position call.op call.reply
  alike : NameAlike shape new longer other_new other_longer

step_alike : (shape : Shape) (words chain other other_chain file : List ℕ) (position : ℕ) (call also : Call) (new longer other_new other_longer : List ℕ) → NameAlike shape words chain other other_chain → also.op ≡ call.op → Answers shape.block_bytes position file call.op call.reply → Answers shape.block_bytes position file also.op also.reply →
    IsServed shape words chain file position call new longer → IsServed shape other other_chain file position also other_new other_longer → Step shape words chain other other_chain file position call also new longer other_new other_longer
step_alike shape words chain other other_chain file position call also new longer other_new other_longer alike same answers other_answers served other_served =
    let area : refused_area also.reply ≡ refused_area call.reply =
    other_served.space ∙ ap (λ (op : Op). lacking_for other shape other_chain (wanted_blocks shape.block_bytes position file op)) same
    ∙ lacking_alike shape words chain other other_chain (wanted_blocks shape.block_bytes position file call.op) alike ∙ sym served.space in
    let after : (file_after file call.op also.reply ≡ file_after file call.op call.reply) × (is_write call.op also.reply ≡ is_write call.op call.reply) =
    after_alike shape.block_bytes position file call.op call.reply also.reply answers (subst (λ (op : Op). Answers shape.block_bytes position file op also.reply) same other_answers) area in
    let writes : is_write also.op also.reply ≡ is_write call.op call.reply = ap (λ (op : Op). is_write op also.reply) same ∙ after.1 in
    record {
      area = area;
      same_file = ap (λ (op : Op). file_after file op also.reply) same ∙ after.0;
      same_place = ap (λ (b : Bool). if b then position + 1 else position) writes;
      alike = next_alike shape words chain other other_chain (written_blocks shape.block_bytes file call.op call.reply) (written_blocks shape.block_bytes file also.op also.reply) new longer other_new other_longer alike
          (ap (λ (b : Bool). if b then Some (touched_by shape.block_bytes file also.op) else None) writes ∙ ap (λ (op : Op). if is_write call.op call.reply then Some (touched_by shape.block_bytes file op) else None) same)
          served.names other_served.names;
    }

-- all of them
pub runs_lack_alike : RunsLackAlike
runs_lack_alike shape words chain other other_chain file position [] [] last last_chain other_last other_last_chain alike ops legal other_legal served other_served = (
  refl,
  subst (λ (l : List ℕ). NameAlike shape l last_chain other_last other_last_chain) served.0 (subst (λ (l : List ℕ). NameAlike shape words l other_last other_last_chain) served.1
      (subst (λ (l : List ℕ). NameAlike shape words chain l other_last_chain) other_served.0 (subst (λ (l : List ℕ). NameAlike shape words chain other l) other_served.1 alike))),
)
runs_lack_alike shape words chain other other_chain file position [] (also ∷ others) last last_chain other_last other_last_chain alike ops legal other_legal served other_served = cc
runs_lack_alike shape words chain other other_chain file position (call ∷ calls) [] last last_chain other_last other_last_chain alike ops legal other_legal served other_served = cc
runs_lack_alike shape words chain other other_chain file position (call ∷ calls) (also ∷ others) last last_chain other_last other_last_chain alike ops legal other_legal served other_served =
    let same : also.op ≡ call.op = cc in
    let more : ops_of others ≡ ops_of calls = cc in
    let step : Step shape words chain other other_chain file position call also served.0 served.1 other_served.0 other_served.1 =
    step_alike shape words chain other other_chain file position call also served.0 served.1 other_served.0 other_served.1 alike same legal.0 other_legal.0 served.2 other_served.2 in
    let rest : (refused_areas others ≡ refused_areas calls) × NameAlike shape last last_chain other_last other_last_chain =
    runs_lack_alike shape served.0 served.1 other_served.0 other_served.1 (file_after file call.op call.reply) (position_after position call.op call.reply) calls others last last_chain other_last other_last_chain step.alike more legal.2
    (subst (λ (l : List ℕ). Legal shape.block_bytes l (position_after position call.op call.reply) others) step.same_file (subst (λ (n : ℕ). Legal shape.block_bytes (file_after file also.op also.reply) n others) step.same_place other_legal.2)) served.3
    (subst (λ (l : List ℕ). AreServed shape other_served.0 other_served.1 l (position_after position call.op call.reply) others other_last other_last_chain) step.same_file
    (subst (λ (n : ℕ). AreServed shape other_served.0 other_served.1 (file_after file also.op also.reply) n others other_last other_last_chain) step.same_place other_served.3)) in
    (ap (λ (a : Option Area). a ∷ refused_areas others) step.area ∙ ap (λ (l : List (Option Area)). refused_area call.reply ∷ l) rest.0, rest.1)
