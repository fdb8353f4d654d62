-- The stage of a write that takes a log block at a block's end is lawful.
use Rattle.std.proofs.Common.{◌≡◌, inr, ℕ, zero, suc, ◌+◌, ◌-◌, ◌*◌, ◌^◌, ◌<◌, ◌≤◌, ◌==◌, nat_lt, nat_le, true, false, List, [], ◌∷◌, ◌++◌, length, length-append, map, replicate, slice_index, slice_set, Some, refl, sym, ap, subst, ◌∙◌, arith}
use Rattle.std.proofs.lemmas.Bool.{and_parts, and_from, leb-true, lt-ltb, or_left, eq-eqb}
use Rattle.std.proofs.lemmas.List.{length-map, length-replicate}
use Rattle.log_entry.specs.declared.shapes.Area.{Area}
use Rattle.log_entry.specs.declared.shapes.Area.TheVariants.{Log}
use Rattle.log_entry.specs.declared.calls.WriteRefusal.TheVariants.{NoSpace as RefusesSpace}
use Rattle.log_entry.specs.Words.{block_word}
use Rattle.log_entry.specs.declared.words.BlockKind.TheVariants.{Log as LogKind}
use Rattle.log_image.specs.Image.{Shape, is_in_log, total}
use Rattle.log_image.specs.Chains.{all_different, is_listed}
use Rattle.pmem_words.specs.Owned.{with_filled, with_fenced}
use Rattle.pmem_words.specs.declared.owned.OwnedBlock.{OwnedBlock}
use Rattle.pmem_words.specs.Seats.{Seat}
use Rattle.log_core.specs.Views.{Ghost, MarkedWord}
use Rattle.log_core.specs.Origin.{Origin}
use Rattle.log_core.specs.Works.{SetsWord, MaySetWord, words_of, seat_shape}
use Rattle.log_core.specs.Needs.{is_in_area, owned_numbers}
use Rattle.log_core.specs.Steps.{is_head_marked}
use Rattle.log_core.specs.Within.{no_record, Lawful, FitsNext}
use Rattle.log_core.proofs.BlockWords.{q_range}
use Rattle.log_core.proofs.machines.Entering.{enters_same, enters_works}
use Rattle.log_core.proofs.machines.MachineLaws.{HasBegun, has_begun, lawful_stage}
use Rattle.pins.proofs.PinWithin.{unpin_law}
use Rattle.block_bitmap.specs.declared.take.Take.{Take}
use Rattle.block_bitmap.specs.declared.take.Taken.{Taken}
use Rattle.block_bitmap.specs.declared.take.Taken.TheVariants.{Taken as HasTaken, NoSpace}
use Rattle.block_bitmap.specs.Filling.{fill_of}
use Rattle.block_bitmap.specs.TakeScript.{fresh}
use Rattle.block_bitmap.specs.TakeWithin.{HasTakenBlocks}
use Rattle.block_bitmap.specs.FillWithin.{MayFill}
use Rattle.write_any.specs.declared.stage.Target.TheVariants.{At}
use Rattle.write_any.specs.declared.stage.Stage.TheVariants.{TakingLog, FillingLog}
use Rattle.write_any.specs.Composing.{last_place, log_composed}
use Rattle.write_any.specs.Writing.{HasLogBlock, at_stage, taken_log_so, write_script}
use Rattle.write_any.specs.WriteWithin.{MayWrite, HasWritten}
use Rattle.write_any.proofs.Embedding.{at_take_log}
use Rattle.write_any.proofs.EndStages.{may_pin}
use Rattle.write_any.proofs.FirstStages.{written_many, few_count}
use Rattle.write_any.proofs.LogBehind.{filled_last, fenced_last, second_set, small_behind}
use Rattle.write_any.proofs.PartLaws.{HasSamePut, filling_law}
use Rattle.write_any.proofs.LimitLaw.{taking_log_law}
use Rattle.write_any.proofs.RoundFalls.{taking_log_falls}
use Rattle.write_any.proofs.TakeEnds.{taken_writing, taken_here, lacked_ends}
use Rattle.write_any.proofs.WriteStanding.{unmarked, log_content, IsHere, IsWriting, IsEnding, OwnsLogBlock, AtEnd, BeforeFillLog, WriteStands, StageStands}

-- one block, where a list has one
single : (l : List ℕ) → length l ≡ 1 → l ≡ slice_index l 0 ∷ []
single [] one = absurd (omega (arith, one))
single (x ∷ []) one = refl
single (x ∷ y ∷ l) one = absurd (omega (arith, one))

-- a block of the log area
in_log_area : (image : Shape) (block : ℕ) → is_in_area image Log block ≡ true → is_in_log image block ≡ true
in_log_area image block is = (let parts = and_parts (nat_lt image.data_blocks block) (nat_le block (image.data_blocks + image.log_blocks)) is in
    let low = leb-true block (image.data_blocks + image.log_blocks) parts.1 in
    and_from (nat_lt image.data_blocks block) (nat_lt block (total image)) parts.0 (lt-ltb block (total image) (omega (arith, low))))

zeros : (n k : ℕ) → slice_index (replicate n 0) k ≡ 0
zeros zero k = refl
zeros (suc n) zero = refl
zeros (suc n) (suc k) = zeros n k

module _ (offset : ℕ) (o : Origin) (seat : ℕ) (s0 : Seat) (g0 : Ghost) (may : MayWrite offset o seat s0 g0) where
  module _ (start : Seat) (ghost : Ghost) (t : Seat) (h : Ghost) (before : AtEnd offset o seat s0 g0 start ghost) (left : HasTakenBlocks Log 1 o seat start ghost HasTaken t h) (same : HasSamePut ghost h)
      (limit : t.walk.position < 2 ^ 40) where
    abbrev blocks : List ℕ
    blocks = left.ended.blocks

    abbrev pub block : ℕ
    block = slice_index blocks 0

    one : length blocks ≡ 1
    one = left.ended.taken refl

    blocks_are : blocks ≡ block ∷ []
    blocks_are = single blocks one

    wide : words_of start ≡ words_of s0
    wide = ap words_of before.writing.rest

    wide_now : words_of t ≡ words_of start
    wide_now = ap words_of left.ended.grown.seat

    owned_now : t.blocks.owned ≡ start.blocks.owned ++ fresh Log block ∷ []
    owned_now = ap (λ (u : Seat). u.blocks.owned) left.ended.grown.seat ∙ ap (λ (l : List ℕ). start.blocks.owned ++ map (fresh Log) l) blocks_are

    contents_now : t.blocks.contents ≡ start.blocks.contents ++ replicate (words_of t) 0
    contents_now = ap (λ (u : Seat). u.blocks.contents) left.ended.grown.seat
        ∙ (ap (λ (l : List ℕ). start.blocks.contents ++ replicate (length l * words_of start) 0) blocks_are
        ∙ ap (λ (n : ℕ). start.blocks.contents ++ replicate n 0) (let same = wide_now in let product : 1 * words_of start ≡ words_of t = omega (arith, same) in product))

    long : length start.blocks.contents ≡ length start.blocks.owned * words_of t
    long = before.owns.written.composed.long ∙ (ap (λ (n : ℕ). n * words_of s0) (length-map start.blocks.owned unmarked) ∙ ap (λ (n : ℕ). length start.blocks.owned * n) (sym (wide_now ∙ wide)))

    last_is : last_place t ≡ length start.blocks.owned
    last_is = (let many = ap (λ (l : List OwnedBlock). length l) owned_now in let all = length-append start.blocks.owned (fresh Log block ∷ []) in omega (arith, many, all))

    enough : 2 ≤ words_of t
    enough = (let range = (q_range t.geometry).0 in omega (arith, range))

    -- its content is set
    log_owned : (log_composed t).blocks.owned ≡ start.blocks.owned ++ fresh Log block ∷ []
    log_owned = ap (λ (k : ℕ). with_fenced (with_filled t.blocks.owned k false) k false) last_is
        ∙ (ap (λ (l : List OwnedBlock). with_fenced (with_filled l (length start.blocks.owned) false) (length start.blocks.owned) false) owned_now
        ∙ (ap (λ (l : List OwnedBlock). with_fenced l (length start.blocks.owned) false) (filled_last start.blocks.owned (fresh Log block) false)
        ∙ fenced_last start.blocks.owned (fresh Log block) false))

    abbrev word : ℕ
    word = block_word (record { kind = LogKind; base = t.walk.position })

    log_contents : (log_composed t).blocks.contents ≡ start.blocks.contents ++ log_content (log_composed t)
    log_contents = ap (λ (k : ℕ). slice_set t.blocks.contents (k * words_of t + 1) word) last_is
        ∙ (ap (λ (k : ℕ). slice_set t.blocks.contents (k + 1) word) (sym long)
        ∙ (ap (λ (l : List ℕ). slice_set l (length start.blocks.contents + 1) word) contents_now
        ∙ second_set start.blocks.contents (words_of t) word enough))

    few : length t.blocks.owned < 2 ^ 16
    few = (let many = ap (λ (l : List OwnedBlock). length l) owned_now in let all = length-append start.blocks.owned (fresh Log block ∷ []) in
        let most = (written_many offset o seat s0 g0 may start before.owns).1 in let count = few_count offset o seat s0 g0 may in omega (arith, many, all, most, count))

    some : 0 < length t.blocks.owned
    some = (let many = ap (λ (l : List OwnedBlock). length l) owned_now in let all = length-append start.blocks.owned (fresh Log block ∷ []) in omega (arith, many, all))

    pub has_log_block : HasLogBlock t
    has_log_block = record { last = record { some = some; few = few }; inside = limit }

    abbrev now : IsWriting offset o seat s0 g0 t h
    now = taken_writing offset o seat s0 g0 Log 1 start ghost HasTaken t h before.writing before.here left same

    abbrev here : IsHere t
    here = taken_here offset o seat s0 g0 Log 1 start ghost HasTaken t h before.writing before.here left same

    log_behind : OwnsLogBlock offset o seat s0 g0 block (log_composed t)
    log_behind = record {
      owned = start.blocks.owned;
      contents = start.blocks.contents;
      words = log_content (log_composed t);
      written = before.owns.written;
      filled = false;
      fenced = false;
      is = log_owned;
      contents_are = log_contents;
      long = (let zeros = length-replicate {A = ℕ} (words_of t - 2) 0 in let many = enough in let width : words_of t ≡ words_of s0 = wide_now ∙ wide in omega (arith, zeros, many, width));
      once = ap (λ (l : List OwnedBlock). all_different (owned_numbers l)) (log_owned ∙ sym owned_now) ∙ left.ended.once;
      in_log = subst (λ (image : Shape). is_in_log image block ≡ true) (ap seat_shape now.rest)
          (in_log_area (seat_shape t) block (left.ended.grown.in_area block (ap (λ (l : List ℕ). is_listed l block) blocks_are ∙ or_left (block == block) false (eq-eqb block block refl))));
    }

    pub before_fill_log : BeforeFillLog offset o seat s0 g0 block (log_composed t) h
    unfolding log_behind
    before_fill_log = record {
      writing = record { rest = now.rest; not_won = now.not_won; no_bases = now.no_bases; no_marks = now.no_marks; number = now.number; no_head = now.no_head };
      here = record { valid = here.valid; ready = here.ready; at_tail = here.at_tail; none_kept = here.none_kept; below = here.below };
      owns = log_behind;
      at_end = ap (λ (u : Seat). u.walk.tail_slot) left.ended.grown.seat ∙ (before.at_end ∙ sym wide_now);
      content = refl;
    }

    -- so it may be set, and filled
    word_small : word < 2 ^ 64
    word_small = (let low = limit in omega (arith, low))

    small_words : (k : ℕ) → slice_index (log_content (log_composed t)) k < 2 ^ 64
    small_words zero = omega arith
    small_words (suc zero) = word_small
    small_words (suc (suc k)) = (let none = zeros (words_of t - 2) k in omega (arith, none))

    pub may_set : MaySetWord t (last_place t) 1 word
    may_set = record { owned = (let many = some in omega (arith, many)); inside = (let range = enough in omega (arith, range)); small = word_small }

    log_long : length (log_composed t).blocks.owned ≡ length t.blocks.owned
    log_long = ap (λ (l : List OwnedBlock). length l) (log_owned ∙ sym owned_now)

    pub same_place : last_place (log_composed t) ≡ last_place t
    same_place = ap (λ (n : ℕ). n - 1) log_long

    pub may_fill : MayFill (last_place t) 1 (log_composed t) h
    may_fill = record {
      some = omega arith;
      owned = (let many = some in let all = log_long in omega (arith, many, all));
      calm = record {
        no_sync = λ sync. (let job = sym (ap (λ (u : Seat). u.calling.job) now.rest ∙ may.job) ∙ sync in cc);
        no_head = λ marked. (let both : true ≡ false = sym marked ∙ ap (λ (marks : List MarkedWord). is_head_marked t.giving.replaced_generation marks) now.no_marks in cc);
        small = λ k. subst (λ (l : List ℕ). slice_index l k < 2 ^ 64) (sym log_contents) (small_behind start.blocks.contents (log_content (log_composed t)) before.owns.written.composed.small small_words k);
      };
    }

    pub fills : StageStands offset o seat s0 g0 (FillingLog (fill_of (last_place t) 1)) (log_composed t) h
    fills = (
      block,
      last_place t,
      has_begun (filling_law (last_place t) 1) o seat (λ u i. BeforeFillLog offset o seat s0 g0 block u i × (last_place u ≡ last_place t)) (log_composed t) h (before_fill_log, same_place) may_fill,
    )

  -- too few are free
  few_left : (start : Seat) (ghost : Ghost) (other : Area) (t : Seat) (h : Ghost) → AtEnd offset o seat s0 g0 start ghost → HasTakenBlocks Log 1 o seat start ghost (NoSpace other) t h → length t.blocks.owned < 2 ^ 17
  few_left start ghost other t h before left =
      (let many = ap (λ (u : Seat). length u.blocks.owned) left.ended.grown.seat in
      let all = length-append start.blocks.owned (map (fresh Log) left.ended.blocks) in
      let fewer = length-map left.ended.blocks (fresh Log) in
      let none = (left.ended.no_space other refl).1 in
      let most = (written_many offset o seat s0 g0 may start before.owns).1 in
      let count = few_count offset o seat s0 g0 may in
      omega (arith, many, all, fewer, none, most, count))

  taken_log_fits : (start : Seat) (ghost : Ghost) (out : Taken) (t : Seat) (h : Ghost) → AtEnd offset o seat s0 g0 start ghost → (HasTakenBlocks Log 1 o seat start ghost out t h × HasSamePut ghost h) × (t.walk.position < 2 ^ 40) →
      FitsNext no_record (WriteStands offset o seat s0 g0) (HasWritten offset o seat s0 g0) t h (taken_log_so (At offset) out t)
  taken_log_fits start ghost HasTaken t h before left = (
    enters_works h t (SetsWord (last_place t) 1 (word start ghost t h before left.0.0 left.0.1 left.1) ∷ []) (may_set start ghost t h before left.0.0 left.0.1 left.1, tt) refl,
    (refl, fills start ghost t h before left.0.0 left.0.1 left.1),
  )
  taken_log_fits start ghost (NoSpace other) t h before left =
      (let now = taken_writing offset o seat s0 g0 Log 1 start ghost (NoSpace other) t h before.writing before.here left.0.0 left.0.1 in (
        enters_same h t t refl,
        (
          refl,
          has_begun unpin_law o seat (IsEnding offset o seat s0 g0 (Some (RefusesSpace other))) t h
              (lacked_ends offset o seat s0 g0 Log 1 start ghost (NoSpace other) t h before.writing before.here left.0.0 left.0.1 other refl (inr refl) (few_left start ghost other t h before left.0.0))
              (may_pin offset o seat s0 g0 may t h now.rest),
        ),
      ))

  pub take_log_stage : (p : Take) (s : Seat) (g : Ghost) → HasBegun taking_log_law o seat (AtEnd offset o seat s0 g0) p s g →
      Lawful o seat write_script no_record (WriteStands offset o seat s0 g0) (HasWritten offset o seat s0 g0) (at_stage (At offset) (TakingLog p)) s g
  take_log_stage = lawful_stage o seat no_record (WriteStands offset o seat s0 g0) (HasWritten offset o seat s0 g0) taking_log_law (AtEnd offset o seat s0 g0) (at_take_log (At offset))
      (λ p t a admits. admits.part)
      (λ p t h a at told admits. record {
        part = admits;
        joint = λ done. (let left = told.ends HasTaken done in has_log_block at.start at.ghost _ _ at.before left.0.0 left.0.1 left.1);
        falls = taking_log_falls (At offset) p t a admits;
      })
      (λ p t h at. (refl, at))
      (λ start ghost out t h before may' left. taken_log_fits start ghost out t h before left)
