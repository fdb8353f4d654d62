-- The stage of a write that fills its log block is lawful.
use Rattle.std.proofs.Common.{◌≡◌, ℕ, ◌*◌, true, false, List, [], ◌∷◌, ◌++◌, length, refl, sym, ap, subst, ◌∙◌}
use Rattle.std.proofs.lemmas.List.{length-map}
use Rattle.log_entry.specs.declared.shapes.Area.TheVariants.{Log}
use Rattle.log_image.specs.Image.{Shape, is_in_log}
use Rattle.log_image.specs.Chains.{all_different}
use Rattle.pmem_words.specs.Owned.{with_filled, with_fenced, fenced_all}
use Rattle.pmem_words.specs.declared.owned.OwnedBlock.{OwnedBlock}
use Rattle.pmem_words.specs.Seats.{Seat}
use Rattle.log_core.specs.Views.{Ghost}
use Rattle.log_core.specs.Origin.{Origin}
use Rattle.log_core.specs.Works.{words_of, seat_shape}
use Rattle.log_core.specs.Needs.{owned_numbers}
use Rattle.log_core.specs.Steps.{content_from}
use Rattle.log_core.specs.May.{is_fenced}
use Rattle.log_core.specs.Within.{no_record, Lawful}
use Rattle.log_core.proofs.machines.Entering.{enters_same}
use Rattle.log_core.proofs.machines.MachineLaws.{HasBegun, has_begun, lawful_stage}
use Rattle.block_bitmap.specs.declared.fill.Fill.{Fill}
use Rattle.block_bitmap.specs.FillWithin.{IsFilled}
use Rattle.block_bitmap.specs.Filled.{filled_seat}
use Rattle.block_bitmap.proofs.FilledSeats.{filled_contents}
use Rattle.log_blocks.specs.Growing.{grow_of}
use Rattle.log_blocks.specs.PutWithin.{MayGrow}
use Rattle.log_blocks.proofs.GrowWithin.{grow_law}
use Rattle.write_any.specs.declared.stage.Target.TheVariants.{At}
use Rattle.write_any.specs.declared.stage.Stage.TheVariants.{FillingLog, Growing}
use Rattle.write_any.specs.Composing.{last_place, last_block}
use Rattle.write_any.specs.Writing.{at_stage, write_script}
use Rattle.write_any.specs.WriteWithin.{MayWrite, HasWritten}
use Rattle.write_any.proofs.Composed.{bare}
use Rattle.write_any.proofs.Embedding.{at_fill_log}
use Rattle.write_any.proofs.FillStage.{still_writing, still_here}
use Rattle.write_any.proofs.FirstStages.{free_so}
use Rattle.write_any.proofs.LastLog.{behind, last_is, block_is, has_last}
use Rattle.write_any.proofs.LastBlock.{numbers_join, apart_front}
use Rattle.write_any.proofs.LogBehind.{filled_last, fenced_last, fenced_behind, content_last, last_fenced}
use Rattle.write_any.proofs.Marks.{filled_seat_bare}
use Rattle.write_any.proofs.PartLaws.{HasSameCall, filling_law}
use Rattle.write_any.proofs.RoundFalls.{filling_log_falls}
use Rattle.write_any.proofs.WriteStanding.{unmarked, log_content, OwnsLogBlock, BeforeFillLog, BeforeGrow, WriteStands, StageStands}

module _ (offset : ℕ) (o : Origin) (seat : ℕ) (s0 : Seat) (g0 : Ghost) (may : MayWrite offset o seat s0 g0) where
  -- a filled log block may be linked
  module _ (block : ℕ) (t : Seat) (h : Ghost) (before : BeforeGrow offset o seat s0 g0 block t h) where
    abbrev owns : OwnsLogBlock offset o seat s0 g0 block t
    owns = before.before.owns

    abbrev log : OwnedBlock
    log = behind offset o seat s0 g0 may block t owns

    wide : words_of t ≡ words_of s0
    wide = ap words_of before.before.writing.rest

    pub may_grow : MayGrow block o seat t h
    may_grow = record {
      valid = before.before.here.valid;
      ready = before.before.here.ready;
      at_end = before.before.at_end;
      free = free_so offset o seat s0 g0 may t h before.before.writing;
      none_kept = before.before.here.none_kept;
      owned = ap (λ (l : List OwnedBlock). is_fenced l block) owns.is ∙ last_fenced owns.owned log before.fenced;
      in_log = subst (λ (image : Shape). is_in_log image block ≡ true) (sym (ap seat_shape before.before.writing.rest)) owns.in_log;
      content = ap (λ (l : List OwnedBlock). content_from (words_of t) block l t.blocks.contents) owns.is
          ∙ (ap (λ (l : List ℕ). content_from (words_of t) block (owns.owned ++ log ∷ []) l) owns.contents_are
          ∙ (content_last (words_of t) owns.owned log owns.contents owns.words (apart_front owns.owned log (sym (ap (λ (l : List OwnedBlock). all_different (owned_numbers l)) owns.is) ∙ owns.once))
          (owns.written.composed.long ∙ (ap (λ (n : ℕ). n * words_of s0) (length-map owns.owned unmarked) ∙ ap (λ (n : ℕ). length owns.owned * n) (sym wide))) (owns.long ∙ sym wide)
          ∙ before.before.content));
    }

  module _ (block place : ℕ) (start : Seat) (ghost : Ghost) (t : Seat) (h : Ghost) (before : BeforeFillLog offset o seat s0 g0 block start ghost) (at : last_place start ≡ place) (left : IsFilled place 1 start tt t h) (call : HasSameCall ghost h) where
    abbrev had : OwnsLogBlock offset o seat s0 g0 block start
    had = before.owns

    abbrev last : OwnedBlock
    last = behind offset o seat s0 g0 may block start had

    same_bare : bare t ≡ bare start
    same_bare = ap bare left.seat ∙ filled_seat_bare start place 1

    place_is : place ≡ length had.owned
    place_is = sym at ∙ last_is offset o seat s0 g0 may block start had

    abbrev new : OwnedBlock
    new = record { block = block; area = Log; filled = true; fenced = true }

    owned_now : t.blocks.owned ≡ had.owned ++ new ∷ []
    owned_now = ap (λ (u : Seat). u.blocks.owned) left.seat
        ∙ (ap (λ (k : ℕ). (filled_seat start k 1).blocks.owned) place_is
        ∙ (ap (λ (l : List OwnedBlock). fenced_all (with_filled (with_fenced (with_filled l (length had.owned) false) (length had.owned) false) (length had.owned) true)) had.is
        ∙ (ap (λ (l : List OwnedBlock). fenced_all (with_filled (with_fenced l (length had.owned) false) (length had.owned) true)) (filled_last had.owned last false)
        ∙ (ap (λ (l : List OwnedBlock). fenced_all (with_filled l (length had.owned) true)) (fenced_last had.owned (record last { filled = false }) false)
        ∙ (ap (λ (l : List OwnedBlock). fenced_all l) (filled_last had.owned (record last { filled = false; fenced = false }) true)
        ∙ fenced_behind had.owned (record last { filled = true; fenced = false }) had.written.fenced)))))

    contents_now : t.blocks.contents ≡ had.contents ++ had.words
    contents_now = ap (λ (u : Seat). u.blocks.contents) left.seat ∙ (filled_contents start place 1 ∙ had.contents_are)

    pub before_grow : BeforeGrow offset o seat s0 g0 block t h
    before_grow = record {
      before = record {
        writing = still_writing offset o seat s0 g0 start ghost t h same_bare call.call before.writing left.no_marks;
        here = still_here offset o seat s0 g0 start ghost t h same_bare call.call before.here;
        owns = record {
          owned = had.owned;
          contents = had.contents;
          words = had.words;
          written = had.written;
          filled = true;
          fenced = true;
          is = owned_now;
          contents_are = contents_now;
          long = had.long;
          once = ap (λ (l : List OwnedBlock). all_different (owned_numbers l)) owned_now
              ∙ (ap all_different (numbers_join had.owned new ∙ sym (numbers_join had.owned last)) ∙ (sym (ap (λ (l : List OwnedBlock). all_different (owned_numbers l)) had.is) ∙ had.once));
          in_log = had.in_log;
        };
        at_end = ap (λ (u : Seat). u.walk.tail_slot) same_bare ∙ (before.at_end ∙ sym (ap words_of same_bare));
        content = before.content ∙ sym (ap log_content same_bare);
      };
      fenced = refl;
    }

    pub grows : StageStands offset o seat s0 g0 (Growing (grow_of (last_block t))) t h
    grows = subst (λ (b : ℕ). StageStands offset o seat s0 g0 (Growing (grow_of b)) t h) (sym (block_is offset o seat s0 g0 may block t before_grow.before.owns))
        (block, has_begun (grow_law block) o seat (BeforeGrow offset o seat s0 g0 block) t h before_grow (may_grow block t h before_grow))

  pub fill_log_stage : (block place : ℕ) (p : Fill) (s : Seat) (g : Ghost) → HasBegun (filling_law place 1) o seat (λ t h. BeforeFillLog offset o seat s0 g0 block t h × (last_place t ≡ place)) p s g →
      Lawful o seat write_script no_record (WriteStands offset o seat s0 g0) (HasWritten offset o seat s0 g0) (at_stage (At offset) (FillingLog p)) s g
  fill_log_stage block place = lawful_stage o seat no_record (WriteStands offset o seat s0 g0) (HasWritten offset o seat s0 g0) (filling_law place 1) (λ t h. BeforeFillLog offset o seat s0 g0 block t h × (last_place t ≡ place)) (at_fill_log (At offset))
      (λ p t a admits. admits.part)
      (λ p t h a at told admits. record {
        part = admits;
        joint = λ done. (let left = told.ends tt done in has_last offset o seat s0 g0 may block _ (before_grow block place at.start at.ghost _ _ at.before.0 at.before.1 left.0 left.1).before.owns);
        falls = filling_log_falls (At offset) p t a admits;
      })
      (λ p t h at. (refl, (block, place, at)))
      (λ start ghost out t h before may' left. (enters_same h t t refl, (refl, grows block place start ghost t h before.0 before.1 left.0 left.1)))
