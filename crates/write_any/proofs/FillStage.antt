-- The stage of a write that fills its blocks is lawful.
use Rattle.std.proofs.Common.{◌≡◌, ℕ, ◌==◌, List, [], length, refl, sym, ap, subst, ◌∙◌, arith}
use Rattle.log_entry.specs.declared.shapes.Area.TheVariants.{Data, Log}
use Rattle.pmem_words.specs.declared.owned.OwnedBlock.{OwnedBlock}
use Rattle.pmem_words.specs.Seats.{Seat}
use Rattle.log_core.specs.Views.{Ghost, RunningCall}
use Rattle.log_core.specs.Origin.{Origin}
use Rattle.log_core.specs.Works.{words_of}
use Rattle.log_core.specs.Within.{no_record, Lawful}
use Rattle.log_core.proofs.machines.Entering.{enters_same}
use Rattle.log_core.proofs.machines.MachineLaws.{HasBegun, lawful_stage}
use Rattle.block_bitmap.specs.declared.fill.Fill.{Fill}
use Rattle.block_bitmap.specs.TakeWithin.{MayLack}
use Rattle.block_bitmap.specs.FillWithin.{IsFilled}
use Rattle.block_bitmap.proofs.FilledSeats.{filled_contents, fenced_many}
use Rattle.log_blocks.specs.PutWithin.{MayOffer}
use Rattle.write_any.specs.declared.stage.Target.TheVariants.{At}
use Rattle.write_any.specs.declared.stage.Stage.TheVariants.{Filling}
use Rattle.write_any.specs.Composing.{block_count, entry_for}
use Rattle.write_any.specs.Writing.{at_stage, write_script}
use Rattle.write_any.specs.WriteWithin.{MayWrite, HasWritten, unwritten}
use Rattle.write_any.proofs.Composed.{bare}
use Rattle.write_any.proofs.Embedding.{at_fill}
use Rattle.write_any.proofs.PartLaws.{HasSameCall, filling_law}
use Rattle.write_any.proofs.RoundFalls.{filling_falls}
use Rattle.write_any.proofs.Marks.{filled_seat_marks, filled_seat_bare}
use Rattle.write_any.proofs.FirstStages.{has_blocks, tail_fits}
use Rattle.write_any.proofs.WriteStanding.{unmarked_all, IsHere, IsWriting, AreComposed, OwnsWritten, BeforeTake, BeforeFill, AtEnd, AtSlot, WriteStands}

module _ (offset : ℕ) (o : Origin) (seat : ℕ) (s0 : Seat) (g0 : Ghost) where
  -- what a part leaves that changes the owned blocks alone
  module _ (start : Seat) (ghost : Ghost) (t : Seat) (h : Ghost) (is : bare t ≡ bare start) (call : h.call ≡ ghost.call) where
    pub still_writing : IsWriting offset o seat s0 g0 start ghost → h.marks ≡ [] → IsWriting offset o seat s0 g0 t h
    still_writing w marks = record {
      rest = ap unwritten is ∙ w.rest;
      not_won = ap (λ (u : Seat). u.calling.won) is ∙ w.not_won;
      no_bases = ap (λ (u : Seat). u.calling.bases) is ∙ w.no_bases;
      no_marks = marks;
      number = ap (λ (c : RunningCall). c.number) call ∙ w.number;
      no_head = ap (λ (c : RunningCall). c.put) call ∙ w.no_head;
    }

    pub still_here : IsHere start → IsHere t
    still_here here = record {
      valid = ap (λ (u : Seat). u.hold.valid) is ∙ here.valid;
      ready = ap (λ (u : Seat). u.walk.ready) is ∙ here.ready;
      at_tail = ap (λ (u : Seat). u.walk.at_tail) is ∙ here.at_tail;
      none_kept = ap (λ (u : Seat). u.walk.kept) is ∙ here.none_kept;
      below = λ last. here.below (sym (ap (λ (u : Seat). u.walk.position) is) ∙ last);
    }

  module _ (all : ℕ) (start : Seat) (ghost : Ghost) (t : Seat) (h : Ghost) (before : BeforeFill offset o seat s0 g0 start ghost) (many : length start.blocks.owned ≡ all) (left : IsFilled 0 all start tt t h) (call : HasSameCall ghost h) where
    same_bare : bare t ≡ bare start
    same_bare = ap bare left.seat ∙ filled_seat_bare start 0 all

    filled_writing : IsWriting offset o seat s0 g0 t h
    filled_writing = still_writing start ghost t h same_bare call.call before.writing left.no_marks

    filled_long : length t.blocks.owned ≡ all
    filled_long = ap (λ (u : Seat). length u.blocks.owned) left.seat ∙ (fenced_many start 0 all ∙ many)

    -- now the blocks are written
    filled_owns : OwnsWritten offset o seat s0 g0 t
    filled_owns = record {
      written = record {
        composed = subst (λ (l : List OwnedBlock). AreComposed offset o seat s0 g0 l t.blocks.contents) (sym (ap (λ (u : Seat). unmarked_all u.blocks.owned) left.seat ∙ filled_seat_marks start 0 all))
            (subst (λ (l : List ℕ). AreComposed offset o seat s0 g0 (unmarked_all start.blocks.owned) l) (sym (ap (λ (u : Seat). u.blocks.contents) left.seat ∙ filled_contents start 0 all)) before.composed);
        fenced = λ place inside. (left.each place (omega arith) (let long = filled_long in omega (arith, inside, long))).2;
      };
    }

  module _ (may : MayWrite offset o seat s0 g0) (lacks_data : (t : Seat) (h : Ghost) → BeforeTake offset o seat s0 g0 t h → MayLack Data (block_count s0) t h)
      (lacks_log : (t : Seat) (h : Ghost) → AtEnd offset o seat s0 g0 t h → MayLack Log 1 t h)
      (offers : (t : Seat) (h : Ghost) → AtSlot offset o seat s0 g0 t h → MayOffer (entry_for offset t) o seat t h) where
    pub fill_stage : (all : ℕ) (p : Fill) (s : Seat) (g : Ghost) → HasBegun (filling_law 0 all) o seat (λ t h. BeforeFill offset o seat s0 g0 t h × (length t.blocks.owned ≡ all)) p s g →
        Lawful o seat write_script no_record (WriteStands offset o seat s0 g0) (HasWritten offset o seat s0 g0) (at_stage (At offset) (Filling p)) s g
    fill_stage all = lawful_stage o seat no_record (WriteStands offset o seat s0 g0) (HasWritten offset o seat s0 g0) (filling_law 0 all) (λ t h. BeforeFill offset o seat s0 g0 t h × (length t.blocks.owned ≡ all)) (at_fill (At offset))
        (λ p t a admits. admits.part)
        (λ p t h a at told admits. record {
          part = admits;
          joint = λ done. (let left = told.ends tt done in has_blocks offset o seat s0 g0 may _ (filled_writing all at.start at.ghost _ _ at.before.0 at.before.1 left.0 left.1).rest (filled_owns all at.start at.ghost _ _ at.before.0 at.before.1 left.0 left.1));
          falls = filling_falls (At offset) p t a admits;
        })
        (λ p t h at. (refl, (all, at)))
        (λ start ghost out t h before may' left. (
          enters_same h t t refl,
          (
            refl,
            tail_fits offset o seat s0 g0 may lacks_data lacks_log offers (t.walk.tail_slot == words_of t) t h refl (filled_writing all start ghost t h before.0 before.1 left.0 left.1)
                (still_here start ghost t h (same_bare all start ghost t h before.0 before.1 left.0 left.1) left.1.call before.0.here) (filled_owns all start ghost t h before.0 before.1 left.0 left.1),
          ),
        ))
