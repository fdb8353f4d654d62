-- Where a write has taken blocks, or has found too few.
use Rattle.std.proofs.Common.{◌≡◌, ◌⊎◌, ℕ, ◌^◌, ◌<◌, Some, length, sym, ap, subst, ◌∙◌}
use Rattle.log_entry.specs.declared.shapes.Area.{Area}
use Rattle.log_entry.specs.declared.shapes.Area.TheVariants.{Data, Log}
use Rattle.log_entry.specs.declared.calls.WriteRefusal.TheVariants.{NoSpace as RefusesSpace}
use Rattle.pmem_words.specs.Seats.{Seat}
use Rattle.log_core.specs.Views.{Ghost}
use Rattle.log_core.specs.Origin.{Origin}
use Rattle.log_core.specs.Answers.{HasLacked}
use Rattle.block_bitmap.specs.declared.take.Taken.{Taken}
use Rattle.block_bitmap.specs.declared.take.Taken.TheVariants.{NoSpace}
use Rattle.block_bitmap.specs.TakeWithin.{HasTakenBlocks}
use Rattle.write_any.specs.WriteWithin.{unwritten}
use Rattle.write_any.proofs.PartLaws.{HasSamePut}
use Rattle.write_any.proofs.WriteStanding.{IsHere, IsWriting, IsEnding}

module _ (offset : ℕ) (o : Origin) (seat : ℕ) (s0 : Seat) (g0 : Ghost) (area : Area) (count : ℕ) (start : Seat) (ghost : Ghost) (out : Taken) (t : Seat) (h : Ghost)
    (writing : IsWriting offset o seat s0 g0 start ghost) (here : IsHere start) (left : HasTakenBlocks area count o seat start ghost out t h) (same : HasSamePut ghost h) where
  -- the seat is else as before
  pub taken_writing : IsWriting offset o seat s0 g0 t h
  taken_writing = record {
    rest = ap unwritten left.ended.grown.seat ∙ writing.rest;
    not_won = ap (λ (u : Seat). u.calling.won) left.ended.grown.seat ∙ writing.not_won;
    no_bases = ap (λ (u : Seat). u.calling.bases) left.ended.grown.seat ∙ writing.no_bases;
    no_marks = left.marks ∙ writing.no_marks;
    number = same.number ∙ writing.number;
    no_head = same.put ∙ writing.no_head;
  }

  pub taken_here : IsHere t
  taken_here = record {
    valid = ap (λ (u : Seat). u.hold.valid) left.ended.grown.seat ∙ here.valid;
    ready = ap (λ (u : Seat). u.walk.ready) left.ended.grown.seat ∙ here.ready;
    at_tail = ap (λ (u : Seat). u.walk.at_tail) left.ended.grown.seat ∙ here.at_tail;
    none_kept = ap (λ (u : Seat). u.walk.kept) left.ended.grown.seat ∙ here.none_kept;
    below = λ last. here.below (sym (ap (λ (u : Seat). u.walk.position) left.ended.grown.seat) ∙ last);
  }

  -- too few are free: that is its cause
  pub lacked_ends : (other : Area) → out ≡ NoSpace other → (area ≡ Data) ⊎ (area ≡ Log) → length t.blocks.owned < 2 ^ 17 → IsEnding offset o seat s0 g0 (Some (RefusesSpace other)) t h
  lacked_ends other none here_or_there few =
      (let is : other ≡ area = (left.ended.no_space other none).0 in
      let lacked : HasLacked h area = (left.ended.no_space other none).3 in
      record {
        rest = taken_writing.rest;
        cause = (taken_writing.not_won, taken_here.below, subst (λ (a : Area). (a ≡ Data) ⊎ (a ≡ Log)) (sym is) here_or_there, subst (λ (a : Area). HasLacked h a) (sym is) lacked);
        at_tail = taken_here.at_tail;
        none_kept = taken_here.none_kept;
        few = few;
        no_marks = taken_writing.no_marks;
        number = taken_writing.number;
        no_head = taken_writing.no_head;
      })
