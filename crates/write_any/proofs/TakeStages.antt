-- The stages of a write that take its data blocks are lawful.
use Rattle.std.proofs.Common.{◌≡◌, inl, ℕ, ◌+◌, ◌<◌, Bool, true, false, List, [], length, Some, refl, sym, ap, subst, ◌∙◌, arith}
use Rattle.log_entry.specs.declared.shapes.Area.TheVariants.{Data}
use Rattle.log_entry.specs.declared.calls.WriteRefusal.TheVariants.{NoSpace as RefusesSpace}
use Rattle.pmem_words.specs.Seats.{Seat}
use Rattle.pmem_words.specs.Parts.{Into}
use Rattle.log_core.specs.Views.{Ghost, MarkedWord}
use Rattle.log_core.specs.Origin.{Origin}
use Rattle.log_core.specs.Steps.{is_head_marked}
use Rattle.log_core.specs.Answers.{Enters}
use Rattle.log_core.specs.Within.{no_record, Lawful, FitsNext}
use Rattle.log_core.proofs.machines.Entering.{enters_same}
use Rattle.log_core.proofs.machines.MachineLaws.{HasBegun, has_begun, lawful_stage}
use Rattle.pins.proofs.PinWithin.{unpin_law}
use Rattle.block_bitmap.specs.declared.take.Take.{Take}
use Rattle.block_bitmap.specs.declared.take.Taken.{Taken}
use Rattle.block_bitmap.specs.declared.take.Taken.TheVariants.{Taken as HasTaken, NoSpace}
use Rattle.block_bitmap.specs.TakeWithin.{HasEnded}
use Rattle.write_any.specs.declared.stage.Target.TheVariants.{At}
use Rattle.write_any.specs.declared.stage.Stage.TheVariants.{Taking, TakingRuns}
use Rattle.write_any.specs.Composing.{block_count, are_one_run, composed}
use Rattle.write_any.specs.Writing.{at_stage, write_script, taken_stage, taken_seat, taken_so, taken_runs_so}
use Rattle.write_any.specs.WriteWithin.{MayWrite, HasWritten, unwritten}
use Rattle.write_any.proofs.Composed.{composed_bare, composed_long}
use Rattle.write_any.proofs.ComposedBlocks.{OwnsZeros, enters_one_run, one_run_composed, enters_runs_of, runs_are_composed}
use Rattle.write_any.proofs.Embedding.{at_take, at_take_runs}
use Rattle.write_any.proofs.EndStages.{may_pin}
use Rattle.write_any.proofs.FillStage.{still_writing, still_here}
use Rattle.write_any.proofs.FirstStages.{few_count}
use Rattle.write_any.proofs.PartLaws.{taking_law, filling_law}
use Rattle.write_any.proofs.RoundFalls.{taking_falls, taking_runs_falls}
use Rattle.write_any.proofs.TakenBlocks.{owns_no_zeros, owns_taken, owns_more, taken_blocks, lacks_runs}
use Rattle.write_any.proofs.TakenInOrder.{ordered_law}
use Rattle.write_any.proofs.TakeEnds.{taken_writing, taken_here, lacked_ends}
use Rattle.write_any.proofs.WriteStanding.{unmarked_all, IsHere, IsWriting, AreComposed, BeforeTake, BeforeTakeRuns, BeforeFill, IsEnding, WriteStands}

module _ (offset : ℕ) (o : Origin) (seat : ℕ) (s0 : Seat) (g0 : Ghost) (may : MayWrite offset o seat s0 g0) where
  -- the blocks are composed, and are to be filled
  fill_fits : (t : Seat) (h : Ghost) → IsWriting offset o seat s0 g0 t h → IsHere t → 0 < length t.blocks.owned → Enters h t (composed offset t) [] →
      AreComposed offset o seat s0 g0 (unmarked_all (composed offset t).blocks.owned) (composed offset t).blocks.contents →
      FitsNext no_record (WriteStands offset o seat s0 g0) (HasWritten offset o seat s0 g0) t h (taken_runs_so (At offset) HasTaken t)
  fill_fits t h writing here some enters are = (
    enters,
    (
      refl,
      (
        length t.blocks.owned,
        has_begun (filling_law 0 (length t.blocks.owned)) o seat (λ u i. BeforeFill offset o seat s0 g0 u i × (length u.blocks.owned ≡ length t.blocks.owned)) (composed offset t) h (
          record {
            writing = still_writing offset o seat s0 g0 t h (composed offset t) h (composed_bare offset t) refl writing writing.no_marks;
            here = still_here offset o seat s0 g0 t h (composed offset t) h (composed_bare offset t) refl here;
            composed = are;
          },
          composed_long offset t,
        )
            (record {
              some = some;
              owned = (let same = composed_long offset t in omega (arith, same));
              calm = record {
                no_sync = λ sync. (let job = sym (ap (λ (u : Seat). u.calling.job) (ap unwritten (composed_bare offset t) ∙ writing.rest) ∙ may.job) ∙ sync in cc);
                no_head = λ marked. (let never : false ≡ true = sym (ap (λ (marks : List MarkedWord). is_head_marked (composed offset t).giving.replaced_generation marks) writing.no_marks) ∙ marked in cc);
                small = are.small;
              };
            }),
      ),
    ),
  )

  -- the blocks that are taken first
  module _ (start : Seat) (ghost : Ghost) (out : Taken) (t : Seat) (h : Ghost) (before : BeforeTake offset o seat s0 g0 start ghost) (left : (ordered_law Data (block_count s0)).left o seat start ghost out t h) where
    abbrev ended : HasEnded Data (block_count s0) start out t h
    ended = left.0.0.ended

    owns : OwnsZeros offset o seat s0 g0 (0 + length ended.blocks) t
    owns = owns_more offset o seat s0 g0 0 start t ended.blocks (owns_no_zeros offset o seat s0 g0 start before.writing.rest before.owns) ended.grown ended.once

    owns_all : out ≡ HasTaken → OwnsZeros offset o seat s0 g0 (block_count s0) t
    owns_all is = subst (λ (n : ℕ). OwnsZeros offset o seat s0 g0 n t) (let many = ended.taken is in let same : 0 + length ended.blocks ≡ block_count s0 = omega (arith, many) in same) owns

    writing : IsWriting offset o seat s0 g0 t h
    writing = taken_writing offset o seat s0 g0 Data (block_count s0) start ghost out t h before.writing before.here left.0.0 left.0.1

    here : IsHere t
    here = taken_here offset o seat s0 g0 Data (block_count s0) start ghost out t h before.writing before.here left.0.0 left.0.1

    one_fits : OwnsZeros offset o seat s0 g0 (block_count s0) t → (one : Bool) → are_one_run t.blocks.owned ≡ one →
        FitsNext no_record (WriteStands offset o seat s0 g0) (HasWritten offset o seat s0 g0) t h (Into (at_stage (At offset) (taken_stage one t)) (taken_seat one (At offset) t))
    one_fits all true is = fill_fits t h writing here (let some = may.whole.some in let many = all.many_are in omega (arith, some, many))
        (enters_one_run offset o seat s0 g0 may (block_count s0) t all (omega arith) refl h) (one_run_composed offset o seat s0 g0 may (block_count s0) t all (omega arith) refl is)
    one_fits all false is = (
      enters_same h t t refl,
      (
        refl,
        has_begun (taking_law Data 1) o seat (BeforeTakeRuns offset o seat s0 g0) t h
            (record {
              writing = writing;
              here = here;
              taken = record { many = all.many_are; in_data = all.in_data; numbers = all.numbers; once = all.once };
              zeros = all.zeros;
              apart = is;
            })
            (lacks_runs offset o seat s0 g0 may t h all (left.1.rises before.owns.owned) is),
      ),
    )

  take_fits : (start : Seat) (ghost : Ghost) (out : Taken) (t : Seat) (h : Ghost) → BeforeTake offset o seat s0 g0 start ghost → (ordered_law Data (block_count s0)).left o seat start ghost out t h →
      FitsNext no_record (WriteStands offset o seat s0 g0) (HasWritten offset o seat s0 g0) t h (taken_so (At offset) out t)
  take_fits start ghost HasTaken t h before left = one_fits start ghost HasTaken t h before left (owns_all start ghost HasTaken t h before left refl) (are_one_run t.blocks.owned) refl
  take_fits start ghost (NoSpace area) t h before left = (
    enters_same h t t refl,
    (
      refl,
      has_begun unpin_law o seat (IsEnding offset o seat s0 g0 (Some (RefusesSpace area))) t h
          (lacked_ends offset o seat s0 g0 Data (block_count s0) start ghost (NoSpace area) t h before.writing before.here left.0.0 left.0.1 area refl (inl refl)
          (let many = (owns start ghost (NoSpace area) t h before left).many_are in let fewer = (left.0.0.ended.no_space area refl).1 in let few = few_count offset o seat s0 g0 may in omega (arith, many, fewer, few)))
          (may_pin offset o seat s0 g0 may t h (writing start ghost (NoSpace area) t h before left).rest),
    ),
  )

  pub take_stage : (p : Take) (s : Seat) (g : Ghost) → HasBegun (ordered_law Data (block_count s0)) o seat (BeforeTake offset o seat s0 g0) p s g →
      Lawful o seat write_script no_record (WriteStands offset o seat s0 g0) (HasWritten offset o seat s0 g0) (at_stage (At offset) (Taking p)) s g
  take_stage = lawful_stage o seat no_record (WriteStands offset o seat s0 g0) (HasWritten offset o seat s0 g0) (ordered_law Data (block_count s0)) (BeforeTake offset o seat s0 g0) (at_take (At offset))
      (λ p t a admits. admits.part)
      (λ p t h a at told admits. record {
        part = admits;
        joint = λ done. taken_blocks offset o seat s0 g0 may (block_count s0) _ (owns_all at.start at.ghost HasTaken _ _ at.before (told.ends HasTaken done) refl) (omega arith) (omega arith);
        falls = taking_falls (At offset) p t a admits
            (λ done. (let many = (owns_all at.start at.ghost HasTaken _ _ at.before (told.ends HasTaken done) refl).many_are in let few = few_count offset o seat s0 g0 may in omega (arith, many, few)));
      })
      (λ p t h at. (refl, at))
      (λ start ghost out t h before may' left. take_fits start ghost out t h before left)

  -- and one more, for the words of their runs
  module _ (start : Seat) (ghost : Ghost) (out : Taken) (t : Seat) (h : Ghost) (before : BeforeTakeRuns offset o seat s0 g0 start ghost) (left : (taking_law Data 1).left o seat start ghost out t h) where
    abbrev one_more : HasEnded Data 1 start out t h
    one_more = left.0.ended

    owns_runs : OwnsZeros offset o seat s0 g0 (block_count s0 + length one_more.blocks) t
    owns_runs = owns_more offset o seat s0 g0 (block_count s0) start t one_more.blocks (owns_taken offset o seat s0 g0 start before.writing.rest before.taken before.zeros) one_more.grown one_more.once

    owns_more_all : out ≡ HasTaken → OwnsZeros offset o seat s0 g0 (block_count s0 + 1) t
    owns_more_all is = subst (λ (n : ℕ). OwnsZeros offset o seat s0 g0 (block_count s0 + n) t) (one_more.taken is) owns_runs

    runs_writing : IsWriting offset o seat s0 g0 t h
    runs_writing = taken_writing offset o seat s0 g0 Data 1 start ghost out t h before.writing before.here left.0 left.1

    runs_here : IsHere t
    runs_here = taken_here offset o seat s0 g0 Data 1 start ghost out t h before.writing before.here left.0 left.1

  take_runs_fits : (start : Seat) (ghost : Ghost) (out : Taken) (t : Seat) (h : Ghost) → BeforeTakeRuns offset o seat s0 g0 start ghost → (taking_law Data 1).left o seat start ghost out t h →
      FitsNext no_record (WriteStands offset o seat s0 g0) (HasWritten offset o seat s0 g0) t h (taken_runs_so (At offset) out t)
  take_runs_fits start ghost HasTaken t h before left =
      (let all = owns_more_all start ghost HasTaken t h before left refl in
      fill_fits t h (runs_writing start ghost HasTaken t h before left) (runs_here start ghost HasTaken t h before left) (let many = all.many_are in omega (arith, many))
      (enters_runs_of offset o seat s0 g0 may (block_count s0 + 1) t all (omega arith) refl h) (runs_are_composed offset o seat s0 g0 may (block_count s0 + 1) t all (omega arith) refl))
  take_runs_fits start ghost (NoSpace area) t h before left = (
    enters_same h t t refl,
    (
      refl,
      has_begun unpin_law o seat (IsEnding offset o seat s0 g0 (Some (RefusesSpace area))) t h
          (lacked_ends offset o seat s0 g0 Data 1 start ghost (NoSpace area) t h before.writing before.here left.0 left.1 area refl (inl refl)
          (let many = (owns_runs start ghost (NoSpace area) t h before left).many_are in let fewer = (left.0.ended.no_space area refl).1 in let few = few_count offset o seat s0 g0 may in omega (arith, many, fewer, few)))
          (may_pin offset o seat s0 g0 may t h (runs_writing start ghost (NoSpace area) t h before left).rest),
    ),
  )

  pub take_runs_stage : (p : Take) (s : Seat) (g : Ghost) → HasBegun (taking_law Data 1) o seat (BeforeTakeRuns offset o seat s0 g0) p s g →
      Lawful o seat write_script no_record (WriteStands offset o seat s0 g0) (HasWritten offset o seat s0 g0) (at_stage (At offset) (TakingRuns p)) s g
  take_runs_stage = lawful_stage o seat no_record (WriteStands offset o seat s0 g0) (HasWritten offset o seat s0 g0) (taking_law Data 1) (BeforeTakeRuns offset o seat s0 g0) (at_take_runs (At offset))
      (λ p t a admits. admits.part)
      (λ p t h a at told admits. record {
        part = admits;
        joint = λ done. taken_blocks offset o seat s0 g0 may (block_count s0 + 1) _ (owns_more_all at.start at.ghost HasTaken _ _ at.before (told.ends HasTaken done) refl) (omega arith) (omega arith);
        falls = taking_runs_falls (At offset) p t a admits
            (λ done. (let many = (owns_more_all at.start at.ghost HasTaken _ _ at.before (told.ends HasTaken done) refl).many_are in let few = few_count offset o seat s0 g0 may in omega (arith, many, few)));
      })
      (λ p t h at. (refl, at))
      (λ start ghost out t h before may' left. take_runs_fits start ghost out t h before left)
