-- A write loses few exchanges from where it has first found the tail, if the write is lawful.
use Rattle.std.proofs.Common.{ℕ, refl, subst, arith}
use Rattle.log_entry.specs.declared.shapes.Area.TheVariants.{Data}
use Rattle.pmem_words.specs.Seats.{Seat}
use Rattle.log_core.specs.Views.{Ghost}
use Rattle.log_core.specs.Origin.{Origin}
use Rattle.log_core.specs.Within.{no_record, Serves}
use Rattle.log_core.proofs.machines.Framing.{serves_with}
use Rattle.log_core.proofs.machines.MachineLaws.{Law, has_begun, promised}
use Rattle.block_bitmap.specs.TakeScript.{take_of}
use Rattle.write_any.specs.declared.stage.Target.TheVariants.{At}
use Rattle.write_any.specs.declared.stage.Stage.TheVariants.{Taking}
use Rattle.write_any.specs.declared.write.Write.{Write}
use Rattle.write_any.specs.Composing.{block_count}
use Rattle.write_any.specs.Writing.{at_stage, write_script, write_lowers}
use Rattle.write_any.specs.WriteWithin.{MayWrite, HasWritten}
use Rattle.write_any.specs.LosingFew.{HasLostFew, IsAtFirstTail, LosesFew}
use Rattle.write_any.proofs.Lacks.{lacks_data}
use Rattle.write_any.proofs.TakenInOrder.{ordered_law}
use Rattle.write_any.proofs.LostStages.{WriteLost, lost_frames}
use Rattle.write_any.proofs.WriteStanding.{BeforeTake, StageStands, WriteStands}

-- it begins there
module _ (offset count : ℕ) (o : Origin) (seat : ℕ) (s : Seat) (g : Ghost) (at : IsAtFirstTail offset count o seat s g) where
  first_before : BeforeTake offset o seat s g s g
  first_before = record {
    writing = record {
      rest = refl;
      not_won = at.may.free.not_won;
      no_bases = at.may.no_bases;
      no_marks = at.may.no_marks;
      number = refl;
      no_head = at.may.free.no_head;
    };
    here = record { valid = at.valid; ready = at.ready; at_tail = at.at_tail; none_kept = at.none_kept; below = at.below };
    owns = record { owned = at.may.none_owned; contents = at.may.no_contents };
  }

  first_stands : WriteStands offset o seat s g (at_stage (At offset) (Taking (take_of Data count))) s g
  first_stands = (
    refl,
    subst (λ (n : ℕ). StageStands offset o seat s g (Taking (take_of Data n)) s g) at.count_is
        (has_begun (ordered_law Data (block_count s)) o seat (BeforeTake offset o seat s g) s g first_before (lacks_data offset o seat s g at.may s g first_before)),
  )

  first_lost : WriteLost s.hold.generation s.walk.position s.calling.lost (Unit {0}) (at_stage (At offset) (Taking (take_of Data count))) s
  first_lost = (refl, λ tied. record { ready = at.ready; not_won = at.may.free.not_won; from = omega arith; few = omega arith })

-- a write that is lawful
module _ (whole : (offset : ℕ) (o : Origin) (seat : ℕ) (s0 : Seat) (g0 : Ghost) → MayWrite offset o seat s0 g0 → Serves o seat write_script no_record (WriteStands offset o seat s0 g0) (HasWritten offset o seat s0 g0)) where
  abbrev First : Seat → Write → Seat → Type 0
  First s0 m s = WriteLost s0.hold.generation s0.walk.position s0.calling.lost (Unit {0}) m s

  abbrev few_law : (offset count : ℕ) → Law write_script (at_stage (At offset) (Taking (take_of Data count)))
  few_law offset count = record {
    may = IsAtFirstTail offset count;
    stands = λ o seat s0 g0 m s g. WriteStands offset o seat s0 g0 m s g × First s0 m s;
    left = λ o seat s0 g0 out s g. HasWritten offset o seat s0 g0 out s g × HasLostFew s0.walk.position s0.calling.lost s;
    begins = λ o seat s g at. (first_stands offset count o seat s g at, first_lost offset count o seat s g at);
    serves = λ o seat s0 g0 at. serves_with o seat write_script no_record (WriteStands offset o seat s0 g0) (HasWritten offset o seat s0 g0) (λ m s g. First s0 m s) (λ out s g. HasLostFew s0.walk.position s0.calling.lost s)
        (λ m s g f stands lost found. (let frames = lost_frames offset o seat s0 g0 s0.hold.generation s0.walk.position s0.calling.lost (Unit {0}) m s g f stands lost found in
        record { goes = frames.goes; ends = λ out done. (frames.ends out done).1 tt }))
        (whole offset o seat s0 g0 at.may);
    lowers = write_lowers;
  }

  pub loses_few : LosesFew
  loses_few offset count = promised write_script (at_stage (At offset) (Taking (take_of Data count))) (few_law offset count)
