-- The law of giving owned blocks back within a core.
use Rattle.std.proofs.Common.{ℕ, refl, arith, inl}
use Rattle.pmem_words.specs.Seats.{Seat}
use Rattle.log_core.specs.Views.{Ghost}
use Rattle.log_core.specs.Origin.{Origin}
use Rattle.log_core.specs.Within.{no_record, IsFound}
use Rattle.log_core.proofs.machines.Framing.{Frames, serves_with, serves_as}
use Rattle.log_core.proofs.machines.MachineLaws.{Law, promised}
use Rattle.block_bitmap.specs.declared.give.Give.{Give}
use Rattle.block_bitmap.specs.declared.give.GiveFrom.{GiveFrom}
use Rattle.block_bitmap.specs.Giving.{give_of, give_script}
use Rattle.block_bitmap.specs.GiveLowering.{give_lowers}
use Rattle.block_bitmap.specs.GiveWithin.{MayGive, IsGiven, HasGivenBlocks, GivesWithin}
use Rattle.block_bitmap.proofs.GiveServes.{GiveStands, give_serves}
use Rattle.block_bitmap.proofs.TakeWithinCore.{HasMarks}

-- a step of giving marks nothing
pub give_keeps : (o : Origin) (seat : ℕ) (s0 : Seat) (g0 : Ghost) (m : Give) (s : Seat) (g : Ghost) (f : ℕ) → GiveStands s0 m s g → HasMarks g0 g → IsFound o seat s g (give_script.asks m s) f →
    Frames o seat give_script no_record (GiveStands s0) (IsGiven s0) (λ m s g. HasMarks g0 g) (λ out s g. HasMarks g0 g) m s g f
give_keeps o seat s0 g0 m s g f stands same found = record { goes = λ go. record { marks = same.marks }; ends = λ out done. record { marks = same.marks } }

abbrev pub give_law : (from : GiveFrom) → Law give_script (give_of from)
give_law from = record {
  may = λ o seat s g. MayGive s g;
  stands = λ o seat s0 g0 m s g. GiveStands s0 m s g × HasMarks g0 g;
  left = HasGivenBlocks;
  begins = λ o seat s g may. (record { some = may.some; count = omega arith; few = inl refl; rest = refl }, record { marks = refl });
  serves = λ o seat s0 g0 may. serves_as o seat give_script no_record (λ m s g. GiveStands s0 m s g × HasMarks g0 g) (λ out s g. IsGiven s0 out s g × HasMarks g0 g) (HasGivenBlocks o seat s0 g0)
      (λ out s g left. record { given = left.0; marks = left.1.marks })
      (serves_with o seat give_script no_record (GiveStands s0) (IsGiven s0) (λ m s g. HasMarks g0 g) (λ out s g. HasMarks g0 g) (give_keeps o seat s0 g0) (give_serves o seat s0));
  lowers = give_lowers;
}

pub gives_within : GivesWithin
gives_within from = promised give_script (give_of from) (give_law from)
