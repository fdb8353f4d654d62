-- Where a walk has ended the seat's map has a place for each virtual block.
use Rattle.std.proofs.Common.{length, ap, ◌∙◌}
use Rattle.pmem_words.specs.Seats.{Seat}
use Rattle.log_core.specs.Within.{no_record}
use Rattle.log_core.proofs.machines.Framing.{serves_with}
use Rattle.log_core.proofs.machines.MachineLaws.{Law}
use Rattle.log_blocks.specs.declared.walk.Walk.TheVariants.{Begin}
use Rattle.log_blocks.specs.Walking.{walk_script}
use Rattle.log_blocks.proofs.WalkServes.{walk_law}
use Rattle.read_validate.proofs.WalkEnds.{walk_ends}
use Rattle.read_validate.proofs.ZerosLaid.{HasWholeMap}

abbrev pub mapping_law : Law walk_script Begin
mapping_law = record {
  may = walk_law.may;
  stands = λ o seat s0 g0 m s g. walk_law.stands o seat s0 g0 m s g × Unit {0};
  left = λ o seat s0 g0 out s g. walk_law.left o seat s0 g0 out s g × HasWholeMap s;
  begins = λ o seat s g may. (walk_law.begins o seat s g may, tt);
  serves = λ o seat s0 g0 may. serves_with o seat walk_script no_record (walk_law.stands o seat s0 g0) (walk_law.left o seat s0 g0) (λ m s g. Unit {0}) (λ out s g. HasWholeMap s)
      (λ m s g f stands kept found. record {
        goes = λ go. tt;
        ends = λ out done. ap (λ (u : Seat). length u.walk.map) (walk_ends m s f out done).seat ∙ (found.knows.fits found.unspent).map;
      }) (walk_law.serves o seat s0 g0 may);
  lowers = walk_law.lowers;
}
