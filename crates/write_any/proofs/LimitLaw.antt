-- Where a log block was taken the position is below the limit of positions.
use Rattle.std.proofs.Common.{◌^◌, ◌<◌, ap, arith}
use Rattle.log_entry.specs.declared.shapes.Area.TheVariants.{Log}
use Rattle.pmem_words.specs.Seats.{Seat}
use Rattle.log_core.specs.Within.{no_record}
use Rattle.log_core.proofs.machines.Framing.{serves_with}
use Rattle.log_core.proofs.machines.MachineLaws.{Law}
use Rattle.block_bitmap.specs.TakeScript.{take_of, take_script}
use Rattle.write_any.proofs.PartLaws.{taking_law}
use Rattle.write_any.proofs.RoundFalls.{take_unfound}

abbrev pub taking_log_law : Law take_script (take_of Log 1)
taking_log_law = record {
  may = law.may;
  stands = λ o seat s0 g0 m s g. law.stands o seat s0 g0 m s g × Unit {0};
  left = λ o seat s0 g0 out s g. law.left o seat s0 g0 out s g × (s.walk.position < 2 ^ 40);
  begins = λ o seat s g may. (law.begins o seat s g may, tt);
  serves = λ o seat s0 g0 may. serves_with o seat take_script no_record (law.stands o seat s0 g0) (law.left o seat s0 g0) (λ m s g. Unit {0}) (λ out s g. s.walk.position < 2 ^ 40)
      (λ m s g f stands kept found. record {
        goes = λ go. tt;
        ends = λ out done. (let high = (found.knows.walk found.unspent).to_end in let limit = found.holds.order.log.limit in let same = ap (λ (u : Seat). u.walk.position) (take_unfound m s f) in omega (arith, high, limit, same));
      }) (law.serves o seat s0 g0 may);
  lowers = law.lowers;
}
  where
    law : Law take_script (take_of Log 1)
    law = taking_law Log 1
