-- What a collection has noted, and other words that are refused.
use Rattle.std.proofs.Common.{◌≡◌, true, false, refl, arith}
use Rattle.log_core.specs.Invariant.{Invariant}
use Rattle.log_core.specs.worked_rows.Samples.{image_a}
use Rattle.log_core.specs.worked_rows.Collecting.{other_next}
use Rattle.log_core.specs.worked_rows.NotedGaps.{NotedOfAnother}
use Rattle.log_core.proofs.row_checks.RowsStart.{image_starts}
use Rattle.log_core.proofs.row_checks.RowsWrong.{one_part}
use Rattle.log_core.proofs.row_checks.RowsReached.{reached_holds}
use Rattle.log_core.proofs.row_checks.RowsCollecting.{next_reached}

holds : Invariant image_a other_next
holds = reached_holds image_a other_next image_starts next_reached

pub noted_of_another : NotedOfAnother
noted_of_another = (
  refl,
  refl,
  refl,
  refl,
  refl,
  holds.noted 1 (one_part 1),
  λ noted. (let without : false ≡ true = noted.2 refl refl 3 (omega arith) in cc),
  λ noted. (let another : true ≡ false = noted.2 refl refl 5 (omega arith) in cc),
  holds.walks 1 (one_part 1),
  refl,
  refl,
  refl,
  refl,
  refl,
  refl,
)
