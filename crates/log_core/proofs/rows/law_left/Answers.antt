use Rattle.log_core.proofs.row_checks.RowsCrashed.{write_may_be_lost, later_write_alone, synced_write_stays, either_head_stands}
use Rattle.log_core.proofs.row_checks.RowsLeft.{synced_and_unsynced}
use Rattle.log_core.proofs.rows.law_left.Goals as goal

pub returns : goal.returns
returns c = record {
  write_may_be_lost = write_may_be_lost;
  later_write_alone = later_write_alone;
  synced_write_stays = synced_write_stays;
  either_head_stands = either_head_stands;
  synced_and_unsynced = synced_and_unsynced;
}
