use Rattle.log_core.proofs.row_checks.RowsCallGaps.{table_of_another, base_from_before, bases_dropped, base_left_over, first_base_short, tail_not_walked, head_of_no_collection, sync_of_no_sync, call_of_no_number}
use Rattle.log_core.proofs.row_checks.RowsEnded.{write_not_put, size_before_tail, kept_too_early}
use Rattle.log_core.proofs.row_checks.RowsCoreGaps.{begun_past_end, parts_of_another, made_more, overtaken_by_none, synced_before_start, write_of_another_size, entry_of_another_size, head_before_tail}
use Rattle.log_core.proofs.row_checks.RowsWalkGaps.{place_of_another, first_log_of_another, first_log_found}
use Rattle.log_core.proofs.row_checks.RowsNotedGaps.{noted_of_another}
use Rattle.log_core.proofs.rows.law_gaps.Goals as goal

pub returns : goal.returns
returns c = record {
  table_of_another = table_of_another;
  base_from_before = base_from_before;
  bases_dropped = bases_dropped;
  base_left_over = base_left_over;
  first_base_short = first_base_short;
  tail_not_walked = tail_not_walked;
  head_of_no_collection = head_of_no_collection;
  sync_of_no_sync = sync_of_no_sync;
  call_of_no_number = call_of_no_number;
  write_not_put = write_not_put;
  size_before_tail = size_before_tail;
  kept_too_early = kept_too_early;
  begun_past_end = begun_past_end;
  parts_of_another = parts_of_another;
  made_more = made_more;
  overtaken_by_none = overtaken_by_none;
  synced_before_start = synced_before_start;
  write_of_another_size = write_of_another_size;
  entry_of_another_size = entry_of_another_size;
  head_before_tail = head_before_tail;
  place_of_another = place_of_another;
  first_log_of_another = first_log_of_another;
  first_log_found = first_log_found;
  noted_of_another = noted_of_another;
}
