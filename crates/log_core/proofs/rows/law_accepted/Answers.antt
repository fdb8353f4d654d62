use Rattle.log_core.proofs.row_checks.RowsMay.{pin_may_be_stored, word_may_be_loaded, word_may_be_marked, entry_may_be_put}
use Rattle.log_core.proofs.row_checks.RowsOrder.{order_stands, pins_stand}
use Rattle.log_core.proofs.row_checks.RowsViews.{views_stand, owned_stands, givings_stand}
use Rattle.log_core.proofs.row_checks.RowsRecords.{records_stand, syncs_stand}
use Rattle.log_core.proofs.row_checks.RowsContents.{contents_stand}
use Rattle.log_core.proofs.row_checks.RowsOwners.{owners_stand}
use Rattle.log_core.proofs.row_checks.RowsRun.{pin_runs, write_fits, views_join, views_split}
use Rattle.log_core.proofs.row_checks.RowsLate.{late_write, late_sync, late_walk}
use Rattle.log_core.proofs.row_checks.RowsTurns.{runs_may_be_put, collections_in_turn}
use Rattle.log_core.proofs.row_checks.RowsStarting.{each_kind_starts}
use Rattle.log_core.proofs.row_checks.RowsAllowed.{bitmap_may_be_read, allowed_kinds}
use Rattle.log_core.proofs.row_checks.RowsReached.{block_runs}
use Rattle.log_core.proofs.row_checks.RowsWritten.{write_runs, entries_not_put}
use Rattle.log_core.proofs.row_checks.RowsLinked.{link_runs}
use Rattle.log_core.proofs.row_checks.RowsTwoWriters.{two_at_one_tail}
use Rattle.log_core.proofs.row_checks.RowsBothPut.{second_loses, two_writers_run}
use Rattle.log_core.proofs.row_checks.RowsPrinted.{printed_in_other_order, refused_between}
use Rattle.log_core.proofs.row_checks.RowsCollecting.{two_collect}
use Rattle.log_core.proofs.row_checks.RowsOvertaken.{collection_runs, overtaken_runs}
use Rattle.log_core.proofs.row_checks.RowsReadAgain.{read_again_runs, used_again_runs}
use Rattle.log_core.proofs.row_checks.RowsOldPins.{old_pin_runs}
use Rattle.log_core.proofs.row_checks.RowsNothingLeft.{nothing_left_runs}
use Rattle.log_core.proofs.row_checks.RowsEnded.{calls_end}
use Rattle.log_core.proofs.row_checks.RowsJoined.{sync_runs, no_mark_outside_of_syncs, seats_are_joined}
use Rattle.log_core.proofs.rows.law_accepted.Goals as goal

pub returns : goal.returns
returns c = record {
  pin_may_be_stored = pin_may_be_stored;
  word_may_be_loaded = word_may_be_loaded;
  word_may_be_marked = word_may_be_marked;
  entry_may_be_put = entry_may_be_put;
  each_kind_starts = each_kind_starts;
  bitmap_may_be_read = bitmap_may_be_read;
  allowed_kinds = allowed_kinds;
  block_runs = block_runs;
  write_runs = write_runs;
  link_runs = link_runs;
  entries_not_put = entries_not_put;
  two_at_one_tail = two_at_one_tail;
  second_loses = second_loses;
  two_writers_run = two_writers_run;
  printed_in_other_order = printed_in_other_order;
  refused_between = refused_between;
  two_collect = two_collect;
  collection_runs = collection_runs;
  overtaken_runs = overtaken_runs;
  nothing_left_runs = nothing_left_runs;
  read_again_runs = read_again_runs;
  used_again_runs = used_again_runs;
  old_pin_runs = old_pin_runs;
  calls_end = calls_end;
  sync_runs = sync_runs;
  no_mark_outside_of_syncs = no_mark_outside_of_syncs;
  seats_are_joined = seats_are_joined;
  order_stands = order_stands;
  pins_stand = pins_stand;
  views_stand = views_stand;
  owned_stands = owned_stands;
  givings_stand = givings_stand;
  records_stand = records_stand;
  syncs_stand = syncs_stand;
  contents_stand = contents_stand;
  owners_stand = owners_stand;
  pin_runs = pin_runs;
  write_fits = write_fits;
  views_join = views_join;
  views_split = views_split;
  late_write = late_write;
  late_sync = late_sync;
  late_walk = late_walk;
  runs_may_be_put = runs_may_be_put;
  collections_in_turn = collections_in_turn;
}
