use Rattle.log_core.proofs.row_checks.RowsRefused.{other_entry_possible, head_skips, log_has_more, bit_without_owner, block_on_two_lists, chain_block_free, other_content_possible, pin_of_another}
use Rattle.log_core.proofs.row_checks.RowsWrong.{view_of_another, stored_not_present, replaced_still_named, record_of_no_write, synced_may_be_lost}
use Rattle.log_core.proofs.row_checks.RowsGaps.{named_twice, snapshot_names_more, write_of_no_seat}
use Rattle.log_core.proofs.row_checks.RowsClauses.{bit_past_the_word, mark_of_owned_block, floor_ahead, spent_view_holds}
use Rattle.log_core.proofs.rows.law_refused.Goals as goal

pub returns : goal.returns
returns c = record {
  other_entry_possible = other_entry_possible;
  head_skips = head_skips;
  log_has_more = log_has_more;
  bit_without_owner = bit_without_owner;
  block_on_two_lists = block_on_two_lists;
  chain_block_free = chain_block_free;
  other_content_possible = other_content_possible;
  pin_of_another = pin_of_another;
  view_of_another = view_of_another;
  stored_not_present = stored_not_present;
  replaced_still_named = replaced_still_named;
  record_of_no_write = record_of_no_write;
  synced_may_be_lost = synced_may_be_lost;
  named_twice = named_twice;
  snapshot_names_more = snapshot_names_more;
  write_of_no_seat = write_of_no_seat;
  bit_past_the_word = bit_past_the_word;
  mark_of_owned_block = mark_of_owned_block;
  floor_ahead = floor_ahead;
  spent_view_holds = spent_view_holds;
}
