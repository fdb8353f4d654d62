use Rattle.log_core.proofs.row_checks.RowsBegun.{just_made, pins_in_three_steps, scan_sees_pins, comes_to_tail}
use Rattle.log_core.proofs.row_checks.RowsTaken.{bits_taken, fence_follows}
use Rattle.log_core.proofs.row_checks.RowsAllowed.{filled_no_more}
use Rattle.log_core.proofs.row_checks.RowsExchanged.{slot_won, slot_lost, write_ends, link_won, link_lost, head_won, head_lost}
use Rattle.log_core.proofs.row_checks.RowsGiven.{kept_until_unpinned, bits_cleared, bits_not_cleared, collect_ends, sync_ends}
use Rattle.log_core.proofs.row_checks.RowsFiles.{files_by_position, early_files, trail_walked, lacks_blocks, quiet_calls, replies_fit, limits_fit}
use Rattle.log_core.proofs.row_checks.RowsWorks.{entry_taken_in, read_lays, base_words, snapshot_read}
use Rattle.log_core.proofs.rows.law_rows.Goals as goal

pub returns : goal.returns
returns c = record {
  just_made = just_made;
  pins_in_three_steps = pins_in_three_steps;
  scan_sees_pins = scan_sees_pins;
  comes_to_tail = comes_to_tail;
  bits_taken = bits_taken;
  fence_follows = fence_follows;
  filled_no_more = filled_no_more;
  slot_won = slot_won;
  slot_lost = slot_lost;
  write_ends = write_ends;
  link_won = link_won;
  link_lost = link_lost;
  head_won = head_won;
  head_lost = head_lost;
  kept_until_unpinned = kept_until_unpinned;
  bits_cleared = bits_cleared;
  bits_not_cleared = bits_not_cleared;
  collect_ends = collect_ends;
  sync_ends = sync_ends;
  files_by_position = files_by_position;
  early_files = early_files;
  trail_walked = trail_walked;
  lacks_blocks = lacks_blocks;
  entry_taken_in = entry_taken_in;
  read_lays = read_lays;
  base_words = base_words;
  snapshot_read = snapshot_read;
  quiet_calls = quiet_calls;
  replies_fit = replies_fit;
  limits_fit = limits_fit;
}
