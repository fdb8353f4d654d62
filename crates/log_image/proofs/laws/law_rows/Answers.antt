use Rattle.std.proofs.Common.{refl}
use Rattle.log_image.proofs.JustMadeRows.{just_made}
use Rattle.log_image.proofs.StandingRows.{across_blocks, after_collection, runs_in_block, map_with_runs}
use Rattle.log_image.proofs.FailingRows.{entry_behind_tail, wrong_header, seal_first, link_in_circle, block_named_twice, byte_past_end, base_off_by_one, base_after_snapshot, block_not_in_data, unnamed_bit, runs_do_not_add_up}
use Rattle.log_image.proofs.StartRows.{recovered_before_tail}
use Rattle.log_image.proofs.StoppedRows.{stopped_before_end}
use Rattle.log_image.proofs.laws.law_rows.Goals as goal

pub returns : goal.returns
returns c = record {
  just_made = just_made;
  made_by_rule = refl;
  across_blocks = across_blocks;
  after_collection = after_collection;
  runs_in_block = runs_in_block;
  map_with_runs = map_with_runs;
  behind_tail = entry_behind_tail;
  recovered_before_tail = recovered_before_tail;
  stopped_before_end = stopped_before_end;
  wrong_header = wrong_header;
  seal_first = seal_first;
  link_in_circle = link_in_circle;
  block_named_twice = block_named_twice;
  byte_past_end = byte_past_end;
  base_off_by_one = base_off_by_one;
  base_after_snapshot = base_after_snapshot;
  block_not_in_data = block_not_in_data;
  unnamed_bit = unnamed_bit;
  runs_do_not_add_up = runs_do_not_add_up;
}
