use Rattle.std.proofs.Common.{◌≡◌, ◌-◌, ◌≤◌}
use Rattle.std.specs.List.{range_with_len}
use Rattle.log_core.specs.Works.{blocks_noted}
use Rattle.log_blocks.proofs.taking.note_each.Given as goal

abbrev pub invariant-loop-block : goal.invariant-loop-block
invariant-loop-block l = record {
  seat : l.seat ≡ record l.fn.seat { blocks = blocks_noted l.fn.seat (range_with_len l.fn.first (l.block - l.fn.first)) };
  from : l.fn.first ≤ l.block;
}
