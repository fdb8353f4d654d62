use Rattle.std.proofs.Common.{◌≡◌, ◌≤◌, ◌*◌, length, take}
use Rattle.std.specs.List.{flat_map}
use Rattle.log_image.specs.Entries.{run_blocks}
use Rattle.recovery.proofs.rules.block_count.Given as goal

abbrev pub invariant-loop-run : goal.invariant-loop-run
invariant-loop-run l = record {
  value : l.count ≡ length (flat_map run_blocks (take l.run-index l.runs));
  small : l.count ≤ l.run-index * 65535;
}
