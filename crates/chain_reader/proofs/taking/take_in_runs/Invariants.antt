use Rattle.std.proofs.Common.{◌≡◌}
use Rattle.chain_reader.proofs.RunsLemmas.{RunsRead}
use Rattle.chain_reader.proofs.taking.take_in_runs.Given as goal

abbrev pub invariant-loop-run : goal.invariant-loop-run
invariant-loop-run l = record {
  read : RunsRead l.fn.table l.table l.holder l.block l.virt l.run-index;
  size : l.table.size ≡ l.fn.table.size;
  unit : l.table.block_bytes ≡ l.fn.table.block_bytes;
}
