use Rattle.std.proofs.Common.{◌≡◌, ◌+◌, ◌<◌, ◌≤◌, ◌^◌, length}
use Rattle.partial_blocks.specs.Runs.{run_at, runs_at, runs_set}
use Rattle.partial_blocks.proofs.runs.compose_runs.Given as goal

abbrev pub invariant-loop-last : goal.invariant-loop-last
invariant-loop-last l = record {
  seat : l.seat ≡ runs_set l.count l.last l.fn.seat;
  run : l.run ≡ run_at l.last l.fn.seat;
  runs : l.runs ≡ runs_at l.last l.fn.seat;
  many : length l.seat.blocks.owned ≡ length l.fn.seat.blocks.owned;
  geometry : l.seat.geometry ≡ l.fn.seat.geometry;
  few : l.runs ≤ l.last + 1;
  short : l.run.count ≤ l.last + 1;
  small : l.run.block < 2 ^ 16;
}
