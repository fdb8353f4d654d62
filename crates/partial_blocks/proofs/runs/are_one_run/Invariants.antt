use Rattle.std.proofs.Common.{◌≡◌, ◌<◌, ◌^◌, drop}
use Rattle.partial_blocks.specs.Runs.{follow, are_one_run}
use Rattle.partial_blocks.proofs.runs.are_one_run.Given as goal

abbrev pub invariant-loop-place : goal.invariant-loop-place
invariant-loop-place l = record {
  small : l.last < 2 ^ 16;
  rest : follow l.last (drop l.place l.owned) ≡ are_one_run l.owned;
}
