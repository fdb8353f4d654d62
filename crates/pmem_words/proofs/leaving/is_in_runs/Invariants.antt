use Rattle.std.proofs.Common.{◌≡◌, ◌||◌, drop}
use Rattle.pmem_words.specs.Runs.{is_in_runs}
use Rattle.pmem_words.proofs.leaving.is_in_runs.Given as goal

-- the block is of a run looked at, or else of one yet to be looked at
abbrev pub invariant-loop-place : goal.invariant-loop-place
invariant-loop-place l = record {
  rest : (l.is || is_in_runs l.first l.count (drop l.place l.runs) l.block) ≡ is_in_runs l.first l.count l.runs l.block;
}
