use Rattle.std.proofs.Common.{◌≡◌, ◌≤◌, ◌++◌, take, drop, length, vec_capacity}
use Rattle.pmem_words.specs.Owned.{owned_but}
use Rattle.pmem_words.specs.Runs.{is_in_runs}
use Rattle.pmem_words.proofs.leaving.keep_blocks_outside.Given as goal

-- those that stay are at the front, and the others yet to be looked at stand as they were
abbrev pub invariant-loop-place : goal.invariant-loop-place
invariant-loop-place l = record {
  low : l.to ≤ l.place;
  many : length l.blocks.items ≡ l.place-end;
  room : vec_capacity l.fn.blocks ≤ vec_capacity l.blocks;
  kept : take l.to l.blocks.items ++ owned_but (is_in_runs l.first l.count l.runs) (drop l.place l.blocks.items) ≡ owned_but (is_in_runs l.first l.count l.runs) l.fn.blocks.items;
}
