use Rattle.std.proofs.Common.{◌≡◌, ◌≤◌, ◌++◌, take, drop, length, vec_capacity}
use Rattle.pmem_words.specs.Owned.{fenced_all}
use Rattle.pmem_words.proofs.leaving.fence_blocks.Given as goal

abbrev pub invariant-loop-place : goal.invariant-loop-place
invariant-loop-place l = record {
  many : length l.blocks.items ≡ l.place-end;
  room : vec_capacity l.fn.blocks ≤ vec_capacity l.blocks;
  told : take l.place l.blocks.items ++ fenced_all (drop l.place l.blocks.items) ≡ fenced_all l.fn.blocks.items;
}
