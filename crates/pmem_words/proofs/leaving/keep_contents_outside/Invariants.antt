use Rattle.std.proofs.Common.{◌≡◌, ◌≤◌, ◌*◌, ◌++◌, take, drop, vec_len, vec_capacity}
use Rattle.pmem_words.specs.Owned.{contents_but}
use Rattle.pmem_words.specs.Runs.{is_in_runs}
use Rattle.pmem_words.proofs.leaving.keep_contents_outside.Given as goal

-- the words that stay are at the front, and the others yet to be looked at stand as they were
abbrev pub invariant-loop-place : goal.invariant-loop-place
invariant-loop-place l = record {
  low : l.to ≤ l.place * l.block_words;
  many : vec_len l.contents ≡ l.place-end * l.block_words;
  room : vec_capacity l.fn.contents ≤ vec_capacity l.contents;
  kept : take l.to l.contents.items ++ contents_but l.block_words (is_in_runs l.first l.count l.runs) (drop l.place l.blocks) (drop (l.place * l.block_words) l.contents.items)
      ≡ contents_but l.block_words (is_in_runs l.first l.count l.runs) l.blocks l.fn.contents.items;
}
