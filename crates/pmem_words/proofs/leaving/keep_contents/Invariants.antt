use Rattle.std.proofs.Common.{◌≡◌, ◌≤◌, ◌*◌, ◌++◌, take, drop, vec_len, vec_capacity}
use Rattle.pmem_words.specs.Owned.{is_among, contents_but}
use Rattle.pmem_words.proofs.leaving.keep_contents.Given as goal

-- the words that stay are at the front, and the others yet to be looked at stand as they were
abbrev pub invariant-loop-place : goal.invariant-loop-place
invariant-loop-place l = record {
  low : l.to ≤ l.place * l.block_words;
  many : vec_len l.contents ≡ l.place-end * l.block_words;
  room : vec_capacity l.fn.contents ≤ vec_capacity l.contents;
  kept : take l.to l.contents.items ++ contents_but l.block_words (is_among l.word l.bits) (drop l.place l.blocks) (drop (l.place * l.block_words) l.contents.items)
      ≡ contents_but l.block_words (is_among l.word l.bits) l.blocks l.fn.contents.items;
}
