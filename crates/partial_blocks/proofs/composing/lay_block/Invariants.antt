use Rattle.std.proofs.Common.{◌≡◌, length}
use Rattle.partial_blocks.specs.Composing.{words_laid}
use Rattle.partial_blocks.proofs.composing.lay_block.Given as goal

abbrev pub invariant-loop-word : goal.invariant-loop-word
invariant-loop-word l = record {
  seat : l.seat ≡ words_laid l.offset l.place l.virt l.word l.fn.seat;
  many : length l.seat.blocks.owned ≡ length l.fn.seat.blocks.owned;
  geometry : l.seat.geometry ≡ l.fn.seat.geometry;
  calling : l.seat.calling ≡ l.fn.seat.calling;
}
