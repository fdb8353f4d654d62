use Rattle.std.proofs.Common.{◌≡◌, length}
use Rattle.write_any.specs.Composing.{blocks_set}
use Rattle.write_any.proofs.contents.compose.Given as goal

abbrev pub invariant-loop-place : goal.invariant-loop-place
invariant-loop-place l = record {
  seat : l.seat ≡ blocks_set l.place l.fn.seat;
  many : length l.seat.blocks.owned ≡ length l.fn.seat.blocks.owned;
  geometry : l.seat.geometry ≡ l.fn.seat.geometry;
  calling : l.seat.calling ≡ l.fn.seat.calling;
}
