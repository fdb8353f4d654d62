use Rattle.std.proofs.Common.{◌≡◌, length}
use Rattle.partial_blocks.specs.Composing.{places_composed}
use Rattle.partial_blocks.proofs.composing.compose.Given as goal

abbrev pub invariant-loop-place : goal.invariant-loop-place
invariant-loop-place l = record {
  seat : l.seat ≡ places_composed l.offset l.place l.fn.seat;
  many : length l.seat.blocks.owned ≡ length l.fn.seat.blocks.owned;
  geometry : l.seat.geometry ≡ l.fn.seat.geometry;
  calling : l.seat.calling ≡ l.fn.seat.calling;
}
