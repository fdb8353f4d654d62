use Rattle.std.proofs.Common.{◌<◌, ◌^◌, List, ℕ, subst, slice_index}
use Rattle.world_tests.proofs.OneSeat.{new_idle}
use Rattle.world_tests.proofs.one_seat.alone_on.Goals as goal

pub returns : goal.returns
returns c = rw (c.in_ok-seat.ensures, c.geometry-geometry.ensures, c.position.ensures, c.in_ok-memory.ensures)
    (new_idle c.args.start.geometry _ _ c.args.start.generation c.args.start.position c.args.start.size
    (subst (λ (words : List ℕ). (place : ℕ) → slice_index words place < 2 ^ 64) c.deref.ensures.value c.bound.ensures) c.into_parts-words.ensures.kept)
