use Rattle.std.proofs.Common.{◌<◌, ◌^◌, List, ℕ, arith, refl, subst, slice_index}
use Rattle.world_tests.proofs.OneSeat.{may_write}
use Rattle.world_tests.proofs.one_seat.writing_on.Goals as goal

pub returns : goal.returns
returns c = rw (c.put_bytes.ensures, c.set_job.ensures, c.in_ok-seat.ensures, c.geometry-geometry.ensures, c.position.ensures, c.in_ok-memory.ensures)
    (may_write c.args.start.geometry _ _ c.args.start.generation c.args.start.position c.args.start.size
    (subst (λ (words : List ℕ). (place : ℕ) → slice_index words place < 2 ^ 64) c.deref.ensures.value c.bound.ensures) c.into_parts-words.ensures.kept c.args.offset c.args.bytes.now (λ k. omega (arith, c.type_inv.bytes k)) c.requires.whole _ refl)
