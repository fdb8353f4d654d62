use Rattle.std.proofs.Common.{◌<◌, ◌==◌, not, arith, vec_len}
use Rattle.std.proofs.lemmas.List.Elements.{All-filter}
use Rattle.persistence.specs.Memory.{PendingMark}
use Rattle.persistence.proofs.cells.Cells.fence.Goals as goal

pub invariant_of-self : goal.invariant_of-self
invariant_of-self c = (
  omega arith,
  omega arith,
  c.self.invariant.2,
  c.self.invariant.3,
  rw c.forget.ensures.items
      (All-filter (λ (note : PendingMark). not (note.seat == c.args.seat)) (λ (note : PendingMark). note.word < vec_len c.self.inside.words) c.self.inside.pending.items c.self.invariant.4),
)
