use Rattle.std.proofs.Common.{rules, ◌==◌, not}
use Rattle.std.proofs.lemmas.Fn.{filter_same}
use Rattle.persistence.specs.Memory.{PendingMark}
use Rattle.persistence.proofs.cells.forget.Goals as goal

pub returns-clause-items : goal.returns-clause-items
returns-clause-items c = filter_same _ (λ (note : PendingMark). not (note.seat == c.args.seat)) _ (λ x b f h. search rules) _ _ c.retain.ensures.filtered
