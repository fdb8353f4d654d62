use Rattle.std.proofs.Common.{Some, sym, ◌∙◌, ap}
use Rattle.io_ends.proofs.TakingLemmas.{left-splits}
use Rattle.io_ends.proofs.in_memory.BytesSource.read.Goals as goal

pub returns-clause-bytes : goal.returns-clause-bytes
returns-clause-bytes c =
    ap Some (sym c.self.view_is ∙ left-splits c.self.inside.all.items c.deref.result.now c.lay-count.new.into c.self.inside.at c.lay-count.result c.deref.ensures.value c.lay-count.ensures.laid)
