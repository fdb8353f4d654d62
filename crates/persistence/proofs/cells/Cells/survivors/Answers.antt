use Rattle.persistence.proofs.ChoiceLemmas.{chosen_if_ok, survives_if_ok}
use Rattle.persistence.proofs.cells.Cells.survivors.Goals as goal

pub returns-clause-chosen : goal.returns-clause-chosen
returns-clause-chosen c =
    let indices = c.in_ok-indices.indices.items in
    let index = rw (← c.self.view_is) at c.in_ok-indices.ensures.each in
    let long = rw (c.deref.ensures.value) at c.values_at.ensures.len in
    let each = rw (c.deref.ensures.value, c.deref-2.ensures.value, c.deref-3.ensures.value) at c.values_at.ensures.each in
    rw (← c.self.view_is) (chosen_if_ok _ c.args.choice _ indices index long each)

pub returns-clause-survives : goal.returns-clause-survives
returns-clause-survives c = survives_if_ok _ c.args.choice c.args.self.now.memory (returns-clause-chosen c)
