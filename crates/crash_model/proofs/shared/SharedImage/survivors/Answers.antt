use Rattle.std.proofs.Common.{◌≡◌, ◌∙◌, ap, subst}
use Rattle.std.proofs.lemmas.Result.{IfOk-weaker}
use Rattle.persistence.specs.Survivors.{Survives}
use Rattle.persistence.specs.Choices.{chosen}
use Rattle.persistence.specs.declared.survivors.Choice.{Choice}
use Rattle.crash_model.specs.Images.{SharedNow, AreRecovered, HaveAllWrites}
use Rattle.crash_model.proofs.Surviving.{left_recovered, newest_has}
use Rattle.crash_model.proofs.shared.SharedImage.survivors.Goals as goal

pub returns-clause-recovered : goal.returns-clause-recovered
returns-clause-recovered c = IfOk-weaker c.survivors.result (λ words. Survives c.self.inside.cells.memory words.items) (λ words. AreRecovered c.args.self.now words.items)
    (λ words left. subst (λ (i : SharedNow). AreRecovered i words.items) c.self.view_is (left_recovered (record { geometry = c.self.inside.geometry; cells = c.self.inside.cells; position = c.self.inside.position; synced = c.self.inside.synced }) words.items left))
    c.survivors.ensures.survives

pub returns-clause-newest : goal.returns-clause-newest
returns-clause-newest c newest = IfOk-weaker c.survivors.result (λ words. words.items ≡ chosen c.args.choice c.self.inside.cells.memory) (λ words. HaveAllWrites c.args.self.now words.items)
    (λ words is. subst (λ (i : SharedNow). HaveAllWrites i words.items) c.self.view_is
    (newest_has (record { geometry = c.self.inside.geometry; cells = c.self.inside.cells; position = c.self.inside.position; synced = c.self.inside.synced }) words.items
    (is ∙ ap (λ (choice : Choice). chosen choice c.self.inside.cells.memory) newest)))
    c.survivors.ensures.chosen
