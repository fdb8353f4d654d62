use Rattle.std.proofs.Common.{subst, IfOk}
use Rattle.crash_model.specs.Images.{AreRecovered, HaveAllWrites}
use Rattle.crash_model.specs.Worlds.{WorldNow, image_of}
use Rattle.crash_model.proofs.world.World.survivors.Goals as goal

pub returns-clause-recovered : goal.returns-clause-recovered
returns-clause-recovered c = subst (λ (w : WorldNow). IfOk c.survivors.result (λ words. AreRecovered (image_of w) words.items)) c.self.view_is c.survivors.ensures.recovered

pub returns-clause-newest : goal.returns-clause-newest
returns-clause-newest c newest = subst (λ (w : WorldNow). IfOk c.survivors.result (λ words. HaveAllWrites (image_of w) words.items)) c.self.view_is (c.survivors.ensures.newest newest)
