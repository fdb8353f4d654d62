use Rattle.log_image.proofs.StartRows.{kept_made}
use Rattle.plain_engine.proofs.tests.made.Goals as goal

pub new-requires : goal.new-requires
new-requires c = ∣ kept_made c.args.geometry c.args.words.items c.args.taken.items c.requires.shape c.requires.words c.requires.taken ∣₁
