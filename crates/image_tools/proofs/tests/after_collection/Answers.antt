use Rattle.image_tools.proofs.TestLemmas.{kept_collected}
use Rattle.image_tools.proofs.tests.after_collection.Goals as goal

pub new-requires : goal.new-requires
new-requires c = ∣ kept_collected c.args.geometry c.args.words.items c.args.taken.items c.requires.shape c.requires.words c.requires.taken ∣₁
