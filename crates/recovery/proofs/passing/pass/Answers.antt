-- The table maps to blocks of the image; where no condition held, the image has passed.
use Rattle.log_image.specs.Image.{shape_by}
use Rattle.opening_rules.specs.Walks.{end_place}
use Rattle.recovery.proofs.PassingLemmas.{maps_inside, all_passed}
use Rattle.recovery.proofs.passing.pass.Goals as goal

pub first_slack-requires-clause-inside : goal.first_slack-requires-clause-inside
first_slack-requires-clause-inside c =
    let walk = c.in-Ok-walk_chain.ensures in
    maps_inside (shape_by c.in-Ok.geometry) c.in-Ok-walk_chain.reading (end_place c.args.words.now (shape_by c.in-Ok.geometry) walk.0) walk.1.agrees

pub returns-in-None : goal.returns-in-None
returns-in-None c =
    all_passed c.args.bytes c.args.words.now c.in-Ok.geometry c.in-Ok-walk_chain.reading c.in-Ok.ensures.answer.0 c.in-Ok.ensures.answer.1 c.in-Ok.ensures.exact c.in-Ok.ensures.long
    c.in-Ok-walk_chain.ensures c.in-None.ensures
