use Rattle.log_image.specs.Image.{total, shape_by}
use Rattle.recovery.proofs.Standing.{Standing, unseen}
use Rattle.recovery.proofs.walks.walk_chain.Given as goal

abbrev pub invariant-chain : goal.invariant-chain
invariant-chain l = Standing l.words (shape_by l.geometry) l.reading l.block

abbrev pub decreases-chain : goal.decreases-chain
decreases-chain l = unseen l.reading.chain.items (total (shape_by l.geometry))
