-- Each step answers at the place where the walk stands.
use Rattle.log_image.specs.Image.{shape_by}
use Rattle.recovery.proofs.Standing.{refused_by, stands_next, stands_falls, stands_last}
use Rattle.recovery.proofs.walks.walk_chain.Goals as goal

pub returns-in-Err : goal.returns-in-Err
returns-in-Err c =
    let stands = c.chain.invariant in
    refused_by c.args.words.now (shape_by c.args.geometry) c.chain.reading c.read_block.new.reading c.chain.block c.in-Err.refusal stands
    (c.in-Err.ensures.answer stands.place stands.agrees stands.fresh)

pub returns-in-Ok-None : goal.returns-in-Ok-None
returns-in-Ok-None c =
    let stands = c.chain.invariant in
    stands_last c.args.words.now (shape_by c.args.geometry) c.chain.reading c.read_block.new.reading c.chain.block stands
    (rw c.in-Ok-None.field-0-is at (c.in-Ok-None.ensures.answer stands.place stands.agrees stands.fresh))

pub chain-smaller : goal.chain-smaller
chain-smaller c =
    let stands = c.chain.invariant in
    stands_falls c.args.words.now (shape_by c.args.geometry) c.chain.reading c.read_block.new.reading c.chain.block c.in-Ok-Some.next stands
    (rw c.in-Ok-Some.field-0-is at (c.in-Ok-Some.ensures.answer stands.place stands.agrees stands.fresh))

pub chain-preserved : goal.chain-preserved
chain-preserved c =
    let stands = c.chain.invariant in
    stands_next c.args.words.now (shape_by c.args.geometry) c.chain.reading c.read_block.new.reading c.chain.block c.in-Ok-Some.next stands
    (rw c.in-Ok-Some.field-0-is at (c.in-Ok-Some.ensures.answer stands.place stands.agrees stands.fresh))
