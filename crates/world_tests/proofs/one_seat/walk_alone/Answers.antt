use Rattle.log_blocks.specs.declared.walk.Walk.{Walk}
use Rattle.log_blocks.specs.declared.walk.Walk.TheVariants.{Begin}
use Rattle.log_blocks.specs.Walking.{walk_script}
use Rattle.log_blocks.specs.WalkWithin.{MayWalk, HasWalkedOn}
use Rattle.log_blocks.proofs.WalkServes.{walks_within}
use Rattle.write_any.proofs.AdmitsOnce.{walk_one}
use Rattle.world_tests.proofs.OneSeat.{safe_alone}
use Rattle.world_tests.proofs.one_seat.walk_alone.Goals as goal

pub drive-requires : goal.drive-requires
drive-requires c = rw c.new.ensures
    (safe_alone walk_script MayWalk (λ o seat s g out t h. HasWalkedOn s g out t h) Begin walks_within c.args.seat.now c.args.memory.now walk_one c.requires)
