use Rattle.pins.specs.declared.pin.Pin.TheVariants.{Begin as BeginPin}
use Rattle.pins.specs.Pinning.{pin_script}
use Rattle.pins.specs.Within.{HasPinned}
use Rattle.log_blocks.specs.declared.walk.Walk.TheVariants.{Begin as BeginWalk}
use Rattle.log_blocks.specs.Walking.{walk_script}
use Rattle.log_blocks.specs.WalkWithin.{HasWalkedOn}
use Rattle.write_any.specs.WriteWithin.{MayWrite}
use Rattle.write_any.proofs.AdmitsOnce.{pin_one, walk_one}
use Rattle.world_tests.specs.OneSeat.{MayWalkAndWrite}
use Rattle.world_tests.proofs.OneSeat.{safe_alone}
use Rattle.world_tests.proofs.WriteAfter.{pins_to_write, pinned_alone, walks_to_write, walked_alone}
use Rattle.world_tests.proofs.one_seat.walk_before.Goals as goal

pub drive-requires : goal.drive-requires
drive-requires c = rw c.new.ensures (safe_alone pin_script (MayWrite c.args.offset) HasPinned BeginPin (pins_to_write c.args.offset) c.args.seat.now c.args.memory.now pin_one c.requires)

pub drive-requires-2 : goal.drive-requires-2
drive-requires-2 c = rw c.new-2.ensures (safe_alone walk_script (MayWalkAndWrite c.args.offset) (λ o seat s g out t h. HasWalkedOn s g out t h) BeginWalk (walks_to_write c.args.offset) c.drive.new.seat c.drive.new.memory walk_one
    (pinned_alone c.args.offset c.args.seat.now c.args.memory.now c.drive.result c.drive.new.seat c.drive.new.memory c.requires (rw c.new.ensures at c.drive.ensures)))

pub returns : goal.returns
returns c = walked_alone c.args.offset c.drive.new.seat c.drive.new.memory c.drive-2.result c.drive-2.new.seat c.drive-2.new.memory
    (pinned_alone c.args.offset c.args.seat.now c.args.memory.now c.drive.result c.drive.new.seat c.drive.new.memory c.requires (rw c.new.ensures at c.drive.ensures))
    (rw c.new-2.ensures at c.drive-2.ensures)
