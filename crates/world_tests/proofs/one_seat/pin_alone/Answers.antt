use Rattle.pins.specs.declared.pin.Pin.TheVariants.{Begin}
use Rattle.pins.specs.Pinning.{pin_script}
use Rattle.pins.specs.Within.{HasPinned}
use Rattle.log_blocks.specs.WalkWithin.{MayWalk}
use Rattle.write_any.proofs.AdmitsOnce.{pin_one}
use Rattle.world_tests.specs.OneSeat.{MayPinAndWalk}
use Rattle.world_tests.proofs.OneSeat.{safe_alone, next_alone, pins_so, may_walk}
use Rattle.world_tests.proofs.one_seat.pin_alone.Goals as goal

pub drive-requires : goal.drive-requires
drive-requires c = rw c.new.ensures (safe_alone pin_script MayPinAndWalk HasPinned Begin pins_so c.args.seat.now c.args.memory.now pin_one c.requires)

pub returns : goal.returns
returns c = next_alone pin_script MayPinAndWalk HasPinned Begin pins_so c.args.seat.now c.args.memory.now MayWalk c.drive.result c.drive.new.seat c.drive.new.memory
    (λ o seat g h v number may left same. may_walk o seat c.args.seat.now g c.drive.result c.drive.new.seat h v number may left) c.requires (rw c.new.ensures at c.drive.ensures)
