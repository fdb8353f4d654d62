use Rattle.write_any.specs.declared.stage.Target.TheVariants.{At}
use Rattle.write_any.specs.Writing.{write_of, write_script}
use Rattle.write_any.specs.WriteWithin.{MayWrite, HasWritten}
use Rattle.write_any.proofs.AdmitsOnce.{write_one}
use Rattle.write_any.proofs.WriteServes.{writes_whole}
use Rattle.world_tests.proofs.OneSeat.{safe_alone}
use Rattle.world_tests.proofs.one_seat.write_by_steps.Goals as goal

pub drive-requires : goal.drive-requires
drive-requires c = rw c.new.ensures
    (safe_alone write_script (MayWrite c.args.offset) (HasWritten c.args.offset) (write_of (At c.args.offset)) (writes_whole c.args.offset) c.args.seat.now c.args.memory.now write_one c.requires)
