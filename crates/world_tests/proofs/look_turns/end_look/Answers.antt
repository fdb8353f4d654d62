use Rattle.write_any.proofs.AdmitsOnce.{pin_one, walk_one}
use Rattle.read_validate.proofs.AdmitsOnce.{look_one}
use Rattle.world_tests.proofs.look_turns.end_look.Goals as goal

pub turn_among-requires-clause-one : goal.turn_among-requires-clause-one
turn_among-requires-clause-one g c = look_one pin_one walk_one
