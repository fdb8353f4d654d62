use Rattle.write_any.proofs.AdmitsOnce.{write_one}
use Rattle.world_tests.proofs.write_turns.turn_write.Goals as goal

pub turn_among-requires-clause-one : goal.turn_among-requires-clause-one
turn_among-requires-clause-one g c = write_one
