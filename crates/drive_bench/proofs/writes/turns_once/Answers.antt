use Rattle.std.proofs.Common.{ap, subst, sym, ◌∙◌, arith}
use Rattle.persistence.specs.Memory.{pending_of}
use Rattle.persistence.specs.Cells.{CellsNow}
use Rattle.crash_model.specs.Led.{Rests, IsAmong}
use Rattle.crash_model.proofs.Leading.{at_hand}
use Rattle.write_any.specs.declared.write.Write.{Write}
use Rattle.world_tests.proofs.WriteLemmas.{Writes, write_begins}
use Rattle.drive_bench.proofs.writes.turns_once.Goals as goal

pub end_write-ended-requires-clause-led : goal.end_write-ended-requires-clause-led
end_write-ended-requires-clause-led c = subst (λ (m : Write). IsAmong Rests 0 (Writes m) c.begin_write-write.new.world) (sym c.begin_write-write.ensures.write)
    (write_begins Rests c.begin_write-write.new.world 0 0 c.begin_write-write.ensures.begun
    (ap (λ (cells : CellsNow). pending_of 0 cells.memory.pending) c.begin_write-write.ensures.cells ∙ c.in_ok-world.ensures.no_marks)
    (at_hand Rests 0 c.begin_write-write.new.world (let many = c.begin_write-write.ensures.many in let one = c.in_ok-world.ensures.many in omega (arith, many, one)) c.begin_write-write.ensures.resting))
