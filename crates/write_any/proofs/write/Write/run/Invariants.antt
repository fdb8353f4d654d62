use Rattle.std.proofs.Common.{ℕ, List}
use Rattle.pmem_words.specs.Courses.{over}
use Rattle.pmem_words.specs.Drives.{Goes}
use Rattle.write_any.specs.Writing.{write_script}
use Rattle.write_any.proofs.write.Write.run.Given as goal

-- some answers led here from the start
abbrev pub invariant-loop-written : goal.invariant-loop-written
invariant-loop-written g l = (answers : List ℕ) × Goes write_script (over write_script g.W.Memory.store) l.fn.self l.fn.seat l.fn.memory answers l.self l.seat l.memory

abbrev pub decreases-loop-written : goal.decreases-loop-written
decreases-loop-written g l = write_script.measure l.self l.seat
