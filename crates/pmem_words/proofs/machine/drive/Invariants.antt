use Rattle.std.proofs.Common.{List, ℕ}
use Rattle.pmem_words.specs.Courses.{over}
use Rattle.pmem_words.specs.Drives.{Goes}
use Rattle.pmem_words.proofs.machine.drive.Given as goal

-- some answers led here from the start
abbrev pub invariant-loop-out : goal.invariant-loop-out
invariant-loop-out g l =
    (answers : List ℕ) × Goes g.M.Machine.script (over g.M.Machine.script g.W.Memory.store) l.fn.machine l.fn.seat l.fn.memory answers l.machine l.seat l.memory

abbrev pub decreases-loop-out : goal.decreases-loop-out
decreases-loop-out g l = g.M.Machine.script.measure l.machine l.seat
