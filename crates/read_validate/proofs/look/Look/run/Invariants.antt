use Rattle.std.proofs.Common.{ℕ, List}
use Rattle.pmem_words.specs.Courses.{over}
use Rattle.pmem_words.specs.Drives.{Goes}
use Rattle.read_validate.specs.Looking.{look_script}
use Rattle.read_validate.proofs.look.Look.run.Given as goal

-- some answers led here from the start
abbrev pub invariant-loop-seen : goal.invariant-loop-seen
invariant-loop-seen g l = (answers : List ℕ) × Goes look_script (over look_script g.W.Memory.store) l.fn.self l.fn.seat l.fn.memory answers l.self l.seat l.memory

abbrev pub decreases-loop-seen : goal.decreases-loop-seen
decreases-loop-seen g l = look_script.measure l.self l.seat
