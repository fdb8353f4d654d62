use Rattle.std.proofs.Common.{ℕ, List}
use Rattle.pmem_words.specs.Courses.{over}
use Rattle.pmem_words.specs.Drives.{Goes}
use Rattle.partial_blocks.specs.ReadingBases.{read_bases_script}
use Rattle.partial_blocks.proofs.read_bases.ReadBases.run.Given as goal

-- some answers led here from the start
abbrev pub invariant-loop-next : goal.invariant-loop-next
invariant-loop-next g l = (answers : List ℕ) × Goes read_bases_script (over read_bases_script g.W.Memory.store) l.fn.self l.fn.seat l.fn.memory answers l.reading l.seat l.memory

abbrev pub decreases-loop-next : goal.decreases-loop-next
decreases-loop-next g l = read_bases_script.measure l.reading l.seat
