use Rattle.std.proofs.Common.{◌≡◌, ◌+◌, ◌-◌, ◌≤◌, vec_len}
use Rattle.io_ends.specs.Faults.{Stays}
use Rattle.io_ends.specs.Taking.{Takes}
use Rattle.io_ends.specs.declared.sources.TheConstants.{PIECE}
use Rattle.io_ends.proofs.sources.read_all.Given as goal

abbrev pub invariant-loop-count : goal.invariant-loop-count
invariant-loop-count g l = (vec_len l.buffer ≡ PIECE) × (vec_len l.bytes ≤ l.limit)
    × Takes (g.S.Source.left l.initial.source) (g.S.Source.left l.source) l.bytes.items
    × (g.S.Source.faults l.initial.source ≤ g.S.Source.faults l.source) × Stays g.S.Source.exact (g.S.Source.faults l.initial.source) (g.S.Source.faults l.source)

abbrev pub decreases-loop-count : goal.decreases-loop-count
decreases-loop-count g l = l.limit + 1 - vec_len l.bytes
