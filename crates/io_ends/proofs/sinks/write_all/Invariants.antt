use Rattle.std.proofs.Common.{◌≡◌, ◌-◌, ◌≤◌, length, take}
use Rattle.io_ends.specs.Faults.{Stays}
use Rattle.io_ends.specs.Giving.{Gives}
use Rattle.io_ends.proofs.sinks.write_all.Given as goal

abbrev pub invariant-loop-at : goal.invariant-loop-at
invariant-loop-at g l = (l.at ≤ length l.bytes)
    × Gives (g.K.Sink.written l.initial.sink) (g.K.Sink.written l.sink) (take l.at l.bytes)
    × (g.K.Sink.faults l.initial.sink ≤ g.K.Sink.faults l.sink) × Stays g.K.Sink.exact (g.K.Sink.faults l.initial.sink) (g.K.Sink.faults l.sink)
    × (length l.bytes ≡ 0 → l.sink ≡ l.initial.sink)

abbrev pub decreases-loop-at : goal.decreases-loop-at
decreases-loop-at g l = length l.bytes - l.at
