use Rattle.std.proofs.Common.{◌≡◌, ◌-◌}
use Rattle.read_validate.specs.Ranges.{rest_of}
use Rattle.read_validate.proofs.range.next_mapped.Given as goal

abbrev pub invariant-loop-place : goal.invariant-loop-place
invariant-loop-place l = record { same : rest_of l.end l.place l.seat ≡ rest_of l.end l.fn.place l.seat }

abbrev pub decreases-loop-place : goal.decreases-loop-place
decreases-loop-place l = l.end - l.place
