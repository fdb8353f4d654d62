use Rattle.std.proofs.Common.{◌≡◌, ◌-◌, ◌≤◌, replicate}
use Rattle.read_validate.specs.Ranges.{with_laid}
use Rattle.read_validate.proofs.range.lay_zeros.Given as goal

abbrev pub invariant-loop-left : goal.invariant-loop-left
invariant-loop-left l = record {
  few : l.left ≤ l.count;
  seat : l.seat ≡ with_laid (replicate (l.count - l.left) 0) l.fn.seat;
}

abbrev pub decreases-loop-left : goal.decreases-loop-left
decreases-loop-left l = l.left
