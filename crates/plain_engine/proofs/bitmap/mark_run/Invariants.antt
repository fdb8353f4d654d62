use Rattle.std.proofs.Common.{◌≡◌, ℕ, ◌+◌, ◌&&◌, nat_le, nat_lt, if◌then◌else◌}
use Rattle.log_image.specs.Taken.{bit_of}
use Rattle.plain_engine.proofs.bitmap.mark_run.Given as goal

abbrev pub invariant-loop-k : goal.invariant-loop-k
invariant-loop-k l = (other : ℕ) → bit_of l.taken other ≡ (if nat_le l.first other && nat_lt other (l.first + l.k) then 1 else bit_of l.fn.taken other)
