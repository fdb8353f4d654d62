use Rattle.std.proofs.Common.{◌≡◌, ℕ, ◌+◌, nat_lt, if◌then◌else◌, get_or}
use Rattle.partial_blocks.specs.Bytes.{laid_byte}
use Rattle.partial_blocks.proofs.bytes.lay_part.Given as goal

abbrev pub invariant-loop-k : goal.invariant-loop-k
invariant-loop-k l = (at : ℕ) → get_or l.into at 0 ≡ (if nat_lt at l.k then laid_byte l.offset l.bytes (l.place + at) (get_or l.fn.into at 0) else get_or l.fn.into at 0)
