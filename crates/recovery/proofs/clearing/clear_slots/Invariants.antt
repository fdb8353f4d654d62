use Rattle.std.proofs.Common.{◌≡◌, ◌+◌, ◌==◌, ◌&&◌, ◌||◌, nat_lt, ℕ, slice_index, if◌then◌else◌}
use Rattle.recovery.proofs.clearing.clear_slots.Given as goal

abbrev pub invariant-loop-place : goal.invariant-loop-place
invariant-loop-place l = (at : ℕ) → slice_index l.words at ≡
    (if (at == l.first) || (nat_lt (l.first + l.slot) at && nat_lt at l.place) then 0 else slice_index l.fn.words at)
