use Rattle.std.proofs.Common.{◌≡◌, ◌≤◌, ◌+◌, ◌-◌, drop, length}
use Rattle.log_blocks.specs.Committing.{owned_place}
use Rattle.log_blocks.proofs.committing.place_of.Given as goal

-- none of the blocks looked at is it
abbrev pub invariant-loop-place : goal.invariant-loop-place
invariant-loop-place l = record {
  inside : l.place ≤ length l.owned;
  rest : l.place + owned_place l.block (drop l.place l.owned) ≡ owned_place l.block l.owned;
}

abbrev pub decreases-loop-place : goal.decreases-loop-place
decreases-loop-place l = length l.owned - l.place
