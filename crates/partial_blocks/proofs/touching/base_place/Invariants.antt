use Rattle.std.proofs.Common.{◌≡◌, drop}
use Rattle.partial_blocks.specs.Touching.{place_from, base_place}
use Rattle.partial_blocks.proofs.touching.base_place.Given as goal

-- none of the bases looked at is it
abbrev pub invariant-loop-place : goal.invariant-loop-place
invariant-loop-place l = place_from l.place (drop l.place l.bases) l.virt ≡ base_place l.bases l.virt
