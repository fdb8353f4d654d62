use Rattle.std.proofs.Common.{◌≡◌, drop}
use Rattle.block_bitmap.specs.GivenBits.{least_from, least_word}
use Rattle.block_bitmap.proofs.given.least_word.Given as goal

abbrev pub invariant-loop-place : goal.invariant-loop-place
invariant-loop-place l = least_from l.least (drop l.place l.owned) ≡ least_word l.owned
