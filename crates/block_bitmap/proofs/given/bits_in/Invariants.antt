use Rattle.std.proofs.Common.{◌≡◌, drop}
use Rattle.block_bitmap.specs.GivenBits.{bits_from, bits_in}
use Rattle.block_bitmap.proofs.given.bits_in.Given as goal

abbrev pub invariant-loop-place : goal.invariant-loop-place
invariant-loop-place l = bits_from l.word l.bits (drop l.place l.owned) ≡ bits_in l.word l.owned
