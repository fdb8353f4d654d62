use Rattle.std.proofs.Common.{◌≡◌, ℕ, take}
use Rattle.std.specs.Prelude.{bit_or}
use Rattle.block_bitmap.specs.TakeBits.{blocks_in, bits_of}
use Rattle.block_bitmap.proofs.take_bits.least_bits.Given as goal

-- with the bits that are still to be added, those chosen so far are all
abbrev pub invariant-loop-rest : goal.invariant-loop-rest
invariant-loop-rest l = (word : ℕ) → bit_or l.least (bits_of (take l.left (blocks_in word l.rest))) ≡ bits_of (take l.count (blocks_in word l.bits))

abbrev pub decreases-loop-rest : goal.decreases-loop-rest
decreases-loop-rest l = l.left
