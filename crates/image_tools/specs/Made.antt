-- The bitmap of a just-made image.
use Rattle.std.specs.Prelude.{ℕ, ◌*◌, ◌≡◌, ◌≤◌, ◌<◌, ◌==◌, ◌||◌, if◌then◌else◌, List, length}
use Rattle.log_image.specs.Taken.{bit_of}

-- there is a bit for each of so many blocks, and of these the set ones are those of block 0 and of one other
pub record HasBitsOf (blocks other : ℕ) (taken : List ℕ) : Type 0 where
  pub room : blocks ≤ 64 * length taken
  pub bits : (block : ℕ) → block < blocks → bit_of taken block ≡ (if block == 0 || other == block then 1 else 0)
