-- Ranges of blocks whose bits are 0 or not.
use Rattle.std.specs.Prelude.{ℕ, ◌≡◌, ◌≢◌, ◌+◌, ◌<◌, ◌≤◌, List}
use Rattle.log_image.specs.Taken.{bit_of}

-- no bit of the range is 0
abbrev pub AllTaken : List ℕ → ℕ → ℕ → Type 0
AllTaken taken from end = (block : ℕ) → from ≤ block → block < end → bit_of taken block ≢ 0

-- each bit of the range is 0
abbrev pub AllClear : List ℕ → ℕ → ℕ → Type 0
AllClear taken from end = (block : ℕ) → from ≤ block → block < end → bit_of taken block ≡ 0

-- the first block of the range whose bit is 0
pub record IsFirstClear (taken : List ℕ) (from end block : ℕ) : Type 0 where
  pub after : from ≤ block
  pub inside : block < end
  pub clear : bit_of taken block ≡ 0
  pub before : AllTaken taken from block

-- so many blocks from the first clear one of the range on are clear, and in the range
pub record IsLeastRun (taken : List ℕ) (from end count block : ℕ) : Type 0 where
  pub first : IsFirstClear taken from end block
  pub room : block + count ≤ end
  pub run : AllClear taken block (block + count)
