-- Giving owned blocks back within a core: when a seat may, and what it has in the end, whatever other seats do meanwhile.
use Rattle.std.specs.Prelude.{ℕ, ◌<◌, ◌≡◌, length}
use Rattle.pmem_words.specs.Seats.{Seat}
use Rattle.log_core.specs.Views.{Ghost}
use Rattle.log_core.specs.Origin.{Origin}
use Rattle.log_core.specs.Promising.{Promises}
use Rattle.block_bitmap.specs.declared.give.GiveFrom.{GiveFrom}
use Rattle.block_bitmap.specs.Giving.{give_of, give_script}
use Rattle.block_bitmap.specs.Given.{emptied}

-- the seat owns a block
pub record MayGive (s : Seat) (g : Ghost) : Type 0 where
  pub some : 0 < length s.blocks.owned

-- what it ends with: all blocks are given, and nothing else of the seat has changed
pub record IsGiven (start : Seat) (out : ℕ) (s : Seat) (g : Ghost) : Type 0 where
  pub count : out ≡ length start.blocks.owned
  pub seat : s ≡ emptied start

-- and its marks are as they were
pub record HasGivenBlocks (o : Origin) (seat : ℕ) (s0 : Seat) (g0 : Ghost) (out : ℕ) (s : Seat) (g : Ghost) : Type 0 where
  pub given : IsGiven s0 out s g
  pub marks : g.marks ≡ g0.marks

abbrev pub GivesWithin : Type 0
GivesWithin = (from : GiveFrom) → Promises give_script (λ o seat s g. MayGive s g) HasGivenBlocks (give_of from)
