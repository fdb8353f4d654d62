-- Taking blocks within a core: when a seat may, and what it has in the end, whatever other seats do meanwhile.
use Rattle.std.specs.Prelude.{ℕ, ◌+◌, ◌<◌, ◌≤◌, ◌≡◌, true, List, ◌++◌, length}
use Rattle.log_entry.specs.declared.shapes.Area.{Area}
use Rattle.log_image.specs.Chains.{all_different, is_listed}
use Rattle.pmem_words.specs.Seats.{Seat, owned_room}
use Rattle.log_core.specs.Views.{Ghost}
use Rattle.log_core.specs.Origin.{Origin}
use Rattle.log_core.specs.Works.{seat_shape}
use Rattle.log_core.specs.Needs.{is_in_area, owned_numbers, owned_in, lacking, is_found_taken}
use Rattle.log_core.specs.Answers.{HasLacked}
use Rattle.log_core.specs.Promising.{Promises}
use Rattle.block_bitmap.specs.declared.take.Taken.{Taken}
use Rattle.block_bitmap.specs.declared.take.Taken.TheVariants.{Taken as HasTaken, NoSpace}
use Rattle.block_bitmap.specs.TakeScript.{take_of, take_script, with_taken_blocks}
use Rattle.block_bitmap.specs.TakeAlone.{found_as}

-- the seat's call lacks as many blocks of the area as are wanted, and its list of owned blocks has a place for each
pub record MayLack (area : Area) (count : ℕ) (s : Seat) (g : Ghost) : Type 0 where
  pub some : 0 < count
  pub lacks : count ≤ lacking s s.calling.job area
  pub room : length s.blocks.owned + count ≤ owned_room s.geometry

-- since this state of it the seat has taken these blocks, all of the area, and has found some taken; nothing else of it has changed
pub record HasGrown (area : Area) (first : Seat) (blocks : List ℕ) (s : Seat) : Type 0 where
  pub seat : s ≡ found_as s.blocks.found (with_taken_blocks area blocks first)
  pub in_area : (block : ℕ) → is_listed blocks block ≡ true → is_in_area (seat_shape s) area block ≡ true
  pub more : owned_in s area ≡ owned_in first area ++ blocks

-- what it ends with: the seat owns what it owned, and as many blocks of the area more as it was told to take; or fewer, and its call
-- has found each of the area's blocks taken. No block is owned twice
pub record HasEnded (area : Area) (count : ℕ) (first : Seat) (out : Taken) (s : Seat) (g : Ghost) : Type 0 where
  pub blocks : List ℕ
  pub grown : HasGrown area first blocks s
  pub once : all_different (owned_numbers s.blocks.owned) ≡ true
  pub taken : out ≡ HasTaken → length blocks ≡ count
  pub no_space : (other : Area) → out ≡ NoSpace other → (other ≡ area) × (length blocks < count) × (is_found_taken s area ≡ true) × HasLacked g area

-- and its marks are as they were
pub record HasTakenBlocks (area : Area) (count : ℕ) (o : Origin) (seat : ℕ) (s0 : Seat) (g0 : Ghost) (out : Taken) (s : Seat) (g : Ghost) : Type 0 where
  pub ended : HasEnded area count s0 out s g
  pub marks : g.marks ≡ g0.marks

abbrev pub TakesWithin : Type 0
TakesWithin = (area : Area) (count : ℕ) → Promises take_script (λ o seat s g. MayLack area count s g) (HasTakenBlocks area count) (take_of area count)
