-- Who has each block.
use Rattle.std.specs.Prelude.{ℕ, ◌<◌, ◌≡◌, ◌≢◌, true, Bool, List, ◌++◌}
use Rattle.log_image.specs.Image.{Shape, total, is_in_data, is_in_log}
use Rattle.log_image.specs.Chains.{all_different, is_listed}
use Rattle.log_image.specs.Taken.{bit_of}
use Rattle.pmem_words.specs.Seats.{Seat}
use Rattle.log_core.specs.Views.{View, view_of}
use Rattle.log_core.specs.Origin.{Owner, Free, Header, InChain, OwnedBy, LeftTo}
use Rattle.log_core.specs.Needs.{owned_numbers}

-- the bit of a block with this owner
abbrev pub bit_for : Owner → ℕ
bit_for Free = 0
bit_for Header = 1
bit_for InChain = 1
bit_for (OwnedBy seat) = 1
bit_for (LeftTo seat) = 1

-- a bit is set exactly for each block that has an owner; only blocks of the image have one; and the header has block 0 alone
pub record BitsFit (image : Shape) (taken : List ℕ) (owner : ℕ → Owner) : Type 0 where
  pub bits : (block : ℕ) → block < total image → bit_of taken block ≡ bit_for (owner block)
  pub inside : (block : ℕ) → owner block ≢ Free → block < total image
  pub header : owner 0 ≡ Header
  pub only : (block : ℕ) → owner block ≡ Header → block ≡ 0

-- the present chain has exactly the blocks that it names
pub record ChainOwns (is_named : ℕ → Bool) (owner : ℕ → Owner) : Type 0 where
  pub named : (block : ℕ) → owner block ≡ InChain → is_named block ≡ true
  pub all : (block : ℕ) → is_named block ≡ true → owner block ≡ InChain

-- a list is exactly the blocks of an owner, each once
pub record IsListOf (owner : ℕ → Owner) (blocks : List ℕ) (whose : Owner) : Type 0 where
  pub listed : (block : ℕ) → is_listed blocks block ≡ true → owner block ≡ whose
  pub all : (block : ℕ) → owner block ≡ whose → is_listed blocks block ≡ true
  pub once : all_different blocks ≡ true

-- a seat's owned blocks, and those left to it
pub record SeatOwns (owner : ℕ → Owner) (number : ℕ) (s : Seat) : Type 0 where
  pub owned : IsListOf owner (owned_numbers s.blocks.owned) (OwnedBy number)
  pub left : IsListOf owner (s.giving.replaced ++ s.giving.limbo) (LeftTo number)

abbrev pub SeatsOwn : (ℕ → Owner) → List View → Type 0
SeatsOwn owner views = (number : ℕ) → SeatOwns owner number (view_of views number).seat

-- the chain of a kept generation names no block twice, and each in its area
pub record NamesOnce (image : Shape) (chain rest : List ℕ) : Type 0 where
  pub once : all_different (chain ++ rest) ≡ true
  pub chain_area : (block : ℕ) → is_listed chain block ≡ true → is_in_log image block ≡ true
  pub data_area : (block : ℕ) → is_listed rest block ≡ true → is_in_data image block ≡ true
