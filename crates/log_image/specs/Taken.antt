-- Which blocks are taken, as a bitmap has it: one bit for each block of the image, 64 to a word.
use Rattle.std.specs.Prelude.{ℕ, ◌*◌, ◌/◌, ◌%◌, ◌≡◌, ◌≤◌, ◌<◌, ◌==◌, Bool, ◌||◌, if◌then◌else◌, List, ◌++◌, length, slice_index}
use Rattle.std.specs.Int.{bit_at}
use Rattle.log_image.specs.Image.{Shape, total}
use Rattle.log_image.specs.Entries.{all_names}
use Rattle.log_image.specs.Chains.{is_listed}
use Rattle.log_image.specs.Positions.{entries_of}

-- the bit of a block
abbrev pub bit_of : List ℕ → ℕ → ℕ
bit_of taken block = bit_at (slice_index taken (block / 64)) (block % 64)

-- the blocks that a chain names: its own, and those of the data area that its entries name
abbrev pub named_blocks : List ℕ → Shape → List ℕ → List ℕ
named_blocks words shape chain = chain ++ all_names (entries_of words shape chain)

-- the header, or a block that the chain names
abbrev pub is_taken : List ℕ → Shape → List ℕ → ℕ → Bool
is_taken words shape chain block = block == 0 || is_listed (named_blocks words shape chain) block

-- there is a bit for each block of the image, and of these the set ones are those of block 0 and of these blocks
pub record HasBits (shape : Shape) (taken blocks : List ℕ) : Type 0 where
  pub room : total shape ≤ 64 * length taken
  pub bits : (block : ℕ) → block < total shape → bit_of taken block ≡ (if block == 0 || is_listed blocks block then 1 else 0)

-- the set bits are those of block 0 and of the blocks that the chain names
abbrev pub HasTaken : List ℕ → Shape → List ℕ → List ℕ → Type 0
HasTaken words shape chain taken = HasBits shape taken (named_blocks words shape chain)
