-- The tail of a chain, where reading ends, and what stands after it in its block.
use Rattle.std.specs.Prelude.{ℕ, ◌+◌, ◌*◌, ◌≡◌, ◌==◌, Bool, true, false, ◌&&◌, ◌||◌, nat_lt, if◌then◌else◌, List, [], ◌∷◌, length, slice_index}
use Rattle.log_image.specs.Image.{Shape, words_in, block_words}
use Rattle.log_image.specs.Blocks.{slots_of, entry_words, is_closed}

-- an empty slot, by its number of word in its block; or the link of a full or sealed block, which is 0
pub data Tail : Type 0 where
  AtSlot : (block slot : ℕ) → Tail
  AtLink : (block : ℕ) → Tail

-- the last of a list of blocks
abbrev pub last_block : ℕ → List ℕ → ℕ
last_block block [] = block
last_block block (next ∷ rest) = last_block next rest

-- the tail in the block of this number and these words
abbrev pub tail_in : ℕ → List ℕ → Tail
tail_in block words = if is_closed (slots_of words) then AtLink block else AtSlot block (3 + length (entry_words (slots_of words)))

-- the tail that a chain ends with
abbrev pub tail_of : List ℕ → Shape → List ℕ → Tail
tail_of words shape chain = tail_in (last_block 0 chain) (block_words words shape (last_block 0 chain))

-- the places in the image of the slots after the tail in the tail's block and, where the tail is a slot, of that block's link
abbrev pub is_after : Shape → Tail → ℕ → Bool
is_after shape (AtSlot block slot) place = place == block * words_in shape || (nat_lt (block * words_in shape + slot) place && nat_lt place (block * words_in shape + words_in shape))
is_after shape (AtLink block) place = false

-- nothing stands there
abbrev pub IsClear : List ℕ → Shape → Tail → Type 0
IsClear words shape tail = (place : ℕ) → is_after shape tail place ≡ true → slice_index words place ≡ 0

-- the same words but for what stands there
pub record IsSameToTail (shape : Shape) (tail : Tail) (old new : List ℕ) : Type 0 where
  pub same_length : length new ≡ length old
  pub each : (place : ℕ) → is_after shape tail place ≡ false → slice_index new place ≡ slice_index old place

-- the same words with 0 there
pub record IsCleared (shape : Shape) (tail : Tail) (old new : List ℕ) : Type 0 where
  pub same_length : length new ≡ length old
  pub each : (place : ℕ) → slice_index new place ≡ (if is_after shape tail place then 0 else slice_index old place)
