-- What a crash may leave of a memory.
use Rattle.std.specs.Prelude.{ℕ, ◌<◌, ◌≤◌, ◌≡◌, List, [], ◌∷◌, ◌++◌, length, slice_index}
use Rattle.persistence.specs.Memory.{Memory, Cell, cell}

-- all values of a cell, the oldest first and the present one last
abbrev pub values : Cell → List ℕ
values c = c.past ++ c.present ∷ []

-- the value of this number
abbrev pub value_at : Cell → ℕ → ℕ
value_at c index = slice_index (values c) index

-- a crash may leave this value: it is one of the cell's at or after its floor
pub record IsPossible (c : Cell) (value : ℕ) : Type 0 where
  pub index : ℕ
  pub above : c.floor ≤ index
  pub inside : index ≤ length c.past
  pub same : value_at c index ≡ value

-- a crash may leave these words of the image: each word on its own
pub record Survives (memory : Memory) (words : List ℕ) : Type 0 where
  pub same_length : length words ≡ length memory.now.words
  pub each : (word : ℕ) → word < length words → IsPossible (cell memory word) (slice_index words word)
