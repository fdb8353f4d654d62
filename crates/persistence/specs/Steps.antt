-- What a step does to the cell of a word, and what every memory of a run keeps.
use Rattle.std.specs.Prelude.{ℕ, ◌<◌, ◌≤◌, ◌≡◌, ◌≢◌, ◌⊎◌, true, All, Contains, List, [], ◌∷◌, ◌++◌, length, slice_index}
use Rattle.asks.specs.Asks.{place, becomes}
use Rattle.asks.specs.declared.ask.Place.TheVariants.{Image}
use Rattle.asks.specs.declared.ask.Ask.{Ask}
use Rattle.asks.specs.declared.ask.Ask.TheVariants.{Load, Store, Exchange, SetBits, ClearBits, Mark, Fence}
use Rattle.persistence.specs.Memory.{Memory, PendingMark, Cell, cell, index_at, pending_of, stores, found, memory_after}
use Rattle.persistence.specs.Cells.{fresh_memory}

-- each image word has a floor, and no floor and no mark names a time that is still to come
pub record IsOrderly (memory : Memory) : Type 0 where
  pub floors : length memory.floors ≡ length memory.now.words
  pub reached : (word : ℕ) → slice_index memory.floors word ≤ length memory.past
  pub noted : All (λ (note : PendingMark). note.time ≤ length memory.past) memory.pending

-- a cell with one value more, which is its present one
abbrev pub with_value : Cell → ℕ → Cell
with_value c value = record { present = value; past = c.past ++ c.present ∷ []; floor = c.floor }

-- the ask neither stores into this word nor is a fence
abbrev pub LeavesCell : Memory → Ask → ℕ → Type 0
LeavesCell memory (Load p) word = Unit {0}
LeavesCell memory (Store p value) word = p ≢ Image word
LeavesCell memory (Exchange p before after) word = (found memory (Exchange p before after) ≢ before) ⊎ (p ≢ Image word)
LeavesCell memory (SetBits p bits) word = p ≢ Image word
LeavesCell memory (ClearBits p bits) word = p ≢ Image word
LeavesCell memory (Mark marked) word = Unit {0}
LeavesCell memory Fence word = ⊥

-- the floor that a word has after a fence of this seat: the greatest among its floor before and the numbers that the seat's marks name
pub record IsRaised (memory : Memory) (seat word floor : ℕ) : Type 0 where
  pub not_lower : (cell memory word).floor ≤ floor
  pub reaches : (note : PendingMark) → Contains memory.pending note → note.seat ≡ seat → note.word ≡ word → index_at memory.past note.time word ≤ floor
  pub attained : (floor ≡ (cell memory word).floor) ⊎ ((note : PendingMark) × Contains memory.pending note × (note.seat ≡ seat) × (note.word ≡ word) × (floor ≡ index_at memory.past note.time word))

-- a new image is orderly, and each step leaves an orderly memory
abbrev pub FreshIsOrderly : Type 0
FreshIsOrderly = (words taken : List ℕ) (seats : ℕ) → IsOrderly (fresh_memory words taken seats)

abbrev pub StepsKeepOrder : Type 0
StepsKeepOrder = (memory : Memory) (seat : ℕ) (ask : Ask) → IsOrderly memory → IsOrderly (memory_after memory seat ask)

-- what is stored into a word is its cell's next value
abbrev pub StoresGrowCells : Type 0
StoresGrowCells = (memory : Memory) (seat : ℕ) (ask : Ask) (word : ℕ) → IsOrderly memory → word < length memory.now.words → place 0 ask ≡ Image word → stores ask (found memory ask) ≡ true
    → cell (memory_after memory seat ask) word ≡ with_value (cell memory word) (becomes ask (found memory ask))

-- every other step but a fence leaves the cell
abbrev pub OthersLeaveCells : Type 0
OthersLeaveCells = (memory : Memory) (seat : ℕ) (ask : Ask) (word : ℕ) → IsOrderly memory → LeavesCell memory ask word → cell (memory_after memory seat ask) word ≡ cell memory word

-- and a fence raises its floor alone
abbrev pub FencesRaiseFloors : Type 0
FencesRaiseFloors = (memory : Memory) (seat word : ℕ) → IsOrderly memory → word < length memory.now.words
    → ((cell (memory_after memory seat Fence) word).present ≡ (cell memory word).present)
    × ((cell (memory_after memory seat Fence) word).past ≡ (cell memory word).past)
    × IsRaised memory seat word (cell (memory_after memory seat Fence) word).floor

-- a fence forgets the marks of its seat, and those alone
abbrev pub FencesForgetOwnMarks : Type 0
FencesForgetOwnMarks = (memory : Memory) (seat : ℕ)
    → (pending_of seat (memory_after memory seat Fence).pending ≡ [])
    × ((other : ℕ) → other ≢ seat → pending_of other (memory_after memory seat Fence).pending ≡ pending_of other memory.pending)
