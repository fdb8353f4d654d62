-- Worked memories of three words, 10, 20 and 30 at first: their cells, and what a crash may leave of them.
use Rattle.std.specs.Prelude.{ℕ, ◌≡◌, List, [], ◌∷◌}
use Rattle.asks.specs.declared.ask.Place.TheVariants.{Image}
use Rattle.asks.specs.declared.ask.Ask.{Ask}
use Rattle.asks.specs.declared.ask.Ask.TheVariants.{Store, Exchange, Mark, Fence}
use Rattle.persistence.specs.Memory.{Memory, cell, found_answer, memory_after}
use Rattle.persistence.specs.Cells.{fresh_memory}
use Rattle.persistence.specs.Survivors.{Survives, value_at}
use Rattle.persistence.specs.Choices.{chosen}
use Rattle.persistence.specs.declared.survivors.Choice.TheVariants.{Oldest, Newest, Drawn}

-- the memory at first, for two seats
abbrev pub three_words : Memory
three_words = fresh_memory (10 ∷ 20 ∷ 30 ∷ []) [] 2

-- after these asks, each of a seat
abbrev pub after_asks : List (ℕ × Ask) → Memory → Memory
after_asks [] memory = memory
after_asks (made ∷ asks) memory = after_asks asks (memory_after memory made.0 made.1)

-- seat 0 stores 11 into word 0, marks it, and stores 12
abbrev pub marked : Memory
marked = after_asks ((0, Store (Image 0) 11) ∷ (0, Mark 0) ∷ (0, Store (Image 0) 12) ∷ []) three_words

-- and fences: the floor is at 11, the value that was marked
abbrev pub fenced : Memory
fenced = memory_after marked 0 Fence

abbrev pub MarkThenFence : Type 0
MarkThenFence = cell fenced 0 ≡ record { present = 12; past = 10 ∷ 11 ∷ []; floor = 1 }

-- the value at the floor of word 0 is then this one
abbrev pub FloorIsAt : ℕ → Type 0
FloorIsAt value = value_at (cell fenced 0) (cell fenced 0).floor ≡ value

-- where seat 1 fences, nothing rises, and seat 0's fence after it does the same as before
abbrev pub FenceOfAnotherSeat : Type 0
FenceOfAnotherSeat = (cell (memory_after marked 1 Fence) 0 ≡ record { present = 12; past = 10 ∷ 11 ∷ []; floor = 0 })
    × (cell (memory_after (memory_after marked 1 Fence) 0 Fence) 0 ≡ cell fenced 0)

-- a later mark of the same word takes the place of the first: the floor is at 12
abbrev pub LaterMark : Type 0
LaterMark = cell (after_asks ((0, Mark 0) ∷ (0, Fence) ∷ []) marked) 0 ≡ record { present = 12; past = 10 ∷ 11 ∷ []; floor = 2 }

-- an exchange that finds another value adds none, and answers what it found
abbrev pub LostExchange : Type 0
LostExchange = (found_answer three_words (Exchange (Image 1) 21 25) ≡ 20)
    × (cell (memory_after three_words 1 (Exchange (Image 1) 21 25)) 1 ≡ record { present = 20; past = []; floor = 0 })

-- and one that finds its value adds one
abbrev pub WonExchange : Type 0
WonExchange = (found_answer three_words (Exchange (Image 1) 20 25) ≡ 20)
    × (cell (memory_after three_words 1 (Exchange (Image 1) 20 25)) 1 ≡ record { present = 25; past = 20 ∷ []; floor = 0 })

-- word 0 is fenced at 11, and word 1 was stored twice with no fence: both 11 and 12 may be left, beside each of 20, 21 and 22
abbrev pub mixed : Memory
mixed = after_asks ((1, Store (Image 1) 21) ∷ (1, Mark 1) ∷ (1, Store (Image 1) 22) ∷ []) fenced

abbrev pub OldestAndNewest : Type 0
OldestAndNewest = (chosen Oldest mixed ≡ 11 ∷ 20 ∷ 30 ∷ []) × (chosen Newest mixed ≡ 12 ∷ 22 ∷ 30 ∷ [])

abbrev pub MayBeLeft : ℕ → ℕ → Type 0
MayBeLeft first second = Survives mixed (first ∷ second ∷ 30 ∷ [])

-- the value before the floor, one that the word never held, and a word too few are never left
abbrev pub NeverLeft : Type 0
NeverLeft = (Survives mixed (10 ∷ 22 ∷ 30 ∷ []) → ⊥)
    × (Survives mixed (12 ∷ 22 ∷ 31 ∷ []) → ⊥)
    × (Survives mixed (12 ∷ 22 ∷ []) → ⊥)

-- seed 0 draws 3837872008 and 932996374: places 0 of two values and 1 of three; seed 3 draws 3380776849 and 1947873360: 1 and 0;
-- word 2 has one value alone, and nothing is drawn for it
abbrev pub DrawnOfSeed : Type 0
DrawnOfSeed = (chosen (Drawn 0) mixed ≡ 11 ∷ 21 ∷ 30 ∷ []) × (chosen (Drawn 3) mixed ≡ 12 ∷ 20 ∷ 30 ∷ [])
