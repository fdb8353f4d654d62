-- A memory with room for further steps, as contracts see it.
use Rattle.std.specs.Prelude.{ℕ, ◌-◌, List, [], length, replicate}
use Rattle.asks.specs.declared.ask.Ask.{Ask}
use Rattle.asks.specs.SharedWords.{TakesAsk as WordsTake}
use Rattle.persistence.specs.Memory.{Memory, memory_after}

-- a memory, and how many steps it has room for
pub record CellsNow : Type 0 where
  pub memory : Memory
  pub room : ℕ

-- the memory of an image to which nothing has been done: each word has its one value, no seat has pinned or marked anything
abbrev pub fresh_memory : List ℕ → List ℕ → ℕ → Memory
fresh_memory words taken seats = record {
  now = record { words = words; taken = taken; pins = replicate seats 0 };
  past = [];
  floors = replicate (length words) 0;
  pending = [];
}

-- the memory takes the ask: its place is one that it has
abbrev pub MemoryTakes : Memory → Ask → Type 0
MemoryTakes memory ask = WordsTake (length memory.now.pins) memory.now ask

-- after an ask of this seat: the memory after it, and room for one step less
abbrev pub cells_after : CellsNow → ℕ → Ask → CellsNow
cells_after cells seat ask = record { memory = memory_after cells.memory seat ask; room = cells.room - 1 }
