-- A clearing as steps of a memory, and what is left of one that is stopped.
use Rattle.std.specs.Prelude.{ℕ, ◌≡◌, true, List, [], ◌∷◌, length, replicate}
use Rattle.std.specs.List.{AllByRecursion}
use Rattle.log_image.specs.Image.{Shape}
use Rattle.log_image.specs.Header.{shape_of}
use Rattle.log_image.specs.Chains.{IsChain}
use Rattle.log_image.specs.Tails.{Tail, tail_of, is_after}
use Rattle.log_image.specs.Recovered.{IsStopped}
use Rattle.asks.specs.declared.ask.Place.TheVariants.{Image}
use Rattle.asks.specs.declared.ask.Ask.{Ask}
use Rattle.asks.specs.declared.ask.Ask.TheVariants.{Store, Mark, Fence}
use Rattle.persistence.specs.Memory.{Memory, memory_after}
use Rattle.persistence.specs.Survivors.{Survives}

-- an ask that a clearing makes: it stores 0 after the tail, marks a word, or fences
abbrev pub ClearsOnly : Shape → Tail → Ask → Type 0
ClearsOnly shape tail (Store (Image place) value) = (value ≡ 0) × (is_after shape tail place ≡ true)
ClearsOnly shape tail (Mark word) = Unit {0}
ClearsOnly shape tail Fence = Unit {0}
ClearsOnly shape tail _ = ⊥

-- the memory that a recovery of these words begins with: no word has had another value
abbrev pub at_rest : List ℕ → Memory
at_rest words = record { now = record { words = words; taken = []; pins = [] }; past = []; floors = replicate (length words) 0; pending = [] }

-- a memory after some asks of one seat, the first of them first
abbrev pub memory_after_all : Memory → List Ask → Memory
memory_after_all memory [] = memory
memory_after_all memory (ask ∷ asks) = memory_after_all (memory_after memory 0 ask) asks

-- whatever a crash leaves after any of a clearing's steps is what a stopped clearing leaves
abbrev pub ClearingsStop : Type 0
ClearingsStop = (words chain others : List ℕ) (asks : List Ask) → IsChain words (shape_of words) chain →
    AllByRecursion (ClearsOnly (shape_of words) (tail_of words (shape_of words) chain)) asks → Survives (memory_after_all (at_rest words) asks) others → IsStopped words others
