-- What follows of every run from the invariant. A run without its newest steps is a run, so what is said of the newest step is said of each.
use Rattle.std.specs.Prelude.{ℕ, ◌%◌, ◌<◌, ◌≡◌, Bool, true, false, List, ◌∷◌, ◌++◌, IsPermutation, Some, None}
use Rattle.std.specs.Int.{bit_at}
use Rattle.std.specs.List.{AllByRecursion}
use Rattle.log_entry.specs.Legal.{Legal, is_write, last_file, last_position_of}
use Rattle.log_entry.specs.Order.{IsInOrder}
use Rattle.log_entry.specs.declared.calls.Op.{Op}
use Rattle.log_entry.specs.declared.calls.Call.{Call}
use Rattle.pmem_words.specs.Owned.{is_among}
use Rattle.asks.specs.declared.ask.Place.TheVariants.{Map}
use Rattle.asks.specs.declared.ask.Ask.{Ask}
use Rattle.asks.specs.declared.ask.Ask.TheVariants.{SetBits, ClearBits}
use Rattle.persistence.specs.Memory.{found}
use Rattle.log_core.specs.Views.{view_of, op_in}
use Rattle.log_core.specs.Origin.{Origin, first_position, first_generation, start_base}
use Rattle.log_core.specs.Files.{entries, end_of, file_at}
use Rattle.log_core.specs.Cores.{Core, is_named}
use Rattle.log_core.specs.Steps.{Note, Step, Does}
use Rattle.log_core.specs.Order.{nth_generation}
use Rattle.log_core.specs.Records.{NeverFall}
use Rattle.log_core.specs.Invariant.{KeptIn}
use Rattle.log_core.specs.Runs.{IsRun, end}
use Rattle.log_core.specs.Starts.{IsStart}
use Rattle.log_core.specs.Histories.{recorded_calls, running_writes, running_calls, Ran, HasCollections}

-- a block that a kept generation names
pub record IsNeeded (o : Origin) (c : Core) (block : ℕ) : Type 0 where
  pub place : ℕ
  pub kept : KeptIn o c place
  pub named : is_named o c.logs (entries o c.history) (nth_generation c.generations place) block ≡ true

-- an ask that sets bits finds no needed block's bit clear, and one that clears bits clears none of those
abbrev pub SparesNeeded : Origin → Core → Ask → Type 0
SparesNeeded o c (SetBits (Map word) bits) = (block : ℕ) → IsNeeded o c block → is_among word bits block ≡ true → bit_at (found c.memory (SetBits (Map word) bits)) (block % 64) ≡ 1
SparesNeeded o c (ClearBits (Map word) bits) = (block : ℕ) → IsNeeded o c block → is_among word bits block ≡ false
SparesNeeded o c _ = Unit {0}

-- so it is at each step of each run: no block is given again, nor given back, while a kept generation names it
abbrev pub NoneReused : Type 0
NoneReused = (o : Origin) (seat : ℕ) (ask : Ask) (note : Note) (steps : List Step) → IsStart o → IsRun o (Does seat ask note ∷ steps) → SparesNeeded o (end o steps) ask

-- no call runs
abbrev pub NoCallRuns : Core → Type 0
NoCallRuns c = (seat : ℕ) → op_in (view_of c.views seat).seat ≡ None

-- the calls are one legal history, from the start's file and position to the end of the writes and the file there; and each seat's calls
-- stand in it by their numbers
pub record IsWholeHistory (o : Origin) (c : Core) (calls : List Call) : Type 0 where
  pub legal : Legal o.geometry.block_bytes o.file (first_position o) calls
  pub to_end : last_position_of (first_position o) calls ≡ end_of o c.history
  pub to_file : last_file o.file calls ≡ file_at o c.history (end_of o c.history)
  pub each_seat : (seat : ℕ) → NeverFall seat 0 0 calls

-- and each generation that the heads came to was put in place by one of them, in turn
pub record IsOneHistory (o : Origin) (c : Core) (calls : List Call) : Type 0 where
  pub whole : IsWholeHistory o c calls
  pub collected : HasCollections (first_generation o) (start_base o) calls

-- so are the calls of each run that ends with no call running
abbrev pub RunsAreLegal : Type 0
RunsAreLegal = (o : Origin) (calls : List Call) (c : Core) → IsStart o → Ran o calls c → NoCallRuns c → IsOneHistory o c calls

-- so are the calls of each run wherever it stops, with the writes and the collections that running calls have put in, in the order of a report
abbrev pub StoppedRunsAreLegal : Type 0
StoppedRunsAreLegal = (o : Origin) (calls whole : List Call) (c : Core) → IsStart o → Ran o calls c →
    IsPermutation (calls ++ running_calls o c) whole → IsInOrder whole → IsOneHistory o c whole

-- and with the writes alone they are a history of the same file
abbrev pub StoppedWritesAreLegal : Type 0
StoppedWritesAreLegal = (o : Origin) (calls whole : List Call) (c : Core) → IsStart o → Ran o calls c →
    IsPermutation (calls ++ running_writes o c) whole → IsInOrder whole → IsWholeHistory o c whole

-- a seat made a step of its call of this number, asking this, and behind it the position was the end: there a view finds its tail empty.
-- An accepted write was put in by that step: the end was a smaller one before it
pub record IsSeen (o : Origin) (steps : List Step) (seat number position : ℕ) (op : Op) (won : Bool) : Type 0 where
  pub ask : Ask
  pub note : Note
  pub later : List Step
  pub earlier : List Step
  pub moment : steps ≡ later ++ Does seat ask note ∷ earlier
  pub number_is : note.number ≡ number
  pub asks : op_in note.before ≡ Some op
  pub at_end : position ≡ end_of o (end o (Does seat ask note ∷ earlier)).history
  pub put_in : won ≡ true → end_of o (end o earlier).history < position

-- so each record of each run is of a position that was the end at a step of its own call
abbrev pub RecordsAreSeen : Type 0
RecordsAreSeen = (o : Origin) (steps : List Step) → IsStart o → IsRun o steps →
    AllByRecursion (λ (call : Call). IsSeen o steps call.seat call.number call.position call.op (is_write call.op call.reply)) (recorded_calls (end o steps).views)
