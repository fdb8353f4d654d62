-- The causes of replies: what a call's reply says that it found, it found at steps of its own.
use Rattle.std.specs.Prelude.{ℕ, ◌/◌, ◌%◌, ◌≡◌, ◌≢◌, true, List, ◌∷◌, ◌++◌, bit_or, Some}
use Rattle.std.specs.Int.{bit_at}
use Rattle.std.specs.List.{AllByRecursion}
use Rattle.log_entry.specs.Fields.{field}
use Rattle.log_entry.specs.declared.layouts.TheConstants.{HEAD_GENERATION}
use Rattle.log_entry.specs.declared.shapes.Area.{Area}
use Rattle.log_entry.specs.declared.shapes.Area.TheVariants.{Spare}
use Rattle.log_entry.specs.declared.calls.WriteRefusal.TheVariants.{NoSpace}
use Rattle.log_entry.specs.declared.calls.CollectRefusal.TheVariants.{NoSpace as NoSpareSpace, Overtaken}
use Rattle.log_entry.specs.declared.calls.Held.{Held}
use Rattle.log_entry.specs.declared.calls.Reply.{Reply}
use Rattle.log_entry.specs.declared.calls.Reply.TheVariants.{NotWritten, Collected, NotCollected}
use Rattle.log_entry.specs.declared.calls.Call.{Call}
use Rattle.asks.specs.declared.ask.Place.TheVariants.{Image, Pin, Map}
use Rattle.asks.specs.declared.ask.Ask.{Ask}
use Rattle.asks.specs.declared.ask.Ask.TheVariants.{Load, Exchange, SetBits}
use Rattle.persistence.specs.Memory.{found}
use Rattle.log_core.specs.Entries.{head_place}
use Rattle.log_core.specs.Origin.{Origin, shape}
use Rattle.log_core.specs.Cores.{Core}
use Rattle.log_core.specs.Needs.{is_in_area}
use Rattle.log_core.specs.Steps.{Note, Step, Does}
use Rattle.log_core.specs.Runs.{IsRun, end}
use Rattle.log_core.specs.Starts.{IsStart}
use Rattle.log_core.specs.Histories.{recorded_calls}

-- a seat made a step of its call of this number at which this held of the core before it and of the ask
pub record IsAtStep (o : Origin) (steps : List Step) (seat number : ℕ) (holds : Core → Ask → Type 0) : Type 0 where
  pub ask : Ask
  pub note : Note
  pub later : List Step
  pub earlier : List Step
  pub moment : steps ≡ later ++ Does seat ask note ∷ earlier
  pub number_is : note.number ≡ number
  pub held : holds (end o earlier) ask

-- the ask finds the block taken, or takes it
abbrev pub FindsTaken : ℕ → Core → Ask → Type 0
FindsTaken block c (Load (Map word)) = (word ≡ block / 64) × (bit_at (found c.memory (Load (Map word))) (block % 64) ≡ 1)
FindsTaken block c (SetBits (Map word) bits) = (word ≡ block / 64) × (bit_at (bit_or (found c.memory (SetBits (Map word) bits)) bits) (block % 64) ≡ 1)
FindsTaken block c _ = ⊥

-- the ask is an exchange of the head that finds another word than its own, of this generation
abbrev pub FindsHead : ℕ → Core → Ask → Type 0
FindsHead generation c (Exchange (Image word) before next) =
    (word ≡ head_place) × (found c.memory (Exchange (Image word) before next) ≢ before) × (field HEAD_GENERATION (found c.memory (Exchange (Image word) before next)) ≡ generation)
FindsHead generation c _ = ⊥

-- the ask is a load of a seat's pin word that finds this generation
abbrev pub FindsPin : ℕ → ℕ → Core → Ask → Type 0
FindsPin seat generation c (Load (Pin other)) = (other ≡ seat) × (found c.memory (Load (Pin other)) ≡ generation)
FindsPin seat generation c _ = ⊥

-- a call found each block of an area taken, or took it
abbrev pub WasFull : Origin → List Step → ℕ → ℕ → Area → Type 0
WasFull o steps seat number area = (block : ℕ) → is_in_area (shape o) area block ≡ true → IsAtStep o steps seat number (FindsTaken block)

-- want of space was found by a pass over the area, a later generation by an exchange of the head, and a held pin by a load of another seat's
-- pin word: each by the call that says so
abbrev pub HasCause : Origin → List Step → ℕ → ℕ → Reply → Type 0
HasCause o steps seat number (NotWritten (NoSpace area)) = WasFull o steps seat number area
HasCause o steps seat number (NotCollected NoSpareSpace) = WasFull o steps seat number Spare
HasCause o steps seat number (NotCollected (Overtaken generation)) = IsAtStep o steps seat number (FindsHead generation)
HasCause o steps seat number (Collected done) = (pin : Held) → done.held ≡ Some pin → (pin.seat ≢ seat) × IsAtStep o steps seat number (FindsPin pin.seat pin.generation)
HasCause o steps seat number _ = Unit {0}

-- so it is of each record of each run
abbrev pub RecordsHaveCauses : Type 0
RecordsHaveCauses = (o : Origin) (steps : List Step) → IsStart o → IsRun o steps →
    AllByRecursion (λ (call : Call). HasCause o steps call.seat call.number call.reply) (recorded_calls (end o steps).views)
