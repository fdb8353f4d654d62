-- The image that several seats share, without their states: its memory and the two positions; the core states that it stands for; and what a
-- step of a seat makes of it.
use Rattle.std.specs.Prelude.{ℕ, ◌+◌, ◌<◌, ◌≡◌, ◌==◌, ◌&&◌, not, Bool, true, false, List, length}
use Rattle.log_entry.specs.declared.layouts.TheConstants.{SEAL}
use Rattle.log_entry.specs.declared.shapes.Geometry.{Geometry}
use Rattle.log_image.specs.Stands.{Stands}
use Rattle.pmem_words.specs.Seats.{Seat, q_of}
use Rattle.pmem_words.specs.Conducts.{Conduct}
use Rattle.asks.specs.declared.ask.Ask.{Ask}
use Rattle.persistence.specs.Memory.{found_answer}
use Rattle.persistence.specs.Cells.{CellsNow, cells_after}
use Rattle.log_core.specs.Origin.{Origin}
use Rattle.log_core.specs.Files.{end_of}
use Rattle.log_core.specs.Cores.{Core}
use Rattle.log_core.specs.Steps.{Note, Does, Kind, ExchangesSlot, Fences, kind_of_ask, sync_fenced}
use Rattle.log_core.specs.After.{after, synced_to}
use Rattle.log_core.specs.Runs.{Allowed, IsReached}
use Rattle.log_core.specs.Starts.{IsStart}
use Rattle.log_core.specs.Crashes.{IsRecovered, file_after_first}

-- the shape of the image; the memory with its room; the position that the log has come to; and the one up to which no crash loses an entry
pub record SharedNow : Type 0 where
  pub geometry : Geometry
  pub cells : CellsNow
  pub position : ℕ
  pub synced : ℕ

-- the image stands for a core state that a run from a start reaches: the memory and the two positions are that state's
pub record ImageStandsFor (i : SharedNow) (o : Origin) (c : Core) : Type 0 where
  pub start : IsStart o
  pub geometry : o.geometry ≡ i.geometry
  pub reached : IsReached o c
  pub memory : c.memory ≡ i.cells.memory
  pub position : end_of o c.history ≡ i.position
  pub synced : c.synced ≡ i.synced

-- a run from some start reaches a core state that the image stands for
abbrev pub IsOfSomeRun : SharedNow → Type 0
IsOfSomeRun i = ∥ ((o : Origin) × (c : Core) × ImageStandsFor i o c) ∥₁

-- how far the position rises with a step that has this answer: by an exchange that puts an entry in
abbrev pub rise_if : Bool → ℕ
rise_if true = 1
rise_if false = 0

abbrev pub rises : Kind → ℕ → ℕ
rises (ExchangesSlot word entry) f = rise_if ((f == 0) && not (entry == SEAL))
rises _ f = 0

-- the synced position after a step of a seat with this state: it rises with the fence that a sync makes at its tail
abbrev pub synced_by : ℕ → Seat → Kind → ℕ
synced_by synced s Fences = synced_to synced s.calling.sync_to (sync_fenced s.calling.job s.walk.at_tail s.walk.position s.calling.sync_to)
synced_by synced s _ = synced

-- the image after an ask of a seat in this state
abbrev pub kind_on : SharedNow → ℕ → Ask → Kind
kind_on i seat ask = kind_of_ask (q_of i.geometry) seat ask

abbrev pub image_after : SharedNow → ℕ → Seat → Ask → SharedNow
image_after i seat s ask = record {
  geometry = i.geometry;
  cells = cells_after i.cells seat ask;
  position = i.position + rises (kind_on i seat ask) (found_answer i.cells.memory ask);
  synced = synced_by i.synced s (kind_on i seat ask);
}

-- a core state fits an ask of a seat in this state: the image stands for it, the ask is a step of that seat in it, and what the seat has
-- computed since its last step makes its view's state this one
pub record FitsImage (i : SharedNow) (seat : ℕ) (s : Seat) (ask : Ask) (o : Origin) (c : Core) (note : Note) : Type 0 where
  pub stands : ImageStandsFor i o c
  pub step : Allowed o c (Does seat ask note)
  pub before : note.before ≡ s

-- there is one
abbrev pub MayAsk : SharedNow → ℕ → Seat → Ask → Type 0
MayAsk i seat s ask = ∥ ((o : Origin) × (c : Core) × (note : Note) × FitsImage i seat s ask o c note) ∥₁

-- the image takes an ask of the seat that has the state's number, where there is room for a step and a core state fits
pub record ImageTakes (i : SharedNow) (s : Seat) (ask : Ask) : Type 0 where
  pub room : 0 < i.cells.room
  pub may : MayAsk i s.number s ask

-- the answer is what the memory finds, and the image is as the step makes it. For each fitting core state the answer is the one that comes
-- there, and the image afterwards stands for the core state after the step
pub record ImageStep (i : SharedNow) (s : Seat) (ask : Ask) (a : ℕ) (j : SharedNow) : Type 0 where
  pub answered : a ≡ found_answer i.cells.memory ask
  pub left : j ≡ image_after i s.number s ask
  pub stands : (o : Origin) (c : Core) (note : Note) → FitsImage i s.number s ask o c note → (found_answer c.memory ask ≡ a) × ImageStandsFor j o (after o c (Does s.number ask note))

-- so it is a memory for machines of its seats
abbrev pub image_steps : Conduct SharedNow
image_steps = record { takes = λ i s ask. ImageTakes i s ask; step = λ i s ask a j. ImageStep i s ask a j }

-- words that a crash left of the image are recovered, of whichever run it stands for: they stand for the file after its first writes, among
-- them all up to the synced position
abbrev pub AreRecovered : SharedNow → List ℕ → Type 0
AreRecovered i words = (o : Origin) (c : Core) → ImageStandsFor i o c → IsRecovered o c words

-- words that stand for the file after all writes of the run that the image stands for, at its position
abbrev pub HaveAllWrites : SharedNow → List ℕ → Type 0
HaveAllWrites i words = (o : Origin) (c : Core) → ImageStandsFor i o c → Stands words (file_after_first o c (length c.history)) i.position
