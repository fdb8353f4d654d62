-- A world: an image that several seats share, and their states; and the core states that it stands for.
use Rattle.std.specs.Prelude.{ℕ, ◌≡◌, List, length, map, slice_index_or, slice_set}
use Rattle.std.specs.List.{range_with_len}
use Rattle.log_entry.specs.declared.shapes.Geometry.{Geometry}
use Rattle.pmem_words.specs.Seats.{Seat, new_seat}
use Rattle.pmem_words.specs.Scripts.{After, Script}
use Rattle.asks.specs.declared.ask.Ask.{Ask}
use Rattle.persistence.specs.Memory.{found_answer}
use Rattle.persistence.specs.Cells.{CellsNow, fresh_memory}
use Rattle.log_core.specs.Views.{no_geometry}
use Rattle.log_core.specs.Origin.{Origin}
use Rattle.log_core.specs.Files.{end_of}
use Rattle.log_core.specs.Cores.{Core}
use Rattle.log_core.specs.Steps.{Note, Does}
use Rattle.log_core.specs.Runs.{Allowed, IsReached}
use Rattle.log_core.specs.Starts.{IsStart}
use Rattle.crash_model.specs.Images.{SharedNow, image_after}

-- the shape of the image; the memory with its room; the states of the seats, a seat's number being its place; the position that the
-- log has come to; and the one up to which no crash loses an entry
pub record WorldNow : Type 0 where
  pub geometry : Geometry
  pub cells : CellsNow
  pub seats : List Seat
  pub position : ℕ
  pub synced : ℕ

-- a seat's state
abbrev pub seat_of : WorldNow → ℕ → Seat
seat_of w seat = slice_index_or w.seats seat (new_seat no_geometry 0 0 0)

-- a world with another state of a seat
abbrev pub set_seat : WorldNow → ℕ → Seat → WorldNow
set_seat w seat s = record w { seats = slice_set w.seats seat s }

-- a world in which nothing was done: as many seats as there may be, which have made no step
abbrev pub new_world : Geometry → List ℕ → List ℕ → ℕ → ℕ → WorldNow
new_world geometry words taken position seats = record {
  geometry = geometry;
  cells = record { memory = fresh_memory words taken seats; room = 0 };
  seats = map (λ (number : ℕ). new_seat geometry number seats position) (range_with_len 0 seats);
  position = position;
  synced = position;
}

-- the world stands for a core state that a run from a start reaches: the memory and the two positions are that state's
pub record StandsForCore (w : WorldNow) (o : Origin) (c : Core) : Type 0 where
  pub start : IsStart o
  pub geometry : o.geometry ≡ w.geometry
  pub seats : o.seats ≡ length w.seats
  pub reached : IsReached o c
  pub memory : c.memory ≡ w.cells.memory
  pub position : end_of o c.history ≡ w.position
  pub synced : c.synced ≡ w.synced

-- the image of a world, and a world of an image and of states
abbrev pub image_of : WorldNow → SharedNow
image_of w = record { geometry = w.geometry; cells = w.cells; position = w.position; synced = w.synced }

abbrev pub world_of : SharedNow → List Seat → WorldNow
world_of i seats = record { geometry = i.geometry; cells = i.cells; seats = seats; position = i.position; synced = i.synced }

-- the world after an ask of a seat: the seats' states stay, until their machines are told the answer
abbrev pub world_after : WorldNow → ℕ → Ask → WorldNow
world_after w seat ask = world_of (image_after (image_of w) seat (seat_of w seat) ask) w.seats

-- a core state fits an ask of a seat: the world stands for it, the ask is a step of that seat in it, and what the seat has computed
-- since its last step makes its view's state the world's
pub record FitsCore (w : WorldNow) (seat : ℕ) (ask : Ask) (o : Origin) (c : Core) (note : Note) : Type 0 where
  pub stands : StandsForCore w o c
  pub step : Allowed o c (Does seat ask note)
  pub before : note.before ≡ seat_of w seat

-- there is one
abbrev pub HasFitting : WorldNow → ℕ → Ask → Type 0
HasFitting w seat ask = ∥ ((o : Origin) × (c : Core) × (note : Note) × FitsCore w seat ask o c note) ∥₁

-- a turn of a seat with a machine: what its ask finds, and the world after the machine was told
abbrev pub answer_in : {M Out : Type 0} → Script M Out → WorldNow → ℕ → M → ℕ
answer_in script w seat m = found_answer w.cells.memory (script.asks m (seat_of w seat))

abbrev pub told_in : {M Out : Type 0} → Script M Out → WorldNow → ℕ → M → After M Out
told_in script w seat m = script.after m (seat_of w seat) (answer_in script w seat m)

abbrev pub turned : {M Out : Type 0} → Script M Out → WorldNow → ℕ → M → WorldNow
turned script w seat m = set_seat (world_after w seat (script.asks m (seat_of w seat))) seat (told_in script w seat m).seat
