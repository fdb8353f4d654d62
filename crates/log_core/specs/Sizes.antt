-- The parts of a core fit one another: their lengths, and what each view has of the start.
use Rattle.std.specs.Prelude.{ℕ, ◌*◌, ◌^◌, ◌<◌, ◌≤◌, ◌≡◌, ◌≢◌, ◌⊎◌, List, [], length, slice_index}
use Rattle.std.specs.List.{AllByRecursion}
use Rattle.log_image.specs.Image.{words_in, total}
use Rattle.pmem_words.specs.Seats.{bitmap_words}
use Rattle.pmem_words.specs.declared.TheConstants.{SEATS}
use Rattle.persistence.specs.Memory.{Memory, Replaced, PendingMark}
use Rattle.log_core.specs.Views.{View, view_of, spent_view}
use Rattle.log_core.specs.Origin.{Origin, shape, first_position}

-- as many seats as there may be, of which one or all were made at first
pub record HasSeats (o : Origin) : Type 0 where
  pub some : 0 < o.seats
  pub few : o.seats ≤ SEATS
  pub made : (o.made ≡ 1) ⊎ (o.made ≡ o.seats)

-- the words are those of an image of the shape, and the bitmap has a bit for each block of it
pub record HasImage (o : Origin) : Type 0 where
  pub whole : length o.words ≡ total (shape o) * words_in (shape o)
  pub bitmap : total (shape o) ≤ 64 * length o.taken
  pub wide : 8 ≤ words_in (shape o)

-- the memory has the words of the image, of its bitmap and of the pins; floors and marks are within the values that were replaced; and
-- each word of the image, now and before, has 64 bits
pub record MemoryFits (o : Origin) (memory : Memory) (views : ℕ) : Type 0 where
  pub words : length memory.now.words ≡ length o.words
  pub taken : length memory.now.taken ≡ length o.taken
  pub pins : length memory.now.pins ≡ o.seats
  pub floors : length memory.floors ≡ length o.words
  pub reached : (word : ℕ) → slice_index memory.floors word ≤ length memory.past
  pub small : AllByRecursion (λ (word : ℕ). word < 2 ^ 64) memory.now.words
  pub small_past : AllByRecursion (λ (replaced : Replaced). replaced.value < 2 ^ 64) memory.past
  pub pending : AllByRecursion (λ (note : PendingMark). (note.seat < views) × (note.word < length o.words) × (note.time ≤ length memory.past)) memory.pending

-- what an unspent view has of the start: its number is its place, and its lists have the lengths of the image
pub record SeatFits (o : Origin) (place : ℕ) (v : View) : Type 0 where
  pub number : v.seat.number ≡ place
  pub seats : v.seat.seats ≡ o.seats
  pub geometry : v.seat.geometry ≡ o.geometry
  pub first : v.first ≡ first_position o
  pub found : length v.seat.blocks.found ≡ bitmap_words o.geometry
  pub named : length v.seat.blocks.named ≡ bitmap_words o.geometry
  pub map : length v.seat.walk.map ≡ 65536

-- there is a view for each seat made, and the end at a call's first step for each. No view counts more seats than are made, and a spent
-- one holds nothing
pub record Sizes (o : Origin) (memory : Memory) (views : List View) (began : List ℕ) : Type 0 where
  pub seats : HasSeats o
  pub image : HasImage o
  pub words : MemoryFits o memory (length views)
  pub some : 0 < length views
  pub few : length views ≤ o.seats
  pub begun : length began ≡ length views
  pub made : (view_of views 0).parts ≢ [] → (view_of views 0).made ≡ length views
  pub few_made : (number : ℕ) → (view_of views number).made ≤ length views
  pub spent : (number : ℕ) → (view_of views number).parts ≡ [] → view_of views number ≡ spent_view
  pub each : (number : ℕ) → number < length views → (view_of views number).parts ≢ [] → SeatFits o number (view_of views number)
