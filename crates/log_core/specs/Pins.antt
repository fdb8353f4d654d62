-- The pin words, and what the views know of the head.
use Rattle.std.specs.Prelude.{ℕ, ◌<◌, ◌≤◌, ◌≡◌, ◌≢◌, true, List, length, slice_index}
use Rattle.pmem_words.specs.Seats.{Hold}
use Rattle.persistence.specs.Memory.{Cell}
use Rattle.persistence.specs.Survivors.{value_at}
use Rattle.log_core.specs.Views.{View, view_of}

-- a seat's pin word is its view's pin: 0 for a seat that is not made, or whose view is spent
abbrev pub PinWordsFit : List ℕ → List View → Type 0
PinWordsFit pins views = (seat : ℕ) → seat < length pins → slice_index pins seat ≡ (view_of views seat).seat.hold.pin

-- the value is one that the head has had
pub record WasHead (head : Cell) (word : ℕ) : Type 0 where
  pub place : ℕ
  pub inside : place ≤ length head.past
  pub same : value_at head place ≡ word

-- the head found last was the head. A valid pin is the view's generation, which there is; so is the generation of the last valid pin
pub record PinHolds (first current : ℕ) (head : Cell) (h : Hold) : Type 0 where
  pub was : h.head ≢ 0 → WasHead head h.head
  pub valid_is : h.valid ≡ true → h.pin ≡ h.generation
  pub valid_some : h.valid ≡ true → h.generation ≢ 0
  pub from_first : h.generation ≢ 0 → first ≤ h.generation
  pub to_current : h.generation ≢ 0 → h.generation ≤ current

abbrev pub PinsHold : ℕ → ℕ → Cell → List View → Type 0
PinsHold first current head views = (seat : ℕ) → PinHolds first current head (view_of views seat).seat.hold
