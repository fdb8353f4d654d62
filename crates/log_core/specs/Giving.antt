-- When blocks that a collection replaced may be given back.
use Rattle.std.specs.Prelude.{ℕ, ◌<◌, ◌≤◌, ◌≡◌, ◌⊎◌, true, false, Bool, List, length, slice_index}
use Rattle.pmem_words.specs.Seats.{Giving, Hold}
use Rattle.log_image.specs.Chains.{is_listed}
use Rattle.log_core.specs.Views.{View, view_of}

-- no later generation names the blocks
abbrev pub AreInNoLater : (ℕ → ℕ → Bool) → ℕ → ℕ → List ℕ → Type 0
AreInNoLater names current generation blocks =
    (block later : ℕ) → is_listed blocks block ≡ true → generation < later → later ≤ current → names later block ≡ false

-- the blocks of a list are in no later generation than the list's, and once the head that replaced them outlasts a crash, each head
-- that a crash may leave is of a later one
pub record GivingHolds (names : ℕ → ℕ → Bool) (current least : ℕ) (g : Giving) : Type 0 where
  pub replaced_past : g.replaced_generation < current
  pub replaced : AreInNoLater names current g.replaced_generation g.replaced
  pub limbo : AreInNoLater names current g.limbo_generation g.limbo
  pub replaced_sure : g.head_fenced ≡ true → g.replaced_generation < least
  pub limbo_sure : g.limbo_generation < least

abbrev pub GivingsHold : (ℕ → ℕ → Bool) → ℕ → ℕ → List View → Type 0
GivingsHold names current least views = (seat : ℕ) → GivingHolds names current least (view_of views seat).seat.giving

-- a seat that a scan found with no pin, or a later one, has no valid pin that needs the list's blocks
pub record ScanHolds (g : Giving) (other : ℕ) (h : Hold) : Type 0 where
  pub replaced : other < length g.pins_seen → (slice_index g.pins_seen other ≡ 0) ⊎ (g.replaced_generation < slice_index g.pins_seen other) →
      h.valid ≡ true → g.replaced_generation < h.generation
  pub limbo : other < length g.pins_seen → (slice_index g.pins_seen other ≡ 0) ⊎ (g.limbo_generation < slice_index g.pins_seen other) →
      h.valid ≡ true → g.limbo_generation < h.generation

abbrev pub ScansHold : List View → Type 0
ScansHold views = (seat other : ℕ) → ScanHolds (view_of views seat).seat.giving other (view_of views other).seat.hold
