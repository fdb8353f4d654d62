-- Where a look stands within a core, stage by stage.
use Rattle.std.proofs.Common.{◌≡◌, ℕ, true}
use Rattle.pmem_words.specs.Seats.{Seat}
use Rattle.log_core.specs.Views.{Ghost}
use Rattle.log_core.specs.Origin.{Origin}
use Rattle.log_core.proofs.machines.MachineLaws.{IsUnmoved, HasBegun}
use Rattle.pins.specs.Endings.{pinned}
use Rattle.pins.proofs.PinWithin.{pin_law, unpin_law}
use Rattle.read_validate.specs.declared.look.Look.{Look}
use Rattle.read_validate.specs.declared.query.Query.{Query}
use Rattle.read_validate.specs.declared.query.Query.TheVariants.{Size, Range}
use Rattle.read_validate.specs.declared.query.Stage.{Stage}
use Rattle.read_validate.specs.declared.query.Stage.TheVariants.{Pinning, Walking, Reading, Unpinning}
use Rattle.read_validate.specs.declared.range.ReadRange.{ReadRange}
use Rattle.read_validate.specs.LookWithin.{HasRead, unlooked}
use Rattle.read_validate.proofs.RangeLaw.{range_law}
use Rattle.read_validate.proofs.WholeMaps.{mapping_law}

-- a pin was taken
pub record BeforeWalk (s0 : Seat) (g0 : Ghost) (s : Seat) (g : Ghost) : Type 0 where
  pub seat : s ≡ pinned s0 s.hold.head
  pub ghost : g ≡ g0

-- the tail was found, and the words of a range are to be loaded
pub record BeforeReading (s0 : Seat) (g0 : Ghost) (s : Seat) (g : Ghost) : Type 0 where
  pub rest : unlooked s ≡ unlooked s0
  pub ghost : g ≡ g0

-- all is read
pub record BeforeUnpin (query : Query) (s0 : Seat) (g0 : Ghost) (s : Seat) (g : Ghost) : Type 0 where
  pub rest : unlooked s ≡ unlooked s0
  pub ghost : g ≡ g0
  pub at_tail : s.walk.at_tail ≡ true
  pub read : HasRead query s0 s

abbrev pub ReadingStands : Query → Origin → ℕ → Seat → Ghost → ReadRange → Seat → Ghost → Type 0
ReadingStands Size o seat s0 g0 p s g = ⊥
ReadingStands (Range offset count) o seat s0 g0 p s g = (first : ReadRange) × HasBegun (range_law offset count first) o seat (BeforeReading s0 g0) p s g

abbrev pub StageStands : Query → Origin → ℕ → Seat → Ghost → Stage → Seat → Ghost → Type 0
StageStands query o seat s0 g0 (Pinning p) s g = HasBegun pin_law o seat (IsUnmoved s0 g0) p s g
StageStands query o seat s0 g0 (Walking p) s g = HasBegun mapping_law o seat (BeforeWalk s0 g0) p s g
StageStands query o seat s0 g0 (Reading p) s g = ReadingStands query o seat s0 g0 p s g
StageStands query o seat s0 g0 (Unpinning p) s g = HasBegun unpin_law o seat (BeforeUnpin query s0 g0) p s g

abbrev pub LookStands : Query → Origin → ℕ → Seat → Ghost → Look → Seat → Ghost → Type 0
LookStands query o seat s0 g0 m s g = (m.query ≡ query) × StageStands query o seat s0 g0 m.stage s g
