-- What a collection has noted of the blocks that its chain names.
use Rattle.std.specs.Prelude.{ℕ, ◌+◌, ◌-◌, ◌<◌, ◌≡◌, ◌≢◌, Bool, true, List, [], ◌++◌, take}
use Rattle.log_image.specs.Image.{Shape, total}
use Rattle.log_image.specs.Entries.{all_names}
use Rattle.log_image.specs.Chains.{is_listed}
use Rattle.pmem_words.specs.declared.keeps.Task.TheVariants.{Collect}
use Rattle.pmem_words.specs.Noted.{is_noted}
use Rattle.pmem_words.specs.Seats.{Seat, Hold, Walk, Calling}
use Rattle.log_core.specs.Entries.{LogEntry}
use Rattle.log_core.specs.Views.{View, view_of}
use Rattle.log_core.specs.Origin.{Origin, shape, start_base, first_generation, LogBlock, Generation}
use Rattle.log_core.specs.Cores.{generation_at, is_named, number_at}
use Rattle.log_core.specs.Walks.{Around, read_meanings}

-- of the blocks of the image, the bits are set of exactly those of which f is true
abbrev pub AreNoted : Shape → List ℕ → (ℕ → Bool) → Type 0
AreNoted image words f = (block : ℕ) → block < total image → is_noted words block ≡ f block

-- whether a generation names a block up to a walk's place in the log: with the log blocks up to the tail's, and the entries before its
-- position
abbrev pub is_named_before : Origin → List LogBlock → List LogEntry → Generation → Walk → ℕ → Bool
is_named_before o logs es g w block = is_named o (take (number_at logs w.tail_base + 1) logs) (take (w.position - start_base o) es) g block

-- and up to its place in the snapshot: with the snapshot's blocks up to the one at hand, and the entries before the slot there
abbrev pub is_read_before : (ℕ → List ℕ) → Generation → Walk → ℕ → Bool
is_read_before content g w block =
    is_listed (take (w.reading_place + 1) g.snapshots ++ all_names (read_meanings content g.snapshots w.reading_block w.reading_slot)) block

-- while what the chain names is noted: a collection runs; where its walk reads a snapshot of a kept generation, the bits are those of
-- what is named up to there; and where the walk is ready, of what its generation names up to the walk's place in the log
abbrev pub NotedHolds : Around → Hold → Walk → Calling → List ℕ → Type 0
NotedHolds a h w c words =
    (c.noting ≡ true → c.job ≡ Collect)
    × (c.noting ≡ true → w.reading ≡ true → a.kept (w.reading_generation - first_generation a.origin) →
    AreNoted (shape a.origin) words (λ block. is_read_before a.recorded (generation_at a.origin a.generations w.reading_generation) w block))
    × (c.noting ≡ true → w.ready ≡ true →
    AreNoted (shape a.origin) words (λ block. is_named_before a.origin a.logs a.es (generation_at a.origin a.generations h.generation) w block))

abbrev pub NotedBy : Around → Seat → Type 0
NotedBy a s = NotedHolds a s.hold s.walk s.calling s.blocks.named

abbrev pub AllNoted : Around → List View → Type 0
AllNoted a views = (seat : ℕ) → (view_of views seat).parts ≢ [] → NotedBy a (view_of views seat).seat
