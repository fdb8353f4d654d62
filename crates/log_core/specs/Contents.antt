-- What the blocks of kept generations hold.
use Rattle.std.specs.Prelude.{ℕ, ◌-◌, ◌<◌, ◌≤◌, ◌≡◌, ◌⊎◌, true, List, ◌++◌, length, slice_index, slice_index_or, None}
use Rattle.log_image.specs.Image.{Shape, words_in}
use Rattle.log_image.specs.Entries.{all_names}
use Rattle.persistence.specs.Memory.{Cell}
use Rattle.log_image.specs.Chains.{is_listed}
use Rattle.log_core.specs.Entries.{LogEntry, no_entry, entry_by, place_in}
use Rattle.log_core.specs.Origin.{Origin, shape, start_base, first_position, Owner, InChain, LeftTo, LogBlock, Generation}
use Rattle.log_core.specs.Files.{Write, entries, end_of, history_map_at, history_size_at, file_at, Holds, HoldsBelow}
use Rattle.log_core.specs.Cores.{nth_log, data_names, is_named}
use Rattle.log_core.specs.After.{snapshot_meanings}
use Rattle.log_core.specs.Snapshots.{IsSnapshot}
use Rattle.log_core.specs.May.{is_log_entry_by}
use Rattle.log_core.specs.Certain.{IsCertain}

-- of the present chain, or left to a seat
abbrev pub IsStillTaken : Owner → Type 0
IsStillTaken whose = (whose ≡ InChain) ⊎ ((seat : ℕ) × (whose ≡ LeftTo seat))

-- no other words than the recorded ones are possible in these blocks
abbrev pub AreRecorded : Shape → (ℕ → Cell) → (ℕ → List ℕ) → List ℕ → Type 0
AreRecorded image cells recorded blocks =
    (block k : ℕ) → is_listed blocks block ≡ true → k < words_in image → IsCertain (cells (place_in image block k)) (slice_index (recorded block) k)

-- the entries from one on are what their words say by the recorded words, and such as a log block may have
pub record EntriesSay (image : Shape) (recorded : ℕ → List ℕ) (from : ℕ) (es : List LogEntry) : Type 0 where
  pub same : (k : ℕ) → from ≤ k → k < length es → slice_index_or es k no_entry ≡ entry_by recorded (slice_index_or es k no_entry).word
  pub form : (k : ℕ) → from ≤ k → k < length es → is_log_entry_by recorded image (slice_index_or es k no_entry).word ≡ true

-- the file at a position is what the blocks of the map there hold; before the start's position its bytes alone are said
pub record HoldsFileAt (o : Origin) (history : List Write) (recorded : ℕ → List ℕ) (position : ℕ) : Type 0 where
  pub early : position < first_position o →
      HoldsBelow (shape o) (history_size_at o (entries o history) position) recorded (history_map_at o (entries o history) position) (file_at o history position)
  pub held : first_position o ≤ position → Holds (shape o) recorded (history_map_at o (entries o history) position) (file_at o history position)
  pub size_is : length (file_at o history position) ≡ history_size_at o (entries o history) position

-- a generation's snapshot holds the map and the size at its position; one without a snapshot begins at position 0 with an empty file
pub record SnapshotHolds (o : Origin) (history : List Write) (recorded : ℕ → List ℕ) (logs : List LogBlock) (g : Generation) : Type 0 where
  pub whole : 0 < length g.snapshots →
      IsSnapshot (shape o) recorded g.base g.size g.snapshots (nth_log logs g.cut).block (history_map_at o (entries o history) g.base)
  pub empty : length g.snapshots ≡ 0 → (g.base ≡ 0) × (g.size ≡ 0) × ((virt : ℕ) → history_map_at o (entries o history) g.base virt ≡ None)
  pub size_is : g.size ≡ history_size_at o (entries o history) g.base
  pub shared_is : g.shared ≡ all_names (snapshot_meanings recorded g.snapshots)

-- a kept generation: its blocks are still taken, those of the snapshot and of the data area have their recorded words, and they say
-- the map and the file at each position from the snapshot's to the end
pub record GenerationHolds (o : Origin) (cells : ℕ → Cell) (history : List Write) (recorded : ℕ → List ℕ) (owner : ℕ → Owner) (logs : List LogBlock) (g : Generation) : Type 0 where
  pub taken : (block : ℕ) → is_named o logs (entries o history) g block ≡ true → IsStillTaken (owner block)
  pub whole : (block : ℕ) → is_named o logs (entries o history) g block ≡ true → length (recorded block) ≡ words_in (shape o)
  pub words : AreRecorded (shape o) cells recorded (g.snapshots ++ data_names o (entries o history) g)
  pub entries_say : EntriesSay (shape o) recorded (g.base - start_base o) (entries o history)
  pub snapshot : SnapshotHolds o history recorded logs g
  pub files : (position : ℕ) → g.base ≤ position → position ≤ end_of o history → HoldsFileAt o history recorded position
