-- What a view's table, tail and kept words are.
use Rattle.std.specs.Prelude.{ℕ, ◌+◌, ◌-◌, ◌≤◌, ◌<◌, ◌≡◌, ◌≢◌, ◌⊎◌, ◌==◌, true, false, Bool, if◌then◌else◌, List, [], ◌∷◌, ◌++◌, length, map, take, drop, slice_index}
use Rattle.std.specs.List.{AllByRecursion}
use Rattle.log_image.specs.Image.{Shape, words_in}
use Rattle.log_image.specs.Entries.{Meaning, direct_meaning}
use Rattle.log_image.specs.Maps.{map_of}
use Rattle.log_image.specs.Blocks.{entry_count as snapshot_count, slots_of}
use Rattle.pmem_words.specs.declared.keeps.KeptWord.{KeptWord}
use Rattle.pmem_words.specs.Seats.{Hold, Walk}
use Rattle.pmem_words.specs.Maps.{map_at as mapped_at}
use Rattle.log_image.specs.Chains.{is_listed}
use Rattle.log_core.specs.Entries.{place_in, LogEntry}
use Rattle.log_core.specs.Views.{View, view_of}
use Rattle.log_core.specs.Origin.{Origin, shape, first_generation, LogBlock, Generation}
use Rattle.log_core.specs.Files.{history_map_at, history_size_at}
use Rattle.log_core.specs.Cores.{generation_at, is_named, nth_log, log_at, log_blocks, entries_used, is_full}

-- the entries of a snapshot up to a slot of one of its blocks
abbrev pub read_meanings : (ℕ → List ℕ) → List ℕ → ℕ → ℕ → List Meaning
read_meanings content [] at slot = []
read_meanings content (block ∷ blocks) at slot =
    if block == at then map direct_meaning (take (slot - 3) (slots_of (content block)))
    else map direct_meaning (take (snapshot_count (content block)) (slots_of (content block))) ++ read_meanings content blocks at slot

-- a snapshot was read up to a slot of its block at the reading's place: the table has the map of the entries before it
pub record HasRead (content : ℕ → List ℕ) (g : Generation) (w : Walk) : Type 0 where
  pub inside : w.reading_place < length g.snapshots
  pub block : slice_index g.snapshots w.reading_place ≡ w.reading_block
  pub from : 3 ≤ w.reading_slot
  pub upto : w.reading_slot ≤ 3 + snapshot_count (content w.reading_block)
  pub table : (virt : ℕ) → mapped_at w.map virt ≡ map_of (read_meanings content g.snapshots w.reading_block w.reading_slot) virt
  pub size_is : w.size ≡ g.size
  pub position_is : w.position ≡ g.base

-- a kept word is the present one, of a block that the generation names; but for a slot or link of its log blocks that was found 0, and so
-- neither a block's second word nor its third
pub record IsKeptWord (image : Shape) (words : List ℕ) (is_named : ℕ → Bool) (logs : List LogBlock) (kept : KeptWord) : Type 0 where
  pub named : is_named kept.block ≡ true
  pub inside : kept.slot < words_in image
  pub word_is : (kept.word ≡ slice_index words (place_in image kept.block kept.slot)) ⊎ ((kept.word ≡ 0) × (is_listed (log_blocks logs) kept.block ≡ true))
  pub early : (kept.slot ≡ 1) ⊎ (kept.slot ≡ 2) → kept.word ≡ slice_index words (place_in image kept.block kept.slot)

-- a view that has walked: its table and size are those of its position, and its tail is a place of the log block with its tail's base
pub record HasWalked (o : Origin) (es : List LogEntry) (logs : List LogBlock) (w : Walk) : Type 0 where
  pub table : (virt : ℕ) → mapped_at w.map virt ≡ history_map_at o es w.position virt
  pub size_is : w.size ≡ history_size_at o es w.position
  pub base : (log_at logs w.tail_base).base ≡ w.tail_base
  pub block : (log_at logs w.tail_base).block ≡ w.tail_block
  pub from : 3 ≤ w.tail_slot
  pub upto : w.tail_slot ≤ words_in (shape o)
  pub inside : w.tail_slot ≢ words_in (shape o) → (w.position ≡ w.tail_base + (w.tail_slot - 3)) × (w.tail_slot - 3 ≤ entries_used (log_at logs w.tail_base))
  pub at_end : w.tail_slot ≡ words_in (shape o) →
      (is_full (shape o) (log_at logs w.tail_base).slots ≡ true) × (w.position ≡ w.tail_base + entries_used (log_at logs w.tail_base))

-- a walk's first log block is that of the chain of the seat's generation
pub record IsFirstLog (o : Origin) (generations : List Generation) (logs : List LogBlock) (generation block : ℕ) : Type 0 where
  pub some : generation ≢ 0
  pub is : block ≡ (nth_log logs (generation_at o generations generation).cut).block

-- a block is that of a place of a generation's snapshot
pub record IsSnapshotBlock (g : Generation) (place block : ℕ) : Type 0 where
  pub inside : place < length g.snapshots
  pub block_is : slice_index g.snapshots place ≡ block

-- the parts of a core that the clause reads beside the view; which generations are kept, by their places
pub record Around : Type 1 where
  pub origin : Origin
  pub words : List ℕ
  pub es : List LogEntry
  pub end : ℕ
  pub generations : List Generation
  pub logs : List LogBlock
  pub recorded : ℕ → List ℕ
  pub kept : ℕ → Type 0

-- what is read of a snapshot is as far as it goes, as long as that generation is kept. With a valid pin the kept words are those of the pinned chain, and without one there are none. A view that is ready has walked in the chain of its
-- generation. The first log block is that chain's, or not known; a block come to on the way to it is one of its snapshot. No position is past the end
pub record WalkHolds (a : Around) (h : Hold) (w : Walk) : Type 0 where
  pub to_end : w.position ≤ a.end
  pub from_first : w.reading ≡ true → first_generation a.origin ≤ w.reading_generation
  pub to_current : w.reading ≡ true → w.reading_generation < first_generation a.origin + length a.generations
  pub read : w.reading ≡ true → a.kept (w.reading_generation - first_generation a.origin) → HasRead a.recorded (generation_at a.origin a.generations w.reading_generation) w
  pub kept_words : h.valid ≡ true →
      AllByRecursion (IsKeptWord (shape a.origin) a.words (λ block. is_named a.origin a.logs a.es (generation_at a.origin a.generations h.generation) block)
      (drop (generation_at a.origin a.generations h.generation).cut a.logs)) w.kept
  pub unpinned : h.valid ≡ false → w.kept ≡ []
  pub walked : w.tail_block ≢ 0 → w.reading ≡ false → HasWalked a.origin a.es a.logs w
  pub ready_walked : w.ready ≡ true → (w.tail_block ≢ 0) × (w.reading ≡ false) × (h.generation ≢ 0)
  pub ready_base : w.ready ≡ true → w.snapshot_base ≡ (generation_at a.origin a.generations h.generation).base
  pub ready_tail : w.ready ≡ true → w.snapshot_base ≤ w.tail_base
  pub seeking : w.ready ≡ true → w.reading_block ≢ 0 → IsSnapshotBlock (generation_at a.origin a.generations h.generation) w.reading_place w.reading_block
  pub first_known : w.first_log ≢ 0 → IsFirstLog a.origin a.generations a.logs h.generation w.first_log

abbrev pub WalksHold : Around → List View → Type 0
WalksHold a views = (seat : ℕ) → (view_of views seat).parts ≢ [] → WalkHolds a (view_of views seat).seat.hold (view_of views seat).seat.walk
