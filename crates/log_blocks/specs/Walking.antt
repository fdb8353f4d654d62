-- What a walk to the tail means.
use Rattle.std.specs.Prelude.{ℕ, ◌+◌, ◌-◌, ◌*◌, ◌^◌, ◌<◌, ◌≡◌, ◌≢◌, ◌⊎◌, ◌==◌, ◌&&◌, not, nat_le, nat_lt, Bool, true, false, if◌then◌else◌, length}
use Rattle.log_entry.specs.Fields.{field}
use Rattle.log_entry.specs.declared.layouts.TheConstants.{BLOCK_BASE, BLOCK_KIND, EMPTY, ENTRY_KIND, INDIRECT, INDIRECT_BLOCK, LOG, SEAL, SNAPSHOT, SNAPSHOT_SIZE}
use Rattle.log_image.specs.Image.{words_in}
use Rattle.log_image.specs.Entries.{direct_meaning, indirect_meaning}
use Rattle.log_image.specs.Format.{fits, is_indirect_block}
use Rattle.asks.specs.declared.ask.Ask.{Ask}
use Rattle.asks.specs.declared.ask.Ask.TheVariants.{Load}
use Rattle.asks.specs.declared.ask.Place.TheVariants.{Image}
use Rattle.pmem_words.specs.Seats.{Seat, kept_room, image_blocks}
use Rattle.pmem_words.specs.Scripts.{After, Script, Lowers}
use Rattle.pmem_words.specs.declared.machine.Turn.TheVariants.{Go, Done}
use Rattle.log_core.specs.Entries.{place_in}
use Rattle.log_core.specs.Works.{seat_shape, words_of, front, tail_index}
use Rattle.log_blocks.specs.declared.walk.Tail.{Tail}
use Rattle.log_blocks.specs.declared.walk.Tail.TheVariants.{Slot, End}
use Rattle.log_blocks.specs.declared.walk.Walk.{Walk}
use Rattle.log_blocks.specs.declared.walk.Walk.TheVariants.{Begin, Size, Run, Link, Next, Indirect}
use Rattle.log_blocks.specs.Taking.{with_kept, table_kept, log_begun, snapshot_begun, run_taken, next_begun, reading_ended, taken, seal_taken, followed, tail_found, kept_words, HasRoom, HasFewBases}

-- a walk behind an exchange that was lost to this word
abbrev pub walk_if : Bool → ℕ → Walk
walk_if true word = Indirect (field INDIRECT_BLOCK word) 0
walk_if false word = Begin

abbrev pub walk_from : ℕ → Walk
walk_from word = walk_if (field ENTRY_KIND word == INDIRECT) word

-- the block whose word is loaded, and the word's number in it
abbrev pub block_at : Walk → Seat → ℕ
block_at Begin s = if s.walk.ready then s.walk.tail_block else front s
block_at (Size base) s = front s
block_at Run s = s.walk.reading_block
block_at Link s = s.walk.reading_block
block_at (Next block) s = block
block_at (Indirect block word) s = block

abbrev pub word_at : Walk → Seat → ℕ
word_at Begin s = if s.walk.ready then tail_index s else 1
word_at (Size base) s = 2
word_at Run s = s.walk.reading_slot
word_at Link s = 0
word_at (Next block) s = 1
word_at (Indirect block word) s = word

abbrev pub walk_asks : Walk → Seat → Ask
walk_asks m s = Load (Image (place_in (seat_shape s) (block_at m s) (word_at m s)))

-- whether the kept table is one of the chain that begins at this position
abbrev pub keeps_table : Seat → ℕ → Bool
keeps_table s base = not (s.walk.tail_block == 0) && not s.walk.reading && nat_le base s.walk.tail_base

-- after the second word of the chain's first block
abbrev pub front_after : Bool → Bool → Seat → ℕ → After Walk Tail
front_after true snapshot s f = record { machine = Begin; seat = table_kept s (field BLOCK_BASE f); turn = Go }
front_after false true s f = record { machine = Size (field BLOCK_BASE f); seat = with_kept s (front s) 1 f; turn = Go }
front_after false false s f = record { machine = Begin; seat = log_begun s (field BLOCK_BASE f); turn = Go }

-- after a slot of the snapshot block come to
abbrev pub run_or_link : Bool → Walk
run_or_link true = Link
run_or_link false = Run

abbrev pub run_after : Bool → Seat → ℕ → After Walk Tail
run_after true s f = record { machine = Link; seat = with_kept s s.walk.reading_block s.walk.reading_slot f; turn = Go }
run_after false s f = record { machine = run_or_link (s.walk.reading_slot + 1 == words_of s); seat = run_taken s f; turn = Go }

-- after the second word of the block that it links to
abbrev pub next_after : Bool → ℕ → Seat → After Walk Tail
next_after true block s = record { machine = Run; seat = next_begun s block; turn = Go }
next_after false block s = record { machine = Begin; seat = reading_ended s block; turn = Go }

-- after the word at the tail
abbrev pub tail_of : Bool → Seat → Tail
tail_of true s = End s.walk.tail_block
tail_of false s = Slot s.walk.tail_block s.walk.tail_slot

abbrev pub slot_after : Bool → Bool → Seat → ℕ → After Walk Tail
slot_after true indirect s f = record { machine = Begin; seat = seal_taken s; turn = Go }
slot_after false true s f = record { machine = Indirect (field INDIRECT_BLOCK f) 0; seat = with_kept s s.walk.tail_block s.walk.tail_slot f; turn = Go }
slot_after false false s f = record { machine = Begin; seat = taken s (direct_meaning f); turn = Go }

abbrev pub tail_after : Bool → Bool → Seat → ℕ → After Walk Tail
tail_after true last s f = record { machine = Begin; seat = tail_found s; turn = Done (tail_of last s) }
tail_after false true s f = record { machine = Begin; seat = followed s f; turn = Go }
tail_after false false s f = slot_after (f == SEAL) (field ENTRY_KIND f == INDIRECT) s f

abbrev pub begin_after : Bool → Seat → ℕ → After Walk Tail
begin_after true s f = tail_after (f == EMPTY) (s.walk.tail_slot == words_of s) s f
begin_after false s f = front_after (keeps_table s (field BLOCK_BASE f)) (field BLOCK_KIND f == SNAPSHOT) s f

-- after a word of an indirect block
abbrev pub indirect_after : Bool → ℕ → ℕ → Seat → After Walk Tail
indirect_after true block word s = record { machine = Indirect block (word + 1); seat = s; turn = Go }
indirect_after false block word s = record { machine = Begin; seat = taken s (indirect_meaning block (kept_words s)); turn = Go }

abbrev pub walk_after : Walk → Seat → ℕ → After Walk Tail
walk_after Begin s f = begin_after s.walk.ready s f
walk_after (Size base) s f = record { machine = Run; seat = snapshot_begun s base (field SNAPSHOT_SIZE f); turn = Go }
walk_after Run s f = run_after (f == EMPTY) s f
walk_after Link s f = record { machine = Next f; seat = with_kept s s.walk.reading_block 0 f; turn = Go }
walk_after (Next block) s f = next_after (field BLOCK_KIND f == SNAPSHOT) block s
walk_after (Indirect block word) s f = indirect_after (nat_lt (word + 1) (words_of s)) block word (with_kept s block word f)

-- how far a walk of the log is from its end: three for each position that is left, one for each step between two positions
abbrev pub rank_by : Bool → Bool → ℕ
rank_by true first = 1
rank_by false true = 0
rank_by false false = 2

abbrev pub log_left : Seat → ℕ
log_left s = (2 ^ 40 - s.walk.position) * 3 + rank_by (s.walk.tail_slot == words_of s) (s.walk.tail_slot == 3)

-- more than any walk of the log takes, and more than the reading of a snapshot and that
abbrev pub whole_log : ℕ
whole_log = (2 ^ 40 * 3 + 3) * 1024

abbrev pub snapshot_left : Seat → ℕ
snapshot_left s = whole_log + (2 ^ 16 - s.walk.reading_place) * 2048

abbrev pub begin_measure : Bool → Seat → ℕ
begin_measure true s = log_left s * 1024 + 1000
begin_measure false s = 2 * whole_log + 1

abbrev pub walk_measure : Walk → Seat → ℕ
walk_measure Begin s = begin_measure s.walk.ready s
walk_measure (Size base) s = 2 * whole_log
walk_measure Run s = snapshot_left s + (1000 - s.walk.reading_slot)
walk_measure Link s = snapshot_left s + 2
walk_measure (Next block) s = snapshot_left s + 1
walk_measure (Indirect block word) s = log_left s * 1024 + (999 - word)

-- what a walk may be told: words that a chain has, of blocks of the image
pub record IsKind (f : ℕ) : Type 0 where
  pub is : (field BLOCK_KIND f ≡ LOG) ⊎ (field BLOCK_KIND f ≡ SNAPSHOT)

abbrev pub IsOfImage : Seat → ℕ → Type 0
IsOfImage s block = block < image_blocks s.geometry

pub record IsSlotWord (s : Seat) (f : ℕ) : Type 0 where
  pub room : HasRoom s.walk
  pub few : HasFewBases (words_of s) s.calling
  pub direct : f ≢ EMPTY → f ≢ SEAL → field ENTRY_KIND f ≢ INDIRECT → fits (seat_shape s) 256 (direct_meaning f) ≡ true

pub record IsWholeBlock (s : Seat) (block : ℕ) : Type 0 where
  pub inside : IsOfImage s block
  pub room : HasRoom s.walk
  pub few : HasFewBases (words_of s) s.calling
  pub whole : length (kept_words s) ≡ words_in (seat_shape s)
  pub runs : is_indirect_block (seat_shape s) (kept_words s) ≡ true
  pub fits : fits (seat_shape s) 256 (indirect_meaning block (kept_words s)) ≡ true

abbrev pub BeginAdmits : Bool → Seat → ℕ → Type 0
BeginAdmits true s f = (s.walk.tail_slot ≢ words_of s → IsSlotWord s f) × (s.walk.tail_slot ≡ words_of s → f ≢ EMPTY → IsOfImage s f)
BeginAdmits false s f = IsKind f × IsOfImage s (front s)

abbrev pub StageAdmits : Walk → Seat → ℕ → Type 0
StageAdmits Begin s f = BeginAdmits s.walk.ready s f
StageAdmits (Size base) s f = IsOfImage s (front s)
StageAdmits Run s f = (s.walk.reading_slot + 1 < 2 ^ 16) × (f ≢ EMPTY → fits (seat_shape s) 256 (direct_meaning f) ≡ true)
StageAdmits Link s f = f < 2 ^ 16
StageAdmits (Next block) s f = IsKind f × (s.walk.reading_place + 1 < 2 ^ 16) × IsOfImage s block
StageAdmits (Indirect block word) s f = (word < words_of s) × (word + 1 ≡ words_of s → IsWholeBlock (with_kept s block word f) block)

-- there is a free place for the word, it is such, and the walk comes nearer to its end with it
pub record WalkAdmits (m : Walk) (s : Seat) (f : ℕ) : Type 0 where
  pub room : length s.walk.kept < kept_room s.geometry
  pub stage : StageAdmits m s f
  pub falls : (walk_after m s f).turn ≡ Go → walk_measure (walk_after m s f).machine (walk_after m s f).seat < walk_measure m s

abbrev pub walk_script : Script Walk Tail
walk_script = record { asks = walk_asks; admits = WalkAdmits; after = walk_after; measure = walk_measure }

pub walk_lowers : Lowers walk_script
walk_lowers m s f admits go = admits.falls go
