-- Where a walk stands on the way.
use Rattle.std.proofs.Common.{◌≡◌, ◌≢◌, ◌<◌, ◌≤◌, ◌⊎◌, ℕ, true, false, List, [], ◌∷◌, length, Some}
use Rattle.log_entry.specs.Fields.{field}
use Rattle.log_entry.specs.declared.layouts.TheConstants.{BLOCK_BASE, BLOCK_KIND, ENTRY_KIND, INDIRECT, INDIRECT_BLOCK, SNAPSHOT}
use Rattle.pmem_words.specs.Seats.{Seat}
use Rattle.log_core.specs.Views.{Ghost}
use Rattle.log_core.specs.Works.{words_of, front, kept_at}
use Rattle.log_blocks.specs.Committing.{rows}
use Rattle.log_blocks.specs.declared.walk.Walk.{Walk}
use Rattle.log_blocks.specs.declared.walk.Walk.TheVariants.{Begin, Size, Run, Link, Next, Indirect}

-- what a walk has kept of the seat since it began
pub record IsUnderWay (s0 : Seat) (g0 : Ghost) (s : Seat) (g : Ghost) : Type 0 where
  pub left : s ≡ record s0 {
    walk = s.walk;
    calling = record s0.calling { bases = s.calling.bases; base_words = s.calling.base_words; noting = s.calling.noting };
    blocks = record s0.blocks { named = s.blocks.named };
  }
  pub ghost : g ≡ g0
  pub few : length s.calling.bases ≤ length s0.calling.bases
  pub rises : s0.walk.ready ≡ true → (s.walk.ready ≡ true) × (s0.walk.position ≤ s.walk.position)

-- the size of the snapshot is to be loaded: its first block's second word is kept
pub record IsAtSize (base : ℕ) (s : Seat) : Type 0 where
  pub not_ready : s.walk.ready ≡ false
  pub no_bases : s.calling.bases ≡ []
  pub word : ℕ
  pub kept : s.walk.kept ≡ record { block = front s; slot = 1; word = word } ∷ []
  pub base_is : field BLOCK_BASE word ≡ base
  pub kind_is : field BLOCK_KIND word ≡ SNAPSHOT

-- the snapshot of the pinned generation is being read
pub record IsInSnapshot (s : Seat) : Type 0 where
  pub not_ready : s.walk.ready ≡ false
  pub no_bases : s.calling.bases ≡ []
  pub reading : s.walk.reading ≡ true
  pub pinned : s.walk.reading_generation ≡ s.hold.generation
  pub from : 3 ≤ s.walk.reading_slot
  pub upto : s.walk.reading_slot ≤ words_of s

-- and its block at hand has no entry more
pub record HasNoMore (s : Seat) : Type 0 where
  pub none : (s.walk.reading_slot ≡ words_of s) ⊎ (kept_at s.walk.kept s.walk.reading_block s.walk.reading_slot ≡ Some 0)

-- an indirect entry was found at the tail, and the first words of its block
pub record IsInBlock (block count : ℕ) (s : Seat) : Type 0 where
  pub ready : s.walk.ready ≡ true
  pub unclosed : s.walk.tail_slot ≢ words_of s
  pub inside : count < words_of s
  pub word : ℕ
  pub kind : field ENTRY_KIND word ≡ INDIRECT
  pub block_is : block ≡ field INDIRECT_BLOCK word
  pub words : List ℕ
  pub kept : s.walk.kept ≡ record { block = s.walk.tail_block; slot = s.walk.tail_slot; word = word } ∷ rows block 0 words
  pub count_is : length words ≡ count
  pub apart : (count ≡ 0) ⊎ (block ≢ s.walk.tail_block)

pub record IsAtBegin (s : Seat) : Type 0 where
  pub none_kept : s.walk.kept ≡ []
  pub no_bases : s.walk.ready ≡ false → s.calling.bases ≡ []

pub record IsAtRun (s : Seat) : Type 0 where
  pub reads : IsInSnapshot s
  pub more : s.walk.reading_slot ≢ words_of s
  pub none_kept : s.walk.kept ≡ []

pub record IsAtLink (s : Seat) : Type 0 where
  pub reads : IsInSnapshot s
  pub no_more : HasNoMore s
  pub few_kept : length s.walk.kept ≤ 1

pub record IsAtNext (block : ℕ) (s : Seat) : Type 0 where
  pub reads : IsInSnapshot s
  pub no_more : HasNoMore s
  pub link : kept_at s.walk.kept s.walk.reading_block 0 ≡ Some block
  pub few_kept : length s.walk.kept ≤ 2

abbrev pub StageStands : Walk → Seat → Type 0
StageStands Begin s = IsAtBegin s
StageStands (Size base) s = IsAtSize base s
StageStands Run s = IsAtRun s
StageStands Link s = IsAtLink s
StageStands (Next block) s = IsAtNext block s
StageStands (Indirect block word) s = IsInBlock block word s

pub record WalkStands (s0 : Seat) (g0 : Ghost) (m : Walk) (s : Seat) (g : Ghost) : Type 0 where
  pub on_way : IsUnderWay s0 g0 s g
  pub stage : StageStands m s
