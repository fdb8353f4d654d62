-- Reading bases within a core: when a seat may, and what it has in the end, whatever other seats do meanwhile.
use Rattle.std.specs.Prelude.{ℕ, ◌-◌, ◌*◌, ◌<◌, ◌≤◌, ◌≡◌, List, [], ◌++◌, length, Some, None}
use Rattle.pmem_words.specs.Maps.{map_at}
use Rattle.pmem_words.specs.Seats.{Seat}
use Rattle.log_core.specs.Views.{Ghost}
use Rattle.log_core.specs.Origin.{Origin}
use Rattle.log_core.specs.Works.{MayReadFile, base_block, words_of}
use Rattle.log_core.specs.Promising.{Promises}
use Rattle.partial_blocks.specs.Touching.{IsInFile, lacks_base, HasTouchedBases}
use Rattle.partial_blocks.specs.ReadingBase.{read_base_of, read_base_script}
use Rattle.partial_blocks.specs.ReadingBases.{read_bases_of, read_bases_script, base_opened}

-- a seat with more bases, and more base words, behind those that it has
abbrev pub with_bases : List ℕ → List ℕ → Seat → Seat
with_bases bases words s = record s { calling = record s.calling { bases = s.calling.bases ++ bases; base_words = s.calling.base_words ++ words } }

abbrev pub with_base_words : List ℕ → Seat → Seat
with_base_words words s = record s { calling = record s.calling { base_words = s.calling.base_words ++ words } }

-- a seat may read the block of the base added last: it has read the others whole, and is at its tail with a valid pin. No word is kept
pub record MayReadBase (block : ℕ) (o : Origin) (seat : ℕ) (s : Seat) (g : Ghost) : Type 0 where
  pub reads : MayReadFile s
  pub none_kept : s.walk.kept ≡ []
  pub begun : 0 < length s.calling.bases
  pub few : length s.calling.bases ≤ 2
  pub whole : length s.calling.base_words ≡ (length s.calling.bases - 1) * words_of s
  pub block_is : base_block s ≡ Some block

-- it has a block's words more, and is else as before
pub record HasReadBase (s0 : Seat) (g0 : Ghost) (out : Unit {0}) (s : Seat) (g : Ghost) : Type 0 where
  pub words : List ℕ
  pub whole : length words ≡ words_of s0
  pub left : s ≡ with_base_words words s0
  pub ghost : g ≡ g0

abbrev pub ReadsBaseWithin : Type 0
ReadsBaseWithin = (block : ℕ) → Promises read_base_script (MayReadBase block) (λ o seat s0 g0 out s g. HasReadBase s0 g0 out s g) (read_base_of block)

-- a seat that is to write may look whether it lacks a base: it is at its tail with a valid pin, and its bases are some of those that its
-- call touches in part, none or those that entries of others have left. No word is kept
pub record MayLookForBases (offset : ℕ) (s : Seat) : Type 0 where
  pub reads : MayReadFile s
  pub none_kept : s.walk.kept ≡ []
  pub in_file : IsInFile offset s
  pub bases : HasTouchedBases offset s

-- and it has added the first that it lacks, which is in this block
pub record MayReadBases (offset block : ℕ) (o : Origin) (seat : ℕ) (s : Seat) (g : Ghost) : Type 0 where
  pub before : Seat
  pub looks : MayLookForBases offset before
  pub virt : ℕ
  pub lacking : lacks_base offset before ≡ Some virt
  pub block_is : map_at before.walk.map virt ≡ Some block
  pub opened : s ≡ base_opened virt before

-- it lacks none: its bases are some of those that its call touches in part, each read whole. It has the bases and words that it had, and
-- more behind them, and is else as before
pub record HasReadBases (offset : ℕ) (s0 : Seat) (g0 : Ghost) (out : Unit {0}) (s : Seat) (g : Ghost) : Type 0 where
  pub none_lacks : lacks_base offset s ≡ None
  pub bases : HasTouchedBases offset s
  pub more : List ℕ
  pub words : List ℕ
  pub left : s ≡ with_bases more words s0
  pub ghost : g ≡ g0

abbrev pub ReadsBasesWithin : Type 0
ReadsBasesWithin = (offset block : ℕ) → Promises read_bases_script (MayReadBases offset block) (λ o seat s0 g0 out s g. HasReadBases offset s0 g0 out s g) (read_bases_of offset block)
