-- The state of a core, and what is read off it.
use Rattle.std.specs.Prelude.{ℕ, ◌+◌, ◌-◌, ◌≤◌, ◌<◌, ◌≡◌, ◌⊎◌, ◌==◌, ◌||◌, Bool, true, if◌then◌else◌, List, [], ◌∷◌, ◌++◌, length, map, drop, replicate, slice_index_or}
use Rattle.std.specs.List.{list_any}
use Rattle.log_entry.specs.declared.layouts.TheConstants.{SEAL}
use Rattle.log_image.specs.Image.{Shape, words_in}
use Rattle.log_image.specs.Blocks.{entry_words}
use Rattle.persistence.specs.Memory.{Memory, cell}
use Rattle.log_image.specs.Chains.{is_listed}
use Rattle.log_core.specs.Entries.{place_in, head_place, LogEntry, entry_names}
use Rattle.log_core.specs.Views.{View, view_of}
use Rattle.log_core.specs.Origin.{Origin, Owner, LogBlock, no_log, Generation, no_generation, start_base, first_position, first_generation, start_generation, first_logs, first_owner, first_recorded, first_memory, first_views}
use Rattle.log_core.specs.Files.{Write}

-- the state of a core: the memory; the views, a seat's number being its view's place; the accepted writes, the oldest first; the
-- generations from the start's on; all log blocks that were ever linked, in the order of the chain; who has each block; the words
-- that each block was put into the chain with; the synced position; and for each seat the end at its call's first step
pub record Core : Type 0 where
  pub memory : Memory
  pub views : List View
  pub history : List Write
  pub generations : List Generation
  pub logs : List LogBlock
  pub owner : ℕ → Owner
  pub recorded : ℕ → List ℕ
  pub synced : ℕ
  pub began : List ℕ

-- the core that a run starts with
abbrev pub first_core : Origin → Core
first_core o = record {
  memory = first_memory o;
  views = first_views o;
  history = [];
  generations = start_generation o ∷ [];
  logs = first_logs o;
  owner = λ block. first_owner o block;
  recorded = λ block. first_recorded o block;
  synced = first_position o;
  began = replicate o.made 0;
}

-- the generation of a number, and the number of the present one
abbrev pub generation_at : Origin → List Generation → ℕ → Generation
generation_at o generations number = slice_index_or generations (number - first_generation o) no_generation

abbrev pub current : Origin → List Generation → ℕ
current o generations = first_generation o + length generations - 1

-- whether a seal is among used slots, and whether they take no more
abbrev pub is_sealed : List ℕ → Bool
is_sealed slots = list_any (λ (slot : ℕ). slot == SEAL) slots

abbrev pub is_full : Shape → List ℕ → Bool
is_full image slots = is_sealed slots || length slots + 3 == words_in image

-- the log block of this number, and the one with this base; there is one with a base at most, since bases rise
abbrev pub nth_log : List LogBlock → ℕ → LogBlock
nth_log logs number = slice_index_or logs number no_log

abbrev pub log_at : List LogBlock → ℕ → LogBlock
log_at [] base = no_log
log_at (log ∷ logs) base = if log.base == base then log else log_at logs base

-- the number of the log block with this base
abbrev pub number_at : List LogBlock → ℕ → ℕ
number_at [] base = 0
number_at (log ∷ logs) base = if log.base == base then 0 else 1 + number_at logs base

abbrev pub log_blocks : List LogBlock → List ℕ
log_blocks logs = map (λ (log : LogBlock). log.block) logs

-- how many entries a log block has
abbrev pub entries_used : LogBlock → ℕ
entries_used log = length (entry_words log.slots)

-- the snapshot and log blocks of a generation's chain up to the end
abbrev pub chain_names : List LogBlock → Generation → List ℕ
chain_names logs g = g.snapshots ++ log_blocks (drop g.cut logs)

-- the data and indirect blocks that it names: those of the snapshot, and those of the entries of its log blocks
abbrev pub data_names : Origin → List LogEntry → Generation → List ℕ
data_names o es g = g.shared ++ entry_names (drop (g.base - start_base o) es)

-- all blocks that a generation names
abbrev pub generation_blocks : Origin → List LogBlock → List LogEntry → Generation → List ℕ
generation_blocks o logs es g = chain_names logs g ++ data_names o es g

abbrev pub is_named : Origin → List LogBlock → List LogEntry → Generation → ℕ → Bool
is_named o logs es g block = is_listed (generation_blocks o logs es g) block

-- a seat has a valid pin of the generation at this place
pub record IsPinned (o : Origin) (views : List View) (place : ℕ) : Type 0 where
  pub seat : ℕ
  pub valid : (view_of views seat).seat.hold.valid ≡ true
  pub same : (view_of views seat).seat.hold.generation ≡ first_generation o + place

-- the generation at this place is kept: it is at the head at or after the head's floor, as the present one is, or pinned
pub record IsKept (o : Origin) (generations : List Generation) (floor : ℕ) (views : List View) (place : ℕ) : Type 0 where
  pub inside : place < length generations
  pub why : (floor ≤ place) ⊎ IsPinned o views place

-- the number of the least head that a crash may leave
abbrev pub head_floor : Memory → ℕ
head_floor memory = (cell memory head_place).floor

-- a used slot or a link, with its word
pub record TrailWord : Type 0 where
  pub place : ℕ
  pub word : ℕ

-- used slots from a place on, in order
abbrev pub slot_trail : ℕ → List ℕ → List TrailWord
slot_trail place [] = []
slot_trail place (slot ∷ slots) = record { place = place; word = slot } ∷ slot_trail (place + 1) slots

-- the used slots and the links of log blocks, in the order of reading
abbrev pub trail : Shape → List LogBlock → List TrailWord
trail image [] = []
trail image (log ∷ []) = slot_trail (place_in image log.block 3) log.slots
trail image (log ∷ next ∷ logs) =
    slot_trail (place_in image log.block 3) log.slots ++ record { place = place_in image log.block 0; word = next.block } ∷ trail image (next ∷ logs)
