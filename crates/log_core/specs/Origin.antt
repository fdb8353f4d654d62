-- What a run starts from, and the parts of a core that are read off its chain.
use Rattle.std.specs.Prelude.{ℕ, zero, suc, ◌==◌, Bool, true, false, if◌then◌else◌, List, [], ◌∷◌, length, map, replicate}
use Rattle.std.specs.List.{range_with_len}
use Rattle.log_entry.specs.declared.layouts.TheConstants.{EMPTY, SEAL}
use Rattle.log_entry.specs.declared.shapes.Geometry.{Geometry}
use Rattle.log_image.specs.Image.{Shape, shape_by, words_in, block_words}
use Rattle.log_image.specs.Header.{generation_of}
use Rattle.log_image.specs.Entries.{Meaning, all_names}
use Rattle.log_image.specs.Blocks.{base_of, slots_of}
use Rattle.log_image.specs.Chains.{snapshots_of, logs_of, snapshot_base, snapshot_size, is_listed}
use Rattle.log_image.specs.Positions.{snapshot_entries, log_words, position_of}
use Rattle.log_image.specs.Taken.{named_blocks}
use Rattle.persistence.specs.Memory.{Memory}
use Rattle.log_core.specs.Entries.{LogEntry, entry_by}
use Rattle.log_core.specs.Views.{View, new_view}

-- a start: the shape of the image, how many seats there may be and how many are made at first, the image's words and the bitmap of
-- its taken blocks, the chain of the words, and the file that they stand for
pub record Origin : Type 0 where
  pub geometry : Geometry
  pub seats : ℕ
  pub made : ℕ
  pub words : List ℕ
  pub taken : List ℕ
  pub chain : List ℕ
  pub file : List ℕ

abbrev pub shape : Origin → Shape
shape o = shape_by o.geometry

-- the 64-bit words of a block
abbrev pub q_of_origin : Origin → ℕ
q_of_origin o = words_in (shape o)

-- the position and the generation at the start, and the position and the size of the start's snapshot
abbrev pub first_position : Origin → ℕ
first_position o = position_of o.words (shape o) o.chain

abbrev pub first_generation : Origin → ℕ
first_generation o = generation_of o.words

abbrev pub start_base : Origin → ℕ
start_base o = snapshot_base o.words (shape o) o.chain

abbrev pub start_size : Origin → ℕ
start_size o = snapshot_size o.words (shape o) o.chain

-- who has a block: nobody, the header, the present chain, the seat that took it, or the seat whose collection replaced it
pub data Owner : Type 0 where
  Free : Owner
  Header : Owner
  InChain : Owner
  OwnedBy : ℕ → Owner
  LeftTo : ℕ → Owner

-- a log block that was ever linked: its base, and its used slots, of which a seal is the last. Its link is the next one's block
pub record LogBlock : Type 0 where
  pub block : ℕ
  pub base : ℕ
  pub slots : List ℕ

abbrev pub no_log : LogBlock
no_log = record { block = 0; base = 0; slots = [] }

-- a generation: the blocks of its snapshot, the data blocks that the snapshot names, the number of its first log block among all
-- log blocks, and the snapshot's position and size
pub record Generation : Type 0 where
  pub snapshots : List ℕ
  pub shared : List ℕ
  pub cut : ℕ
  pub base : ℕ
  pub size : ℕ

abbrev pub no_generation : Generation
no_generation = record { snapshots = []; shared = []; cut = 0; base = 0; size = 0 }

-- the used slots: those before the first empty one, and none after a seal
abbrev pub used_slots : List ℕ → List ℕ
used_slots [] = []
used_slots (slot ∷ slots) = if slot == EMPTY then [] else if slot == SEAL then slot ∷ [] else slot ∷ used_slots slots

-- a log block as its words say it
abbrev pub log_block : ℕ → List ℕ → LogBlock
log_block block words = record { block = block; base = base_of words; slots = used_slots (slots_of words) }

abbrev pub first_recorded : Origin → ℕ → List ℕ
first_recorded o block = block_words o.words (shape o) block

abbrev pub first_logs : Origin → List LogBlock
first_logs o = map (λ (block : ℕ). log_block block (first_recorded o block)) (logs_of o.words (shape o) o.chain)

abbrev pub first_snapshot : Origin → List Meaning
first_snapshot o = snapshot_entries o.words (shape o) o.chain

abbrev pub start_generation : Origin → Generation
start_generation o = record {
  snapshots = snapshots_of o.words (shape o) o.chain;
  shared = all_names (first_snapshot o);
  cut = 0;
  base = start_base o;
  size = start_size o;
}

-- the entries of the start's log
abbrev pub first_entries : Origin → List LogEntry
first_entries o = map (λ (word : ℕ). entry_by (first_recorded o) word) (log_words o.words (shape o) o.chain)

abbrev pub owner_by : Bool → Bool → Owner
owner_by true header = InChain
owner_by false true = Header
owner_by false false = Free

abbrev pub first_owner : Origin → ℕ → Owner
first_owner o block = owner_by (is_listed (named_blocks o.words (shape o) o.chain) block) (block == 0)

abbrev pub first_memory : Origin → Memory
first_memory o = record {
  now = record { words = o.words; taken = o.taken; pins = replicate o.seats 0 };
  past = [];
  floors = replicate (length o.words) 0;
  pending = [];
}

-- seat 0 counts the seats made
abbrev pub made_by : ℕ → ℕ → ℕ
made_by made zero = made
made_by made (suc number) = 0

abbrev pub first_views : Origin → List View
first_views o = map (λ (number : ℕ). new_view o.geometry o.seats (first_position o) (made_by o.made number) number) (range_with_len 0 o.made)
