-- What contracts see of a seat's state, in groups by who uses them.
use Rattle.std.specs.Prelude.{ℕ, ◌+◌, ◌*◌, List, [], replicate, Bool, true, false, Option, None}
use Rattle.log_entry.specs.Shape.{words_of_block, snapshot_blocks_of, total_of, longest_of, ceiling}
use Rattle.log_entry.specs.declared.shapes.Geometry.{Geometry}
use Rattle.log_entry.specs.declared.calls.Held.{Held}
use Rattle.pmem_words.specs.Maps.{unmapped}
use Rattle.pmem_words.specs.declared.keeps.Task.{Task}
use Rattle.pmem_words.specs.declared.keeps.Task.TheVariants.{Idle}
use Rattle.pmem_words.specs.declared.keeps.KeptWord.{KeptWord}
use Rattle.pmem_words.specs.declared.owned.OwnedBlock.{OwnedBlock}

-- the head found last, the generation in the pin word, the one that the last valid pin named, and whether that is valid now
pub record Hold : Type 0 where
  pub head : ℕ
  pub pin : ℕ
  pub generation : ℕ
  pub valid : Bool

-- what was walked: the position, the map from virtual to physical blocks and the size there, and the tail; and how far the
-- reading of a snapshot has come. Where none is read, its block and place are those come to on the way to the first log block
pub record Walk : Type 0 where
  pub position : ℕ
  pub map : List (Option ℕ)
  pub size : ℕ
  pub tail_block : ℕ
  pub tail_slot : ℕ
  pub tail_base : ℕ
  pub snapshot_base : ℕ
  pub first_log : ℕ
  pub at_tail : Bool
  pub ready : Bool
  pub reading : Bool
  pub reading_generation : ℕ
  pub reading_block : ℕ
  pub reading_slot : ℕ
  pub reading_place : ℕ
  pub kept : List KeptWord

-- the present call; word j of the base at place k is number k * q + j of the base words. `noting` says that the blocks named are
-- kept: they are those that the chain names up to the walk's place
pub record Calling : Type 0 where
  pub job : Task
  pub bytes : List ℕ
  pub bases : List ℕ
  pub base_words : List ℕ
  pub lost : ℕ
  pub won : Bool
  pub sync_to : Option ℕ
  pub noting : Bool

-- blocks taken, found taken and named; word j of the owned block at place k is number k * q + j of the contents
pub record Blocks : Type 0 where
  pub owned : List OwnedBlock
  pub contents : List ℕ
  pub found : List ℕ
  pub named : List ℕ

-- blocks to be given back, and what is known of the pins that may need them
pub record Giving : Type 0 where
  pub replaced : List ℕ
  pub replaced_generation : ℕ
  pub limbo : List ℕ
  pub limbo_generation : ℕ
  pub pins_seen : List ℕ
  pub limbo_held : Option Held
  pub head_fenced : Bool

pub record Seat : Type 0 where
  pub number : ℕ
  pub seats : ℕ
  pub geometry : Geometry
  pub hold : Hold
  pub walk : Walk
  pub calling : Calling
  pub blocks : Blocks
  pub giving : Giving

-- 64-bit words of a block
abbrev pub q_of : Geometry → ℕ
q_of g = words_of_block g.block_bytes

-- how many words of blocks at hand may be kept
abbrev pub kept_room : Geometry → ℕ
kept_room g = 2 * q_of g

-- how many blocks a seat may own: those of the longest write, and those of a collection
abbrev pub owned_room : Geometry → ℕ
owned_room g = longest_of g.block_bytes + snapshot_blocks_of g.data_blocks g.block_bytes + 4

-- the blocks of the image, and the words of a bitmap of them all
abbrev pub image_blocks : Geometry → ℕ
image_blocks g = total_of g.data_blocks g.log_blocks g.block_bytes

abbrev pub bitmap_words : Geometry → ℕ
bitmap_words g = ceiling (image_blocks g) 64

-- no head was loaded and no pin taken
abbrev pub no_hold : Hold
no_hold = record { head = 0; pin = 0; generation = 0; valid = false }

-- nothing was walked
abbrev pub unwalked : ℕ → Walk
unwalked position = record {
  position = position;
  map = unmapped;
  size = 0;
  tail_block = 0;
  tail_slot = 0;
  tail_base = 0;
  snapshot_base = 0;
  first_log = 0;
  at_tail = false;
  ready = false;
  reading = false;
  reading_generation = 0;
  reading_block = 0;
  reading_slot = 0;
  reading_place = 0;
  kept = [];
}

-- no call
abbrev pub no_calling : Calling
no_calling = record { job = Idle; bytes = []; bases = []; base_words = []; lost = 0; won = false; sync_to = None; noting = false }

-- no blocks
abbrev pub no_blocks : ℕ → Blocks
no_blocks words = record { owned = []; contents = []; found = replicate words 0; named = replicate words 0 }

-- nothing to be given back
abbrev pub no_giving : Giving
no_giving = record { replaced = []; replaced_generation = 0; limbo = []; limbo_generation = 0; pins_seen = []; limbo_held = None; head_fenced = true }

-- a seat that has made no step
abbrev pub new_seat : Geometry → ℕ → ℕ → ℕ → Seat
new_seat g number seats position = record {
  number = number;
  seats = seats;
  geometry = g;
  hold = no_hold;
  walk = unwalked position;
  calling = no_calling;
  blocks = no_blocks (bitmap_words g);
  giving = no_giving;
}
