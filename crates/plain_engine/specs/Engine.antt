-- What the parts of a write make of an engine.
use Rattle.std.specs.Prelude.{ℕ, ◌+◌, ◌≡◌, ◌<◌, true, false, List, length, slice_index, Option, Some, None}
use Rattle.block_table.specs.declared.map_run.MapRun.{MapRun}
use Rattle.log_entry.specs.Words.{entry_word}
use Rattle.log_entry.specs.ByteFile.{write}
use Rattle.log_entry.specs.Legal.{touched_blocks}
use Rattle.log_entry.specs.declared.shapes.Area.{Area}
use Rattle.log_entry.specs.declared.entries.Entry.TheVariants.{Direct}
use Rattle.log_image.specs.Image.{Shape, words_in, is_in_data, block_words, shape_by}
use Rattle.log_image.specs.Tails.{tail_of}
use Rattle.log_image.specs.Taken.{bit_of, is_taken}
use Rattle.plain_engine.specs.Running.{Runs}
use Rattle.plain_engine.specs.Space.{lacks_log, lacking}
use Rattle.plain_engine.specs.Names.{MakesSlot, NamesAfter}
use Rattle.plain_engine.specs.declared.engine.PlainEngine.{PlainEngine}

-- the shape of the engine's image
abbrev pub shape_in : PlainEngine → Shape
shape_in engine = shape_by engine.geometry

-- the engine's words stand for the file by the chain, and the rest of it fits them
abbrev pub Running : PlainEngine → List ℕ → List ℕ → Type 0
Running engine chain file =
    Runs (shape_in engine) engine.words.items engine.taken.items engine.table engine.position engine.tail_block engine.tail_slot engine.first_clear chain file

-- the words of block 0 are the same
abbrev pub KeepsFirstBlock : Shape → List ℕ → List ℕ → Type 0
KeepsFirstBlock shape old new = (place : ℕ) → place < words_in shape → slice_index new place ≡ slice_index old place

-- all but the words is the same, and so is block 0
pub record SameBesideWords (old new : PlainEngine) : Type 0 where
  pub geometry : new.geometry ≡ old.geometry
  pub taken : new.taken ≡ old.taken
  pub table : new.table ≡ old.table
  pub position : new.position ≡ old.position
  pub tail_block : new.tail_block ≡ old.tail_block
  pub tail_slot : new.tail_slot ≡ old.tail_slot
  pub first_clear : new.first_clear ≡ old.first_clear
  pub first_block : KeepsFirstBlock (shape_in old) old.words.items new.words.items

-- the chain names the same blocks, and has the same tail
pub record SameNames (old new : PlainEngine) (chain : List ℕ) : Type 0 where
  pub taken : (block : ℕ) → is_taken new.words.items (shape_in old) chain block ≡ is_taken old.words.items (shape_in old) chain block
  pub tail : tail_of new.words.items (shape_in old) chain ≡ tail_of old.words.items (shape_in old) chain

-- the tail is a slot: it was one, or the least clear block of the log area is linked
pub record HasSlot (old new : PlainEngine) (chain file : List ℕ) : Type 0 where
  pub longer : List ℕ
  pub runs : Running new longer file
  pub names : MakesSlot (shape_in old) old.words.items chain new.words.items longer
  pub enough : lacks_log old.words.items (shape_in old) chain ≡ false

-- there is no slot for an entry, and nothing has changed
pub record LacksSlot (old new : PlainEngine) (chain file : List ℕ) : Type 0 where
  pub runs : Running new chain file
  pub same : new.words.items ≡ old.words.items
  pub lacking : lacks_log old.words.items (shape_in old) chain ≡ true

-- what changes where a slot is made
pub record SameBesideTail (old new : PlainEngine) : Type 0 where
  pub geometry : new.geometry ≡ old.geometry
  pub table : new.table ≡ old.table
  pub position : new.position ≡ old.position
  pub first_clear : new.first_clear ≡ old.first_clear
  pub first_block : KeepsFirstBlock (shape_in old) old.words.items new.words.items
  pub content : (block : ℕ) → is_in_data (shape_in old) block ≡ true → block_words new.words.items (shape_in old) block ≡ block_words old.words.items (shape_in old) block
  pub bits : (block : ℕ) → is_in_data (shape_in old) block ≡ true → bit_of new.taken.items block ≡ bit_of old.taken.items block

-- the word of the entry of a run
abbrev pub run_word : MapRun → ℕ → ℕ
run_word run leftover = entry_word (Direct run.virt run.block run.count leftover)

-- the file after a write that found space, or did not
abbrev pub file_written : List ℕ → ℕ → List ℕ → Option Area → List ℕ
file_written file offset bytes None = write file offset bytes
file_written file offset bytes (Some area) = file

-- the position after a write that found space, or did not
abbrev pub position_written : ℕ → Option Area → ℕ
position_written position None = position + 1
position_written position (Some area) = position

-- the blocks that a write takes which found space, or did not
abbrev pub blocks_written : ℕ → Option Area → Option ℕ
blocks_written count None = Some count
blocks_written count (Some area) = None

-- the engine runs on the file that the write makes, and the least clear blocks are taken, or found no space for it; block 0
-- is the same
pub record Writes (old new : PlainEngine) (chain file : List ℕ) (offset : ℕ) (bytes : List ℕ) (result : Option Area) : Type 0 where
  pub space : result ≡ lacking old.words.items (shape_in old) chain (touched_blocks old.geometry.block_bytes offset (length bytes))
  pub geometry : new.geometry ≡ old.geometry
  pub position : new.position ≡ position_written old.position result
  pub first_block : KeepsFirstBlock (shape_in old) old.words.items new.words.items
  pub longer : List ℕ
  pub runs : Running new longer (file_written file offset bytes result)
  pub names : NamesAfter (shape_in old) old.words.items chain (blocks_written (touched_blocks old.geometry.block_bytes offset (length bytes)) result) new.words.items longer
