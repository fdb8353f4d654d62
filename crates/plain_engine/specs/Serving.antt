-- One call on an engine: its reply, and what the engine runs on after it.
use Rattle.std.specs.Prelude.{ℕ, ◌≡◌, ◌+◌, List, ◌∷◌, length, Option, Some, None, if◌then◌else◌}
use Rattle.log_entry.specs.Legal.{Answers, is_write, file_after, position_after, write_refusal, touched_blocks, appended_blocks}
use Rattle.log_entry.specs.declared.shapes.Area.{Area}
use Rattle.log_entry.specs.declared.calls.Op.{Op}
use Rattle.log_entry.specs.declared.calls.Op.TheVariants.{Pwrite, Append}
use Rattle.log_entry.specs.declared.calls.WriteRefusal.{WriteRefusal}
use Rattle.log_entry.specs.declared.calls.WriteRefusal.TheVariants.{NoSpace}
use Rattle.log_entry.specs.declared.calls.Reply.{Reply}
use Rattle.log_entry.specs.declared.calls.Reply.TheVariants.{NotWritten}
use Rattle.log_image.specs.Image.{Shape}
use Rattle.log_image.specs.Header.{generation_of}
use Rattle.plain_engine.specs.Space.{lacking}
use Rattle.plain_engine.specs.Names.{NamesAfter}
use Rattle.plain_engine.specs.Engine.{shape_in, Running, KeepsFirstBlock}
use Rattle.plain_engine.specs.declared.engine.PlainEngine.{PlainEngine}

-- so many blocks, unless there is a refusal
abbrev pub unless_refused : Option WriteRefusal → ℕ → Option ℕ
unless_refused None blocks = Some blocks
unless_refused (Some why) blocks = None

-- the blocks that a call needs: those that a write of at least one byte touches, if nothing refuses it whatever is free
abbrev pub wanted_blocks : ℕ → ℕ → List ℕ → Op → Option ℕ
wanted_blocks block_bytes position file (Pwrite offset (byte ∷ bytes)) =
    unless_refused (write_refusal block_bytes position (touched_blocks block_bytes offset (length (byte ∷ bytes))) (offset + length (byte ∷ bytes)))
    (touched_blocks block_bytes offset (length (byte ∷ bytes)))
wanted_blocks block_bytes position file (Append (byte ∷ bytes)) =
    unless_refused (write_refusal block_bytes position (appended_blocks block_bytes (length (byte ∷ bytes))) (length file + length (byte ∷ bytes)))
    (touched_blocks block_bytes (length file) (length (byte ∷ bytes)))
wanted_blocks block_bytes position file _ = None

-- the area in which so many blocks find no space; none where no block is wanted
abbrev pub lacking_for : List ℕ → Shape → List ℕ → Option ℕ → Option Area
lacking_for words shape chain None = None
lacking_for words shape chain (Some count) = lacking words shape chain count

-- the area that a reply says there is no space in, if it says so
abbrev pub refused_area : Reply → Option Area
refused_area (NotWritten (NoSpace area)) = Some area
refused_area _ = None

-- how many blocks the bytes of a write touch; of another call none
abbrev pub touched_by : ℕ → List ℕ → Op → ℕ
touched_by block_bytes file (Pwrite offset bytes) = touched_blocks block_bytes offset (length bytes)
touched_by block_bytes file (Append bytes) = touched_blocks block_bytes (length file) (length bytes)
touched_by block_bytes file _ = 0

-- the blocks that a call writes: those that its bytes touch, if it is a write of at least one byte that was accepted
abbrev pub written_blocks : ℕ → List ℕ → Op → Reply → Option ℕ
written_blocks block_bytes file op reply = if is_write op reply then Some (touched_by block_bytes file op) else None

-- the reply is the one that comes there, the engine runs on the file as the history goes on, the reply says that there is no
-- space exactly where there is none, the least clear blocks are taken where it was written, and block 0 is the same
pub record Serves (old new : PlainEngine) (chain file : List ℕ) (op : Op) (reply : Reply) : Type 0 where
  pub answers : Answers old.geometry.block_bytes old.position file op reply
  pub space : refused_area reply ≡ lacking_for old.words.items (shape_in old) chain (wanted_blocks old.geometry.block_bytes old.position file op)
  pub geometry : new.geometry ≡ old.geometry
  pub position : new.position ≡ position_after old.position op reply
  pub generation : generation_of new.words.items ≡ generation_of old.words.items
  pub first_block : KeepsFirstBlock (shape_in old) old.words.items new.words.items
  pub longer : List ℕ
  pub runs : Running new longer (file_after file op reply)
  pub names : NamesAfter (shape_in old) old.words.items chain (written_blocks old.geometry.block_bytes file op reply) new.words.items longer
