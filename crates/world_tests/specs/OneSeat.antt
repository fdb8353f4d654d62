-- The one seat of an image, before it takes a pin and walks, and before it writes.
use Rattle.std.specs.Prelude.{ℕ, ◌+◌, ◌*◌, ◌/◌, ◌<◌, ◌≤◌, ◌≡◌, List, []}
use Rattle.log_entry.specs.Shape.{longest_of, limit_of}
use Rattle.log_entry.specs.Legal.{touched_blocks}
use Rattle.pmem_words.specs.declared.keeps.Task.TheVariants.{Pwrite}
use Rattle.pmem_words.specs.Seats.{Seat}
use Rattle.log_core.specs.Views.{Ghost}
use Rattle.log_core.specs.Origin.{Origin}
use Rattle.log_core.specs.Works.{Begins, state_after_work, IsFree}
use Rattle.log_blocks.specs.WalkWithin.{MayWalk}
use Rattle.write_any.specs.WriteWithin.{MayWrite}

-- the seat may take a pin, and walk then: it has marked nothing and keeps no word, and its call has read and put in nothing
pub record MayPinAndWalk (o : Origin) (seat : ℕ) (s : Seat) (g : Ghost) : Type 0 where
  pub number : s.number ≡ seat
  pub no_marks : g.marks ≡ []
  pub free : IsFree g s.calling
  pub no_bases : s.calling.bases ≡ []

-- a seat that begins to write these bytes at this byte of the file
abbrev pub writing : ℕ → List ℕ → Seat → Seat
writing offset bytes s = state_after_work s (Begins (Pwrite offset) bytes)

-- so many bytes, from this byte of the file on, fill whole blocks, and no more than a write has
pub record FillsBlocks (block_bytes offset count : ℕ) : Type 0 where
  pub some : 0 < count / block_bytes
  pub few : count / block_bytes ≤ longest_of block_bytes
  pub starts : offset ≡ offset / block_bytes * block_bytes
  pub inside : offset / block_bytes + count / block_bytes ≤ 65536
  pub whole : count ≡ count / block_bytes * block_bytes
  pub touched : touched_blocks block_bytes offset count ≤ longest_of block_bytes
  pub low : offset + count ≤ limit_of block_bytes

-- the seat may write whole blocks, and walk before
pub record MayWalkAndWrite (offset : ℕ) (o : Origin) (seat : ℕ) (s : Seat) (g : Ghost) : Type 0 where
  pub write : MayWrite offset o seat s g
  pub walk : MayWalk o seat s g
