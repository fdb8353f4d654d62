-- What the rounds over blocks keep.
use Rattle.std.specs.Prelude.{◌*◌, ◌≤◌, ◌≡◌, length}
use Rattle.log_entry.specs.Shape.{total_of}
use Rattle.pmem_words.specs.Seats.{Seat, q_of}
use Rattle.asks.specs.SharedWords.{SharedWords}
use Rattle.block_bitmap.specs.OwnedWords.{owned_block_at}

-- the seat owns block 1 alone, of 512 words, and the memory has the header and that block
pub record OwnsOne (s : Seat) (p : SharedWords) : Type 0 where
  pub one : length s.blocks.owned ≡ 1
  pub block : owned_block_at s 0 ≡ 1
  pub size : q_of s.geometry ≡ 512
  pub words : length p.words ≡ 1024

-- the memory has a bit for each block
pub record HasBits (s : Seat) (p : SharedWords) : Type 0 where
  pub bits : total_of s.geometry.data_blocks s.geometry.log_blocks s.geometry.block_bytes ≤ 64 * length p.taken
