-- The shape of an image, from the blocks of its data and log areas and the bytes of a block.
use Rattle.std.specs.Prelude.{ℕ, ◌+◌, ◌-◌, ◌*◌, ◌/◌, ◌==◌, ◌||◌, min, Bool}

-- whether a block may have this many bytes
abbrev pub is_block_bytes : ℕ → Bool
is_block_bytes bytes = bytes == 64 || bytes == 512 || bytes == 4096

-- how many 64-bit words a block of so many bytes has
abbrev pub words_of_block : ℕ → ℕ
words_of_block bytes = bytes / 8

-- a quotient, rounded up
abbrev pub ceiling : ℕ → ℕ → ℕ
ceiling number divisor = (number + (divisor - 1)) / divisor

-- how many snapshot blocks a map of all data blocks takes at most: three words of each are its own
abbrev pub snapshot_blocks_of : ℕ → ℕ → ℕ
snapshot_blocks_of data_blocks bytes = ceiling data_blocks (words_of_block bytes - 3)

-- the spare blocks: two collections' blocks, each with a log block, and 16 more
abbrev pub spare_blocks_of : ℕ → ℕ → ℕ
spare_blocks_of data_blocks bytes = 2 * (snapshot_blocks_of data_blocks bytes + 1) + 16

-- the blocks of the image: the header, and the data, log and spare areas
abbrev pub total_of : ℕ → ℕ → ℕ → ℕ
total_of data_blocks log_blocks bytes = 1 + data_blocks + log_blocks + spare_blocks_of data_blocks bytes

-- the most blocks that one write may touch
abbrev pub longest_of : ℕ → ℕ
longest_of bytes = min (words_of_block bytes - 1) 256

-- the most bytes that the file may have
abbrev pub limit_of : ℕ → ℕ
limit_of bytes = 65536 * bytes
