-- Words of owned blocks, by the places of the blocks in their list.
use Rattle.std.specs.Prelude.{ℕ, ◌+◌, ◌*◌, true, false, slice_index}
use Rattle.pmem_words.specs.Owned.{owned_at, with_filled, with_fenced, fenced_all}
use Rattle.pmem_words.specs.Seats.{Seat, q_of}

-- the block at a place of the list
abbrev pub owned_block_at : Seat → ℕ → ℕ
owned_block_at s place = (owned_at s.blocks.owned place).block

-- the place in the image of a word of that block
abbrev pub image_word : Seat → ℕ → ℕ → ℕ
image_word s place word = owned_block_at s place * q_of s.geometry + word

-- the word that belongs there
abbrev pub content_at : Seat → ℕ → ℕ → ℕ
content_at s place word = slice_index s.blocks.contents (place * q_of s.geometry + word)

-- the seat with this block neither filled nor fenced
abbrev pub unfilled : Seat → ℕ → Seat
unfilled s place = record s { blocks = record s.blocks { owned = with_fenced (with_filled s.blocks.owned place false) place false } }

-- with this block filled
abbrev pub with_filled_block : Seat → ℕ → Seat
with_filled_block s place = record s { blocks = record s.blocks { owned = with_filled s.blocks.owned place true } }

-- with each filled block fenced
abbrev pub all_fenced : Seat → Seat
all_fenced s = record s { blocks = record s.blocks { owned = fenced_all s.blocks.owned } }
