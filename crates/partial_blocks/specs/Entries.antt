-- The entry that names the blocks of a write.
use Rattle.std.specs.Prelude.{ℕ, ◌+◌, ◌-◌, ◌*◌, ◌^◌, ◌<◌, ◌≤◌, ◌==◌, Bool, true, false, length}
use Rattle.log_entry.specs.Words.{entry_word}
use Rattle.log_entry.specs.declared.entries.Entry.{Entry}
use Rattle.log_entry.specs.declared.entries.Entry.TheVariants.{Direct, Indirect}
use Rattle.pmem_words.specs.Seats.{Seat}
use Rattle.log_core.specs.Works.{owned_block}
use Rattle.partial_blocks.specs.Touching.{IsInFile, first_touched, last_touched, touched_count}

-- the bytes of the last touched virtual block that lie behind the call's
abbrev pub leftover_of : ℕ → Seat → ℕ
leftover_of offset s = (last_touched offset s + 1) * s.geometry.block_bytes - (offset + length s.calling.bytes)

-- the seat has a block for each touched virtual block
pub record HasBlocks (offset : ℕ) (s : Seat) : Type 0 where
  pub in_file : IsInFile offset s
  pub least : touched_count offset s ≤ length s.blocks.owned
  pub most : length s.blocks.owned < 2 ^ 16

-- the entry for them: direct where there is no other, else of the block behind them
abbrev pub entry_by : Bool → ℕ → Seat → Entry
entry_by true offset s = Direct (first_touched offset s) (owned_block s 0) (touched_count offset s) (leftover_of offset s)
entry_by false offset s = Indirect (owned_block s (touched_count offset s))

abbrev pub entry_at : ℕ → Seat → Entry
entry_at offset s = entry_by (touched_count offset s == length s.blocks.owned) offset s

abbrev pub entry_for : ℕ → Seat → ℕ
entry_for offset s = entry_word (entry_at offset s)
