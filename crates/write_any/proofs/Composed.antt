-- Composing the blocks of a write changes them alone.
use Rattle.std.proofs.Common.{◌≡◌, ℕ, zero, suc, ◌-◌, nat_lt, Bool, true, false, [], length, refl, ◌∙◌}
use Rattle.std.proofs.lemmas.List.{length-set}
use Rattle.log_entry.specs.Words.{run_word}
use Rattle.pmem_words.specs.Seats.{Seat}
use Rattle.write_any.specs.Composing.{block_count, virt_at, blocks_set, word_set, run_at, runs_at, runs_set, composed_by, composed}

-- a seat but for its owned blocks
abbrev pub bare : Seat → Seat
bare s = record s { blocks = record s.blocks { owned = []; contents = [] } }

pub set_bare : (count : ℕ) (s : Seat) → bare (blocks_set count s) ≡ bare s
set_bare zero s = refl
set_bare (suc count) s = set_bare count s

pub runs_bare : (count place : ℕ) (s : Seat) → bare (runs_set count place s) ≡ bare s
runs_bare count zero s = refl
runs_bare count (suc place) s = runs_bare count place s

by_bare : (more : Bool) (virt count : ℕ) (s : Seat) → bare (composed_by more virt count s) ≡ bare s
by_bare true virt count s = runs_bare count (count - 1) s
by_bare false virt count s = refl

pub composed_bare : (offset : ℕ) (s : Seat) → bare (composed offset s) ≡ bare s
composed_bare offset s = by_bare (nat_lt (block_count s) (length s.blocks.owned)) (virt_at offset s) (block_count s) (blocks_set (block_count s) s) ∙ set_bare (block_count s) s

-- and leaves as many
pub set_long : (count : ℕ) (s : Seat) → length (blocks_set count s).blocks.owned ≡ length s.blocks.owned
set_long zero s = refl
set_long (suc count) s = length-set _ count _ ∙ (length-set (blocks_set count s).blocks.owned count _ ∙ set_long count s)

pub word_long : (place word value : ℕ) (s : Seat) → length (word_set place word value s).blocks.owned ≡ length s.blocks.owned
word_long place word value s = length-set _ place _ ∙ length-set s.blocks.owned place _

pub runs_long : (count place : ℕ) (s : Seat) → length (runs_set count place s).blocks.owned ≡ length s.blocks.owned
runs_long count zero s = word_long count 1 (run_word (run_at 0 s)) s
runs_long count (suc place) s = word_long count (runs_at (suc place) s) (run_word (run_at (suc place) s)) (runs_set count place s) ∙ runs_long count place s

by_long : (more : Bool) (virt count : ℕ) (s : Seat) → length (composed_by more virt count s).blocks.owned ≡ length s.blocks.owned
by_long true virt count s = length-set _ count _ ∙ (length-set _ count _ ∙ runs_long count (count - 1) s)
by_long false virt count s = refl

pub composed_long : (offset : ℕ) (s : Seat) → length (composed offset s).blocks.owned ≡ length s.blocks.owned
composed_long offset s = by_long (nat_lt (block_count s) (length s.blocks.owned)) (virt_at offset s) (block_count s) (blocks_set (block_count s) s) ∙ set_long (block_count s) s
