-- How a post ends.
use Rattle.std.specs.Prelude.{ℕ, ◌≡◌, ◌≢◌, ◌+◌, ◌<◌, ◌≤◌, Bool, true, false, List, length, slice_index, slice_set}
use Rattle.pmem_words.specs.Seats.{Seat}
use Rattle.asks.specs.SharedWords.{SharedWords}
use Rattle.sample_machines.specs.Laid.{IsLaid}

-- the seat with its tail at this slot
abbrev pub at_slot : Seat → ℕ → Seat
at_slot s slot = record s { walk = record s.walk { tail_slot = slot } }

-- the memory with these image words
abbrev pub with_words : SharedWords → List ℕ → SharedWords
with_words w words = record w { words = words }

-- what a post needs: slots below the limit, and behind them words for its bytes
pub record CanPost (first value limit : ℕ) (s : Seat) (w : SharedWords) : Type 0 where
  pub slot : s.walk.tail_slot < limit
  pub apart : limit ≤ first
  pub some : 0 < length s.calling.bytes
  pub few : length s.calling.bytes < 65536
  pub room : first + length s.calling.bytes ≤ length w.words
  pub limit_small : limit < 65536

-- the value went into the first slot, from the seat's tail on and below the limit, that was 0, and the bytes are laid; or each
-- slot was filled, and the bytes are laid
pub record IsPosted (first value limit : ℕ) (s : Seat) (w : SharedWords) (put : Bool) (t : Seat) (v : SharedWords) : Type 0 where
  pub slot : ℕ
  pub laid : List ℕ
  pub later : s.walk.tail_slot ≤ slot
  pub filled : (k : ℕ) → s.walk.tail_slot ≤ k → k < slot → slice_index w.words k ≢ 0
  pub bytes : IsLaid first (length s.calling.bytes) s.calling.bytes w.words laid
  pub seat : t ≡ at_slot s slot
  pub won : put ≡ true → (slice_index w.words slot ≡ 0) × (v ≡ with_words w (slice_set laid slot value))
  pub lost : put ≡ false → (limit ≤ slot) × (v ≡ with_words w laid)
