-- Filling owned blocks within a core: when a seat may, and what it has in the end, whatever other seats do meanwhile.
use Rattle.std.specs.Prelude.{ℕ, ◌+◌, ◌^◌, ◌<◌, ◌≤◌, ◌≡◌, ◌≢◌, true, List, [], length, slice_index}
use Rattle.log_entry.specs.declared.calls.Call.{Call}
use Rattle.pmem_words.specs.Owned.{owned_at}
use Rattle.pmem_words.specs.declared.keeps.Task.TheVariants.{Sync}
use Rattle.pmem_words.specs.Seats.{Seat, q_of}
use Rattle.persistence.specs.Memory.{cell}
use Rattle.log_core.specs.Views.{View, Ghost, view_of}
use Rattle.log_core.specs.Origin.{Origin}
use Rattle.log_core.specs.Cores.{Core}
use Rattle.log_core.specs.Starts.{IsStart}
use Rattle.log_core.specs.Runs.{IsReached}
use Rattle.log_core.specs.Steps.{is_head_marked}
use Rattle.log_core.specs.Certain.{IsCertain}
use Rattle.log_core.specs.Within.{no_record, IsLeft}
use Rattle.log_core.specs.Promising.{Promises}
use Rattle.block_bitmap.specs.OwnedWords.{image_word, content_at}
use Rattle.block_bitmap.specs.Filling.{fill_of, fill_script}
use Rattle.block_bitmap.specs.Filled.{filled_seat}

-- a seat whose fence is for its owned blocks alone: it runs no sync, and has no mark of a head that is still to be fenced. Its blocks
-- have words of 64 bits
pub record IsCalm (s : Seat) (g : Ghost) : Type 0 where
  pub no_sync : s.calling.job ≢ Sync
  pub no_head : is_head_marked s.giving.replaced_generation g.marks ≡ true → s.giving.head_fenced ≡ true
  pub small : (k : ℕ) → slice_index s.blocks.contents k < 2 ^ 64

-- there are that many owned blocks from a place on, at least one, and the seat may fence
pub record MayFill (first count : ℕ) (s : Seat) (g : Ghost) : Type 0 where
  pub some : 0 < count
  pub owned : first + count ≤ length s.blocks.owned
  pub calm : IsCalm s g

-- what it ends with: the blocks are filled and fenced, and so is each that was filled before; nothing else of the seat has changed; and
-- nothing is marked
pub record IsFilled (first count : ℕ) (start : Seat) (out : Unit {0}) (s : Seat) (g : Ghost) : Type 0 where
  pub seat : s ≡ filled_seat start first count
  pub each : (place : ℕ) → first ≤ place → place < first + count → (place < length s.blocks.owned) × ((owned_at s.blocks.owned place).filled ≡ true) × ((owned_at s.blocks.owned place).fenced ≡ true)
  pub no_marks : g.marks ≡ []

abbrev pub FillsWithin : Type 0
FillsWithin = (first count : ℕ) → Promises fill_script (λ o seat s g. MayFill first count s g) (λ o seat s0 g0 out s g. IsFilled first count s0 out s g) (fill_of first count)

-- and from then on, while the seat has this view, no other value than its content is possible in any word of those blocks
abbrev pub FilledAreCertain : Type 0
FilledAreCertain = (o : Origin) → IsStart o → (seat first count : ℕ) (rest : List Call) (start s : Seat) (v : View) → IsLeft rest no_record (IsFilled first count start) tt s v →
    (c : Core) → IsReached o c → view_of c.views seat ≡ v → (place word : ℕ) → first ≤ place → place < first + count → word < q_of start.geometry →
    IsCertain (cell c.memory (image_word start place word)) (content_at start place word)
