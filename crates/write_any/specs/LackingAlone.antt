-- When a write of whole blocks is refused where no other seat makes a step: by the words that it begins at alone.
use Rattle.std.specs.Prelude.{ℕ, ◌<◌, ◌≡◌, ◌≢◌, ◌⊎◌, ◌↔◌, true, false, Bool, List, length, Some}
use Rattle.log_entry.specs.Legal.{last_position}
use Rattle.log_entry.specs.declared.shapes.Area.TheVariants.{Data, Log}
use Rattle.log_entry.specs.declared.calls.WriteRefusal.TheVariants.{NoSpace, PositionLimit}
use Rattle.log_image.specs.Header.{shape_of}
use Rattle.log_image.specs.Stands.{StandsBy}
use Rattle.log_image.specs.Tails.{Tail, AtSlot, AtLink, tail_of}
use Rattle.asks.specs.SharedWords.{SharedWords}
use Rattle.pmem_words.specs.Courses.{over}
use Rattle.pmem_words.specs.Leads.{Leads}
use Rattle.pmem_words.specs.PlainWords.{plain}
use Rattle.pmem_words.specs.declared.written.Written.{Written}
use Rattle.pmem_words.specs.Seats.{Seat}
use Rattle.log_core.specs.Needs.{is_one_run}
use Rattle.log_core.specs.Alone.{IsAlone}
use Rattle.block_bitmap.specs.TakeAlone.{free_blocks}
use Rattle.write_any.specs.declared.stage.Target.TheVariants.{At}
use Rattle.write_any.specs.Composing.{block_count}
use Rattle.write_any.specs.Writing.{write_of, write_script}
use Rattle.write_any.specs.WriteAlone.{BeginsWrite}

-- the clear blocks of the data area are fewer than the write touches, or as many and not one run: then a block for their runs is wanted, too
abbrev pub LacksData : Seat → List ℕ → Type 0
LacksData s taken =
    (length (free_blocks s.geometry Data taken) < block_count s)
    ⊎ ((length (free_blocks s.geometry Data taken) ≡ block_count s) × (is_one_run (free_blocks s.geometry Data taken) ≡ false))

-- a chain's tail is a block's end, so that a log block is to be linked, and no block of the log area is clear
abbrev pub is_at_link : Tail → Bool
is_at_link (AtSlot block slot) = false
is_at_link (AtLink block) = true

pub record LacksLog (s : Seat) (words taken chain : List ℕ) : Type 0 where
  pub at_link : is_at_link (tail_of words (shape_of words) chain) ≡ true
  pub none_clear : length (free_blocks s.geometry Log taken) ≡ 0

-- a write is refused exactly for these causes, the first that holds
pub record IsRefusedExactly (s : Seat) (p : SharedWords) (out : Written) (chain : List ℕ) (position : ℕ) : Type 0 where
  pub limit : (out.refusal ≡ Some PositionLimit) ↔ (position ≡ last_position)
  pub data_space : (out.refusal ≡ Some (NoSpace Data)) ↔ ((position ≢ last_position) × LacksData s p.taken)
  pub log_space : (out.refusal ≡ Some (NoSpace Log)) ↔ ((position ≢ last_position) × (LacksData s p.taken → ⊥) × LacksLog s p.words p.taken chain)

-- whatever file at whatever position the words stand for, by their chain
abbrev pub LacksAlone : Type 0
LacksAlone = (offset : ℕ) (s : Seat) (p : SharedWords) → IsAlone (BeginsWrite offset) s p →
    Leads write_script (over write_script plain) (λ out t q. (chain file : List ℕ) (position : ℕ) → StandsBy p.words chain file position → IsRefusedExactly s p out chain position) (write_of (At offset)) s p
