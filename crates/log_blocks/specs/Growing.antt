-- What linking a block at the tail means.
use Rattle.pmem_words.specs.Noted.{noted_more}
use Rattle.log_blocks.specs.Walking.{IsOfImage}
use Rattle.std.specs.Prelude.{◌∷◌, ◌≢◌, [], ℕ, ◌≡◌, ◌==◌, Bool, true, false, []}
use Rattle.log_entry.specs.declared.layouts.TheConstants.{EMPTY}
use Rattle.asks.specs.declared.ask.Ask.TheVariants.{Exchange}
use Rattle.asks.specs.declared.ask.Place.TheVariants.{Image}
use Rattle.pmem_words.specs.Seats.{Seat}
use Rattle.pmem_words.specs.Scripts.{After, Script, Lowers}
use Rattle.pmem_words.specs.declared.machine.Turn.TheVariants.{Go, Done}
use Rattle.log_core.specs.Entries.{place_in}
use Rattle.log_core.specs.Works.{seat_shape, words_of}
use Rattle.log_core.specs.Steps.{blocks_but}
use Rattle.log_blocks.specs.declared.grow.Grow.{Grow}
use Rattle.log_blocks.specs.declared.grow.Grown.{Grown}
use Rattle.log_blocks.specs.declared.grow.Grown.TheVariants.{Linked, Overtaken}
use Rattle.log_blocks.specs.Taking.{followed}

abbrev pub grow_of : ℕ → Grow
grow_of block = record { block = block }

-- the seat's block follows the tail's: it has left the list, and the tail is its first slot
abbrev pub linked : ℕ → Seat → Seat
linked block s = record s {
  walk = record s.walk { tail_block = block; tail_slot = 3; tail_base = s.walk.position; at_tail = true; kept = [] };
  blocks = record (blocks_but (words_of s) (λ (other : ℕ). other == block) s.blocks) { named = noted_more s.calling.noting s.blocks.named (block ∷ []) };
}

abbrev pub grow_after : Bool → Grow → Seat → ℕ → After Grow Grown
grow_after true m s f = record { machine = m; seat = linked m.block s; turn = Done Linked }
grow_after false m s f = record { machine = m; seat = followed s f; turn = Done (Overtaken f) }

-- its block, and one whose number it finds, are of the image
pub record GrowAdmits (block : ℕ) (s : Seat) (f : ℕ) : Type 0 where
  pub own : IsOfImage s block
  pub found : f ≢ EMPTY → IsOfImage s f

abbrev pub grow_script : Script Grow Grown
grow_script = record {
  asks = λ m s. Exchange (Image (place_in (seat_shape s) s.walk.tail_block 0)) EMPTY m.block;
  admits = λ m s f. GrowAdmits m.block s f;
  after = λ m s f. grow_after (f == EMPTY) m s f;
  measure = λ m s. 0;
}

-- it ends at its first answer
grow_ends : (m : Grow) (s : Seat) (f : ℕ) (won : Bool) → (grow_after won m s f).turn ≡ Go → ⊥
grow_ends m s f true go = cc
grow_ends m s f false go = cc

pub grow_lowers : Lowers grow_script
grow_lowers m s f admits go = absurd (grow_ends m s f (f == EMPTY) go)
