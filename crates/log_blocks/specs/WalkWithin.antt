-- A walk within a core: when a seat may walk, and what it has at the tail, whatever other seats do meanwhile.
use Rattle.std.specs.Prelude.{ℕ, ◌≤◌, ◌<◌, ◌≡◌, ◌≢◌, true, false, [], ◌∷◌, length, ◌==◌}
use Rattle.log_entry.specs.Fields.{field}
use Rattle.log_entry.specs.declared.layouts.TheConstants.{HEAD_GENERATION, ENTRY_KIND, INDIRECT, INDIRECT_BLOCK}
use Rattle.pmem_words.specs.Seats.{Seat}
use Rattle.log_core.specs.Views.{Ghost}
use Rattle.log_core.specs.Origin.{Origin}
use Rattle.log_core.specs.Works.{words_of, IsFree}
use Rattle.log_core.specs.Promising.{Promises}
use Rattle.log_blocks.specs.declared.walk.Tail.{Tail}
use Rattle.log_blocks.specs.declared.walk.Walk.TheVariants.{Begin, Indirect}
use Rattle.log_blocks.specs.Walking.{walk_script, tail_of}

-- the call may still take in what it finds, and has read at most two partly touched blocks; none where the table is to be read anew
pub record MayTakeIn (s : Seat) (g : Ghost) : Type 0 where
  pub free : IsFree g s.calling
  pub few : length s.calling.bases ≤ 2
  pub no_bases : s.walk.ready ≡ false → s.calling.bases ≡ []

-- a seat may walk: its pin is valid, and of the head found last where it is not ready. No word is kept
pub record MayWalk (o : Origin) (seat : ℕ) (s : Seat) (g : Ghost) : Type 0 where
  pub valid : s.hold.valid ≡ true
  pub pinned : s.walk.ready ≡ false → field HEAD_GENERATION s.hold.head ≡ s.hold.generation
  pub takes_in : MayTakeIn s g
  pub none_kept : s.walk.kept ≡ []

-- and a seat that is ready and has kept an indirect entry found at its tail may go on from there
pub record MayWalkOn (word : ℕ) (o : Origin) (seat : ℕ) (s : Seat) (g : Ghost) : Type 0 where
  pub valid : s.hold.valid ≡ true
  pub ready : s.walk.ready ≡ true
  pub takes_in : MayTakeIn s g
  pub inside : s.walk.tail_slot ≢ words_of s
  pub kind : field ENTRY_KIND word ≡ INDIRECT
  pub kept : s.walk.kept ≡ record { block = s.walk.tail_block; slot = s.walk.tail_slot; word = word } ∷ []

-- the seat is ready and at the tail, which is the outcome. It keeps no word, and is else as before, but for its walk, for those partly
-- touched blocks that later entries touch, and for what a collection notes. Where it was ready its position has not fallen
pub record HasWalkedOn (s0 : Seat) (g0 : Ghost) (out : Tail) (s : Seat) (g : Ghost) : Type 0 where
  pub out_is : out ≡ tail_of (s.walk.tail_slot == words_of s) s
  pub at_tail : s.walk.at_tail ≡ true
  pub ready : s.walk.ready ≡ true
  pub none_kept : s.walk.kept ≡ []
  pub few : length s.calling.bases ≤ length s0.calling.bases
  pub rises : s0.walk.ready ≡ true → s0.walk.position ≤ s.walk.position
  pub left : s ≡ record s0 {
    walk = s.walk;
    calling = record s0.calling { bases = s.calling.bases; base_words = s.calling.base_words; noting = s.calling.noting };
    blocks = record s0.blocks { named = s.blocks.named };
  }
  pub ghost : g ≡ g0

abbrev pub WalksWithin : Type 0
WalksWithin = Promises walk_script MayWalk (λ o seat s0 g0 out s g. HasWalkedOn s0 g0 out s g) Begin

-- behind an exchange that was lost to an indirect entry the position rises
pub record HasPassed (s0 : Seat) (g0 : Ghost) (out : Tail) (s : Seat) (g : Ghost) : Type 0 where
  pub walked : HasWalkedOn s0 g0 out s g
  pub further : s0.walk.position < s.walk.position

abbrev pub WalksOnWithin : Type 0
WalksOnWithin = (word : ℕ) → Promises walk_script (MayWalkOn word) (λ o seat s0 g0 out s g. HasPassed s0 g0 out s g) (Indirect (field INDIRECT_BLOCK word) 0)
