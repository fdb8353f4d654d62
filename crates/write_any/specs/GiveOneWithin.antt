-- Giving one owned block back within a core.
use Rattle.std.specs.Prelude.{ℕ, ◌/◌, ◌%◌, ◌^◌, ◌≡◌, true}
use Rattle.pmem_words.specs.Owned.{is_among}
use Rattle.pmem_words.specs.Seats.{Seat}
use Rattle.log_image.specs.Chains.{is_listed}
use Rattle.log_core.specs.Views.{Ghost}
use Rattle.log_core.specs.Origin.{Origin}
use Rattle.log_core.specs.Works.{words_of}
use Rattle.log_core.specs.Needs.{owned_numbers}
use Rattle.log_core.specs.Steps.{stored_but}
use Rattle.log_core.specs.Promising.{Promises}
use Rattle.write_any.specs.GivingOne.{give_one_of, one_given, give_one_script}

-- the seat owns the block
pub record MayGiveOne (block : ℕ) (o : Origin) (seat : ℕ) (s : Seat) (g : Ghost) : Type 0 where
  pub owned : is_listed (owned_numbers s.blocks.owned) block ≡ true

-- it has left the seat's list, and nothing else has changed but the seat's bits of blocks found taken
pub record HasGivenOne (block : ℕ) (o : Origin) (seat : ℕ) (s0 : Seat) (g0 : Ghost) (out : Unit {0}) (s : Seat) (g : Ghost) : Type 0 where
  pub left : s ≡ one_given block s0
  pub ghost : g ≡ record g0 { stored = stored_but (words_of s0) (λ (other : ℕ). is_among (block / 64) (2 ^ (block % 64)) other) g0.stored }

abbrev pub GivesOneWithin : Type 0
GivesOneWithin = (block : ℕ) → Promises give_one_script (MayGiveOne block) (HasGivenOne block) (give_one_of block)
