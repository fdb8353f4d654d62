-- When a seat of a world at rest may begin to write whole blocks, and what its state is then.
use Rattle.std.specs.Prelude.{ℕ, ◌≡◌, false, List, [], None}
use Rattle.pmem_words.specs.declared.keeps.Task.TheVariants.{Pwrite}
use Rattle.pmem_words.specs.Seats.{Seat}
use Rattle.log_core.specs.Works.{Begins, state_after_work}
use Rattle.write_any.specs.Composing.{IsWhole}
use Rattle.write_any.specs.WriteWithin.{AreBytes}
use Rattle.world_tests.specs.AloneSeats.{RunsAlone}

-- a seat's state by its number runs no call and owns no block, and these bytes fill whole blocks from this byte of the file on
pub record MayBeginWrite (offset : ℕ) (bytes : List ℕ) (seat : ℕ) (s : Seat) : Type 0 where
  pub alone : RunsAlone seat s
  pub none_owned : s.blocks.owned ≡ []
  pub no_contents : s.blocks.contents ≡ []
  pub whole : IsWhole offset (state_after_work s (Begins (Pwrite offset) bytes))

-- its call is to write whole blocks at this byte of the file, and has made no step
pub record IsToWrite (offset seat : ℕ) (s : Seat) : Type 0 where
  pub number : s.number ≡ seat
  pub job : s.calling.job ≡ Pwrite offset
  pub bytes : AreBytes s.calling.bytes
  pub whole : IsWhole offset s
  pub none_owned : s.blocks.owned ≡ []
  pub no_contents : s.blocks.contents ≡ []
  pub no_bases : s.calling.bases ≡ []
  pub not_won : s.calling.won ≡ false
  pub no_sync : s.calling.sync_to ≡ None
