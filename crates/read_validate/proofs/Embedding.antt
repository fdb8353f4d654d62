-- Each stage of a look does what its part does.
use Rattle.std.proofs.Common.{refl}
use Rattle.pmem_words.specs.Parts.{Embeds}
use Rattle.pmem_words.specs.Seats.{Seat}
use Rattle.pins.specs.Pinning.{pin_script}
use Rattle.pins.specs.Unpinning.{unpin_script}
use Rattle.log_blocks.specs.declared.walk.Tail.{Tail}
use Rattle.log_blocks.specs.Walking.{walk_script}
use Rattle.read_validate.specs.declared.query.Query.{Query}
use Rattle.read_validate.specs.declared.query.Stage.TheVariants.{Pinning, Walking, Reading, Unpinning}
use Rattle.read_validate.specs.Looking.{at_stage, pinned_so, walked_so, read_so, unpinned_so, look_script}
use Rattle.read_validate.specs.Ranges.{range_script}

module _ (q : Query) where
  pub at_pin : Embeds pin_script look_script (λ n. at_stage q (Pinning n)) (pinned_so q)
  at_pin = record { asks = λ m s. refl; after = λ m s a. refl }

  pub at_walk : Embeds walk_script look_script (λ n. at_stage q (Walking n)) (λ (tail : Tail) (t : Seat). walked_so q t)
  at_walk = record { asks = λ m s. refl; after = λ m s a. refl }

  pub at_range : Embeds range_script look_script (λ n. at_stage q (Reading n)) (read_so q)
  at_range = record { asks = λ m s. refl; after = λ m s a. refl }

  pub at_unpin : Embeds unpin_script look_script (λ n. at_stage q (Unpinning n)) (unpinned_so q)
  at_unpin = record { asks = λ m s. refl; after = λ m s a. refl }
