-- Each stage of a write does what its part does.
use Rattle.std.proofs.Common.{refl, Option}
use Rattle.log_entry.specs.declared.calls.WriteRefusal.{WriteRefusal}
use Rattle.pmem_words.specs.Parts.{Embeds}
use Rattle.pins.specs.Pinning.{pin_script}
use Rattle.pins.specs.Unpinning.{unpin_script}
use Rattle.block_bitmap.specs.TakeScript.{take_script}
use Rattle.block_bitmap.specs.Filling.{fill_script}
use Rattle.block_bitmap.specs.Giving.{give_script}
use Rattle.log_blocks.specs.Walking.{walk_script}
use Rattle.log_blocks.specs.Growing.{grow_script}
use Rattle.log_blocks.specs.Offering.{offer_script}
use Rattle.write_any.specs.declared.stage.Target.{Target}
use Rattle.write_any.specs.declared.stage.Stage.TheVariants.{Pinning, Walking, Taking, TakingRuns, Filling, TakingLog, FillingLog, Growing, GivingLog, Offering, Unpinning, Giving}
use Rattle.write_any.specs.GivingOne.{give_one_script}
use Rattle.write_any.specs.Writing.{at_stage, pinned_so, walked_so, taken_so, taken_runs_so, filled_so, taken_log_so, filled_log_so, grown_so, given_log_so, offered_so, unpinned_so, given_so, write_script}

module _ (t : Target) where
  pub at_pin : Embeds pin_script write_script (λ n. at_stage t (Pinning n)) (pinned_so t)
  at_pin = record { asks = λ m s. refl; after = λ m s a. refl }

  pub at_walk : Embeds walk_script write_script (λ n. at_stage t (Walking n)) (walked_so t)
  at_walk = record { asks = λ m s. refl; after = λ m s a. refl }

  pub at_take : Embeds take_script write_script (λ n. at_stage t (Taking n)) (taken_so t)
  at_take = record { asks = λ m s. refl; after = λ m s a. refl }

  pub at_take_runs : Embeds take_script write_script (λ n. at_stage t (TakingRuns n)) (taken_runs_so t)
  at_take_runs = record { asks = λ m s. refl; after = λ m s a. refl }

  pub at_fill : Embeds fill_script write_script (λ n. at_stage t (Filling n)) (filled_so t)
  at_fill = record { asks = λ m s. refl; after = λ m s a. refl }

  pub at_take_log : Embeds take_script write_script (λ n. at_stage t (TakingLog n)) (taken_log_so t)
  at_take_log = record { asks = λ m s. refl; after = λ m s a. refl }

  pub at_fill_log : Embeds fill_script write_script (λ n. at_stage t (FillingLog n)) (filled_log_so t)
  at_fill_log = record { asks = λ m s. refl; after = λ m s a. refl }

  pub at_grow : Embeds grow_script write_script (λ n. at_stage t (Growing n)) (grown_so t)
  at_grow = record { asks = λ m s. refl; after = λ m s a. refl }

  pub at_give_log : Embeds give_one_script write_script (λ n. at_stage t (GivingLog n)) (given_log_so t)
  at_give_log = record { asks = λ m s. refl; after = λ m s a. refl }

  pub at_offer : Embeds offer_script write_script (λ n. at_stage t (Offering n)) (offered_so t)
  at_offer = record { asks = λ m s. refl; after = λ m s a. refl }

  module _ (refusal : Option WriteRefusal) where
    pub at_unpin : Embeds unpin_script write_script (λ n. at_stage t (Unpinning refusal n)) (unpinned_so t refusal)
    at_unpin = record { asks = λ m s. refl; after = λ m s a. refl }

    pub at_give : Embeds give_script write_script (λ n. at_stage t (Giving refusal n)) (given_so t refusal)
    at_give = record { asks = λ m s. refl; after = λ m s a. refl }
