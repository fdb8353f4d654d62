-- A write of whole blocks is lawful at each of its stages, so it keeps its promise.
use Rattle.std.proofs.Common.{inl, inr, ℕ, refl, sym, subst}
use Rattle.pmem_words.specs.Seats.{Seat}
use Rattle.log_core.specs.Views.{Ghost}
use Rattle.log_core.specs.Origin.{Origin}
use Rattle.log_core.specs.Within.{no_record, Lawful, Serves}
use Rattle.log_core.proofs.machines.MachineLaws.{Law, has_begun, promised, IsUnmoved}
use Rattle.pins.proofs.PinWithin.{pin_law}
use Rattle.write_any.specs.declared.stage.Stage.{Stage}
use Rattle.write_any.specs.declared.stage.Stage.TheVariants.{Pinning, Walking, Taking, TakingRuns, Filling, TakingLog, FillingLog, Growing, GivingLog, Offering, Unpinning, Giving}
use Rattle.write_any.specs.declared.stage.Target.{Target}
use Rattle.write_any.specs.declared.stage.Target.TheVariants.{At}
use Rattle.write_any.specs.Writing.{at_stage, write_of, write_script, write_lowers}
use Rattle.write_any.specs.LosingFew.{LosesFew, LosesFewFromBegin}
use Rattle.write_any.specs.WriteWithin.{MayWrite, HasWritten, WritesWhole}
use Rattle.write_any.proofs.EndStages.{may_pin, unpin_stage, give_stage}
use Rattle.write_any.proofs.FillLogStage.{fill_log_stage}
use Rattle.write_any.proofs.FillStage.{fill_stage}
use Rattle.write_any.proofs.FirstStages.{pin_stage, walk_stage, walk_on_stage}
use Rattle.write_any.proofs.GrowStages.{grow_stage, give_log_stage}
use Rattle.write_any.proofs.Lacks.{lacks_data, lacks_log}
use Rattle.write_any.proofs.OfferStage.{offer_stage}
use Rattle.write_any.proofs.LosesFew.{loses_few}
use Rattle.write_any.proofs.LosesFewFrom.{loses_few_from_begin}
use Rattle.write_any.proofs.Offers.{offers}
use Rattle.write_any.proofs.TakeLogStage.{take_log_stage}
use Rattle.write_any.proofs.TakeStages.{take_stage, take_runs_stage}
use Rattle.write_any.proofs.WriteStanding.{StageStands, WriteStands}

module _ (offset : ℕ) (o : Origin) (seat : ℕ) (s0 : Seat) (g0 : Ghost) (may : MayWrite offset o seat s0 g0) where
  abbrev IsLawful : Stage → Seat → Ghost → Type 0
  IsLawful stage s g = Lawful o seat write_script no_record (WriteStands offset o seat s0 g0) (HasWritten offset o seat s0 g0) (at_stage (At offset) stage) s g

  at_each : (stage : Stage) (s : Seat) (g : Ghost) → StageStands offset o seat s0 g0 stage s g → IsLawful stage s g
  at_each (Pinning p) s g at = pin_stage offset o seat s0 g0 may p s g at
  at_each (Walking p) s g (inl at) = walk_stage offset o seat s0 g0 may (lacks_data offset o seat s0 g0 may) (lacks_log offset o seat s0 g0 may) (offers offset o seat s0 g0 may) p s g at
  at_each (Walking p) s g (inr (word, at)) = walk_on_stage offset o seat s0 g0 may (lacks_data offset o seat s0 g0 may) (lacks_log offset o seat s0 g0 may) (offers offset o seat s0 g0 may) word p s g at
  at_each (Taking p) s g at = take_stage offset o seat s0 g0 may p s g at
  at_each (TakingRuns p) s g at = take_runs_stage offset o seat s0 g0 may p s g at
  at_each (Filling p) s g (all, at) = fill_stage offset o seat s0 g0 may (lacks_data offset o seat s0 g0 may) (lacks_log offset o seat s0 g0 may) (offers offset o seat s0 g0 may) all p s g at
  at_each (TakingLog p) s g at = take_log_stage offset o seat s0 g0 may p s g at
  at_each (FillingLog p) s g (block, place, at) = fill_log_stage offset o seat s0 g0 may block place p s g at
  at_each (Growing p) s g (block, at) = grow_stage offset o seat s0 g0 may (offers offset o seat s0 g0 may) block p s g at
  at_each (GivingLog p) s g (block, at) = give_log_stage offset o seat s0 g0 may block p s g at
  at_each (Offering p) s g (entry, at) = offer_stage offset o seat s0 g0 may entry p s g at
  at_each (Unpinning refusal p) s g at = unpin_stage offset o seat s0 g0 may refusal p s g at
  at_each (Giving refusal p) s g at = give_stage offset o seat s0 g0 may refusal p s g at

  pub write_serves : Serves o seat write_script no_record (WriteStands offset o seat s0 g0) (HasWritten offset o seat s0 g0)
  write_serves m s g stands =
      subst (λ (t : Target). Lawful o seat write_script no_record (WriteStands offset o seat s0 g0) (HasWritten offset o seat s0 g0) (at_stage t m.stage) s g) (sym stands.0) (at_each m.stage s g stands.1)

abbrev pub write_law : (offset : ℕ) → Law write_script (write_of (At offset))
write_law offset = record {
  may = MayWrite offset;
  stands = λ o seat s0 g0 m s g. WriteStands offset o seat s0 g0 m s g;
  left = HasWritten offset;
  begins = λ o seat s g may. (refl, has_begun pin_law o seat (IsUnmoved s g) s g (record { seat = refl; ghost = refl }) (may_pin offset o seat s g may s g refl));
  serves = write_serves offset;
  lowers = write_lowers;
}

pub writes_whole : WritesWhole
writes_whole offset = promised write_script (write_of (At offset)) (write_law offset)

-- and loses few exchanges
pub loses_few_whole : LosesFew
loses_few_whole = loses_few write_serves

pub loses_few_whole_from_begin : LosesFewFromBegin
loses_few_whole_from_begin = loses_few_from_begin write_serves
