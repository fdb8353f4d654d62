-- A look is lawful at each of its stages, so it keeps its promise.
use Rattle.std.proofs.Common.{ℕ, refl, sym, subst}
use Rattle.pmem_words.specs.Seats.{Seat}
use Rattle.log_core.specs.Views.{Ghost}
use Rattle.log_core.specs.Origin.{Origin}
use Rattle.log_core.specs.Within.{no_record, Lawful, Serves}
use Rattle.log_core.proofs.machines.MachineLaws.{Law, IsUnmoved, has_begun, promised}
use Rattle.pins.proofs.PinWithin.{pin_law}
use Rattle.read_validate.specs.declared.query.Query.{Query}
use Rattle.read_validate.specs.declared.query.Query.TheVariants.{Size, Range}
use Rattle.read_validate.specs.declared.query.Stage.{Stage}
use Rattle.read_validate.specs.declared.query.Stage.TheVariants.{Pinning, Walking, Reading, Unpinning}
use Rattle.read_validate.specs.declared.range.ReadRange.{ReadRange}
use Rattle.read_validate.specs.Looking.{at_stage, look_of, look_script, look_lowers}
use Rattle.read_validate.specs.LookWithin.{MayLook, HasLooked, LooksWithin}
use Rattle.read_validate.proofs.LookStages.{may_pin, pin_stage, walk_stage, range_stage, unpin_stage}
use Rattle.read_validate.proofs.LookStanding.{ReadingStands, StageStands, LookStands}

reading : (query : Query) (o : Origin) (seat : ℕ) (s0 : Seat) (g0 : Ghost) → MayLook query o seat s0 g0 → (p : ReadRange) (s : Seat) (g : Ghost) → ReadingStands query o seat s0 g0 p s g →
    Lawful o seat look_script no_record (LookStands query o seat s0 g0) (HasLooked query o seat s0 g0) (at_stage query (Reading p)) s g
reading Size o seat s0 g0 may p s g at = absurd at
reading (Range offset count) o seat s0 g0 may p s g at = range_stage offset count o seat s0 g0 may at.0 p s g at.1

module _ (query : Query) (o : Origin) (seat : ℕ) (s0 : Seat) (g0 : Ghost) (may : MayLook query o seat s0 g0) where
  at_each : (stage : Stage) (s : Seat) (g : Ghost) → StageStands query o seat s0 g0 stage s g →
      Lawful o seat look_script no_record (LookStands query o seat s0 g0) (HasLooked query o seat s0 g0) (at_stage query stage) s g
  at_each (Pinning p) s g at = pin_stage query o seat s0 g0 may p s g at
  at_each (Walking p) s g at = walk_stage query o seat s0 g0 may p s g at
  at_each (Reading p) s g at = reading query o seat s0 g0 may p s g at
  at_each (Unpinning p) s g at = unpin_stage query o seat s0 g0 may p s g at

  pub look_serves : Serves o seat look_script no_record (LookStands query o seat s0 g0) (HasLooked query o seat s0 g0)
  look_serves m s g stands = subst (λ (q : Query). Lawful o seat look_script no_record (LookStands query o seat s0 g0) (HasLooked query o seat s0 g0) (at_stage q m.stage) s g) (sym stands.0) (at_each m.stage s g stands.1)

abbrev pub look_law : (query : Query) → Law look_script (look_of query)
look_law query = record {
  may = MayLook query;
  stands = λ o seat s0 g0 m s g. LookStands query o seat s0 g0 m s g;
  left = HasLooked query;
  begins = λ o seat s g may. (refl, has_begun pin_law o seat (IsUnmoved s g) s g (record { seat = refl; ghost = refl }) (may_pin query o seat s g may s g refl));
  serves = look_serves query;
  lowers = look_lowers;
}

pub looks_within : LooksWithin
looks_within query = promised look_script (look_of query) (look_law query)
