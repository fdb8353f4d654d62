-- Rows of steps of each kind: what they come to, and which are allowed; and runs that go on with one.
use Rattle.std.proofs.Common.{◌≢◌, ◌<◌, ℕ, List, [], ◌∷◌, length, refl, sym, subst, arith, ap, Option, None, Some}
use Rattle.std.proofs.lemmas.Bool.{false≢true, true≢false}
use Rattle.log_entry.specs.declared.shapes.Area.TheVariants.{Data}
use Rattle.log_entry.specs.declared.calls.Op.{Op}
use Rattle.asks.specs.declared.ask.Ask.{Ask}
use Rattle.log_core.specs.Views.{view_of, op_in}
use Rattle.log_core.specs.Origin.{Origin, q_of_origin}
use Rattle.log_core.specs.Cores.{Core, first_core}
use Rattle.log_core.specs.Works.{StartsFromLog, Work, SetsWord, CountsFilled, state_after_all_work, MayWorkAll}
use Rattle.log_core.specs.Steps.{Step, is_begun, ghost_begun, kind_of_ask}
use Rattle.log_core.specs.After.{after}
use Rattle.log_core.specs.May.{May, OfHead, OfTrail, OfNewHead}
use Rattle.log_core.specs.Runs.{Allowed, IsReached, MayNumber}
use Rattle.log_core.specs.worked_rows.Samples.{step_of, stepping}
use Rattle.log_core.specs.worked_rows.AllowedSteps.{FilledNoMore, BitmapMayBeRead, AllowedKinds}
use Rattle.log_core.proofs.row_checks.RowsTaken.{bits_taken, fence_follows}
use Rattle.log_core.proofs.row_checks.RowsMay.{word_may_be_marked, entry_may_be_put}
use Rattle.log_core.proofs.row_checks.RowsExchanged.{link_won}
use Rattle.log_core.proofs.row_checks.RowsGiven.{bits_cleared, sync_ends}
use Rattle.log_core.proofs.row_checks.RowsWrong.{one_part}
use Rattle.log_core.proofs.row_checks.RowTells.{is_sync, is_put}

pub filled_no_more : FilledNoMore
filled_no_more = (refl, refl, refl, refl, refl, refl, refl)

pub bitmap_may_be_read : BitmapMayBeRead
bitmap_may_be_read = (
  record { inside = omega arith; area = Data; lacks = omega arith },
  λ may. (let inside = may.inside in omega (arith, inside)),
  λ may. (let lacks = may.lacks in omega (arith, lacks)),
  λ may. (let few = may.few in omega (arith, few)),
)

-- a step with what its call computes before it, and nothing after it
module _ (o : Origin) (c : Core) (seat number : ℕ) (ask : Ask) (works : List Work) where
  pub step_allowed : seat < length c.views → (view_of c.views seat).parts ≢ [] →
      MayWorkAll (view_of c.views seat).ghost (view_of c.views seat).seat works →
      MayNumber (is_begun (op_in (view_of c.views seat).seat) (op_in (state_after_all_work (view_of c.views seat).seat works))) (view_of c.views seat).ghost.call.number number →
      May o c (ghost_begun (view_of c.views seat).ghost (view_of c.views seat).seat (state_after_all_work (view_of c.views seat).seat works) number) (state_after_all_work (view_of c.views seat).seat works) (kind_of_ask (q_of_origin o) seat ask) →
      Allowed o c (step_of o c seat ask number works [] [])
  step_allowed made unspent computes numbered may = record {
    made = made;
    unspent = unspent;
    step = record {
      begins = record { works = works; may = computes; gives = refl };
      number = numbered;
      may = may;
      enters = record { last = _; computed = record { works = []; may = tt; gives = refl }; going_on = refl; adds_are = tt; seat_is = refl };
    };
  }

-- no step is made yet
pub first_reached : (o : Origin) → IsReached o (first_core o)
first_reached o = record { steps = []; is_run = tt; ends = refl }

-- a run goes on with a step that is allowed
pub reach : {o : Origin} {c : Core} (step : Step) → IsReached o c → Allowed o c step → IsReached o (after o c step)
reach {o} {c} step run allowed = record {
  steps = step ∷ run.steps;
  is_run = (run.is_run, subst (λ (from : Core). Allowed o from step) (sym run.ends) allowed);
  ends = ap (λ (from : Core). after o from step) run.ends;
}

module _ (o : Origin) (c : Core) (seat number : ℕ) (ask : Ask) (works : List Work) where
  pub step_reached : IsReached o c → seat < length c.views → (view_of c.views seat).parts ≢ [] →
      MayWorkAll (view_of c.views seat).ghost (view_of c.views seat).seat works →
      MayNumber (is_begun (op_in (view_of c.views seat).seat) (op_in (state_after_all_work (view_of c.views seat).seat works))) (view_of c.views seat).ghost.call.number number →
      May o c (ghost_begun (view_of c.views seat).ghost (view_of c.views seat).seat (state_after_all_work (view_of c.views seat).seat works) number) (state_after_all_work (view_of c.views seat).seat works) (kind_of_ask (q_of_origin o) seat ask) →
      IsReached o (stepping o c seat ask number works [])
  step_reached run made unspent computes numbered may = reach (step_of o c seat ask number works [] []) run (step_allowed o c seat number ask works made unspent computes numbered may)

-- a step goes on with the call that runs
pub same_call : (call : Option Op) (number : ℕ) → MayNumber (is_begun call call) number number
same_call None number = refl
same_call (Some op) number = refl

pub allowed_kinds : AllowedKinds
allowed_kinds = (
  step_allowed _ _ 0 _ _ [] (omega arith) (one_part 0) tt refl (record { valid = refl; named = refl }),
  step_allowed _ _ 0 _ _ (StartsFromLog ∷ []) (omega arith) (one_part 0)
      (record { at_front = record { valid = refl; pinned = refl; front = λ none. cc }; free = record { not_won = refl; none_laid = refl; no_sync = refl; no_head = refl }; no_bases = refl; kind_is = refl }, tt)
      refl (record { valid = refl; named = refl }),
  step_allowed _ _ 0 _ _ [] (omega arith) (one_part 0) tt refl bitmap_may_be_read.0,
  step_allowed _ _ 0 _ _ [] (omega arith) (one_part 0) tt refl bits_taken.7,
  step_allowed _ _ 0 _ _ (SetsWord 0 0 170 ∷ []) (omega arith) (one_part 0) (record { owned = omega arith; inside = omega arith; small = omega arith }, tt) refl (record { owned = refl; small = omega arith }),
  step_allowed _ _ 0 _ _ [] (omega arith) (one_part 0) tt refl word_may_be_marked.2,
  step_allowed _ _ 0 _ _ (CountsFilled 0 ∷ []) (omega arith) (one_part 0) (fence_follows.7, tt) refl (record { in_sync = λ sync tail none. absurd (false≢true (ap is_sync sync)) }),
  step_allowed _ _ 1 _ _ [] (omega arith) (one_part 1) tt refl bits_cleared.5,
  step_allowed _ _ 0 _ _ [] (omega arith) (one_part 0) tt refl bits_cleared.1,
  step_allowed _ _ 0 _ _ [] (omega arith) (one_part 0) tt refl (OfHead refl refl refl),
  step_allowed _ _ 0 _ _ [] (omega arith) (one_part 0) tt refl (OfTrail refl refl refl),
  step_allowed _ _ 0 _ _ [] (omega arith) (one_part 0) tt refl (OfNewHead refl (λ none. true≢false (ap is_put none))),
  step_allowed _ _ 0 _ _ [] (omega arith) (one_part 0) tt refl sync_ends.3,
  step_allowed _ _ 0 _ _ [] (omega arith) (one_part 0) tt refl (λ seal. absurd (omega (arith, seal)), λ entry. entry_may_be_put.0),
  step_allowed _ _ 0 _ _ [] (omega arith) (one_part 0) tt refl
      (λ seal. record { at_tail = record { valid = refl; ready = refl; not_won = refl; at_tail = refl }; slot = refl; later = omega arith; inside = omega arith; job = refl }, λ entry. absurd (entry refl)),
  step_allowed _ _ 0 _ _ [] (omega arith) (one_part 0) tt refl link_won.5,
  λ allowed. link_won.6 allowed.step.may,
  λ allowed. (let same = (allowed.step.may.0 refl).slot in omega (arith, same)),
)
