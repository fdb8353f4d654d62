-- Rows of whole runs and their calls in the order of a report.
use Rattle.std.proofs.Common.{◌≡◌, Bool, true, false, zero, suc, [], ◌∷◌, refl, sym, ap, subst, arith, inl, inr, Some}
use Rattle.log_entry.specs.Order.{IsInOrder}
use Rattle.log_entry.specs.declared.calls.Op.{Op}
use Rattle.log_entry.specs.declared.calls.Reply.{Reply}
use Rattle.log_entry.specs.declared.calls.Reply.TheVariants.{Wrote}
use Rattle.std.proofs.lemmas.Bool.{false≢true}
use Rattle.pmem_words.specs.declared.keeps.Task.TheVariants.{Size}
use Rattle.asks.specs.declared.ask.Ask.TheVariants.{Load, Store, Exchange}
use Rattle.asks.specs.declared.ask.Place.TheVariants.{Image, Pin}
use Rattle.log_core.specs.Views.{view_of, op_of}
use Rattle.log_core.specs.Cores.{Core}
use Rattle.log_core.specs.Works.{Begins, StartsFromLog, is_quiet}
use Rattle.log_core.specs.After.{op_or_size}
use Rattle.log_core.specs.Runs.{IsReached}
use Rattle.log_core.specs.Histories.{recorded_calls, IsMadeBy}
use Rattle.log_core.specs.worked_rows.Samples.{image_a, pinning}
use Rattle.log_core.specs.worked_rows.Rows.{to_first, first_call}
use Rattle.log_core.specs.worked_rows.Written.{own_at_tail}
use Rattle.log_core.specs.worked_rows.TwoWriters.{second_call, both_put}
use Rattle.log_core.specs.worked_rows.Printed.{sizing, write_returned, size_call, size_returned, PrintedInOtherOrder, refused_call, RefusedBetween}
use Rattle.log_core.proofs.row_checks.RowsWrong.{one_part}
use Rattle.log_core.proofs.row_checks.RowsAllowed.{step_reached}
use Rattle.log_core.proofs.row_checks.RowsStepped.{enters_reached}
use Rattle.log_core.proofs.row_checks.RowsWritten.{tail_reached, may_put}
use Rattle.log_core.proofs.row_checks.RowsBothPut.{both_reached}

abbrev is_accepted : Reply → Bool
is_accepted (Wrote count) = true
is_accepted _ = false

size_steps : (op : Op) → op_of Size [] ≡ Some op → is_quiet 64 op ≡ false
size_steps op same = subst (λ (o : Op). is_quiet 64 o ≡ false) (ap op_or_size same) refl

sizing_reached : IsReached image_a sizing
sizing_reached =
    let begun = step_reached image_a own_at_tail 1 1 (Load (Image 3)) (Begins Size [] ∷ []) tail_reached (omega arith) (one_part 1)
    (record { none_runs = refl; not_won = refl; no_head = refl; no_marks = refl; none_laid = refl; steps = size_steps }, tt) (omega arith) tt in
    let stored = step_reached image_a _ 1 1 (Store (Pin 1) 1) [] begun (omega arith) (one_part 1) tt refl (record { value_is = inr (λ none. omega (arith, none), refl); no_marks = λ sync. refl }) in
    let pinned = step_reached image_a _ 1 1 (Load (Image 3)) [] stored (omega arith) (one_part 1) tt refl tt in
    let read = step_reached image_a (pinning image_a own_at_tail 1 Size [] 1) 1 1 (Load (Image 25)) [] pinned (omega arith) (one_part 1) tt refl (record { valid = refl; named = refl }) in
    step_reached image_a _ 1 1 (Load (Image 27)) (StartsFromLog ∷ []) read (omega arith) (one_part 1)
    (record { at_front = record { valid = refl; pinned = refl; front = λ none. cc }; free = record { not_won = refl; none_laid = refl; no_sync = refl; no_head = refl }; no_bases = refl; kind_is = refl }, tt)
    refl (record { valid = refl; named = refl })

write_reached : IsReached image_a write_returned
write_reached = enters_reached image_a sizing 0 1 (Exchange (Image 27) 0 to_first) [] [] (first_call ∷ []) sizing_reached (omega arith) (one_part 0) tt refl
    (λ seal. absurd (omega (arith, seal)), λ entry. may_put) tt refl (record { at_tail = refl; position = refl; seat = refl; number = refl; op = refl; fits = refl })

size_reached : IsReached image_a size_returned
size_reached = enters_reached image_a write_returned 1 1 (Store (Pin 1) 0) [] [] (size_call ∷ []) write_reached (omega arith) (one_part 1) tt refl
    (record { value_is = inl refl; no_marks = λ sync. refl }) tt refl (record { at_tail = refl; position = refl; seat = refl; number = refl; op = refl; fits = refl })

two_in_order : IsInOrder (size_call ∷ first_call ∷ [])
two_in_order zero d low high = refl
two_in_order (suc k) d low high = absurd (omega (arith, high))

pub printed_in_other_order : PrintedInOtherOrder
printed_in_other_order = (
  write_reached,
  refl,
  refl,
  refl,
  record {
    steps = size_reached.steps;
    is_run = size_reached.is_run;
    ends = size_reached.ends;
    quiet = [];
    are_quiet = tt;
    same_calls = record { moves = (0, 1) ∷ []; below = (omega arith, omega arith, tt); is = refl };
    in_order = two_in_order;
  },
  (refl, refl, (inl refl, refl, tt)),
  λ legal. (let same = legal.2.1 in omega (arith, same)),
)

-- the refused call is made where both writes have returned
made : IsMadeBy (view_of both_put.views 0) (view_of both_put.views 0) (recorded_calls both_put.views) refused_call
made = record {
  unspent = one_part 0;
  no_call = refl;
  position = refl;
  after = omega arith;
  before = (λ same. inl (omega arith), (λ same. absurd (omega (arith, same)), tt));
  before_running = λ runs. absurd (runs refl);
}

three_in_order : IsInOrder (first_call ∷ refused_call ∷ second_call ∷ [])
three_in_order zero d low high = refl
three_in_order (suc zero) d low high = refl
three_in_order (suc (suc k)) d low high = absurd (omega (arith, high))

pub refused_between : RefusedBetween
refused_between = (
  record {
    steps = both_reached.steps;
    is_run = both_reached.is_run;
    ends = both_reached.ends;
    quiet = refused_call ∷ [];
    are_quiet = (
      record {
        quiet = refl;
        later = [];
        earlier = both_reached.steps;
        moment = refl;
        made = subst (λ (c : Core). IsMadeBy (view_of c.views 0) (view_of both_put.views 0) (recorded_calls both_put.views) refused_call) (sym both_reached.ends) made;
        answers = refl;
      },
      tt,
      tt,
    );
    same_calls = record { moves = (1, 2) ∷ []; below = (omega arith, omega arith, tt); is = refl };
    in_order = three_in_order;
  },
  (inl refl, refl, (refl, refl, (inl refl, refl, tt))),
  λ legal. false≢true (sym (ap is_accepted legal.2.0)),
)
