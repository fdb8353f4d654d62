-- Rows of a seat with a pin of the first generation that writes and syncs after another seat's collection.
use Rattle.std.proofs.Common.{◌≡◌, ◌==◌, false, [], ◌∷◌, refl, sym, ap, subst, arith, Some}
use Rattle.std.proofs.lemmas.Bool.{false≢true, or_right}
use Rattle.log_entry.specs.declared.calls.Op.{Op}
use Rattle.log_entry.specs.declared.calls.Op.TheVariants.{Pwrite as PwriteOp}
use Rattle.log_image.specs.Image.{is_in_data}
use Rattle.pmem_words.specs.declared.keeps.Task.TheVariants.{Sync}
use Rattle.asks.specs.declared.ask.Ask.TheVariants.{Load, Exchange, Mark, Fence}
use Rattle.asks.specs.declared.ask.Place.TheVariants.{Image}
use Rattle.log_core.specs.Views.{view_of, op_of}
use Rattle.log_core.specs.Cores.{Core}
use Rattle.log_core.specs.Works.{Begins, TakesEntry, TakesSeal, Follows, is_quiet}
use Rattle.log_core.specs.Steps.{content_of}
use Rattle.log_core.specs.After.{op_or_size}
use Rattle.log_core.specs.May.{MayCommit, is_fenced, OfHead, OfTrail}
use Rattle.log_core.specs.Runs.{IsReached}
use Rattle.log_core.specs.worked_rows.Samples.{image_a, small_shape}
use Rattle.log_core.specs.worked_rows.Rows.{to_second}
use Rattle.log_core.specs.worked_rows.OldPins.{entry_from, seal_from, follow_from, found_from, old_call, put_from, sync_from, head_from, first_from, all_from, sync_call, synced_from, WritesByOldPin, SyncsByOldPin, OldPinRuns}
use Rattle.log_core.proofs.row_checks.RowChecks.{in_all}
use Rattle.log_core.proofs.row_checks.RowsStart.{image_starts}
use Rattle.log_core.proofs.row_checks.RowsWrong.{one_part}
use Rattle.log_core.proofs.row_checks.RowsAllowed.{step_reached}
use Rattle.log_core.proofs.row_checks.RowsReached.{reached_holds}
use Rattle.log_core.proofs.row_checks.RowsStepped.{enters_reached}
use Rattle.log_core.proofs.row_checks.RowsLate.{bytes_held, rest_held}
use Rattle.log_core.proofs.row_checks.RowsBothPut.{may_put_there}
use Rattle.log_core.proofs.row_checks.RowsNewHead.{head_core, head_core_reached, new_head_is}

entry_reached : IsReached image_a (entry_from head_core)
entry_reached = enters_reached image_a head_core 1 1 (Exchange (Image 27) 0 to_second) [] (TakesEntry ∷ []) [] head_core_reached (omega arith) (one_part 1) tt refl
    (λ seal. absurd (omega (arith, seal)), λ entry. may_put_there)
    ((record { free = record { not_won = refl; none_laid = refl; no_sync = refl; no_head = refl }; valid = refl; ready = refl; inside = λ same. omega (arith, same); used = λ same. omega (arith, same) }, (λ same. omega (arith, same)), λ indirect. absurd (omega (arith, indirect))), tt)
    refl tt

seal_reached : IsReached image_a (seal_from head_core)
seal_reached = enters_reached image_a (entry_from head_core) 1 1 (Load (Image 28)) [] (TakesSeal ∷ []) [] entry_reached (omega arith) (one_part 1) tt refl (record { valid = refl; named = refl })
    ((record { free = record { not_won = refl; none_laid = refl; no_sync = refl; no_head = refl }; valid = refl; ready = refl; inside = λ same. omega (arith, same); used = λ same. omega (arith, same) }, refl), tt)
    refl tt

follow_reached : IsReached image_a (follow_from head_core)
follow_reached = enters_reached image_a (seal_from head_core) 1 1 (Load (Image 24)) [] (Follows ∷ []) [] seal_reached (omega arith) (one_part 1) tt refl (record { valid = refl; named = refl })
    (record { free = record { not_won = refl; none_laid = refl; no_sync = refl; no_head = refl }; valid = refl; ready = refl; at_end = refl; linked = λ same. omega (arith, same) }, tt)
    refl tt

found_reached : IsReached image_a (found_from head_core)
found_reached = step_reached image_a (follow_from head_core) 1 1 (Load (Image 35)) [] follow_reached (omega arith) (one_part 1) tt refl (record { valid = refl; named = refl })

may_put : MayCommit image_a (found_from head_core).history (view_of (found_from head_core).views 1).seat 35 to_second
may_put = record {
  at_tail = record { valid = refl; ready = refl; not_won = refl; at_tail = refl };
  slot = refl;
  inside = omega arith;
  small = omega arith;
  op = PwriteOp 0 (187 ∷ []);
  job = refl;
  is_write = refl;
  allowed = refl;
  form = refl;
  owned = λ block named. in_all (λ b. is_fenced (view_of (found_from head_core).views 1).seat.blocks.owned b) (2 ∷ []) block refl named;
  in_data = λ block named. in_all (λ b. is_in_data small_shape b) (2 ∷ []) block refl named;
  once = refl;
  size_is = refl;
  holds = bytes_held (λ other. content_of (view_of (found_from head_core).views 1).seat other) refl;
  rest = rest_held;
}

put_reached : IsReached image_a (put_from head_core)
put_reached = enters_reached image_a (found_from head_core) 1 1 (Exchange (Image 35) 0 to_second) [] [] (old_call ∷ []) found_reached (omega arith) (one_part 1) tt refl
    (λ seal. absurd (omega (arith, seal)), λ entry. may_put) tt refl (record { at_tail = refl; position = refl; seat = refl; number = refl; op = refl; fits = refl })

writes : WritesByOldPin head_core
writes = (
  put_reached,
  reached_holds image_a (put_from head_core) image_starts put_reached,
  refl,
  refl,
  refl,
  refl,
  refl,
  refl,
  refl,
  refl,
  refl,
  refl,
  refl,
  refl,
)

sync_steps : (op : Op) → op_of Sync [] ≡ Some op → is_quiet 64 op ≡ false
sync_steps op same = subst (λ (o : Op). is_quiet 64 o ≡ false) (ap op_or_size same) refl

sync_reached : IsReached image_a (sync_from head_core)
sync_reached = step_reached image_a (put_from head_core) 1 2 (Load (Image 36)) (Begins Sync [] ∷ []) put_reached (omega arith) (one_part 1)
    (record { none_runs = refl; not_won = refl; no_head = refl; no_marks = refl; none_laid = refl; steps = sync_steps }, tt) (omega arith) (record { valid = refl; named = refl })

head_reached : IsReached image_a (head_from head_core)
head_reached = step_reached image_a (sync_from head_core) 1 2 (Mark 3) [] sync_reached (omega arith) (one_part 1) tt refl (OfHead refl refl refl)

first_reached : IsReached image_a (first_from head_core)
first_reached =
    let entry = step_reached image_a (head_from head_core) 1 2 (Mark 27) [] head_reached (omega arith) (one_part 1) tt refl (OfTrail refl refl refl) in
    let seal = step_reached image_a _ 1 2 (Mark 28) [] entry (omega arith) (one_part 1) tt refl (OfTrail refl refl refl) in
    step_reached image_a _ 1 2 (Mark 24) [] seal (omega arith) (one_part 1) tt refl (OfTrail refl refl refl)

all_reached : IsReached image_a (all_from head_core)
all_reached = step_reached image_a (first_from head_core) 1 2 (Mark 35) [] first_reached (omega arith) (one_part 1) tt refl (OfTrail refl refl refl)

synced_reached : IsReached image_a (synced_from head_core)
synced_reached = enters_reached image_a (all_from head_core) 1 2 Fence [] [] (sync_call ∷ []) all_reached (omega arith) (one_part 1) tt refl
    (record { in_sync = λ job tail none. (refl, refl, record { head = refl; each = λ place walked. or_right (3 == place) _ walked }) })
    tt refl (record { at_tail = refl; position = refl; seat = refl; number = refl; op = refl; fits = (refl, refl) })

syncs : SyncsByOldPin head_core
syncs = (
  synced_reached,
  reached_holds image_a (synced_from head_core) image_starts synced_reached,
  refl,
  refl,
  refl,
  refl,
  refl,
  refl,
  refl,
  refl,
  λ allowed. false≢true ((allowed.step.may.in_sync refl refl refl).2.each 35 refl),
)

pub old_pin_runs : OldPinRuns
old_pin_runs = (subst (λ (c : Core). WritesByOldPin c) (sym new_head_is) writes, subst (λ (c : Core). SyncsByOldPin c) (sym new_head_is) syncs)
