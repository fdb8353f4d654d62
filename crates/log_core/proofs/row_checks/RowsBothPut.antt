-- Rows of the end of that run: one seat wins the slot; the other one loses it, takes the entry in, and wins the next slot.
use Rattle.std.proofs.Common.{◌≡◌, ◌<◌, ◌+◌, ◌*◌, ℕ, zero, suc, [], ◌∷◌, refl, sym, arith, None}
use Rattle.std.specs.Prelude.{slice_index}
use Rattle.std.proofs.lemmas.List.{get_or_past}
use Rattle.log_entry.specs.declared.calls.Op.TheVariants.{Pwrite as PwriteOp}
use Rattle.log_image.specs.Entries.{direct_meaning}
use Rattle.log_image.specs.Image.{is_in_data}
use Rattle.log_image.specs.Maps.{block_in}
use Rattle.asks.specs.declared.ask.Ask.TheVariants.{Load, Exchange}
use Rattle.asks.specs.declared.ask.Place.TheVariants.{Image}
use Rattle.log_core.specs.Views.{view_of}
use Rattle.log_core.specs.Works.{TakesEntry}
use Rattle.log_core.specs.Steps.{content_of}
use Rattle.log_core.specs.May.{MayCommit, is_fenced}
use Rattle.log_core.specs.Runs.{IsReached}
use Rattle.log_core.specs.worked_rows.Samples.{image_a, small_shape}
use Rattle.log_core.specs.worked_rows.Rows.{to_first, to_second, first_call}
use Rattle.log_core.specs.worked_rows.TwoWriters.{two_fenced, one_put, second_lost, next_found, second_call, both_put, SecondLoses, TwoWritersRun}
use Rattle.log_core.proofs.row_checks.RowChecks.{in_all}
use Rattle.log_core.proofs.row_checks.RowTells.{some_not_none}
use Rattle.log_core.proofs.row_checks.RowsStart.{image_starts}
use Rattle.log_core.proofs.row_checks.RowsWrong.{one_part}
use Rattle.log_core.proofs.row_checks.RowsAllowed.{step_reached}
use Rattle.log_core.proofs.row_checks.RowsReached.{reached_holds}
use Rattle.log_core.proofs.row_checks.RowsWritten.{may_put}
use Rattle.log_core.proofs.row_checks.RowsLate.{bytes_held, rest_held as rest_over}
use Rattle.log_core.proofs.row_checks.RowsStepped.{enters_reached}
use Rattle.log_core.proofs.row_checks.RowsTwoWriters.{fenced_reached}

pub one_put_reached : IsReached image_a one_put
one_put_reached = enters_reached image_a two_fenced 0 1 (Exchange (Image 27) 0 to_first) [] [] (first_call ∷ []) fenced_reached (omega arith) (one_part 0) tt refl
    (λ seal. absurd (omega (arith, seal)), λ entry. may_put) tt refl (record { at_tail = refl; position = refl; seat = refl; number = refl; op = refl; fits = refl })

-- nothing was there before
none_before : (virt at : ℕ) → block_in (direct_meaning to_second) virt ≡ None → at < 64 → slice_index [] (virt * 64 + at) ≡ slice_index (187 ∷ []) (virt * 64 + at)
none_before zero at none inside = absurd (some_not_none 2 none)
none_before (suc virt) at none inside = sym (get_or_past (187 ∷ []) (suc virt * 64 + at) 0 (omega arith))

-- seat 1 does not yet know of the entry that it finds
pub may_put_there : MayCommit image_a one_put.history (view_of one_put.views 1).seat 27 to_second
may_put_there = record {
  at_tail = record { valid = refl; ready = refl; not_won = refl; at_tail = refl };
  slot = refl;
  inside = omega arith;
  small = omega arith;
  op = PwriteOp 0 (187 ∷ []);
  job = refl;
  is_write = refl;
  allowed = refl;
  form = refl;
  owned = λ block named. in_all (λ b. is_fenced (view_of one_put.views 1).seat.blocks.owned b) (2 ∷ []) block refl named;
  in_data = λ block named. in_all (λ b. is_in_data small_shape b) (2 ∷ []) block refl named;
  once = refl;
  size_is = refl;
  holds = bytes_held (λ other. content_of (view_of one_put.views 1).seat other) refl;
  rest = none_before;
}

lost_reached : IsReached image_a second_lost
lost_reached = enters_reached image_a one_put 1 1 (Exchange (Image 27) 0 to_second) [] (TakesEntry ∷ []) [] one_put_reached (omega arith) (one_part 1) tt refl
    (λ seal. absurd (omega (arith, seal)), λ entry. may_put_there)
    ((record { free = record { not_won = refl; none_laid = refl; no_sync = refl; no_head = refl }; valid = refl; ready = refl; inside = λ same. omega (arith, same); used = λ same. omega (arith, same) }, (λ same. omega (arith, same)), λ indirect. absurd (omega (arith, indirect))), tt)
    refl tt

pub found_reached : IsReached image_a next_found
found_reached = step_reached image_a second_lost 1 1 (Load (Image 28)) [] lost_reached (omega arith) (one_part 1) tt refl (record { valid = refl; named = refl })

pub may_put_next : MayCommit image_a next_found.history (view_of next_found.views 1).seat 28 to_second
may_put_next = record {
  at_tail = record { valid = refl; ready = refl; not_won = refl; at_tail = refl };
  slot = refl;
  inside = omega arith;
  small = omega arith;
  op = PwriteOp 0 (187 ∷ []);
  job = refl;
  is_write = refl;
  allowed = refl;
  form = refl;
  owned = λ block named. in_all (λ b. is_fenced (view_of next_found.views 1).seat.blocks.owned b) (2 ∷ []) block refl named;
  in_data = λ block named. in_all (λ b. is_in_data small_shape b) (2 ∷ []) block refl named;
  once = refl;
  size_is = refl;
  holds = bytes_held (λ other. content_of (view_of next_found.views 1).seat other) refl;
  rest = rest_over;
}

pub both_reached : IsReached image_a both_put
both_reached = enters_reached image_a next_found 1 1 (Exchange (Image 28) 0 to_second) [] [] (second_call ∷ []) found_reached (omega arith) (one_part 1) tt refl
    (λ seal. absurd (omega (arith, seal)), λ entry. may_put_next) tt refl (record { at_tail = refl; position = refl; seat = refl; number = refl; op = refl; fits = refl })

pub second_loses : SecondLoses
second_loses = (
  lost_reached,
  reached_holds image_a second_lost image_starts lost_reached,
  refl,
  refl,
  refl,
  refl,
  refl,
  refl,
  refl,
  refl,
  λ allowed. (let same = (allowed.step.may.1 (λ seal. omega (arith, seal))).slot in omega (arith, same)),
)

pub two_writers_run : TwoWritersRun
two_writers_run = (
  both_reached,
  reached_holds image_a both_put image_starts both_reached,
  refl,
  refl,
  refl,
  refl,
  refl,
  refl,
  refl,
  refl,
  refl,
  refl,
  refl,
  refl,
  refl,
  refl,
  refl,
  refl,
  refl,
)
