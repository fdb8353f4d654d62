-- Rows of a run that writes a byte, and of exchanges that are not allowed.
use Rattle.std.proofs.Common.{◌≡◌, ◌<◌, ◌+◌, ◌*◌, ℕ, zero, suc, [], ◌∷◌, refl, sym, ◌∙◌, subst, arith, ap, Some}
use Rattle.std.specs.Prelude.{slice_index}
use Rattle.std.proofs.lemmas.Bool.{false≢true}
use Rattle.log_entry.specs.WordBytes.{word_bytes}
use Rattle.log_entry.specs.declared.calls.Op.TheVariants.{Pwrite as PwriteOp}
use Rattle.log_image.specs.Entries.{direct_meaning}
use Rattle.log_image.specs.Maps.{block_in}
use Rattle.log_image.specs.Image.{is_in_data}
use Rattle.log_image.proofs.HoldingLemmas.{names_none}
use Rattle.asks.specs.declared.ask.Ask.TheVariants.{Load, Exchange}
use Rattle.asks.specs.declared.ask.Place.TheVariants.{Image}
use Rattle.log_core.specs.Files.{byte_in}
use Rattle.log_core.specs.Works.{StartsFromLog}
use Rattle.log_core.specs.Steps.{content_of}
use Rattle.log_core.specs.May.{MayCommit, is_fenced}
use Rattle.log_core.specs.Runs.{Allowed, IsReached}
use Rattle.log_core.specs.worked_rows.Samples.{image_a, small_shape, step_of, stepping}
use Rattle.log_core.specs.worked_rows.Rows.{to_first, first_call}
use Rattle.log_core.specs.worked_rows.Refused.{seat_zero}
use Rattle.log_core.specs.worked_rows.AllowedSteps.{own_fenced}
use Rattle.log_core.specs.worked_rows.Written.{own_at_tail, own_put, WriteRuns, EntriesNotPut}
use Rattle.log_core.proofs.row_checks.RowChecks.{in_all, below_same}
use Rattle.log_core.proofs.row_checks.RowTells.{none_not_some, number_of}
use Rattle.log_core.proofs.row_checks.RowsStart.{image_starts}
use Rattle.log_core.proofs.row_checks.RowsWrong.{one_part}
use Rattle.log_core.proofs.row_checks.RowsMay.{rest_held, size_of}
use Rattle.log_core.proofs.row_checks.RowsAllowed.{reach, step_reached}
use Rattle.log_core.proofs.row_checks.RowsReached.{reached_holds, fenced_reached}

front_reached : IsReached image_a (stepping image_a own_fenced 0 (Load (Image 25)) 1 [] [])
front_reached = step_reached image_a own_fenced 0 1 (Load (Image 25)) [] fenced_reached (omega arith) (one_part 0) tt refl (record { valid = refl; named = refl })

pub tail_reached : IsReached image_a own_at_tail
tail_reached = step_reached image_a _ 0 1 (Load (Image 27)) (StartsFromLog ∷ []) front_reached (omega arith) (one_part 0)
    (record { at_front = record { valid = refl; pinned = refl; front = λ none. cc }; free = record { not_won = refl; none_laid = refl; no_sync = refl; no_head = refl }; no_bases = refl; kind_is = refl }, tt)
    refl (record { valid = refl; named = refl })

bytes_held : (virt block at : ℕ) → block_in (direct_meaning to_first) virt ≡ Some block → at < 64
    → byte_in (λ other. content_of (seat_zero own_at_tail) other) (Some block) at ≡ slice_index (170 ∷ []) (virt * 64 + at)
bytes_held zero block at found inside =
    subst (λ (b : ℕ). byte_in (λ other. content_of (seat_zero own_at_tail) other) (Some b) at ≡ slice_index (170 ∷ []) (0 * 64 + at)) (ap number_of found)
    (below_same 64 (λ k. slice_index (word_bytes (content_of (seat_zero own_at_tail) 1)) k) (λ k. slice_index (170 ∷ []) (0 * 64 + k)) at refl inside)
bytes_held (suc virt) block at found inside = absurd (none_not_some block (sym (names_none (direct_meaning to_first) (suc virt) (omega arith)) ∙ found))

pub may_put : MayCommit image_a [] (seat_zero own_at_tail) 27 to_first
may_put = record {
  at_tail = record { valid = refl; ready = refl; not_won = refl; at_tail = refl };
  slot = refl;
  inside = omega arith;
  small = omega arith;
  op = PwriteOp 0 (170 ∷ []);
  job = refl;
  is_write = refl;
  allowed = refl;
  form = refl;
  owned = λ block named. in_all (λ b. is_fenced (seat_zero own_at_tail).blocks.owned b) (1 ∷ []) block refl named;
  in_data = λ block named. in_all (λ b. is_in_data small_shape b) (1 ∷ []) block refl named;
  once = refl;
  size_is = refl;
  holds = bytes_held;
  rest = rest_held;
}

put_allowed : Allowed image_a own_at_tail (step_of image_a own_at_tail 0 (Exchange (Image 27) 0 to_first) 1 [] [] (first_call ∷ []))
put_allowed = record {
  made = omega arith;
  unspent = one_part 0;
  step = record {
    begins = record { works = []; may = tt; gives = refl };
    number = refl;
    may = (λ seal. absurd (omega (arith, seal)), λ entry. may_put);
    enters = record {
      last = _;
      computed = record { works = []; may = tt; gives = refl };
      going_on = refl;
      adds_are = record { at_tail = refl; position = refl; seat = refl; number = refl; op = refl; fits = refl };
      seat_is = refl;
    };
  };
}

pub put_reached : IsReached image_a own_put
put_reached = reach (step_of image_a own_at_tail 0 (Exchange (Image 27) 0 to_first) 1 [] [] (first_call ∷ [])) tail_reached put_allowed

pub write_runs : WriteRuns
write_runs = (put_reached, reached_holds image_a own_put image_starts put_reached, refl, refl, refl, refl, refl, refl, refl, refl)

pub entries_not_put : EntriesNotPut
entries_not_put = (
  λ allowed. false≢true ((allowed.step.may.1 (λ seal. omega (arith, seal))).owned 1 refl),
  λ allowed. false≢true ((allowed.step.may.1 (λ seal. omega (arith, seal))).owned 2 refl),
  λ allowed. (let size = size_of (seat_zero own_at_tail) 272678883950593 (PwriteOp 0 (170 ∷ [])) refl (allowed.step.may.1 (λ seal. omega (arith, seal))) in omega (arith, size)),
  λ allowed. (let small = (allowed.step.may.1 (λ seal. omega (arith, seal))).small in omega (arith, small)),
)
