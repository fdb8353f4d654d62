-- Rows of calls that end with their records: the run, and what is refused.
use Rattle.std.proofs.Common.{◌≡◌, ◌⊎◌, inl, inr, false, [], ◌∷◌, refl, sym, ◌∙◌, ap, arith, subst, Some}
use Rattle.std.proofs.lemmas.Bool.{false≢true}
use Rattle.log_entry.specs.declared.shapes.Area.TheVariants.{Data, Log}
use Rattle.log_entry.specs.declared.calls.WriteRefusal.TheVariants.{NoSpace}
use Rattle.log_entry.specs.declared.calls.Reply.TheVariants.{Wrote, NotWritten}
use Rattle.log_entry.specs.declared.calls.Op.{Op}
use Rattle.log_entry.specs.declared.calls.Op.TheVariants.{Append as AppendOp, Pread as PreadOp, Size as SizeOp, Collect as CollectOp}
use Rattle.pmem_words.specs.declared.keeps.Task.{Task}
use Rattle.pmem_words.specs.declared.keeps.Task.TheVariants.{Append, Pread, Size, Collect}
use Rattle.pmem_words.specs.Seats.{Seat}
use Rattle.asks.specs.declared.ask.Ask.TheVariants.{Load, Store}
use Rattle.asks.specs.declared.ask.Place.TheVariants.{Image, Pin}
use Rattle.log_core.specs.Views.{op_of}
use Rattle.log_core.specs.Cores.{first_core}
use Rattle.log_core.specs.Works.{Begins, StartsFromLog, is_quiet}
use Rattle.log_core.specs.After.{op_or_size}
use Rattle.log_core.specs.Runs.{IsReached}
use Rattle.log_core.specs.worked_rows.Samples.{image_a, pinning}
use Rattle.log_core.specs.worked_rows.Ended.{size_asked, size_told, append_told, collect_told, read_told, CallsEnd, WriteNotPut, SizeBeforeTail, KeptTooEarly}
use Rattle.log_core.proofs.row_checks.RowsStart.{image_starts}
use Rattle.log_core.proofs.row_checks.RowsWrong.{one_part}
use Rattle.log_core.proofs.row_checks.RowsAllowed.{first_reached, step_reached}
use Rattle.log_core.proofs.row_checks.RowsStepped.{enters_reached}
use Rattle.log_core.proofs.row_checks.RowsReached.{reached_holds}
use Rattle.log_core.proofs.row_checks.RowTells.{said}

-- a call of this task makes steps
makes_steps : (task : Task) (op op_again : Op) → op_of task [] ≡ Some op_again → is_quiet 64 op_again ≡ false → op_of task [] ≡ Some op → is_quiet 64 op ≡ false
makes_steps task op op_again asks steps same = subst (λ (o : Op). is_quiet 64 o ≡ false) (ap op_or_size (sym asks ∙ same)) steps

pinned_reached : IsReached image_a (pinning image_a (first_core image_a) 0 Size [] 1)
pinned_reached =
    let begun = step_reached image_a (first_core image_a) 0 1 (Load (Image 3)) (Begins Size [] ∷ []) (first_reached image_a) (omega arith) (one_part 0)
    (record { none_runs = refl; not_won = refl; no_head = refl; no_marks = refl; none_laid = refl; steps = λ op. makes_steps Size op SizeOp refl refl }, tt) (omega arith) tt in
    let stored = step_reached image_a _ 0 1 (Store (Pin 0) 1) [] begun (omega arith) (one_part 0) tt refl (record { value_is = inr (λ none. omega (arith, none), refl); no_marks = λ sync. refl }) in
    step_reached image_a _ 0 1 (Load (Image 3)) [] stored (omega arith) (one_part 0) tt refl tt

asked_reached : IsReached image_a size_asked
asked_reached = step_reached image_a _ 0 1 (Load (Image 25)) [] pinned_reached (omega arith) (one_part 0) tt refl (record { valid = refl; named = refl })

size_reached : IsReached image_a size_told
size_reached = enters_reached image_a size_asked 0 1 (Load (Image 27)) (StartsFromLog ∷ []) [] (_ ∷ []) asked_reached (omega arith) (one_part 0)
    (record { at_front = record { valid = refl; pinned = refl; front = λ none. cc }; free = record { not_won = refl; none_laid = refl; no_sync = refl; no_head = refl }; no_bases = refl; kind_is = refl }, tt)
    refl (record { valid = refl; named = refl }) tt refl (record { at_tail = refl; position = refl; seat = refl; number = refl; op = refl; fits = refl })

append_reached : IsReached image_a append_told
append_reached = enters_reached image_a size_told 0 2 (Load (Image 27)) (Begins Append [] ∷ []) [] (_ ∷ []) size_reached (omega arith) (one_part 0)
    (record { none_runs = refl; not_won = refl; no_head = refl; no_marks = refl; none_laid = refl; steps = λ op. makes_steps Append op (AppendOp []) refl refl }, tt)
    (omega arith) (record { valid = refl; named = refl }) tt refl (record { at_tail = refl; position = refl; seat = refl; number = refl; op = refl; fits = refl })

collect_reached : IsReached image_a collect_told
collect_reached = enters_reached image_a append_told 0 3 (Load (Image 27)) (Begins Collect [] ∷ []) [] (_ ∷ []) append_reached (omega arith) (one_part 0)
    (record { none_runs = refl; not_won = refl; no_head = refl; no_marks = refl; none_laid = refl; steps = λ op. makes_steps Collect op CollectOp refl refl }, tt)
    (omega arith) (record { valid = refl; named = refl }) tt refl (record { at_tail = refl; position = refl; seat = refl; number = refl; op = refl; fits = (refl, refl, refl) })

read_reached : IsReached image_a read_told
read_reached = enters_reached image_a collect_told 0 4 (Load (Image 27)) (Begins (Pread 0 4) [] ∷ []) [] (_ ∷ []) collect_reached (omega arith) (one_part 0)
    (record { none_runs = refl; not_won = refl; no_head = refl; no_marks = refl; none_laid = refl; steps = λ op. makes_steps (Pread 0 4) op (PreadOp 0 4) refl refl }, tt)
    (omega arith) (record { valid = refl; named = refl }) tt refl (record { at_tail = refl; position = refl; seat = refl; number = refl; op = refl; fits = (refl, refl) })

pub calls_end : CallsEnd
calls_end = (
  read_reached,
  reached_holds image_a read_told image_starts read_reached,
  refl,
  refl,
  refl,
  λ allowed. (let enters = allowed.step.enters in
      let size = ap said enters.adds_are.fits in
      let same = ap (λ (s : Seat). s.walk.size) enters.seat_is in
      omega (arith, size, same)),
)

pub write_not_put : WriteNotPut
write_not_put = (
  λ may. refused may.fits,
  λ fits. (let late = (fits.recorded.0 refl).0 in omega (arith, late)),
)
  where
    refused : {A B : Type 0} → ((Wrote 1 ≡ NotWritten (NoSpace Data)) × A) ⊎ ((Wrote 1 ≡ NotWritten (NoSpace Log)) × B) → ⊥
    refused (inl space) = (let same = space.0 in cc)
    refused (inr space) = (let same = space.0 in cc)

pub size_before_tail : SizeBeforeTail
size_before_tail = (
  refl,
  refl,
  λ may. false≢true may.at_tail,
  λ holds. (let late = holds.from_first in omega (arith, late)),
)

pub kept_too_early : KeptTooEarly
kept_too_early = (
  λ may. false≢true may,
  λ holds. (let sure = holds.limbo_sure in omega (arith, sure)),
  refl,
  refl,
  refl,
)
