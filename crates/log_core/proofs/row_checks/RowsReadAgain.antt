-- Rows of a read by a snapshot, after a collection.
use Rattle.std.proofs.Common.{◌≡◌, ◌<◌, ◌+◌, ℕ, zero, suc, false, [], ◌∷◌, refl, sym, ap, subst, inr, arith, slice_index, Some}
use Rattle.std.proofs.lemmas.Bool.{false≢true}
use Rattle.log_entry.specs.declared.calls.Op.{Op}
use Rattle.log_entry.specs.declared.shapes.Area.TheVariants.{Log}
use Rattle.asks.specs.declared.ask.Ask.TheVariants.{Load, Store, SetBits}
use Rattle.asks.specs.declared.ask.Place.TheVariants.{Image, Pin, Map}
use Rattle.pmem_words.specs.Maps.{unmapped, listed}
use Rattle.pmem_words.specs.Seats.{Seat}
use Rattle.pmem_words.specs.declared.keeps.Task.TheVariants.{Pwrite, Pread}
use Rattle.log_core.specs.Views.{view_of, op_of}
use Rattle.log_core.specs.Cores.{Core}
use Rattle.log_core.specs.Works.{Begins, StartsFromSnapshot, ReadsRun, EndsReading, Lays, IsByteAt, MayLay, is_quiet, seat_shape}
use Rattle.log_core.specs.Needs.{is_in_area}
use Rattle.log_core.specs.After.{op_or_size}
use Rattle.log_core.specs.Runs.{IsReached}
use Rattle.log_core.specs.worked_rows.Samples.{image_a}
use Rattle.log_core.specs.worked_rows.GivenBack.{given_from, overtaken_from}
use Rattle.log_core.specs.worked_rows.ReadAgain.{asked_from, stored_from, pinned_from, front_from, started_from, run_from, over_from, link_from, read_from, tail_from, byte_from, read_call, told_from, taken_from, early_from, ReadsBySnapshot, ReadAgainRuns, UsedAgain, UsedAgainRuns}
use Rattle.log_core.proofs.row_checks.RowsStart.{image_starts}
use Rattle.log_core.proofs.row_checks.RowsWrong.{one_part}
use Rattle.log_core.proofs.row_checks.RowsAllowed.{step_reached}
use Rattle.log_core.proofs.row_checks.RowsReached.{reached_holds}
use Rattle.log_core.proofs.row_checks.RowsStepped.{enters_reached}
use Rattle.log_core.proofs.row_checks.RowsHeadPut.{put_core, head_put_is}
use Rattle.log_core.proofs.row_checks.RowsWorks.{first_laid}
use Rattle.log_core.proofs.row_checks.RowsOvertaken.{given_reached, overtaken_reached}
use Rattle.log_core.proofs.row_checks.RowsTaken.{all_among}

read_steps : (op : Op) → op_of (Pread 0 4) [] ≡ Some op → is_quiet 64 op ≡ false
read_steps op same = subst (λ (o : Op). is_quiet 64 o ≡ false) (ap op_or_size same) refl

asked_reached : IsReached image_a (asked_from put_core)
asked_reached = step_reached image_a (given_from put_core) 1 2 (Load (Image 3)) (Begins (Pread 0 4) [] ∷ []) given_reached (omega arith) (one_part 1)
    (record { none_runs = refl; not_won = refl; no_head = refl; no_marks = refl; none_laid = refl; steps = read_steps }, tt) (omega arith) tt

stored_reached : IsReached image_a (stored_from put_core)
stored_reached = step_reached image_a (asked_from put_core) 1 2 (Store (Pin 1) 2) [] asked_reached (omega arith) (one_part 1) tt refl
    (record { value_is = inr (λ none. omega (arith, none), refl); no_marks = λ sync. refl })

pinned_reached : IsReached image_a (pinned_from put_core)
pinned_reached = step_reached image_a (stored_from put_core) 1 2 (Load (Image 3)) [] stored_reached (omega arith) (one_part 1) tt refl tt

front_reached : IsReached image_a (front_from put_core)
front_reached = step_reached image_a (pinned_from put_core) 1 2 (Load (Image 41)) [] pinned_reached (omega arith) (one_part 1) tt refl (record { valid = refl; named = refl })

started_reached : IsReached image_a (started_from put_core)
started_reached = enters_reached image_a (front_from put_core) 1 2 (Load (Image 42)) [] (StartsFromSnapshot ∷ []) [] front_reached (omega arith) (one_part 1) tt refl (record { valid = refl; named = refl })
    ((record { at_front = record { valid = refl; pinned = refl; front = λ none. cc }; free = record { not_won = refl; none_laid = refl; no_sync = refl; no_head = refl }; no_bases = refl; kind_is = refl }, λ none. cc), tt)
    refl tt

run_reached : IsReached image_a (run_from put_core)
run_reached = enters_reached image_a (started_from put_core) 1 2 (Load (Image 43)) [] (ReadsRun ∷ []) [] started_reached (omega arith) (one_part 1) tt refl (record { valid = refl; named = refl })
    ((record { valid = refl; reading = refl; pinned = refl }, λ none. omega (arith, none)), tt) refl tt

over_reached : IsReached image_a (over_from put_core)
over_reached = step_reached image_a (run_from put_core) 1 2 (Load (Image 44)) [] run_reached (omega arith) (one_part 1) tt refl (record { valid = refl; named = refl })

link_reached : IsReached image_a (link_from put_core)
link_reached = step_reached image_a (over_from put_core) 1 2 (Load (Image 40)) [] over_reached (omega arith) (one_part 1) tt refl (record { valid = refl; named = refl })

read_reached : IsReached image_a (read_from put_core)
read_reached = enters_reached image_a (link_from put_core) 1 2 (Load (Image 33)) [] (EndsReading ∷ []) [] link_reached (omega arith) (one_part 1) tt refl (record { valid = refl; named = refl })
    (record { reading = record { valid = refl; reading = refl; pinned = refl }; no_more = inr refl; followed = record { link = λ none. cc; next = λ none. cc; kind_is = refl } }, tt) refl tt

tail_reached : IsReached image_a (tail_from put_core)
tail_reached = step_reached image_a (read_from put_core) 1 2 (Load (Image 35)) [] read_reached (omega arith) (one_part 1) tt refl (record { valid = refl; named = refl })

-- seat 1 with the word of block 1
abbrev reader : Seat
reader = (view_of (byte_from put_core).views 1).seat

byte_read : (k : ℕ) → k < 1 → IsByteAt reader (0 + 0 + k) (slice_index (170 ∷ []) k)
unfolding unmapped listed
byte_read zero less = ((λ none. cc), refl)
byte_read (suc k) less = absurd (omega (arith, less))

told_reached : IsReached image_a (told_from put_core)
told_reached = enters_reached image_a (tail_from put_core) 1 2 (Load (Image 8)) [] (Lays (170 ∷ []) ∷ []) (read_call ∷ []) tail_reached (omega arith) (one_part 1) tt refl (record { valid = refl; named = refl })
    (record { reads = record { valid = refl; own_table = refl; at_tail = refl }; offset = 0; count = 4; job = refl; few = omega arith; inside = omega arith; each = byte_read }, tt)
    refl (record { at_tail = refl; position = refl; seat = refl; number = refl; op = refl; fits = (refl, refl) })

other_byte : MayLay reader (171 ∷ []) → ⊥
unfolding unmapped listed
other_byte may = (let byte = (first_laid reader (171 ∷ []) 171 refl (omega arith) refl may).1 in omega (arith, byte))

reads : ReadsBySnapshot put_core
reads = (
  tail_reached,
  reached_holds image_a (tail_from put_core) image_starts tail_reached,
  refl,
  refl,
  refl,
  refl,
  refl,
  refl,
  refl,
  λ allowed. false≢true allowed.step.may.named,
  other_byte,
  told_reached,
  reached_holds image_a (told_from put_core) image_starts told_reached,
  refl,
)

pub read_again_runs : ReadAgainRuns
read_again_runs = subst (λ (c : Core). ReadsBySnapshot c) (sym head_put_is) reads

write_steps : (op : Op) → op_of (Pwrite 0) (187 ∷ []) ≡ Some op → is_quiet 64 op ≡ false
write_steps op same = subst (λ (o : Op). is_quiet 64 o ≡ false) (ap op_or_size same) refl

taken_reached : IsReached image_a (taken_from put_core)
taken_reached = step_reached image_a (told_from put_core) 1 3 (SetBits (Map 0) 8) (Begins (Pwrite 0) (187 ∷ []) ∷ []) told_reached (omega arith) (one_part 1)
    (record { none_runs = refl; not_won = refl; no_head = refl; no_marks = refl; none_laid = refl; steps = write_steps }, tt) (omega arith)
    (record { inside = omega arith; area = Log; in_area = all_among 8 (λ block. is_in_area (seat_shape (view_of (told_from put_core).views 1).seat) Log block) refl; few = omega arith })

early_reached : IsReached image_a (early_from put_core)
early_reached = step_reached image_a (overtaken_from put_core) 1 2 (SetBits (Map 0) 8) (Begins (Pwrite 0) (187 ∷ []) ∷ []) overtaken_reached (omega arith) (one_part 1)
    (record { none_runs = refl; not_won = refl; no_head = refl; no_marks = refl; none_laid = refl; steps = write_steps }, tt) (omega arith)
    (record { inside = omega arith; area = Log; in_area = all_among 8 (λ block. is_in_area (seat_shape (view_of (overtaken_from put_core).views 1).seat) Log block) refl; few = omega arith })

used : UsedAgain put_core
used = (
  taken_reached,
  reached_holds image_a (taken_from put_core) image_starts taken_reached,
  refl,
  refl,
  refl,
  refl,
  early_reached,
  reached_holds image_a (early_from put_core) image_starts early_reached,
  refl,
  refl,
)

pub used_again_runs : UsedAgainRuns
used_again_runs = subst (λ (c : Core). UsedAgain c) (sym head_put_is) used
