-- Rows of syncs, splits and joins within runs.
use Rattle.std.proofs.Common.{◌≡◌, false, [], ◌∷◌, refl, inl, inr, arith, ap, subst, Some}
use Rattle.std.proofs.lemmas.Bool.{true≢false, false≢true}
use Rattle.log_entry.specs.declared.calls.Op.{Op}
use Rattle.asks.specs.declared.ask.Place.TheVariants.{Image, Pin}
use Rattle.asks.specs.declared.ask.Ask.TheVariants.{Load, Store, Mark, Fence}
use Rattle.pmem_words.specs.declared.keeps.Task.TheVariants.{Size, Sync}
use Rattle.log_core.specs.Views.{view_of, op_of}
use Rattle.log_core.specs.Cores.{first_core}
use Rattle.log_core.specs.Works.{Begins, StartsFromLog, is_quiet}
use Rattle.log_core.specs.Steps.{Splits, Joins}
use Rattle.log_core.specs.After.{op_or_size}
use Rattle.log_core.specs.May.{MayMark, OfOwned, OfNewHead, OfHead, OfTrail, walked_trail}
use Rattle.log_core.specs.Runs.{IsReached}
use Rattle.log_core.specs.Starts.{IsStart}
use Rattle.log_core.specs.worked_rows.Samples.{image_a}
use Rattle.log_core.specs.worked_rows.Rows.{syncing}
use Rattle.log_core.specs.worked_rows.Refused.{one_made}
use Rattle.log_core.specs.worked_rows.Joined.{SyncRuns, NoMarkOutsideOfSyncs, SeatsAreJoined, sync_begun, sync_stored, sync_pinned, sync_read, sync_walked, sync_marked, sync_fenced, size_asked, split_once, split_loaded, joined_again}
use Rattle.log_core.proofs.row_checks.RowsMay.{word_may_be_marked}
use Rattle.log_core.proofs.row_checks.RowsWrong.{one_part}
use Rattle.log_core.proofs.row_checks.RowsAllowed.{first_reached, reach, step_reached}
use Rattle.log_core.proofs.row_checks.RowTells.{is_sync, is_op}
use Rattle.log_core.proofs.row_checks.RowsStart.{image_starts}
use Rattle.log_core.proofs.row_checks.RowsReached.{reached_holds}

sync_reached : IsReached image_a sync_fenced
sync_reached =
    let begun : IsReached image_a sync_begun = step_reached image_a (first_core image_a) 0 1 (Load (Image 3)) (Begins Sync [] ∷ []) (first_reached image_a) (omega arith) (one_part 0)
    (record { none_runs = refl; not_won = refl; no_head = refl; no_marks = refl; none_laid = refl; steps = sync_steps }, tt) (omega arith) tt in
    let stored : IsReached image_a sync_stored = step_reached image_a sync_begun 0 1 (Store (Pin 0) 1) [] begun (omega arith) (one_part 0) tt refl (record { value_is = inr (λ none. omega (arith, none), refl); no_marks = λ sync. refl }) in
    let pinned : IsReached image_a sync_pinned = step_reached image_a sync_stored 0 1 (Load (Image 3)) [] stored (omega arith) (one_part 0) tt refl tt in
    let read : IsReached image_a sync_read = step_reached image_a sync_pinned 0 1 (Load (Image 25)) [] pinned (omega arith) (one_part 0) tt refl (record { valid = refl; named = refl }) in
    let walked : IsReached image_a sync_walked = step_reached image_a sync_read 0 1 (Load (Image 27)) (StartsFromLog ∷ []) read (omega arith) (one_part 0)
    (record { at_front = record { valid = refl; pinned = refl; front = λ none. cc }; free = record { not_won = refl; none_laid = refl; no_sync = refl; no_head = refl }; no_bases = refl; kind_is = refl }, tt)
    refl (record { valid = refl; named = refl }) in
    let marked : IsReached image_a sync_marked = step_reached image_a sync_walked 0 1 (Mark 3) [] walked (omega arith) (one_part 0) tt refl (OfHead refl refl refl) in
    step_reached image_a sync_marked 0 1 Fence [] marked (omega arith) (one_part 0) tt refl (record { in_sync = λ job tail none. (refl, refl, record { head = refl; each = λ place walked. absurd (false≢true walked) }) })
  where
    sync_steps : (op : Op) → op_of Sync [] ≡ Some op → is_quiet 64 op ≡ false
    sync_steps op same = subst (λ (other : Op). is_quiet 64 other ≡ false) (ap op_or_size same) refl

pub sync_runs : SyncRuns
sync_runs = (
  sync_reached,
  reached_holds image_a sync_fenced image_starts sync_reached,
  refl,
  refl,
  refl,
  refl,
  refl,
  λ may. false≢true (may.in_sync refl refl refl).2.head,
)

no_slot_mark : MayMark (walked_trail image_a syncing size_asked) (view_of syncing.views 0).ghost size_asked 27 → ⊥
no_slot_mark (OfOwned owned other) = false≢true owned
no_slot_mark (OfNewHead same put) = put refl
no_slot_mark (OfHead same sync valid) = false≢true (ap is_sync sync)
no_slot_mark (OfTrail walked sync valid) = false≢true (ap is_sync sync)

no_head_mark : MayMark (walked_trail image_a syncing size_asked) (view_of syncing.views 0).ghost size_asked 3 → ⊥
no_head_mark (OfOwned owned other) = false≢true owned
no_head_mark (OfNewHead same put) = put refl
no_head_mark (OfHead same sync valid) = false≢true (ap is_sync sync)
no_head_mark (OfTrail walked sync valid) = false≢true (ap is_sync sync)

pub no_mark_outside_of_syncs : NoMarkOutsideOfSyncs
no_mark_outside_of_syncs = (word_may_be_marked.5, no_slot_mark, no_head_mark)

one_starts : IsStart one_made
one_starts = (let r = image_starts in record { small = r.small; stands = r.stands; same_shape = r.same_shape; clear = r.clear; bitmap = r.bitmap; seats = record { some = omega arith; few = omega arith; made = inl refl } })

split_reached : IsReached one_made split_once
split_reached = reach (Splits 0) (first_reached one_made) (record { first = refl; made = omega arith; unspent = one_part 0; never_called = refl; room = omega arith })

loaded_reached : IsReached one_made split_loaded
loaded_reached = step_reached one_made split_once 1 1 (Load (Image 3)) (Begins Size [] ∷ []) split_reached (omega arith) (one_part 1)
    (record { none_runs = refl; not_won = refl; no_head = refl; no_marks = refl; none_laid = refl; steps = size_steps }, tt) (omega arith) tt
  where
    size_steps : (op : Op) → op_of Size [] ≡ Some op → is_quiet 64 op ≡ false
    size_steps op same = subst (λ (other : Op). is_quiet 64 other ≡ false) (ap op_or_size same) refl

joined_reached : IsReached one_made joined_again
joined_reached = reach (Joins 0 1) split_reached (record {
  apart = λ same. omega (arith, same);
  made = omega arith;
  made_too = omega arith;
  unspent = one_part 0;
  unspent_too = one_part 1;
  idle = record { no_call = refl; unpinned = refl; nothing_owned = refl; nothing_marked = refl; not_won = refl; no_head = refl; nothing_replaced = refl };
  idle_too = record { no_call = refl; unpinned = refl; nothing_owned = refl; nothing_marked = refl; not_won = refl; no_head = refl; nothing_replaced = refl };
})

pub seats_are_joined : SeatsAreJoined
seats_are_joined = (
  loaded_reached,
  reached_holds one_made split_loaded one_starts loaded_reached,
  refl,
  λ may. true≢false (ap is_op may.idle_too.no_call),
  joined_reached,
  reached_holds one_made joined_again one_starts joined_reached,
  refl,
  refl,
)
