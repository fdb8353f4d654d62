-- A fence keeps the invariant, that of a sync too, which gives the position that the sync answers.
use Rattle.std.proofs.Common.{◌≡◌, ◌≢◌, ◌<◌, ℕ, true, List, [], length, refl, sym, ◌∙◌, ap, subst, ◌⊎◌, inl, inr, max, slice_index, slice_set, Option, Some, None}
use Rattle.std.proofs.lemmas.List.{get_or-set_same, length-set, set-set}
use Rattle.pmem_words.specs.declared.keeps.Task.TheVariants.{Sync}
use Rattle.asks.specs.declared.ask.Ask.TheVariants.{Fence}
use Rattle.persistence.specs.Memory.{cell, memory_after}
use Rattle.log_core.specs.Views.{View, view_of, spent_view, op_in}
use Rattle.log_core.specs.Origin.{Origin, shape}
use Rattle.log_core.specs.Files.{end_of}
use Rattle.log_core.specs.Cores.{Core, head_floor}
use Rattle.log_core.specs.May.{IsAllMarked, walked_trail}
use Rattle.log_core.specs.Synced.{IsSynced}
use Rattle.log_core.specs.Steps.{Note, Fences, is_begun, sync_fenced, view_after}
use Rattle.log_core.specs.After.{stepped, began_if, synced_to}
use Rattle.log_core.specs.Runs.{ghost_at, effect_at, ghost_left}
use Rattle.log_core.specs.Invariant.{Invariant}
use Rattle.log_core.specs.Knows.{with_seat, Knows}
use Rattle.log_core.proofs.clauses.Leaves.{Leaves, moved, no_changes, changes_leave}
use Rattle.log_core.proofs.clauses.SetCore.{set_core}
use Rattle.log_core.proofs.clauses.SyncedRises.{answered_from}
use Rattle.log_core.proofs.kinds.Entered.{entered}
use Rattle.log_core.proofs.kinds.Fences.{sync_fences, fenced_seat, fence_leaves, fence_facts}
use Rattle.log_core.proofs.kinds.SyncFence.{synced_words}
use Rattle.log_core.proofs.kinds.StepHolds.{Keeps, began_fits, began_others, began_lows, at_ask, kind_holds}

module _ (o : Origin) (c : Core) (n : ℕ) (inv : Invariant o c) (here : n < length c.views) (unspent : (view_of c.views n).parts ≢ []) (note : Note) where
  abbrev mine : View
  mine = view_of c.views n

  abbrev began : List ℕ
  began = began_if (is_begun (op_in mine.seat) (op_in note.before)) c.began n (end_of o c.history)

  -- a fence: the position that a sync answers stays, or the fence gives it
  pub fence_holds : Keeps o c n inv here unspent note Fences 0 (Invariant o (stepped o c n Fence note Fences 0))
  fence_holds step = by (sync_fences note.before.calling.job note.before.walk.at_tail note.before.walk.position note.before.calling.sync_to)
    where
      asked : Knows o c n note.before (ghost_at mine note) (slice_index c.memory.now.pins n) (slice_index began n)
      asked = at_ask o c n inv here unspent note Fences 0 step

      same_to : (to : Option ℕ) → synced_to c.synced to to ≡ c.synced
      same_to None = refl
      same_to (Some position) = refl

      -- the state after the fence, with this position
      fenced_facts : Knows o (moved c (memory_after c.memory n Fence) (λ block. c.owner block)) n (fenced_seat o c n note.before (ghost_at mine note) (slice_index c.memory.now.pins n) (slice_index began n) inv asked note.before.calling.sync_to)
          (ghost_left mine note Fences 0) (slice_index c.memory.now.pins n) (slice_index began n)
      fenced_facts = fence_facts o c n note.before (ghost_at mine note) (slice_index c.memory.now.pins n) (slice_index began n) inv asked 0

      leaves : Leaves o c n (memory_after c.memory n Fence)
      leaves = fence_leaves o c n note.before (ghost_at mine note) (slice_index c.memory.now.pins n) (slice_index began n) inv asked

      by : (sync_fenced note.before.calling.job note.before.walk.at_tail note.before.walk.position note.before.calling.sync_to ≡ note.before.calling.sync_to)
          ⊎ ((note.before.calling.job ≡ Sync) × (note.before.walk.at_tail ≡ true) × (note.before.calling.sync_to ≡ None)
          × (sync_fenced note.before.calling.job note.before.walk.at_tail note.before.walk.position note.before.calling.sync_to ≡ Some note.before.walk.position)) →
          Invariant o (stepped o c n Fence note Fences 0)
      by (inl same) = subst (λ (synced : ℕ). Invariant o (record c { memory = memory_after c.memory n Fence; views = slice_set c.views n (view_after mine Fences note 0); synced = synced; began = began }))
          (sym (ap (synced_to c.synced note.before.calling.sync_to) same ∙ same_to note.before.calling.sync_to))
          (kind_holds o c n inv here unspent note Fences 0 step (memory_after c.memory n Fence) c.owner leaves (no_changes c n) inv.owners.bits
          (subst (λ (to : Option ℕ). Knows o (moved c (memory_after c.memory n Fence) (λ block. c.owner block)) n (fenced_seat o c n note.before (ghost_at mine note) (slice_index c.memory.now.pins n) (slice_index began n) inv asked to)
          (ghost_left mine note Fences 0) (slice_index c.memory.now.pins n) (slice_index began n)) (sym same) fenced_facts))
      by (inr rises) = subst (λ (synced : ℕ). Invariant o (record c { memory = memory_after c.memory n Fence; views = slice_set c.views n (view_after mine Fences note 0); synced = synced; began = began }))
          (sym (ap (λ (to : Option ℕ). synced_to c.synced to (sync_fenced note.before.calling.job note.before.walk.at_tail note.before.walk.position note.before.calling.sync_to)) rises.2 ∙ ap (λ (to : Option ℕ). synced_to c.synced None to) rises.3))
          (entered o c n note Fences 0 here unspent step (record c { memory = memory_after c.memory n Fence; synced = max c.synced note.before.walk.position; began = began })
          (subst (λ (views : List View). Invariant o (record c { memory = memory_after c.memory n Fence; views = views; synced = max c.synced note.before.walk.position; began = began })) views_are
          (answered_from o still still_holds note.before.walk.position words (asked.walk unspent).to_end n still_view (get_or-set_same c.views n still_view spent_view here) (subst (λ (k : ℕ). n < k) (sym (length-set c.views n still_view)) here)
          unspent rises.0 refl rises.1)))
        where
          still_view : View
          still_view = with_seat mine (fenced_seat o c n note.before (ghost_at mine note) (slice_index c.memory.now.pins n) (slice_index began n) inv asked note.before.calling.sync_to) (ghost_left mine note Fences 0)

          still : Core
          still = record c { memory = memory_after c.memory n Fence; views = slice_set c.views n still_view; began = began }

          still_holds : Invariant o still
          still_holds = set_core o c n _ (ghost_left mine note Fences 0) (memory_after c.memory n Fence) c.owner began inv here unspent leaves (changes_leave o c n _ _ c.owner (no_changes c n)) inv.owners.bits fenced_facts
              (began_fits o c n inv here unspent note) (began_others o c n inv here unspent note) (began_lows o c n inv here unspent note)

          conditions : (note.before.hold.valid ≡ true) × (note.before.walk.ready ≡ true) × IsAllMarked (walked_trail o c note.before) mine.ghost.marks
          conditions = step.may.in_sync rises.0 rises.1 rises.2

          words : IsSynced (shape o) (λ word. cell (memory_after c.memory n Fence) word) c.generations c.logs (head_floor (memory_after c.memory n Fence)) note.before.walk.position
          words = synced_words o c n note.before (ghost_at mine note) (slice_index c.memory.now.pins n) (slice_index began n) inv asked unspent rises.0 conditions.0 conditions.1 conditions.2

          views_are : slice_set (slice_set c.views n still_view) n (with_seat still_view (record (still_view.seat) { calling = record (still_view.seat.calling) { sync_to = Some note.before.walk.position } }) still_view.ghost)
              ≡ slice_set c.views n (with_seat mine (effect_at mine note Fences 0) (ghost_left mine note Fences 0))
          views_are = set-set c.views n still_view (with_seat still_view (record (still_view.seat) { calling = record (still_view.seat.calling) { sync_to = Some note.before.walk.position } }) still_view.ghost)
              ∙ ap (λ (to : Option ℕ). slice_set c.views n (with_seat mine (fenced_seat o c n note.before (ghost_at mine note) (slice_index c.memory.now.pins n) (slice_index began n) inv asked to) (ghost_left mine note Fences 0))) (sym rises.3)
