-- A fence keeps what holds of the seat's state, and leaves the others what they know. The position that a sync answers from then on is
-- said apart.
use Rattle.std.proofs.Common.{◌≡◌, ◌≢◌, ◌<◌, ◌≤◌, ◌+◌, ◌==◌, ◌&&◌, ◌||◌, ◌⊎◌, ⊎_elim, inl, inr, ℕ, Bool, true, false, List, [], length, map, refl, sym, ◌∙◌, ap, subst, arith, nat_lt, Option, Some, None}
use Rattle.std.specs.List.{AllByRecursion, list_any}
use Rattle.std.proofs.lemmas.Bool.{eqb-true, ltb-true}
use Rattle.log_entry.specs.Fields.{field}
use Rattle.log_entry.specs.declared.layouts.TheConstants.{HEAD_GENERATION}
use Rattle.pmem_words.specs.declared.keeps.Task.{Task}
use Rattle.pmem_words.specs.declared.keeps.Task.TheVariants.{Sync}
use Rattle.pmem_words.specs.Seats.{Seat}
use Rattle.asks.specs.declared.ask.Ask.TheVariants.{Fence}
use Rattle.persistence.specs.Memory.{Memory, PendingMark, cell, index_at, pending_of, memory_after}
use Rattle.persistence.specs.Survivors.{value_at}
use Rattle.persistence.proofs.ValueLemmas.{index_at-most}
use Rattle.log_core.specs.Entries.{head_place}
use Rattle.log_core.specs.Views.{Ghost, MarkedWord, view_of}
use Rattle.log_core.specs.Origin.{Origin, q_of_origin, OwnedBy, first_generation}
use Rattle.log_core.specs.Order.{nth_generation, front_of}
use Rattle.log_core.specs.Cores.{Core, head_floor}
use Rattle.log_core.specs.Owners.{IsListOf}
use Rattle.log_core.specs.Records.{mark_of}
use Rattle.log_core.specs.Steps.{Fences, effect, ghost_after, sync_fenced, is_head_marked}
use Rattle.log_core.specs.Invariant.{Invariant, names_by}
use Rattle.log_core.specs.Files.{entries}
use Rattle.log_core.specs.Synced.{SyncMarkHolds}
use Rattle.log_core.specs.Knows.{Knows}
use Rattle.log_core.proofs.Each.{any_each, any_map}
use Rattle.log_core.proofs.clauses.Narrows.{Narrows, value_narrows}
use Rattle.log_core.proofs.clauses.Leaves.{Leaves, no_changes, moved}
use Rattle.log_core.proofs.clauses.Others.{floor_rises}
use Rattle.log_core.proofs.clauses.SetBlocks.{FitsBlocks, FitsSync, set_blocks}
use Rattle.log_core.proofs.Heads.{generation_field, last_place}
use Rattle.log_core.proofs.clauses.MemoryMoves.{fenced_narrows, fenced_own, fenced_others, fenced_fits, fenced_reaches, fenced_present}
use Rattle.log_core.proofs.clauses.OwnedFenced.{fenced_blocks, fenced_numbers, owned_fenced}

both : (a b : Bool) → (a && b) ≡ true → (a ≡ true) × (b ≡ true)
both true true e = (refl, refl)
both true false e = cc
both false b e = cc

either : (a b : Bool) → (a || b) ≡ true → (a ≡ true) ⊎ (b ≡ true)
either true b e = inl refl
either false b e = inr e

-- the position that a sync answers stays, or the fence gives it
pub sync_fences : (job : Task) (at_tail : Bool) (position : ℕ) (sync_to : Option ℕ) →
    (sync_fenced job at_tail position sync_to ≡ sync_to) ⊎ ((job ≡ Sync) × (at_tail ≡ true) × (sync_to ≡ None) × (sync_fenced job at_tail position sync_to ≡ Some position))
sync_fences Sync true position None = inr (refl, refl, refl, refl)
sync_fences Sync true position (Some to) = inl refl
sync_fences Sync false position sync_to = inl refl
sync_fences _ at_tail position sync_to = inl refl

-- no position is synced but by a sync
pub no_sync_fenced : (job : Task) (at_tail : Bool) (position : ℕ) (sync_to : Option ℕ) → job ≢ Sync → sync_fenced job at_tail position sync_to ≡ sync_to
no_sync_fenced job at_tail position sync_to other = ⊎_elim (λ same. same) (λ rises. absurd (other rises.0)) (sync_fences job at_tail position sync_to)

module _ (o : Origin) (c : Core) (n : ℕ) (s : Seat) (g : Ghost) (pin began : ℕ) (inv : Invariant o c) (f : Knows o c n s g pin began) where
  abbrev m : Memory
  m = memory_after c.memory n Fence

  narrows : (k : ℕ) → Narrows (cell c.memory k) (cell m k)
  narrows = fenced_narrows o c.memory (length c.views) inv.sizes.words n

  pub fence_leaves : Leaves o c n m
  fence_leaves = record {
    fits = fenced_fits o c.memory (length c.views) inv.sizes.words n;
    pins = λ k other. refl;
    cells = λ k apart. narrows k;
    values = λ k j inside. value_narrows (cell c.memory k) (cell m k) (narrows k) j;
    pending = fenced_others o c.memory (length c.views) inv.sizes.words n;
    times = λ time k early. refl;
  }

  -- each value of the head is of the generation of its place
  pub value_generation : (place : ℕ) → place ≤ length (cell c.memory head_place).past → field HEAD_GENERATION (value_at (cell c.memory head_place) place) ≡ first_generation o + place
  value_generation place low =
      (let count = last_place o c inv in
      let few = inv.order.heads.few in
      let inside : place < length c.generations = omega (arith, count, low) in
      ap (field HEAD_GENERATION) (inv.order.heads.each place inside)
      ∙ generation_field (first_generation o + place) (front_of c.logs (nth_generation c.generations place)) (omega (arith, few, inside)) (inv.order.heads.small place inside))

  -- a head that was marked outlasts a crash from the fence on, or a later one does
  head_sure : is_head_marked s.giving.replaced_generation g.marks ≡ true → s.giving.replaced_generation < first_generation o + head_floor m
  head_sure marked = any_each (λ (note : PendingMark). index_at c.memory.past note.time note.word ≤ (cell m note.word).floor) (λ (note : PendingMark). is_above (mark_of (λ word. cell c.memory word) c.memory.past note)) (pending_of n c.memory.pending)
      (sym (any_map (mark_of (λ word. cell c.memory word) c.memory.past) is_above (pending_of n c.memory.pending)) ∙ (ap (list_any is_above) (sym f.marks) ∙ marked))
      (fenced_reaches o c.memory (length c.views) inv.sizes.words n) at_note
    where
      is_above : MarkedWord → Bool
      is_above mark = (mark.word == head_place) && nat_lt s.giving.replaced_generation (field HEAD_GENERATION mark.value)

      at_note : (note : PendingMark) → ((note.word == head_place) && nat_lt s.giving.replaced_generation (field HEAD_GENERATION (value_at (cell c.memory note.word) (index_at c.memory.past note.time note.word)))) ≡ true →
          index_at c.memory.past note.time note.word ≤ (cell m note.word).floor → s.giving.replaced_generation < first_generation o + head_floor m
      at_note note above reaches =
          (let parts = both (note.word == head_place) (nat_lt s.giving.replaced_generation (field HEAD_GENERATION (value_at (cell c.memory note.word) (index_at c.memory.past note.time note.word)))) above in
          let here = eqb-true note.word head_place parts.0 in
          let low : index_at c.memory.past note.time head_place ≤ head_floor m = subst (λ (w : ℕ). index_at c.memory.past note.time w ≤ (cell m w).floor) here reaches in
          let test : nat_lt s.giving.replaced_generation (field HEAD_GENERATION (value_at (cell c.memory head_place) (index_at c.memory.past note.time head_place))) ≡ true =
          subst (λ (w : ℕ). nat_lt s.giving.replaced_generation (field HEAD_GENERATION (value_at (cell c.memory w) (index_at c.memory.past note.time w))) ≡ true) here parts.1 in
          let is = value_generation (index_at c.memory.past note.time head_place) (index_at-most c.memory.past note.time head_place) in
          let above_it : s.giving.replaced_generation < field HEAD_GENERATION (value_at (cell c.memory head_place) (index_at c.memory.past note.time head_place)) = ltb-true s.giving.replaced_generation _ test in
          omega (arith, above_it, is, low))

  fits_blocks : FitsBlocks o n (view_of c.views n) m (λ block. c.owner block) s g (fenced_blocks s) (s.giving.head_fenced || is_head_marked s.giving.replaced_generation g.marks) [] g.stored g.call.lacked
  fits_blocks = record {
    found = refl;
    named = refl;
    owns = subst (λ (list : List ℕ). IsListOf (λ block. c.owner block) list (OwnedBy n)) (sym (fenced_numbers s)) f.owns.owned;
    owned = owned_fenced (λ k. cell c.memory k) (λ k. cell m k) c.memory.past c.memory.pending m.pending n (s.giving.head_fenced || is_head_marked s.giving.replaced_generation g.marks) g s f.owned narrows
        (fenced_present o c.memory (length c.views) inv.sizes.words n) _ refl;
    sure = λ fenced. ⊎_elim
        (λ (old : s.giving.head_fenced ≡ true). (let sure = f.giving.replaced_sure old in let rises = floor_rises o c n m inv fence_leaves in omega (arith, sure, rises)))
        head_sure
        (either s.giving.head_fenced (is_head_marked s.giving.replaced_generation g.marks) fenced);
    marks_fit = sym (ap (map (mark_of (λ k. cell m k) m.past)) (fenced_own o c.memory (length c.views) inv.sizes.words n));
  }

  -- no mark of the seat is left
  fits_sync : FitsSync o c n m s
  fits_sync = record {
    marks = λ sync. subst (λ (pending : List PendingMark). AllByRecursion (SyncMarkHolds (q_of_origin o) (names_by o c.logs (entries o c.history) c.generations) (λ k. cell m k) m.past s.hold.generation) pending)
        (sym (fenced_own o c.memory (length c.views) inv.sizes.words n)) tt;
    valid = λ sync some. absurd (some (fenced_own o c.memory (length c.views) inv.sizes.words n));
  }

  -- the state after it, but for the position that a sync answers
  abbrev pub fenced_seat : Option ℕ → Seat
  fenced_seat to = record s {
    calling = record (s.calling) { sync_to = to };
    blocks = fenced_blocks s;
    giving = record (s.giving) { head_fenced = s.giving.head_fenced || is_head_marked s.giving.replaced_generation g.marks };
  }

  pub fence_facts : (found : ℕ) → Knows o (moved c m (λ block. c.owner block)) n (fenced_seat s.calling.sync_to) (ghost_after g s (effect g.marks s Fences found) Fences found) pin began
  fence_facts found = set_blocks o c n s g pin began m (λ block. c.owner block) inv fence_leaves (no_changes c n) f (fenced_blocks s) (s.giving.head_fenced || is_head_marked s.giving.replaced_generation g.marks) [] g.stored g.call.lacked fits_blocks fits_sync
