-- A mark keeps what holds of the seat's state, and leaves the others what they know; where it is a sync's, it has to fit the sync.
use Rattle.std.proofs.Common.{◌≡◌, ◌≢◌, ◌++◌, ◌∷◌, ◌<◌, ◌≤◌, subst, true, ℕ, List, [], length, map, refl, sym, ◌∙◌, ap, arith, slice_index}
use Rattle.std.proofs.lemmas.List.{map_push}
use Rattle.std.specs.List.{AllByRecursion}
use Rattle.log_entry.specs.Fields.{field}
use Rattle.log_entry.specs.declared.layouts.TheConstants.{HEAD_GENERATION}
use Rattle.pmem_words.specs.declared.keeps.Task.TheVariants.{Sync}
use Rattle.pmem_words.specs.Seats.{Seat}
use Rattle.asks.specs.declared.ask.Ask.TheVariants.{Mark}
use Rattle.persistence.specs.Memory.{Memory, PendingMark, Cell, cell, index_at, pending_of, memory_after}
use Rattle.persistence.specs.Survivors.{value_at}
use Rattle.persistence.proofs.ValueLemmas.{index_at-now}
use Rattle.log_core.specs.Entries.{head_place}
use Rattle.log_core.specs.Views.{Ghost, MarkedWord, view_of}
use Rattle.log_core.specs.Origin.{Origin, q_of_origin}
use Rattle.log_core.specs.Files.{entries}
use Rattle.log_core.specs.Cores.{Core}
use Rattle.log_core.specs.Records.{mark_of}
use Rattle.log_core.specs.Steps.{MarksWord, effect, ghost_after, stored_marked}
use Rattle.log_core.specs.Invariant.{Invariant, names_by}
use Rattle.log_core.specs.Synced.{SyncMarkHolds}
use Rattle.log_core.specs.Knows.{Knows}
use Rattle.log_core.proofs.clauses.Narrows.{same_narrows}
use Rattle.log_core.proofs.clauses.Leaves.{Leaves, no_changes, moved}
use Rattle.log_core.proofs.clauses.Others.{floor_rises, unspent_made}
use Rattle.log_core.proofs.clauses.SetBlocks.{FitsBlocks, FitsSync, marks_stay, set_blocks}
use Rattle.log_core.proofs.Each.{each_push}
use Rattle.log_core.proofs.Heads.{last_value}
use Rattle.log_core.proofs.clauses.MemoryMoves.{marked_cells, marked_own, marked_others, marked_fits}
use Rattle.log_core.proofs.clauses.OwnWords.{own_marks}
use Rattle.log_core.proofs.clauses.OwnedMarked.{owned_marked}

module _ (o : Origin) (c : Core) (n : ℕ) (s : Seat) (g : Ghost) (pin began word found : ℕ) (inv : Invariant o c) (f : Knows o c n s g pin began) (unspent : (view_of c.views n).parts ≢ []) (inside : word < length o.words)
    (is_found : found ≡ slice_index c.memory.now.words word) where
  abbrev m : Memory
  m = memory_after c.memory n (Mark word)

  abbrev mark : PendingMark
  mark = record { seat = n; word = word; time = length c.memory.past }

  same : (k : ℕ) → cell m k ≡ cell c.memory k
  same = marked_cells o c.memory (length c.views) inv.sizes.words n word

  more : pending_of n m.pending ≡ pending_of n c.memory.pending ++ mark ∷ []
  more = marked_own o c.memory (length c.views) inv.sizes.words n word

  pub mark_leaves : Leaves o c n m
  mark_leaves = record {
    fits = marked_fits o c.memory (length c.views) inv.sizes.words n word (unspent_made c.views n unspent) inside;
    pins = λ k other. refl;
    cells = λ k apart. same_narrows c.memory m k (same k);
    values = λ k j inside. ap (λ (x : Cell). value_at x j) (same k);
    pending = marked_others o c.memory (length c.views) inv.sizes.words n word;
    times = λ time k early. refl;
  }

  -- the mark is of the value found
  mark_is : mark_of (λ k. cell m k) m.past mark ≡ record { word = word; value = found }
  mark_is = ap (λ (value : ℕ). record { word = word; value = value })
      (ap (λ (k : ℕ). value_at (cell m word) k) (index_at-now c.memory.past word)
      ∙ (last_value (cell m word) ∙ (ap (λ (x : Cell). x.present) (same word) ∙ sym is_found)))

  marks_more : map (mark_of (λ k. cell m k) m.past) (pending_of n m.pending) ≡ g.marks ++ record { word = word; value = found } ∷ []
  marks_more = ap (map (mark_of (λ k. cell m k) m.past)) more
      ∙ (map_push (mark_of (λ k. cell m k) m.past) (pending_of n c.memory.pending) mark
      ∙ (ap (λ (marks : List MarkedWord). marks ++ mark_of (λ k. cell m k) m.past mark ∷ []) (own_marks o c n m inv mark_leaves ∙ sym f.marks)
      ∙ ap (λ (last : MarkedWord). g.marks ++ last ∷ []) mark_is))

  fits_blocks : FitsBlocks o n (view_of c.views n) m (λ block. c.owner block) s g s.blocks s.giving.head_fenced (g.marks ++ record { word = word; value = found } ∷ []) (stored_marked g.stored word) g.call.lacked
  fits_blocks = record {
    found = refl;
    named = refl;
    owns = (let r = f.owns.owned in record { listed = r.listed; all = r.all; once = r.once });
    owned = owned_marked (λ k. cell c.memory k) (λ k. cell m k) c.memory.past c.memory.pending m.pending n word g s f.owned (λ k. same_narrows c.memory m k (same k)) (λ k. refl) more _ refl;
    sure = λ fenced. (let sure = f.giving.replaced_sure fenced in let rises = floor_rises o c n m inv mark_leaves in omega (arith, sure, rises));
    marks_fit = sym marks_more;
  }

  -- where the new mark fits a sync, all do
  marked_sync : (s.calling.job ≡ Sync → SyncMarkHolds (q_of_origin o) (names_by o c.logs (entries o c.history) c.generations) (λ k. cell c.memory k) c.memory.past s.hold.generation mark) → (s.calling.job ≡ Sync → s.hold.valid ≡ true) →
      FitsSync o c n m s
  marked_sync new valid = record {
    marks = λ sync. subst (λ (pending : List PendingMark). AllByRecursion (SyncMarkHolds (q_of_origin o) (names_by o c.logs (entries o c.history) c.generations) (λ k. cell m k) m.past s.hold.generation) pending) (sym more)
        (each_push _ (pending_of n c.memory.pending) mark (marks_stay o c n s g pin began m (λ block. c.owner block) inv mark_leaves (no_changes c n) f sync) (now (new sync)));
    valid = λ sync some. valid sync;
  }
    where
      now : SyncMarkHolds (q_of_origin o) (names_by o c.logs (entries o c.history) c.generations) (λ k. cell c.memory k) c.memory.past s.hold.generation mark →
          SyncMarkHolds (q_of_origin o) (names_by o c.logs (entries o c.history) c.generations) (λ k. cell m k) m.past s.hold.generation mark
      now r = record {
        head = λ here. subst (λ (x : Cell). s.hold.generation ≤ field HEAD_GENERATION (value_at x (index_at c.memory.past mark.time head_place))) (sym (same head_place)) (r.head here);
        named = r.named;
        other = λ another. subst (λ (x : Cell). (index_at c.memory.past mark.time word ≡ length x.past) × (x.present ≢ 0)) (sym (same word)) (r.other another);
      }

  pub mark_word_facts : (s.calling.job ≡ Sync → SyncMarkHolds (q_of_origin o) (names_by o c.logs (entries o c.history) c.generations) (λ k. cell c.memory k) c.memory.past s.hold.generation mark) → (s.calling.job ≡ Sync → s.hold.valid ≡ true) →
      Knows o (moved c m (λ block. c.owner block)) n (effect g.marks s (MarksWord word) found) (ghost_after g s (effect g.marks s (MarksWord word) found) (MarksWord word) found) pin began
  mark_word_facts new valid = set_blocks o c n s g pin began m (λ block. c.owner block) inv mark_leaves (no_changes c n) f s.blocks s.giving.head_fenced (g.marks ++ record { word = word; value = found } ∷ []) (stored_marked g.stored word) g.call.lacked fits_blocks
      (marked_sync new valid)
