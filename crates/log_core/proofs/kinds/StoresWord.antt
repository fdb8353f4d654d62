-- A store into a word of an own block keeps what holds of the seat's state, and leaves the others what they know.
use Rattle.std.proofs.Common.{◌≡◌, ◌≢◌, ◌≤◌, ◌++◌, ◌∷◌, ℕ, List, [], length, refl, sym, ◌∙◌, ap, subst, arith}
use Rattle.std.proofs.lemmas.List.{get_or_append_left}
use Rattle.pmem_words.specs.Seats.{Seat}
use Rattle.asks.specs.declared.ask.Place.TheVariants.{Image}
use Rattle.asks.specs.declared.ask.Ask.TheVariants.{Store}
use Rattle.persistence.specs.Memory.{Memory, PendingMark, Cell, cell, index_at, pending_of, memory_after}
use Rattle.persistence.specs.Steps.{with_value}
use Rattle.persistence.specs.Survivors.{value_at}
use Rattle.log_core.specs.Views.{Ghost, view_of}
use Rattle.log_core.specs.Origin.{Origin, OwnedBy}
use Rattle.log_core.specs.Cores.{Core}
use Rattle.log_core.specs.Owners.{IsListOf}
use Rattle.log_core.specs.Steps.{StoresWord, effect, ghost_after, stored_with}
use Rattle.log_core.specs.May.{MayStoreWord}
use Rattle.log_core.specs.Invariant.{Invariant}
use Rattle.log_core.specs.Knows.{Knows}
use Rattle.log_core.proofs.Each.{each_weaker}
use Rattle.log_core.proofs.clauses.Narrows.{same_narrows}
use Rattle.log_core.proofs.clauses.Leaves.{Leaves, no_changes, moved}
use Rattle.log_core.proofs.clauses.Others.{notes_early, floor_rises}
use Rattle.log_core.proofs.clauses.SetBlocks.{FitsBlocks, notes_stay, set_blocks}
use Rattle.log_core.proofs.clauses.MemoryMoves.{stored_other, stored_here, stored_times, stored_fits}
use Rattle.log_core.proofs.clauses.OwnWords.{word_inside, other_word, own_marks}
use Rattle.log_core.proofs.clauses.OneView.{same_or_other}
use Rattle.log_core.proofs.clauses.OwnedStored.{stored_seat, owned_stored, stored_numbers}

-- a value before the one that is stored
grown_value : (c : Cell) (value k : ℕ) → k ≤ length c.past → value_at (with_value c value) k ≡ value_at c k
grown_value c value k inside = get_or_append_left (c.past ++ c.present ∷ []) (value ∷ []) 0 k
    (let long = Rattle.std.proofs.lemmas.List.length_push c.past c.present in omega (arith, long, inside))

module _ (o : Origin) (c : Core) (n : ℕ) (s : Seat) (g : Ghost) (pin began word value : ℕ) (inv : Invariant o c) (f : Knows o c n s g pin began) (unspent : (view_of c.views n).parts ≢ []) (may : MayStoreWord s word value) where
  abbrev m : Memory
  m = memory_after c.memory n (Store (Image word) value)

  here : cell m word ≡ with_value (cell c.memory word) value
  here = stored_here o c.memory (length c.views) inv.sizes.words n word value (word_inside o c n s g pin began inv f unspent word may.owned)

  others : (k : ℕ) → k ≢ word → cell m k ≡ cell c.memory k
  others = stored_other o c.memory (length c.views) inv.sizes.words n word value

  times : (time k : ℕ) → time ≤ length c.memory.past → index_at m.past time k ≡ index_at c.memory.past time k
  times = stored_times o c.memory (length c.views) inv.sizes.words n word value

  pub store_leaves : Leaves o c n m
  store_leaves = record {
    fits = stored_fits o c.memory (length c.views) inv.sizes.words n word value may.small;
    pins = λ k other. refl;
    cells = λ k apart. same_narrows c.memory m k (others k (other_word o c n s g pin began inv f unspent word may.owned k apart));
    values = λ k j inside. same_or_other k word
        (λ same. subst (λ (w : ℕ). j ≤ length (cell c.memory w).past → value_at (cell m w) j ≡ value_at (cell c.memory w) j) (sym same)
        (λ low. ap (λ (x : Cell). value_at x j) here ∙ grown_value (cell c.memory word) value j low) inside)
        (λ other. ap (λ (x : Cell). value_at x j) (others k other));
    pending = λ k other. refl;
    times = times;
  }

  fits_blocks : FitsBlocks o n (view_of c.views n) m (λ block. c.owner block) s g (stored_seat s word).blocks s.giving.head_fenced g.marks (stored_with g.stored word value) g.call.lacked
  fits_blocks = record {
    found = refl;
    named = refl;
    owns = subst (λ (list : List ℕ). IsListOf (λ block. c.owner block) list (OwnedBy n)) (sym (stored_numbers s word)) f.owns.owned;
    owned = owned_stored (λ k. cell c.memory k) (λ k. cell m k) c.memory.past m.past c.memory.pending n word value g s f.owned
        (λ k other. same_narrows c.memory m k (others k other)) (ap (λ (x : Cell). x.present) here)
        (λ k. each_weaker (λ (note : PendingMark). note.time ≤ length c.memory.past) (λ (note : PendingMark). index_at m.past note.time k ≡ index_at c.memory.past note.time k) (pending_of n c.memory.pending) (λ note early. times note.time k early) (notes_early o c n inv))
        may.owned _ refl;
    sure = λ fenced. (let sure = f.giving.replaced_sure fenced in let rises = floor_rises o c n m inv store_leaves in omega (arith, sure, rises));
    marks_fit = f.marks ∙ sym (own_marks o c n m inv store_leaves);
  }

  pub store_word_facts : (found : ℕ) → Knows o (moved c m (λ block. c.owner block)) n (effect g.marks s (StoresWord word value) found) (ghost_after g s (effect g.marks s (StoresWord word value) found) (StoresWord word value) found) pin began
  store_word_facts found = set_blocks o c n s g pin began m (λ block. c.owner block) inv store_leaves (no_changes c n) f (stored_seat s word).blocks s.giving.head_fenced g.marks (stored_with g.stored word value) g.call.lacked fits_blocks
      (notes_stay o c n s g pin began m (λ block. c.owner block) inv store_leaves (no_changes c n) f (λ sync. refl))
