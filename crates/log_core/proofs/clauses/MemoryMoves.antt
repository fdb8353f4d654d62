-- What a store, a mark and a fence make of a memory.
use Rattle.std.proofs.Common.{◌≡◌, ◌≢◌, ◌<◌, ◌≤◌, ◌+◌, ◌==◌, ◌&&◌, inl, inr, ⊎_elim, ℕ, Bool, true, false, not, [], ◌∷◌, ◌++◌, length, Contains, refl, sym, ◌∙◌, subst, arith, slice_index, ◌^◌}
use Rattle.std.specs.List.{AllByRecursion, list_any}
use Rattle.std.proofs.lemmas.Bool.{eqb-true}
use Rattle.std.proofs.lemmas.Bool.Decides.{leb_tells}
use Rattle.std.proofs.lemmas.List.{length-set, length_push, get_or_past}
use Rattle.std.proofs.lemmas.List.Elements.{All-from_recursion, recursion_from_All, All-contains_itself}
use Rattle.asks.specs.declared.ask.Place.TheVariants.{Image}
use Rattle.asks.specs.declared.ask.Ask.TheVariants.{Store, Mark, Fence}
use Rattle.persistence.specs.Memory.{Memory, PendingMark, cell, index_at, pending_of, memory_after, Replaced}
use Rattle.persistence.specs.Steps.{IsOrderly, with_value}
use Rattle.persistence.proofs.CellLaws.{stores_grow_cells, others_leave_cells}
use Rattle.persistence.proofs.FenceLaws.{fences_raise_floors, fences_forget_own_marks, steps_keep_order, pending_of-push_own, pending_of-push_other}
use Rattle.persistence.proofs.ValueLemmas.{index_at-grown}
use Rattle.log_core.specs.Origin.{Origin}
use Rattle.log_core.specs.Sizes.{MemoryFits}
use Rattle.log_core.specs.Owned.{is_of_present, IsMarkedNow}
use Rattle.log_core.proofs.Each.{each_weaker, each_push, each_both, each_filter, any_each, each_replaced, each_word}
use Rattle.log_core.proofs.clauses.Narrows.{Narrows, floor_inside}

module _ (o : Origin) (m : Memory) (views : ℕ) (fits : MemoryFits o m views) where
  abbrev IsKnown : PendingMark → Type 0
  IsKnown note = (note.seat < views) × (note.word < length o.words) × (note.time ≤ length m.past)

  pub orderly : IsOrderly m
  orderly = record {
    floors = fits.floors ∙ sym fits.words;
    reached = fits.reached;
    noted = All-from_recursion (λ (note : PendingMark). note.time ≤ length m.past) m.pending (each_weaker IsKnown (λ (note : PendingMark). note.time ≤ length m.past) m.pending (λ note known. known.2) fits.pending);
  }

  -- a store of an image word
  module _ (n word value : ℕ) where
    abbrev stored : Memory
    stored = memory_after m n (Store (Image word) value)

    one_more : length stored.past ≡ length m.past + 1
    one_more = length_push m.past (record { word = word; value = slice_index m.now.words word })

    pub stored_other : (k : ℕ) → k ≢ word → cell stored k ≡ cell m k
    stored_other k other = others_leave_cells m n (Store (Image word) value) k orderly (λ same. (let e : word ≡ k = cc in other (sym e)))

    pub stored_here : word < length o.words → cell stored word ≡ with_value (cell m word) value
    stored_here inside = stores_grow_cells m n (Store (Image word) value) word orderly (subst (λ (count : ℕ). word < count) (sym fits.words) inside) refl refl

    pub stored_times : (time k : ℕ) → time ≤ length m.past → index_at stored.past time k ≡ index_at m.past time k
    stored_times time k reached = index_at-grown m.past (record { word = word; value = slice_index m.now.words word } ∷ []) time k reached

    pub stored_fits : value < 2 ^ 64 → MemoryFits o stored views
    stored_fits small = (let order = steps_keep_order m n (Store (Image word) value) orderly in record {
      words = length-set m.now.words word value ∙ fits.words;
      taken = fits.taken;
      pins = fits.pins;
      floors = fits.floors;
      reached = order.reached;
      small = each_replaced (λ (w : ℕ). w < 2 ^ 64) m.now.words word value fits.small small;
      small_past = each_push (λ (r : Replaced). r.value < 2 ^ 64) m.past (record { word = word; value = slice_index m.now.words word }) fits.small_past (each_word m.now.words word fits.small);
      pending = each_weaker IsKnown (λ (note : PendingMark). (note.seat < views) × (note.word < length o.words) × (note.time ≤ length stored.past)) m.pending
          (λ note known. (known.0, known.1, (let old = known.2 in let more = one_more in omega (arith, old, more)))) fits.pending;
    })

  -- a mark of an image word
  module _ (n word : ℕ) where
    abbrev marked : Memory
    marked = memory_after m n (Mark word)

    abbrev mark : PendingMark
    mark = record { seat = n; word = word; time = length m.past }

    pub marked_cells : (k : ℕ) → cell marked k ≡ cell m k
    marked_cells k = others_leave_cells m n (Mark word) k orderly tt

    pub marked_own : pending_of n marked.pending ≡ pending_of n m.pending ++ mark ∷ []
    marked_own = pending_of-push_own m.pending mark

    pub marked_others : (k : ℕ) → k ≢ n → pending_of k marked.pending ≡ pending_of k m.pending
    marked_others k other = pending_of-push_other k m.pending mark other

    pub marked_fits : n < views → word < length o.words → MemoryFits o marked views
    marked_fits made inside = record {
      words = length-set m.now.words word (slice_index m.now.words word) ∙ fits.words;
      taken = fits.taken;
      pins = fits.pins;
      floors = fits.floors;
      reached = fits.reached;
      small = each_replaced (λ (w : ℕ). w < 2 ^ 64) m.now.words word (slice_index m.now.words word) fits.small (each_word m.now.words word fits.small);
      small_past = fits.small_past;
      pending = each_push IsKnown m.pending mark fits.pending (made, inside, omega arith);
    }

  -- a fence
  module _ (n : ℕ) where
    abbrev fenced : Memory
    fenced = memory_after m n Fence

    pub fenced_narrows : (k : ℕ) → Narrows (cell m k) (cell fenced k)
    fenced_narrows k = record { present = refl; past = refl; floor = floor; inside = floor_inside fenced k }
      where
        floor : (cell m k).floor ≤ (cell fenced k).floor
        floor = elim (leb_tells (length m.now.words) k) [
          | inl out ↦ (let none : slice_index m.floors k ≡ 0 = get_or_past m.floors k 0 (let long = orderly.floors in omega (arith, long, out.1)) in rw none (omega arith))
          | inr here ↦ (fences_raise_floors m n k orderly here.1).2.not_lower
        ]

    pub fenced_own : pending_of n fenced.pending ≡ []
    fenced_own = (fences_forget_own_marks m n).0

    pub fenced_others : (k : ℕ) → k ≢ n → pending_of k fenced.pending ≡ pending_of k m.pending
    fenced_others k other = (fences_forget_own_marks m n).1 k other

    pub fenced_fits : MemoryFits o fenced views
    fenced_fits = (let order = steps_keep_order m n Fence orderly in record {
      words = fits.words;
      taken = fits.taken;
      pins = fits.pins;
      floors = order.floors ∙ fits.words;
      reached = order.reached;
      small = fits.small;
      small_past = fits.small_past;
      pending = each_filter IsKnown (λ (note : PendingMark). not (note.seat == n)) m.pending (each_weaker IsKnown (λ (note : PendingMark). not (note.seat == n) ≡ true → IsKnown note) m.pending (λ note known other. known) fits.pending);
    })

    -- the floor is at least what the seat's marks name
    pub fenced_reaches : AllByRecursion (λ (note : PendingMark). index_at m.past note.time note.word ≤ (cell fenced note.word).floor) (pending_of n m.pending)
    fenced_reaches = each_filter (λ (note : PendingMark). index_at m.past note.time note.word ≤ (cell fenced note.word).floor) (λ (note : PendingMark). note.seat == n) m.pending
        (each_weaker (λ (note : PendingMark). IsKnown note × Contains m.pending note) (λ (note : PendingMark). (note.seat == n) ≡ true → index_at m.past note.time note.word ≤ (cell fenced note.word).floor) m.pending
        (λ note known own. (fences_raise_floors m n note.word orderly (subst (λ (count : ℕ). note.word < count) (sym fits.words) known.0.1)).2.reaches note known.1 (eqb-true note.seat n own) refl)
        (each_both IsKnown (Contains m.pending) m.pending fits.pending (recursion_from_All (Contains m.pending) m.pending (All-contains_itself m.pending))))

    -- and where it was marked at its present value, there
    pub fenced_present : (k : ℕ) → IsMarkedNow (λ word. cell m word) m.past m.pending n k → (cell fenced k).floor ≡ length (cell fenced k).past
    fenced_present k marked = ⊎_elim
        (λ (there : (cell m k).floor ≡ length (cell m k).past). (let low = (fenced_narrows k).floor in let high = floor_inside fenced k in omega (arith, there, low, high)))
        (λ (some : list_any (λ (note : PendingMark). is_of_present (λ word. cell m word) m.past k note) (pending_of n m.pending) ≡ true).
        any_each (λ (note : PendingMark). index_at m.past note.time note.word ≤ (cell fenced note.word).floor) (λ (note : PendingMark). is_of_present (λ word. cell m word) m.past k note) (pending_of n m.pending) some fenced_reaches
        (λ note present reaches. at_note note present reaches))
        marked
      where
        both : (a b : Bool) → (a && b) ≡ true → (a ≡ true) × (b ≡ true)
        both true true e = (refl, refl)
        both true false e = cc
        both false b e = cc

        at_note : (note : PendingMark) → is_of_present (λ word. cell m word) m.past k note ≡ true → index_at m.past note.time note.word ≤ (cell fenced note.word).floor → (cell fenced k).floor ≡ length (cell fenced k).past
        at_note note present reaches =
            (let parts = both (note.word == k) (index_at m.past note.time k == length (cell m k).past) present in
            let here = eqb-true note.word k parts.0 in
            let index = eqb-true (index_at m.past note.time k) (length (cell m k).past) parts.1 in
            let low = subst (λ (w : ℕ). index_at m.past note.time w ≤ (cell fenced w).floor) here reaches in
            let high = floor_inside fenced k in
            omega (arith, index, low, high))
