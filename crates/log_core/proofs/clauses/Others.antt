-- What a step of a seat leaves: walks, pins and lists of blocks to give back of all seats; and of another seat its owned blocks, its marks,
-- and what it knows of syncs.
use Rattle.std.proofs.Common.{◌≡◌, ◌≢◌, ◌<◌, ◌≤◌, ◌+◌, ◌-◌, ◌/◌, ◌==◌, ◌||◌, inl, inr, ⊎_elim, ℕ, zero, suc, Bool, true, false, List, [], ◌∷◌, length, map, refl, sym, ◌∙◌, ap, subst, arith}
use Rattle.std.specs.List.{AllByRecursion}
use Rattle.std.proofs.lemmas.Bool.{eq-eqb}
use Rattle.pmem_words.specs.Owned.{owned_at}
use Rattle.pmem_words.specs.declared.owned.OwnedBlock.{OwnedBlock}
use Rattle.pmem_words.specs.declared.keeps.KeptWord.{KeptWord}
use Rattle.pmem_words.specs.Seats.{Seat, Hold, Walk, Giving}
use Rattle.persistence.specs.Memory.{Memory, Replaced, PendingMark, Cell, cell, index_at, pending_of}
use Rattle.persistence.specs.Survivors.{value_at}
use Rattle.persistence.proofs.ValueLemmas.{index_at-most}
use Rattle.log_entry.specs.Fields.{field}
use Rattle.log_entry.specs.declared.layouts.TheConstants.{HEAD_GENERATION}
use Rattle.log_image.specs.Chains.{is_listed}
use Rattle.log_core.specs.Entries.{place_in, head_place}
use Rattle.log_core.specs.Views.{View, Stored, view_of, spent_view}
use Rattle.log_core.specs.Origin.{Origin, shape, q_of_origin, first_generation, Owner, OwnedBy}
use Rattle.log_core.specs.Files.{entries}
use Rattle.log_core.specs.Cores.{Core, is_named, current, head_floor}
use Rattle.log_core.specs.Sizes.{SeatFits}
use Rattle.log_core.specs.Works.{seat_shape, words_of, owned_block}
use Rattle.log_core.specs.Needs.{owned_numbers}
use Rattle.log_core.specs.Order.{nth_generation}
use Rattle.log_core.specs.Pins.{PinHolds}
use Rattle.log_core.specs.Walks.{WalkHolds, IsKeptWord}
use Rattle.log_core.specs.Giving.{GivingHolds}
use Rattle.log_core.specs.Owned.{OwnedHold, StoredHolds, IsMarkedNow}
use Rattle.log_core.specs.Records.{MarksFit, mark_of}
use Rattle.log_core.specs.Synced.{SyncHolds, SyncMarkHolds}
use Rattle.log_core.specs.Invariant.{Invariant, KeptIn, around, names_by}
use Rattle.log_core.proofs.Heads.{kept_place}
use Rattle.log_core.proofs.clauses.Narrows.{Narrows, certain_narrows, was_head_narrows}
use Rattle.log_core.proofs.clauses.Leaves.{Leaves, others_apart}
use Rattle.log_core.proofs.Each.{each_weaker, each_filter, map_same}
use Rattle.log_core.proofs.clauses.MarkedNow.{marked_now_narrows}
use Rattle.log_core.proofs.clauses.Apart.{header_cells, block_cells, named_apart, named_cells}

-- an owned block is among the owned
pub owned_listed : (owned : List OwnedBlock) (place : ℕ) → place < length owned → is_listed (owned_numbers owned) (owned_at owned place).block ≡ true
owned_listed [] place inside = absurd (omega (arith, inside))
owned_listed (b ∷ owned) zero inside = ap (λ (found : Bool). found || is_listed (owned_numbers owned) b.block) (eq-eqb b.block b.block refl)
owned_listed (b ∷ owned) (suc place) inside = later (b.block == (owned_at owned place).block) (owned_listed owned place (omega (arith, inside)))
  where
    later : (first : Bool) → is_listed (owned_numbers owned) (owned_at owned place).block ≡ true → (first || is_listed (owned_numbers owned) (owned_at owned place).block) ≡ true
    later true e = refl
    later false e = e

-- a view that is not spent is of a seat that is made
pub unspent_made : (views : List View) (k : ℕ) → (view_of views k).parts ≢ [] → k < length views
unspent_made [] k unspent = absurd (unspent refl)
unspent_made (v ∷ views) zero unspent = omega arith
unspent_made (v ∷ views) (suc k) unspent = (let less = unspent_made views k unspent in omega (arith, less))

-- the marks of a seat are as early as the memory's
pub notes_early : (o : Origin) (c : Core) (k : ℕ) → Invariant o c → AllByRecursion (λ (note : PendingMark). note.time ≤ length c.memory.past) (pending_of k c.memory.pending)
notes_early o c k inv = each_filter (λ (note : PendingMark). note.time ≤ length c.memory.past) (λ (note : PendingMark). note.seat == k) c.memory.pending
    (each_weaker (λ (note : PendingMark). (note.seat < length c.views) × (note.word < length o.words) × (note.time ≤ length c.memory.past)) (λ (note : PendingMark). (note.seat == k) ≡ true → note.time ≤ length c.memory.past) c.memory.pending
    (λ note fits own. fits.2) inv.sizes.words.pending)

module _ (o : Origin) (c : Core) (n : ℕ) (m : Memory) (inv : Invariant o c) (leaves : Leaves o c n m) where
  -- a kept word of a named block
  kept_left : (place : ℕ) (blocks : List Rattle.log_core.specs.Origin.LogBlock) → KeptIn o c place → (kept : KeptWord) →
      IsKeptWord (shape o) c.memory.now.words (λ block. is_named o c.logs (entries o c.history) (nth_generation c.generations place) block) blocks kept →
      IsKeptWord (shape o) m.now.words (λ block. is_named o c.logs (entries o c.history) (nth_generation c.generations place) block) blocks kept
  kept_left place blocks kept word r = record {
    named = r.named;
    inside = r.inside;
    word_is = ⊎_elim (λ same. inl (same ∙ sym (named_cells o c n m inv leaves place word.block word.slot kept r.named r.inside).present)) (λ empty. inr empty) r.word_is;
    early = λ at. r.early at ∙ sym (named_cells o c n m inv leaves place word.block word.slot kept r.named r.inside).present;
  }

  -- a walk of a seat whose valid pin is of a kept generation
  pub walk_left : (views : List View) (owner : ℕ → Owner) (began : List ℕ) → ((place : ℕ) → KeptIn o (record c { memory = m; views = views; owner = owner; began = began }) place → KeptIn o c place) →
      (h : Hold) (w : Walk) → (h.valid ≡ true → KeptIn o c (h.generation - first_generation o)) → WalkHolds (around o c) h w → WalkHolds (around o (record c { memory = m; views = views; owner = owner; began = began })) h w
  walk_left views owner began kept_before h w pinned r = record {
    to_end = r.to_end;
    from_first = r.from_first;
    to_current = r.to_current;
    read = λ reading kept. r.read reading (kept_before (w.reading_generation - first_generation o) kept);
    kept_words = λ valid. each_weaker _ _ w.kept (kept_left (h.generation - first_generation o) _ (pinned valid)) (r.kept_words valid);
    unpinned = r.unpinned;
    walked = r.walked;
    ready_walked = r.ready_walked;
    ready_base = r.ready_base;
    ready_tail = r.ready_tail;
    seeking = r.seeking;
    first_known = r.first_known;
  }

  -- the place of a valid pin's generation
  pub pin_place : (generation : ℕ) → first_generation o ≤ generation → generation ≡ first_generation o + (generation - first_generation o)
  pin_place generation from = omega (arith, from)

  pub pin_kept : (k : ℕ) → (view_of c.views k).seat.hold.valid ≡ true → KeptIn o c ((view_of c.views k).seat.hold.generation - first_generation o)
  pin_kept k valid = kept_place o c inv ((view_of c.views k).seat.hold.generation - first_generation o)
      (inr (record { seat = k; valid = valid; same = pin_place (view_of c.views k).seat.hold.generation ((inv.pins.holds k).from_first ((inv.pins.holds k).valid_some valid)) }))

  -- no head that a crash may leave is of an earlier generation than before
  pub floor_rises : head_floor c.memory ≤ head_floor m
  floor_rises = (header_cells o c n m inv leaves head_place (omega arith)).floor

  pub pin_left : (h : Hold) → PinHolds (first_generation o) (current o c.generations) (cell c.memory head_place) h → PinHolds (first_generation o) (current o c.generations) (cell m head_place) h
  pin_left h r = record {
    was = λ some. was_head_narrows (cell c.memory head_place) (cell m head_place) h.head (header_cells o c n m inv leaves head_place (omega arith)) (r.was some);
    valid_is = r.valid_is;
    valid_some = r.valid_some;
    from_first = r.from_first;
    to_current = r.to_current;
  }

  pub giving_left : (giving : Giving) → GivingHolds (names_by o c.logs (entries o c.history) c.generations) (current o c.generations) (first_generation o + head_floor c.memory) giving →
      GivingHolds (names_by o c.logs (entries o c.history) c.generations) (current o c.generations) (first_generation o + head_floor m) giving
  giving_left giving r = record {
    replaced_past = r.replaced_past;
    replaced = r.replaced;
    limbo = r.limbo;
    replaced_sure = λ fenced. (let sure = r.replaced_sure fenced in let rises = floor_rises in omega (arith, sure, rises));
    limbo_sure = (let sure = r.limbo_sure in let rises = floor_rises in omega (arith, sure, rises));
  }

  -- a word of another seat's block
  mine_cells : (k word : ℕ) → k ≢ n → is_listed (owned_numbers (view_of c.views k).seat.blocks.owned) (word / q_of_origin o) ≡ true → Narrows (cell c.memory word) (cell m word)
  mine_cells k word other owned = leaves.cells word (λ mine. (others_apart n k other).other (sym ((inv.owners.seats k).owned.listed (word / q_of_origin o) owned) ∙ mine))

  -- a mark of the present value stays one
  marked_left : (k word : ℕ) → k ≢ n → Narrows (cell c.memory word) (cell m word) → IsMarkedNow (λ w. cell c.memory w) c.memory.past c.memory.pending k word → IsMarkedNow (λ w. cell m w) m.past m.pending k word
  marked_left k word other narrows marked = marked_now_narrows (λ w. cell c.memory w) (λ w. cell m w) c.memory.past m.past c.memory.pending m.pending k word narrows (leaves.pending k other)
      (each_weaker (λ (note : PendingMark). note.time ≤ length c.memory.past) (λ (note : PendingMark). index_at m.past note.time word ≡ index_at c.memory.past note.time word) (pending_of k c.memory.pending)
      (λ note early. leaves.times note.time word early) (notes_early o c k inv)) marked

  stored_left : (k : ℕ) → k ≢ n → (stored : Stored) →
      StoredHolds (λ word. cell c.memory word) c.memory.past c.memory.pending k (q_of_origin o) (owned_numbers (view_of c.views k).seat.blocks.owned) stored →
      StoredHolds (λ word. cell m word) m.past m.pending k (q_of_origin o) (owned_numbers (view_of c.views k).seat.blocks.owned) stored
  stored_left k other stored r = record {
    mine = r.mine;
    present = (mine_cells k stored.word other r.mine).present ∙ r.present;
    marked = λ is. marked_left k stored.word other (mine_cells k stored.word other r.mine) (r.marked is);
  }

  -- of a seat that is not spent, by its shape
  owned_by : (k : ℕ) → k ≢ n → words_of (view_of c.views k).seat ≡ q_of_origin o → seat_shape (view_of c.views k).seat ≡ shape o →
      OwnedHold (λ word. cell c.memory word) c.memory.past c.memory.pending k (view_of c.views k).ghost (view_of c.views k).seat →
      OwnedHold (λ word. cell m word) m.past m.pending k (view_of c.views k).ghost (view_of c.views k).seat
  owned_by k other words image r = record {
    contents = r.contents;
    areas = r.areas;
    stored = subst (λ (q : ℕ). AllByRecursion (StoredHolds (λ word. cell m word) m.past m.pending k q (owned_numbers (view_of c.views k).seat.blocks.owned)) (view_of c.views k).ghost.stored) (sym words)
        (each_weaker _ _ (view_of c.views k).ghost.stored (stored_left k other)
        (subst (λ (q : ℕ). AllByRecursion (StoredHolds (λ word. cell c.memory word) c.memory.past c.memory.pending k q (owned_numbers (view_of c.views k).seat.blocks.owned)) (view_of c.views k).ghost.stored) words r.stored));
    filled = r.filled;
    fenced = λ place word inside fenced less. certain_narrows _ _ _ (cells_of place word inside (subst (λ (q : ℕ). word < q) words less)) (r.fenced place word inside fenced less);
  }
    where
      cells_of : (place word : ℕ) → place < length (view_of c.views k).seat.blocks.owned → word < q_of_origin o →
          Narrows (cell c.memory (place_in (seat_shape (view_of c.views k).seat) (owned_block (view_of c.views k).seat place) word)) (cell m (place_in (seat_shape (view_of c.views k).seat) (owned_block (view_of c.views k).seat place) word))
      cells_of place word inside less = subst (λ (image : Rattle.log_image.specs.Image.Shape). Narrows (cell c.memory (place_in image (owned_block (view_of c.views k).seat place) word)) (cell m (place_in image (owned_block (view_of c.views k).seat place) word)))
          (sym image)
          (block_cells o c n m inv leaves (owned_block (view_of c.views k).seat place) word
          (λ mine. (others_apart n k other).other (sym ((inv.owners.seats k).owned.listed (owned_block (view_of c.views k).seat place) (owned_listed (view_of c.views k).seat.blocks.owned place inside)) ∙ mine)) less)

  owned_spent : (k : ℕ) → view_of c.views k ≡ spent_view → OwnedHold (λ word. cell m word) m.past m.pending k (view_of c.views k).ghost (view_of c.views k).seat
  owned_spent k spent = subst (λ (v : View). OwnedHold (λ word. cell m word) m.past m.pending k v.ghost v.seat) (sym spent)
      (record { contents = omega arith; areas = tt; stored = tt; filled = λ place inside. absurd (omega (arith, inside)); fenced = λ place word inside. absurd (omega (arith, inside)) })

  pub owned_left : (k : ℕ) → k ≢ n → OwnedHold (λ word. cell m word) m.past m.pending k (view_of c.views k).ghost (view_of c.views k).seat
  owned_left k other = by (view_of c.views k).parts refl
    where
      not_nil : (part : ℕ) (parts : List ℕ) → (part ∷ parts) ≢ []
      not_nil part parts e = cc

      fitting : SeatFits o k (view_of c.views k) → OwnedHold (λ word. cell m word) m.past m.pending k (view_of c.views k).ghost (view_of c.views k).seat
      fitting fits = owned_by k other (ap Rattle.pmem_words.specs.Seats.q_of fits.geometry)
          (ap (λ (geometry : Rattle.log_entry.specs.declared.shapes.Geometry.Geometry). record { data_blocks = geometry.data_blocks; log_blocks = geometry.log_blocks; block_bytes = geometry.block_bytes }) fits.geometry)
          (inv.owned k)

      by : (parts : List ℕ) → (view_of c.views k).parts ≡ parts → OwnedHold (λ word. cell m word) m.past m.pending k (view_of c.views k).ghost (view_of c.views k).seat
      by [] is = owned_spent k (inv.sizes.spent k is)
      by (part ∷ parts) is = (let some : (view_of c.views k).parts ≢ [] = λ none. not_nil part parts (sym is ∙ none) in fitting (inv.sizes.each k (unspent_made c.views k some) some))

  pub mark_same : (note : PendingMark) → note.time ≤ length c.memory.past → mark_of (λ word. cell m word) m.past note ≡ mark_of (λ word. cell c.memory word) c.memory.past note
  mark_same note early = ap (λ (value : ℕ). record { word = note.word; value = value })
      (ap (λ (at : ℕ). value_at (cell m note.word) at) (leaves.times note.time note.word early)
      ∙ leaves.values note.word (index_at c.memory.past note.time note.word) (index_at-most c.memory.past note.time note.word))

  pub marks_left : (k : ℕ) → k ≢ n → MarksFit (λ word. cell c.memory word) c.memory.past c.memory.pending k (view_of c.views k) → MarksFit (λ word. cell m word) m.past m.pending k (view_of c.views k)
  marks_left k other fit = fit
      ∙ sym (ap (λ (pending : List PendingMark). map (mark_of (λ word. cell m word) m.past) pending) (leaves.pending k other)
      ∙ map_same (mark_of (λ word. cell m word) m.past) (mark_of (λ word. cell c.memory word) c.memory.past) (pending_of k c.memory.pending)
      (each_weaker (λ (note : PendingMark). note.time ≤ length c.memory.past) (λ (note : PendingMark). mark_of (λ word. cell m word) m.past note ≡ mark_of (λ word. cell c.memory word) c.memory.past note) (pending_of k c.memory.pending) mark_same (notes_early o c k inv)))

  -- a mark of a running sync of any seat, where its generation is kept
  pub sync_mark_left : (place generation : ℕ) → generation ≡ first_generation o + place → KeptIn o c place → (note : PendingMark) → note.time ≤ length c.memory.past →
      SyncMarkHolds (q_of_origin o) (names_by o c.logs (entries o c.history) c.generations) (λ word. cell c.memory word) c.memory.past generation note →
      SyncMarkHolds (q_of_origin o) (names_by o c.logs (entries o c.history) c.generations) (λ word. cell m word) m.past generation note
  sync_mark_left place generation same kept note early r = record {
    named = r.named;
    head = λ is. subst (λ (value : ℕ). generation ≤ field HEAD_GENERATION value)
        (sym (ap (λ (at : ℕ). value_at (cell m head_place) at) (leaves.times note.time head_place early)
        ∙ leaves.values head_place (index_at c.memory.past note.time head_place) (index_at-most c.memory.past note.time head_place)))
        (r.head is);
    other = λ another. other_left another (r.other another);
  }
    where
      narrows_of : note.word ≢ head_place → Narrows (cell c.memory note.word) (cell m note.word)
      narrows_of another = leaves.cells note.word (named_apart o c n m inv leaves place (note.word / q_of_origin o) kept
          (subst (λ (number : ℕ). is_named o c.logs (entries o c.history) (nth_generation c.generations number) (note.word / q_of_origin o) ≡ true) (let e = same in omega (arith, e)) (r.named another)))

      other_left : note.word ≢ head_place → (index_at c.memory.past note.time note.word ≡ length (cell c.memory note.word).past) × ((cell c.memory note.word).present ≢ 0) →
          (index_at m.past note.time note.word ≡ length (cell m note.word).past) × ((cell m note.word).present ≢ 0)
      other_left another both = (let narrows = narrows_of another in
          (leaves.times note.time note.word early ∙ (both.0 ∙ sym (ap length narrows.past)), λ none. both.1 (sym narrows.present ∙ none)))

  -- those of one seat
  abbrev SyncMarked : (ℕ → Cell) → List Replaced → ℕ → PendingMark → Type 0
  SyncMarked cells past generation note = SyncMarkHolds (q_of_origin o) (names_by o c.logs (entries o c.history) c.generations) cells past generation note

  pub sync_marks_left : (s : Seat) → (s.hold.valid ≡ true → (place : ℕ) → s.hold.generation ≡ first_generation o + place → KeptIn o c place) → (s.hold.valid ≡ true → first_generation o ≤ s.hold.generation) →
      (pending : List PendingMark) → (pending ≢ [] → s.hold.valid ≡ true) → AllByRecursion (λ (note : PendingMark). note.time ≤ length c.memory.past) pending →
      AllByRecursion (SyncMarked (λ word. cell c.memory word) c.memory.past s.hold.generation) pending → AllByRecursion (SyncMarked (λ word. cell m word) m.past s.hold.generation) pending
  sync_marks_left s kept from [] valid early all = tt
  sync_marks_left s kept from (note ∷ pending) valid early all =
      (let pinned = valid (λ none. cc) in
      let low = from pinned in
      let same : s.hold.generation ≡ first_generation o + (s.hold.generation - first_generation o) = omega (arith, low) in
      let here = kept pinned (s.hold.generation - first_generation o) same in (
        sync_mark_left (s.hold.generation - first_generation o) s.hold.generation same here note early.0 all.0,
        sync_marks_left s kept from pending (λ some. pinned) early.1 all.1,
      ))

  pub sync_left : (k : ℕ) → k ≢ n → SyncHolds (q_of_origin o) (names_by o c.logs (entries o c.history) c.generations) (λ word. cell c.memory word) c.memory.past c.memory.pending c.synced k (view_of c.views k) →
      SyncHolds (q_of_origin o) (names_by o c.logs (entries o c.history) c.generations) (λ word. cell m word) m.past m.pending c.synced k (view_of c.views k)
  sync_left k other r = record {
    to = r.to;
    marks = λ sync. subst (λ (pending : List PendingMark). AllByRecursion (SyncMarked (λ word. cell m word) m.past (view_of c.views k).seat.hold.generation) pending) (sym (leaves.pending k other))
        (sync_marks_left (view_of c.views k).seat (λ valid place same. kept_place o c inv place (inr (record { seat = k; valid = valid; same = same })))
        (λ valid. (inv.pins.holds k).from_first ((inv.pins.holds k).valid_some valid)) (pending_of k c.memory.pending) (r.valid sync) (notes_early o c k inv) (r.marks sync));
    valid = λ sync some. r.valid sync (λ none. some (leaves.pending k other ∙ none));
    answered = r.answered;
  }
