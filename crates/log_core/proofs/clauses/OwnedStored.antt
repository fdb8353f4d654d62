-- What is known of the words of a seat's owned blocks, after a store of one of them.
use Rattle.std.proofs.Common.{◌≡◌, ◌≢◌, ◌<◌, ◌*◌, ◌/◌, ◌==◌, ℕ, Bool, true, false, not, if◌then◌else◌, List, length, filter, refl, sym, ◌∙◌, ap, subst, Some}
use Rattle.std.specs.List.{AllByRecursion}
use Rattle.std.proofs.lemmas.Bool.{eq-eqb}
use Rattle.std.proofs.lemmas.List.{length-map}
use Rattle.pmem_words.specs.Owned.{owned_at}
use Rattle.pmem_words.specs.declared.owned.OwnedBlock.{OwnedBlock}
use Rattle.pmem_words.specs.Seats.{Seat}
use Rattle.persistence.specs.Memory.{PendingMark, Replaced, Cell, index_at, pending_of}
use Rattle.log_image.specs.Chains.{is_listed}
use Rattle.log_core.specs.Entries.{place_in}
use Rattle.log_core.specs.Views.{Ghost, Stored}
use Rattle.log_core.specs.Works.{seat_shape, words_of, owned_block, content_word, stored_at, MayCountFilled}
use Rattle.log_core.specs.Needs.{owned_numbers}
use Rattle.log_core.specs.Steps.{stored_with, owned_with}
use Rattle.log_core.specs.Certain.{IsCertain}
use Rattle.log_core.specs.Owned.{StoredHolds, OwnedHold}
use Rattle.log_core.proofs.Each.{each_weaker, each_push, each_filter}
use Rattle.log_core.proofs.clauses.Narrows.{Narrows, certain_narrows}
use Rattle.log_core.proofs.clauses.MarkedNow.{marked_now_narrows}
use Rattle.log_core.proofs.clauses.OwnedLists.{IsSameBlock, numbers_map, areas_map, owned_at_map, block_of, stored_at_other}

abbrev pub unfilled : OwnedBlock → OwnedBlock
unfilled o = record o { filled = false; fenced = false }

abbrev pub unfilled_if : ℕ → OwnedBlock → OwnedBlock
unfilled_if block o = if o.block == block then unfilled o else o

-- the seat after a store
abbrev pub stored_seat : Seat → ℕ → Seat
stored_seat s word = record s { blocks = record (s.blocks) { owned = owned_with (word / words_of s) (λ o. unfilled o) s.blocks.owned } }

unfilled_same : (block : ℕ) (o : OwnedBlock) → IsSameBlock o (unfilled_if block o)
unfilled_same block o = by (o.block == block)
  where
    by : (b : Bool) → IsSameBlock o (if b then unfilled o else o)
    by true = record { block = refl; area = refl }
    by false = record { block = refl; area = refl }

-- what is still filled, or fenced, is another block
still_filled : (block : ℕ) (o : OwnedBlock) → (unfilled_if block o).filled ≡ true → (o.block ≢ block) × (o.filled ≡ true)
still_filled block o = by (o.block == block) refl
  where
    by : (b : Bool) → (o.block == block) ≡ b → (if b then unfilled o else o).filled ≡ true → (o.block ≢ block) × (o.filled ≡ true)
    by true e filled = cc
    by false e filled = ((λ same. (let never : true ≡ false = sym (eq-eqb o.block block same) ∙ e in cc)), filled)

still_fenced : (block : ℕ) (o : OwnedBlock) → (unfilled_if block o).fenced ≡ true → (o.block ≢ block) × (o.fenced ≡ true)
still_fenced block o = by (o.block == block) refl
  where
    by : (b : Bool) → (o.block == block) ≡ b → (if b then unfilled o else o).fenced ≡ true → (o.block ≢ block) × (o.fenced ≡ true)
    by true e fenced = cc
    by false e fenced = ((λ same. (let never : true ≡ false = sym (eq-eqb o.block block same) ∙ e in cc)), fenced)

pub stored_numbers : (s : Seat) (word : ℕ) → owned_numbers (stored_seat s word).blocks.owned ≡ owned_numbers s.blocks.owned
stored_numbers s word = numbers_map (λ o. unfilled_if (word / words_of s) o) (λ o. unfilled_same (word / words_of s) o) s.blocks.owned

module _ (before after : ℕ → Cell) (past later : List Replaced) (pending : List PendingMark) (seat word value : ℕ) (g : Ghost) (s : Seat) (held : OwnedHold before past pending seat g s)
    (others : (k : ℕ) → k ≢ word → Narrows (before k) (after k)) (here : (after word).present ≡ value)
    (times : (k : ℕ) → AllByRecursion (λ (note : PendingMark). index_at later note.time k ≡ index_at past note.time k) (pending_of seat pending))
    (mine : is_listed (owned_numbers s.blocks.owned) (word / words_of s) ≡ true) where
  abbrev block : ℕ
  block = word / words_of s

  abbrev t : Seat
  t = stored_seat s word

  count : length t.blocks.owned ≡ length s.blocks.owned
  count = length-map s.blocks.owned (λ o. unfilled_if block o)

  numbers : owned_numbers t.blocks.owned ≡ owned_numbers s.blocks.owned
  numbers = stored_numbers s word

  at_place : (place : ℕ) → place < length t.blocks.owned → owned_at t.blocks.owned place ≡ unfilled_if block (owned_at s.blocks.owned place)
  at_place place inside = owned_at_map (λ o. unfilled_if block o) (λ o. unfilled_same block o) s.blocks.owned place (subst (λ (m : ℕ). place < m) count inside)

  same_block : (place : ℕ) → place < length t.blocks.owned → owned_block t place ≡ owned_block s place
  same_block place inside = ap (λ (o : OwnedBlock). o.block) (at_place place inside) ∙ (unfilled_same block (owned_at s.blocks.owned place)).block

  -- a word of another block is another word
  elsewhere : (other k : ℕ) → other ≢ block → k < words_of s → place_in (seat_shape s) other k ≢ word
  elsewhere other k apart inside same = apart (sym (block_of (seat_shape s) other k inside) ∙ ap (λ (w : ℕ). w / words_of s) same)

  stays : (r : Stored) → StoredHolds before past pending seat (words_of s) (owned_numbers s.blocks.owned) r → not (r.word == word) ≡ true → StoredHolds after later pending seat (words_of s) (owned_numbers t.blocks.owned) r
  stays r holds kept = (let narrows = others r.word (λ same. (let e = eq-eqb r.word word same in cc)) in record {
    mine = ap (λ (list : List ℕ). is_listed list (r.word / words_of s)) numbers ∙ holds.mine;
    present = narrows.present ∙ holds.present;
    marked = λ marked. marked_now_narrows before after past later pending pending seat r.word narrows refl (times r.word) (holds.marked marked);
  })

  stored_holds : AllByRecursion (StoredHolds after later pending seat (words_of s) (owned_numbers t.blocks.owned)) (stored_with g.stored word value)
  stored_holds = each_push (StoredHolds after later pending seat (words_of s) (owned_numbers t.blocks.owned)) (filter (λ (r : Stored). not (r.word == word)) g.stored) (record { word = word; value = value; marked = false })
      (each_filter (StoredHolds after later pending seat (words_of s) (owned_numbers t.blocks.owned)) (λ (r : Stored). not (r.word == word)) g.stored
      (each_weaker (StoredHolds before past pending seat (words_of s) (owned_numbers s.blocks.owned)) (λ (r : Stored). not (r.word == word) ≡ true → StoredHolds after later pending seat (words_of s) (owned_numbers t.blocks.owned) r) g.stored stays held.stored))
      (record { mine = ap (λ (list : List ℕ). is_listed list block) numbers ∙ mine; present = here; marked = λ marked. cc })

  module _ (h : Ghost) (kept : h.stored ≡ stored_with g.stored word value) where
    filled_holds : (place : ℕ) → place < length t.blocks.owned → (owned_at t.blocks.owned place).filled ≡ true → MayCountFilled h t place
    filled_holds place inside filled =
        (let still = still_filled block (owned_at s.blocks.owned place) (subst (λ (o : OwnedBlock). o.filled ≡ true) (at_place place inside) filled) in
        let old = held.filled place (subst (λ (m : ℕ). place < m) count inside) still.1 in
        let same = same_block place inside in
        record {
          owned = inside;
          each = λ k low. subst (λ (b : ℕ). stored_at h.stored (place_in (seat_shape s) b k) ≡ Some (record { word = place_in (seat_shape s) b k; value = content_word s place k; marked = true })) (sym same)
              (ap (λ (list : List Stored). stored_at list (place_in (seat_shape s) (owned_block s place) k)) kept
              ∙ (stored_at_other g.stored word value (place_in (seat_shape s) (owned_block s place) k) (elsewhere (owned_block s place) k still.0 low) ∙ old.each k low));
        })

    fenced_holds : (place k : ℕ) → place < length t.blocks.owned → (owned_at t.blocks.owned place).fenced ≡ true → k < words_of s → IsCertain (after (place_in (seat_shape s) (owned_block t place) k)) (content_word s place k)
    fenced_holds place k inside fenced low =
        (let still = still_fenced block (owned_at s.blocks.owned place) (subst (λ (o : OwnedBlock). o.fenced ≡ true) (at_place place inside) fenced) in
        subst (λ (b : ℕ). IsCertain (after (place_in (seat_shape s) b k)) (content_word s place k)) (sym (same_block place inside))
        (certain_narrows (before (place_in (seat_shape s) (owned_block s place) k)) (after (place_in (seat_shape s) (owned_block s place) k)) (content_word s place k)
        (others (place_in (seat_shape s) (owned_block s place) k) (elsewhere (owned_block s place) k still.0 low))
        (held.fenced place k (subst (λ (m : ℕ). place < m) count inside) still.1 low)))

    pub owned_stored : OwnedHold after later pending seat h t
    owned_stored = record {
      contents = held.contents ∙ ap (λ (m : ℕ). m * words_of s) (sym count);
      areas = areas_map (λ o. unfilled_if block o) (λ o. unfilled_same block o) (seat_shape s) s.blocks.owned held.areas;
      stored = subst (λ (list : List Stored). AllByRecursion (StoredHolds after later pending seat (words_of s) (owned_numbers t.blocks.owned)) list) (sym kept) stored_holds;
      filled = filled_holds;
      fenced = fenced_holds;
    }
