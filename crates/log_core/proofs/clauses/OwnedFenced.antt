-- What is known of the words of a seat's owned blocks, after a fence of the seat.
use Rattle.std.proofs.Common.{◌≡◌, ◌<◌, ◌*◌, ◌||◌, ◌==◌, if◌then◌else◌, ◌/◌, ◌⊎◌, ⊎_elim, inl, inr, ℕ, Bool, true, false, List, [], ◌∷◌, length, map, refl, sym, ◌∙◌, ap, subst, arith, Some}
use Rattle.std.specs.List.{AllByRecursion}
use Rattle.std.proofs.lemmas.List.{length-map}
use Rattle.pmem_words.specs.Owned.{owned_at}
use Rattle.pmem_words.specs.declared.owned.OwnedBlock.{OwnedBlock}
use Rattle.pmem_words.specs.Seats.{Seat, Blocks}
use Rattle.persistence.specs.Memory.{PendingMark, Replaced, Cell}
use Rattle.log_core.specs.Entries.{place_in}
use Rattle.log_image.specs.Chains.{is_listed}
use Rattle.log_core.specs.Views.{Ghost, Stored}
use Rattle.log_core.specs.Works.{seat_shape, words_of, owned_block, content_word, stored_at, MayCountFilled}
use Rattle.log_core.specs.Needs.{owned_numbers}
use Rattle.log_core.specs.Certain.{IsCertain}
use Rattle.log_core.specs.Owned.{StoredHolds, OwnedHold, IsMarkedNow}
use Rattle.log_core.proofs.Each.{each_weaker}
use Rattle.log_core.proofs.clauses.Narrows.{Narrows, certain_narrows}
use Rattle.log_core.proofs.clauses.SetBlocks.{with_blocks}
use Rattle.log_core.proofs.clauses.OwnedLists.{IsSameBlock, numbers_map, areas_map, owned_at_map}

abbrev pub fence_block : OwnedBlock → OwnedBlock
fence_block o = record o { fenced = o.fenced || o.filled }

-- a fact of what is stored at a place
pub stored_fact : (P : Stored → Type 0) (stored : List Stored) (place : ℕ) (r : Stored) → AllByRecursion P stored → stored_at stored place ≡ Some r → P r
stored_fact P [] place r all is = cc
stored_fact P (q ∷ stored) place r all is = by (q.word == place) (stored_fact P stored place r all.1) is
  where
    by : (b : Bool) → (stored_at stored place ≡ Some r → P r) → (if b then Some q else stored_at stored place) ≡ Some r → P r
    by true later e = (let same : q ≡ r = cc in subst P same all.0)
    by false later e = later e

-- the blocks of a seat after a fence
abbrev pub fenced_blocks : Seat → Blocks
fenced_blocks s = record (s.blocks) { owned = map (λ (o : OwnedBlock). fence_block o) s.blocks.owned }

abbrev pub fence_same : (o : OwnedBlock) → IsSameBlock o (fence_block o)
fence_same o = record { block = refl; area = refl }

pub fenced_numbers : (s : Seat) → owned_numbers (fenced_blocks s).owned ≡ owned_numbers s.blocks.owned
fenced_numbers s = numbers_map (λ o. fence_block o) (λ o. fence_same o) s.blocks.owned

module _ (before after : ℕ → Cell) (past : List Replaced) (pending left : List PendingMark) (seat : ℕ) (sure : Bool) (g : Ghost) (s : Seat) (held : OwnedHold before past pending seat g s)
    (narrows : (k : ℕ) → Narrows (before k) (after k)) (present : (k : ℕ) → IsMarkedNow before past pending seat k → (after k).floor ≡ length (after k).past) where
  abbrev t : Seat
  t = with_blocks s (fenced_blocks s) sure

  count : length t.blocks.owned ≡ length s.blocks.owned
  count = length-map s.blocks.owned (λ o. fence_block o)

  numbers : owned_numbers t.blocks.owned ≡ owned_numbers s.blocks.owned
  numbers = fenced_numbers s

  inside_before : (place : ℕ) → place < length t.blocks.owned → place < length s.blocks.owned
  inside_before place inside = subst (λ (m : ℕ). place < m) count inside

  at_place : (place : ℕ) → place < length t.blocks.owned → owned_at t.blocks.owned place ≡ fence_block (owned_at s.blocks.owned place)
  at_place place inside = owned_at_map (λ o. fence_block o) (λ o. fence_same o) s.blocks.owned place (inside_before place inside)

  same_block : (place : ℕ) → place < length t.blocks.owned → owned_block t place ≡ owned_block s place
  same_block place inside = ap (λ (o : OwnedBlock). o.block) (at_place place inside)

  stays : (r : Stored) → StoredHolds before past pending seat (words_of s) (owned_numbers s.blocks.owned) r → StoredHolds after past left seat (words_of s) (owned_numbers t.blocks.owned) r
  stays r holds = record {
    mine = ap (λ (list : List ℕ). is_listed list (r.word / words_of s)) numbers ∙ holds.mine;
    present = (narrows r.word).present ∙ holds.present;
    marked = λ marked. inl (present r.word (holds.marked marked));
  }

  -- a block whose words were all stored and marked is certain now
  filled_certain : (place k : ℕ) → MayCountFilled g s place → k < words_of s → IsCertain (after (place_in (seat_shape s) (owned_block s place) k)) (content_word s place k)
  filled_certain place k filled low =
      (let word = place_in (seat_shape s) (owned_block s place) k in
      let holds : StoredHolds before past pending seat (words_of s) (owned_numbers s.blocks.owned) (record { word = word; value = content_word s place k; marked = true }) =
      stored_fact (StoredHolds before past pending seat (words_of s) (owned_numbers s.blocks.owned)) g.stored word (record { word = word; value = content_word s place k; marked = true }) held.stored (filled.each k low) in
      let floor = present word (holds.marked refl) in
      record {
        present = (narrows word).present ∙ holds.present;
        before = λ j above below. absurd (omega (arith, floor, above, below));
      })

  either : (a b : Bool) → (a || b) ≡ true → (a ≡ true) ⊎ (b ≡ true)
  either true b e = inl refl
  either false b e = inr e

  fenced_before : (place k : ℕ) → place < length s.blocks.owned → (fence_block (owned_at s.blocks.owned place)).fenced ≡ true → k < words_of s →
      IsCertain (after (place_in (seat_shape s) (owned_block s place) k)) (content_word s place k)
  fenced_before place k inside fenced low = ⊎_elim
      (λ (old : (owned_at s.blocks.owned place).fenced ≡ true). certain_narrows (before (place_in (seat_shape s) (owned_block s place) k)) (after (place_in (seat_shape s) (owned_block s place) k)) (content_word s place k)
      (narrows (place_in (seat_shape s) (owned_block s place) k)) (held.fenced place k inside old low))
      (λ (filled : (owned_at s.blocks.owned place).filled ≡ true). filled_certain place k (held.filled place inside filled) low)
      (either (owned_at s.blocks.owned place).fenced (owned_at s.blocks.owned place).filled fenced)

  pub owned_fenced : (h : Ghost) → h.stored ≡ g.stored → OwnedHold after past left seat h t
  owned_fenced h kept = record {
    contents = held.contents ∙ ap (λ (m : ℕ). m * words_of s) (sym count);
    areas = areas_map (λ o. fence_block o) (λ o. fence_same o) (seat_shape s) s.blocks.owned held.areas;
    stored = subst (λ (list : List Stored). AllByRecursion (StoredHolds after past left seat (words_of s) (owned_numbers t.blocks.owned)) list) (sym kept)
        (each_weaker (StoredHolds before past pending seat (words_of s) (owned_numbers s.blocks.owned)) (StoredHolds after past left seat (words_of s) (owned_numbers t.blocks.owned)) g.stored stays held.stored);
    filled = λ place inside filled. (let old = held.filled place (inside_before place inside) (subst (λ (o : OwnedBlock). o.filled ≡ true) (at_place place inside) filled) in record {
      owned = inside;
      each = λ k low. subst (λ (b : ℕ). stored_at h.stored (place_in (seat_shape s) b k) ≡ Some (record { word = place_in (seat_shape s) b k; value = content_word s place k; marked = true })) (sym (same_block place inside))
          (ap (λ (list : List Stored). stored_at list (place_in (seat_shape s) (owned_block s place) k)) kept ∙ old.each k low);
    });
    fenced = λ place k inside fenced low. subst (λ (b : ℕ). IsCertain (after (place_in (seat_shape s) b k)) (content_word s place k)) (sym (same_block place inside))
        (fenced_before place k (inside_before place inside) (subst (λ (o : OwnedBlock). o.fenced ≡ true) (at_place place inside) fenced) low);
  }
