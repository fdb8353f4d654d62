-- What is known of owned blocks stays where blocks are taken: each of them is neither filled nor fenced.
use Rattle.std.proofs.Common.{◌≡◌, ◌⊎◌, ℕ, zero, suc, ◌+◌, ◌-◌, ◌*◌, ◌<◌, ◌≤◌, false, List, [], ◌∷◌, ◌++◌, length, map, replicate, refl, sym, ap, ◌∙◌, arith, inl, inr, add-mul, mul_comm, ◌/◌, ◌==◌}
use Rattle.std.specs.List.{AllByRecursion}
use Rattle.std.proofs.lemmas.Bool.{cases_lt, or_left}
use Rattle.std.proofs.lemmas.List.{length-append, length-map, length-replicate, get_or_append_left, get_or-append_right}
use Rattle.std.proofs.lemmas.List.Folds.{list_any-append}
use Rattle.std.proofs.lemmas.Nat.{mul-add-lt}
use Rattle.log_image.proofs.ListLemmas.{each_join}
use Rattle.log_image.specs.Image.{Shape}
use Rattle.pmem_words.specs.Owned.{owned_at}
use Rattle.pmem_words.specs.declared.owned.OwnedBlock.{OwnedBlock}
use Rattle.pmem_words.specs.Seats.{Seat, Blocks}
use Rattle.persistence.specs.Memory.{Replaced, PendingMark, Cell}
use Rattle.log_image.specs.Chains.{is_listed}
use Rattle.log_core.specs.Views.{Ghost}
use Rattle.log_core.specs.Works.{seat_shape, words_of}
use Rattle.log_core.specs.Needs.{owned_numbers}
use Rattle.log_core.specs.Steps.{area_of, taken_block}
use Rattle.log_core.specs.Owned.{StoredHolds, OwnedHold}
use Rattle.log_core.proofs.BlockLists.{numbers_taken}
use Rattle.log_core.proofs.Each.{each_weaker}
use Rattle.log_core.proofs.clauses.OwnedPlaces.{owning, SamePlace, IsNewPlace, PlacesFit, owned_stays}

-- blocks that are taken are in their areas, and neither filled nor fenced
taken_areas : (image : Shape) (blocks : List ℕ) → AllByRecursion (λ (o : OwnedBlock). o.area ≡ area_of image o.block) (map (taken_block image) blocks)
taken_areas image [] = tt
taken_areas image (block ∷ blocks) = (refl, taken_areas image blocks)

taken_unfilled : (image : Shape) (blocks : List ℕ) (place : ℕ) → (owned_at (map (taken_block image) blocks) place).filled ≡ false
taken_unfilled image [] place = refl
taken_unfilled image (block ∷ blocks) zero = refl
taken_unfilled image (block ∷ blocks) (suc place) = taken_unfilled image blocks place

taken_unfenced : (image : Shape) (blocks : List ℕ) (place : ℕ) → (owned_at (map (taken_block image) blocks) place).fenced ≡ false
taken_unfenced image [] place = refl
taken_unfenced image (block ∷ blocks) zero = refl
taken_unfenced image (block ∷ blocks) (suc place) = taken_unfenced image blocks place

-- the blocks of a state of a seat with some taken
abbrev pub blocks_taken : Seat → List ℕ → List ℕ → Blocks
blocks_taken s blocks found = record (s.blocks) {
  owned = s.blocks.owned ++ map (taken_block (seat_shape s)) blocks;
  contents = s.blocks.contents ++ replicate (length blocks * words_of s) 0;
  found = found;
}

module _ (cells : ℕ → Cell) (past : List Replaced) (pending : List PendingMark) (n : ℕ) (s : Seat) (g h : Ghost) (old : OwnedHold cells past pending n g s) (same : h.stored ≡ g.stored) (blocks found : List ℕ) where
  contents_taken : length (blocks_taken s blocks found).contents ≡ length (blocks_taken s blocks found).owned * words_of s
  contents_taken =
      length-append s.blocks.contents (replicate (length blocks * words_of s) 0)
      ∙ (ap (λ (m : ℕ). length s.blocks.contents + m) (length-replicate (length blocks * words_of s) 0)
      ∙ (ap (λ (m : ℕ). m + length blocks * words_of s) old.contents
      ∙ (sym (add-mul (length s.blocks.owned) (length blocks) (words_of s))
      ∙ ap (λ (m : ℕ). m * words_of s) (sym (length-append s.blocks.owned (map (taken_block (seat_shape s)) blocks) ∙ ap (λ (m : ℕ). length s.blocks.owned + m) (length-map blocks (taken_block (seat_shape s))))))))

  stored_taken : AllByRecursion (StoredHolds cells past pending n (words_of s) (owned_numbers (blocks_taken s blocks found).owned)) h.stored
  stored_taken = rw same (each_weaker (StoredHolds cells past pending n (words_of s) (owned_numbers s.blocks.owned)) (StoredHolds cells past pending n (words_of s) (owned_numbers (blocks_taken s blocks found).owned)) g.stored
      (λ stored holds. record {
        mine = ap (λ (l : List ℕ). is_listed l (stored.word / words_of s)) (numbers_taken (seat_shape s) s.blocks.owned blocks)
            ∙ (list_any-append (λ (other : ℕ). other == stored.word / words_of s) (owned_numbers s.blocks.owned) blocks
            ∙ or_left (is_listed (owned_numbers s.blocks.owned) (stored.word / words_of s)) (is_listed blocks (stored.word / words_of s)) holds.mine);
        present = holds.present;
        marked = holds.marked;
      }) old.stored)

  places_taken : PlacesFit s (blocks_taken s blocks found) g.stored h.stored
  places_taken place inside = go (cases_lt place (length s.blocks.owned))
    where
      later : length s.blocks.owned ≤ place → owned_at (blocks_taken s blocks found).owned place ≡ owned_at (map (taken_block (seat_shape s)) blocks) (place - length s.blocks.owned)
      later from = get_or-append_right s.blocks.owned (map (taken_block (seat_shape s)) blocks) (length s.blocks.owned) place _ refl from

      go : (place < length s.blocks.owned) ⊎ (length s.blocks.owned ≤ place) → SamePlace s (blocks_taken s blocks found) g.stored h.stored place ⊎ IsNewPlace (blocks_taken s blocks found) place
      go (inl low) = inl (record {
        from = place;
        inside = low;
        same = get_or_append_left s.blocks.owned (map (taken_block (seat_shape s)) blocks) _ place low;
        words = λ word below. get_or_append_left s.blocks.contents (replicate (length blocks * words_of s) 0) 0 (place * words_of s + word)
            (let product = mul-add-lt place (words_of s) word (length s.blocks.owned) low below in let turned = mul_comm (words_of s) (length s.blocks.owned) in omega (arith, product, turned, old.contents));
        stored = λ word below. rw same refl;
      })
      go (inr from) = inr (record {
        unfilled = ap (λ (o : OwnedBlock). o.filled) (later from) ∙ taken_unfilled (seat_shape s) blocks (place - length s.blocks.owned);
        unfenced = ap (λ (o : OwnedBlock). o.fenced) (later from) ∙ taken_unfenced (seat_shape s) blocks (place - length s.blocks.owned);
      })

  pub taken_hold : OwnedHold cells past pending n h (owning s (blocks_taken s blocks found))
  taken_hold = owned_stays cells past pending n s (blocks_taken s blocks found) g h old contents_taken
      (each_join (λ (o : OwnedBlock). o.area ≡ area_of (seat_shape s) o.block) s.blocks.owned (map (taken_block (seat_shape s)) blocks) old.areas (taken_areas (seat_shape s) blocks))
      stored_taken places_taken
