-- Storing a word of an owned block is lawful within a core.
use Rattle.std.proofs.Common.{◌≡◌, ◌≢◌, ◌<◌, ◌+◌, ◌*◌, ◌⊎◌, inl, inr, nat_lt, ℕ, zero, suc, Bool, true, false, length, refl, sym, ap, ◌∙◌, subst, arith}
use Rattle.std.specs.Prelude.{Some}
use Rattle.std.proofs.lemmas.Bool.{cases_eq, le-ltb, ltb-true, ltb-false}
use Rattle.pmem_words.specs.Seats.{Seat, q_of}
use Rattle.log_core.specs.Views.{Ghost}
use Rattle.log_core.specs.Origin.{Origin}
use Rattle.log_core.specs.Works.{stored_at}
use Rattle.log_core.specs.Steps.{StoresWord, effect, ghost_after, stored_with}
use Rattle.log_core.specs.Within.{no_record, Lawful}
use Rattle.log_core.proofs.clauses.OwnedLists.{stored_at_other}
use Rattle.log_core.proofs.machines.Entering.{enters_same}
use Rattle.block_bitmap.specs.declared.fill.Fill.TheVariants.{Store}
use Rattle.block_bitmap.specs.OwnedWords.{image_word, content_at, unfilled}
use Rattle.block_bitmap.specs.Filling.{fill_script, stored_next}
use Rattle.block_bitmap.specs.Filled.{filled_from}
use Rattle.block_bitmap.specs.FillWithin.{IsFilled}
use Rattle.block_bitmap.proofs.FillStanding.{IsStored, stored_to, IsAtBlock, StoreStands, FillStands}
use Rattle.log_core.proofs.BlockWords.{q_range}
use Rattle.block_bitmap.proofs.OwnedFlags.{unfilled_each, unfilled_many}
use Rattle.block_bitmap.proofs.OwnedInCore.{few_owned}
use Rattle.block_bitmap.proofs.FillOwned.{stored_here}
use Rattle.block_bitmap.proofs.FilledSeats.{stored_unfilled}
use Rattle.block_bitmap.proofs.FillPlaces.{words_apart, inside, has_blocks, mine, stores}

module _ (o : Origin) (seat first count : ℕ) (start : Seat) where
  -- a word of a block is stored
  module _ (place left word : ℕ) (s : Seat) (g : Ghost) (stands : StoreStands first count start place left word s g) (f : ℕ) where
    within : place < length s.blocks.owned
    within = inside first count place left word s g stands.here

    abbrev next : Ghost
    next = ghost_after g s (effect g.marks s (StoresWord (image_word s place word) (content_at s place word)) f) (StoresWord (image_word s place word) (content_at s place word)) f

    -- its words up to this one, and this one, are stored
    stored_more : (k : ℕ) → k < word + 1 → IsStored (unfilled s place) next place k false
    stored_more k low = rw (unfilled_each s place place) (by (cases_eq k word))
      where
        by : (k ≡ word) ⊎ (k ≢ word) → stored_at (stored_with g.stored (image_word s place word) (content_at s place word)) (image_word s place k) ≡ Some (record { word = image_word s place k; value = content_at s place k; marked = false })
        by (inl same) = subst (λ (j : ℕ). stored_at (stored_with g.stored (image_word s place word) (content_at s place word)) (image_word s place j) ≡ Some (record { word = image_word s place j; value = content_at s place j; marked = false })) (sym same)
            (stored_here g.stored (image_word s place word) (content_at s place word))
        by (inr apart) = stored_at_other g.stored (image_word s place word) (content_at s place word) (image_word s place k) (words_apart s place k word apart) ∙ stands.stored k (omega (arith, low, apart))

    seat_stored : unfilled s place ≡ unfilled (filled_from start first stands.here.done) place
    seat_stored =
        (let base : Seat = filled_from start first stands.here.done in
        let many : length s.blocks.owned ≡ length base.blocks.owned = ap (λ (t : Seat). length t.blocks.owned) stands.seat ∙ stored_many base word in
        ap (λ (t : Seat). unfilled t place) stands.seat ∙ stored_unfilled base place word (omega (arith, many, within)))
      where
        stored_many : (base : Seat) (w : ℕ) → length (stored_to base place w).blocks.owned ≡ length base.blocks.owned
        stored_many base zero = refl
        stored_many base (suc w) = unfilled_many base place

    abbrev at_next : (k : ℕ) → k < q_of s.geometry → IsAtBlock first count place left k (unfilled s place) next
    at_next k low = (let h = stands.here in let many = unfilled_many s place in record {
      some = h.some;
      owned = (let owned = h.owned in omega (arith, owned, many));
      inside = low;
      calm = record { no_sync = h.calm.no_sync; no_head = h.calm.no_head; small = h.calm.small };
      done = h.done;
      at = h.at;
      many = h.many;
    })

    stores_on : (b : Bool) → nat_lt (word + 1) (q_of s.geometry) ≡ b → FillStands first count start (stored_next b place left word) (unfilled s place) next
    stores_on true more = record {
      here = at_next (word + 1) (ltb-true (word + 1) (q_of s.geometry) more);
      seat = seat_stored ∙ ap (stored_to (filled_from start first stands.here.done) place) (let same : suc word ≡ word + 1 = omega arith in same);
      stored = stored_more;
    }
    stores_on false last = record {
      here = at_next 0 (let low = (q_range s.geometry).0 in omega (arith, low));
      seat = seat_stored;
      stored = λ k low. subst (λ (b : Bool). IsStored (unfilled s place) next place k b) (sym (le-ltb k 0 (omega arith))) (stored_more k (let most = ltb-false (word + 1) (q_of s.geometry) last in let within = stands.here.inside in omega (arith, low, most, within)));
    }

  pub store_lawful : (place left word : ℕ) (s : Seat) (g : Ghost) → StoreStands first count start place left word s g → Lawful o seat fill_script no_record (FillStands first count start) (IsFilled first count start) (Store place left word) s g
  store_lawful place left word s g stands = record {
    may = λ c pin began inv unspent knows. record { owned = mine first count place left word s g stands.here; small = stands.here.calm.small (place * q_of s.geometry + word) };
    admitted = λ c pin began inv unspent knows. has_blocks first count place left word s g stands.here (few_owned o seat c s g pin began inv knows);
    enters = λ f found admits. enters_same _ _ (unfilled s place) (stores first count place left word s g stands.here f found.knows.owns.owned.once);
    goes = λ f found admits go. stores_on place left word s g stands f (nat_lt (word + 1) (q_of s.geometry)) refl;
    ends = λ f out found admits done. cc;
  }
