-- Marking a word of an owned block, and counting the block as filled, is lawful within a core.
use Rattle.std.proofs.Common.{◌≡◌, ◌≢◌, ◌<◌, ◌≤◌, ◌+◌, ◌⊎◌, inl, inr, nat_lt, ℕ, suc, Bool, true, false, [], ◌∷◌, length, refl, sym, ap, ◌∙◌, subst, arith}
use Rattle.std.proofs.lemmas.List.{length-set}
use Rattle.std.proofs.lemmas.Bool.{cases_eq, lt-ltb, le-ltb, ltb-true, ltb-false, cases_lt}
use Rattle.pmem_words.specs.Owned.{owned_at}
use Rattle.pmem_words.specs.Seats.{Seat, q_of}
use Rattle.pmem_words.specs.declared.machine.Turn.TheVariants.{Done}
use Rattle.log_core.specs.Views.{Ghost}
use Rattle.log_core.specs.Origin.{Origin}
use Rattle.log_core.specs.Works.{CountsFilled, MayCountFilled}
use Rattle.log_core.specs.Steps.{MarksWord, ghost_after, is_head_marked}
use Rattle.log_core.specs.May.{OfOwned}
use Rattle.log_core.specs.Answers.{Enters}
use Rattle.log_core.specs.Within.{no_record, adds_at, Lawful}
use Rattle.log_core.proofs.machines.Entering.{enters_same, enters_works}
use Rattle.block_bitmap.specs.declared.fill.Fill.TheVariants.{Mark}
use Rattle.block_bitmap.specs.OwnedWords.{owned_block_at, image_word, content_at, with_filled_block}
use Rattle.block_bitmap.specs.Filling.{fill_script, block_next, marked_after}
use Rattle.block_bitmap.specs.Filled.{filled_anew, filled_from}
use Rattle.block_bitmap.specs.FillWithin.{IsCalm, IsFilled}
use Rattle.block_bitmap.proofs.FillStanding.{IsStored, MarkStands, FillStands}
use Rattle.log_core.proofs.BlockWords.{q_range}
use Rattle.block_bitmap.proofs.OwnedFlags.{unfilled_many}
use Rattle.block_bitmap.proofs.OwnedInCore.{few_owned}
use Rattle.block_bitmap.proofs.FillOwned.{marked_here, marked_other, head_unmarked}
use Rattle.block_bitmap.proofs.FilledSeats.{filled_more, filled_many}
use Rattle.block_bitmap.proofs.FillPlaces.{owns_no_header, not_head, words_apart, inside, has_blocks, mine}

module _ (o : Origin) (seat first count : ℕ) (start : Seat) where
  -- a word of a block is marked
  module _ (place left word : ℕ) (s : Seat) (g : Ghost) (stands : MarkStands first count start place left word s g) (f : ℕ) where
    abbrev marked : Ghost
    marked = ghost_after g s s (MarksWord (image_word s place word)) f

    marked_more : (k : ℕ) → k < q_of s.geometry → IsStored s marked place k (nat_lt k (word + 1))
    marked_more k low = by (cases_eq k word)
      where
        by : (k ≡ word) ⊎ (k ≢ word) → IsStored s marked place k (nat_lt k (word + 1))
        by (inl same) = subst (λ (j : ℕ). IsStored s marked place j (nat_lt j (word + 1))) (sym same)
            (rw (lt-ltb word (word + 1) (omega arith)) (marked_here g.stored (image_word s place word) (content_at s place word) (nat_lt word word) (stands.stored word stands.here.inside)))
        by (inr apart) = subst (λ (b : Bool). IsStored s marked place k b) (order (cases_lt k word))
            (marked_other g.stored (image_word s place word) (image_word s place k) (words_apart s place k word apart) ∙ stands.stored k low)
          where
            order : (k < word) ⊎ (word ≤ k) → nat_lt k word ≡ nat_lt k (word + 1)
            order (inl less) = lt-ltb k word less ∙ sym (lt-ltb k (word + 1) (omega (arith, less)))
            order (inr more) = le-ltb k word more ∙ sym (le-ltb k (word + 1) (omega (arith, more, apart)))

    -- no head is marked with it
    module _ (some : owned_block_at s place ≢ 0) where
      calm_marked : is_head_marked s.giving.replaced_generation marked.marks ≡ true → s.giving.head_fenced ≡ true
      calm_marked is = stands.here.calm.no_head (sym (head_unmarked s.giving.replaced_generation g.marks (image_word s place word) f (not_head s place word some)) ∙ is)

      marks_on : word + 1 < q_of s.geometry → MarkStands first count start place left (word + 1) s marked
      marks_on more = record {
        here = record {
          some = stands.here.some;
          owned = stands.here.owned;
          inside = more;
          calm = record { no_sync = stands.here.calm.no_sync; no_head = calm_marked; small = stands.here.calm.small };
          done = stands.here.done;
          at = stands.here.at;
          many = stands.here.many;
        };
        seat = stands.seat;
        stored = marked_more;
      }

      -- the block is filled
      seat_counted : with_filled_block s place ≡ filled_from start first (suc stands.here.done)
      seat_counted =
          ap (λ (t : Seat). with_filled_block t place) stands.seat
          ∙ ap (filled_anew (filled_from start first stands.here.done)) stands.here.at
          ∙ sym (filled_more start first stands.here.done)

      counted_calm : IsCalm (with_filled_block s place) marked
      counted_calm = record { no_sync = stands.here.calm.no_sync; no_head = calm_marked; small = stands.here.calm.small }

      all_owned : length s.blocks.owned ≡ length start.blocks.owned
      all_owned = ap (λ (t : Seat). length t.blocks.owned) stands.seat ∙ unfilled_many (filled_from start first stands.here.done) place ∙ filled_many start first stands.here.done

      blocks_on : (b : Bool) → nat_lt 1 left ≡ b → FillStands first count start (block_next b place left) (with_filled_block s place) marked
      blocks_on true more = (let h = stands.here in let less = ltb-true 1 left more in let all = h.many in let owned = h.owned in let at = h.at in
          let many : length (with_filled_block s place).blocks.owned ≡ length s.blocks.owned = length-set s.blocks.owned place (record (owned_at s.blocks.owned place) { filled = true }) in
          let low = (q_range s.geometry).0 in
          record {
            here = record {
              some = omega (arith, less);
              owned = omega (arith, less, owned, many);
              inside = omega (arith, low);
              calm = counted_calm;
              done = suc h.done;
              at = omega (arith, at);
              many = omega (arith, all, less);
            };
            seat = seat_counted;
            stored = λ k none. absurd (omega (arith, none));
          })
      blocks_on false last = (let h = stands.here in let most = ltb-false 1 left last in let some_left = h.some in let all = h.many in let owned = h.owned in let at = h.at in let long = all_owned in
          let done : suc h.done ≡ count = omega (arith, all, most, some_left) in
          record {
            calm = counted_calm;
            owned = omega (arith, owned, long, at, all);
            seat = seat_counted ∙ ap (filled_from start first) done;
          })

      goes_marked : (b : Bool) → nat_lt (word + 1) (q_of s.geometry) ≡ b → FillStands first count start (marked_after b place left word s).machine (marked_after b place left word s).seat marked
      goes_marked true more = marks_on (ltb-true (word + 1) (q_of s.geometry) more)
      goes_marked false last = blocks_on (nat_lt 1 left) refl

    -- after its last word the block counts as filled
    may_count : word + 1 ≡ q_of s.geometry → MayCountFilled marked s place
    may_count last = record {
      owned = inside first count place left word s g stands.here;
      each = λ k low. subst (λ (b : Bool). IsStored s marked place k b) (lt-ltb k (word + 1) (omega (arith, low, last))) (marked_more k low);
    }

    enters_marked : (b : Bool) → nat_lt (word + 1) (q_of s.geometry) ≡ b → Enters marked s (marked_after b place left word s).seat (adds_at no_record (marked_after b place left word s).seat (marked_after b place left word s).turn)
    enters_marked true more = enters_same marked s s refl
    enters_marked false last = enters_works marked s (CountsFilled place ∷ []) (may_count (let most = ltb-false (word + 1) (q_of s.geometry) last in let within = stands.here.inside in omega (arith, most, within)), tt) refl

    never_done : (b : Bool) (out : Unit {0}) → (marked_after b place left word s).turn ≡ Done out → ⊥
    never_done true out done = cc
    never_done false out done = cc

  pub mark_lawful : (place left word : ℕ) (s : Seat) (g : Ghost) → MarkStands first count start place left word s g → Lawful o seat fill_script no_record (FillStands first count start) (IsFilled first count start) (Mark place left word) s g
  mark_lawful place left word s g stands = record {
    may = λ c pin began inv unspent knows. OfOwned (mine first count place left word s g stands.here) stands.here.calm.no_sync;
    admitted = λ c pin began inv unspent knows. has_blocks first count place left word s g stands.here (few_owned o seat c s g pin began inv knows);
    enters = λ f found admits. enters_marked place left word s g stands f (nat_lt (word + 1) (q_of s.geometry)) refl;
    goes = λ f found admits go. goes_marked place left word s g stands f (owns_no_header o found.core seat s g found.pin found.began place found.holds found.knows (inside first count place left word s g stands.here)) (nat_lt (word + 1) (q_of s.geometry)) refl;
    ends = λ f out found admits done. absurd (never_done place left word s g stands f (nat_lt (word + 1) (q_of s.geometry)) out done);
  }
