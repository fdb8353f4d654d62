-- A post over a plain memory, from what its parts promise alone.
use Rattle.std.proofs.Common.{ℕ, zero, suc, ◌≡◌, ◌≢◌, ◌+◌, ◌<◌, ◌≤◌, nat_lt, Bool, true, false, List, length, slice_index, refl, sym, ◌∙◌, ◌==◌, subst, arith}
use Rattle.std.proofs.lemmas.Bool.{ltb-true, ltb-false}
use Rattle.std.proofs.lemmas.Bool.Decides.{nat_tests}
use Rattle.pmem_words.specs.Seats.{Seat}
use Rattle.pmem_words.specs.Courses.{over}
use Rattle.pmem_words.specs.Leads.{Leads}
use Rattle.pmem_words.specs.Parts.{Embeds, LeadsOn}
use Rattle.asks.specs.SharedWords.{SharedWords}
use Rattle.pmem_words.specs.PlainWords.{plain}
use Rattle.pmem_words.proofs.StageLemmas.{stage_over}
use Rattle.sample_machines.specs.declared.lay.Lay.{Lay}
use Rattle.sample_machines.specs.declared.offer.Offer.{Offer}
use Rattle.sample_machines.specs.declared.post.Post.{Post}
use Rattle.sample_machines.specs.declared.post.Stage.TheVariants.{Laying, Offering}
use Rattle.sample_machines.specs.Laid.{IsLaid}
use Rattle.sample_machines.specs.Laying.{lay_script}
use Rattle.sample_machines.specs.Offering.{offer_script, offer_ends}
use Rattle.sample_machines.specs.Posting.{post_script, post_of, at_stage, laid, offered, again_if}
use Rattle.sample_machines.specs.Posted.{CanPost, IsPosted, at_slot, with_words}
use Rattle.sample_machines.proofs.LaidLemmas.{laid_again, laid_before}
use Rattle.sample_machines.proofs.LayOverPlain.{lay_over_plain}
use Rattle.sample_machines.proofs.OfferOverPlain.{offer_over_plain}

at_lay : (m : Post) → Embeds lay_script post_script (λ n. at_stage m (Laying n)) (laid m)
at_lay m = record { asks = λ p s. refl; after = λ p s a. refl }

at_offer : (m : Post) → Embeds offer_script post_script (λ n. at_stage m (Offering n)) (offered m)
at_offer m = record { asks = λ p s. refl; after = λ p s a. refl }

-- a filled slot more
filled_if : (b : Bool) (slot k : ℕ) {low : ℕ} (words : List ℕ) → ((j : ℕ) → low ≤ j → j < slot → slice_index words j ≢ 0) → slice_index words slot ≢ 0 → low ≤ k → k < slot + 1 → (k == slot) ≡ b → slice_index words k ≢ 0
filled_if true slot k {low} words filled here above below e = subst (λ (j : ℕ). slice_index words j ≢ 0) (let same : slot ≡ k = grind (arith, nat_tests, e) in same) here
filled_if false slot k {low} words filled here above below e = filled k above (let other : k < slot = grind (arith, nat_tests, e) in other)

-- a seat at a slot below the limit, with few bytes
abbrev Below : Post → Seat → Type 0
Below m s = (s.walk.tail_slot < m.limit) × (length s.calling.bytes < 65536)

offer_admits : (m : Post) (p : Offer) (s : Seat) (a : ℕ) → Below m s → offer_script.admits p s a → post_script.admits (at_stage m (Offering p)) s a
offer_admits m p s a k h = record { part = h; slot = k.0; few = k.1 }

lay_admits : (m : Post) (p : Lay) (s : Seat) (a : ℕ) → Below m s → lay_script.admits p s a → post_script.admits (at_stage m (Laying p)) s a
lay_admits m p s a k h = record { part = h; slot = k.0; few = k.1 }

module _ (m : Post) (Q : Bool → Seat → SharedWords → Type 0) {s : Seat} {w : SharedWords} (k : Below m s) where
  lay_stage : (p : Lay) → Leads lay_script (over lay_script plain) (λ o t v. LeadsOn post_script (over post_script plain) Q (laid m o t) v) p s w
      → Leads post_script (over post_script plain) Q (at_stage m (Laying p)) s w
  lay_stage p h = stage_over lay_script post_script plain (λ n. at_stage m (Laying n)) (laid m) (λ n t. Below m t) Q (λ n t a b h'. lay_admits m n t a b h') (λ n t a b h' go. b) (at_lay m) k h

  offer_stage : (p : Offer) → Leads offer_script (over offer_script plain) (λ o t v. LeadsOn post_script (over post_script plain) Q (offered m o t) v) p s w
      → Leads post_script (over post_script plain) Q (at_stage m (Offering p)) s w
  offer_stage p h = stage_over offer_script post_script plain (λ n. at_stage m (Offering n)) (offered m) (λ n t. Below m t) Q (λ n t a b h'. offer_admits m n t a b h') (λ n t a b h' go. absurd (offer_ends (a == 0) n t go)) (at_offer m) k h

module _ (first value limit : ℕ) (s : Seat) (w : SharedWords) (can : CanPost first value limit s w) where
  abbrev Whole : Post
  Whole = post_of first value limit

  abbrev Ending : Bool → Seat → SharedWords → Type 0
  Ending put t v = IsPosted first value limit s w put t v

  abbrev Filled : ℕ → Type 0
  Filled slot = (k : ℕ) → s.walk.tail_slot ≤ k → k < slot → slice_index w.words k ≢ 0

  -- after a lost offer: once more, or the end
  again_or_end : (b : Bool) (slot : ℕ) (words : List ℕ) → nat_lt (slot + 1) limit ≡ b
      → (slot + 1 < limit → Leads post_script (over post_script plain) Ending Whole (at_slot s (slot + 1)) (with_words w words))
      → (limit ≤ slot + 1 → Ending false (at_slot s (slot + 1)) (with_words w words))
      → LeadsOn post_script (over post_script plain) Ending (again_if b Whole (at_slot s (slot + 1))) (with_words w words)
  again_or_end true slot words e again done = again (ltb-true (slot + 1) limit e)
  again_or_end false slot words e again done = done (ltb-false (slot + 1) limit e)

  filled_more : (slot : ℕ) → Filled slot → slice_index w.words slot ≢ 0 → Filled (slot + 1)
  filled_more slot filled here k low high = filled_if (k == slot) slot k w.words filled here low high refl

  -- rounds from a slot on, over words in which the bytes may have been laid before
  rounds : (n slot : ℕ) (words : List ℕ) → limit ≤ slot + n → slot < limit → s.walk.tail_slot ≤ slot → Filled slot
      → ((after : List ℕ) → IsLaid first (length s.calling.bytes) s.calling.bytes words after → IsLaid first (length s.calling.bytes) s.calling.bytes w.words after) → length words ≡ length w.words
      → Leads post_script (over post_script plain) Ending Whole (at_slot s slot) (with_words w words)
  rounds zero slot words end below later filled over_before same = absurd (omega arith)
  rounds (suc n) slot words end below later filled over_before same =
      let few : length s.calling.bytes < 65536 = can.few in
      let room : first + length s.calling.bytes ≤ length w.words = can.room in
      lay_stage Whole Ending (below, few) (record { first = first; next = 0 })
      (lay_over_plain (λ o t v. LeadsOn post_script (over post_script plain) Ending (laid Whole o t) v) first (at_slot s slot) (with_words w words) few
      (omega arith)
      (λ after is.
      let bytes : IsLaid first (length s.calling.bytes) s.calling.bytes w.words after = over_before after is in
      let long : length after ≡ length w.words = bytes.same_length in
      let apart : slot < first = let beyond : limit ≤ first = can.apart in omega arith in
      let found : slice_index after slot ≡ slice_index w.words slot = laid_before first (length s.calling.bytes) s.calling.bytes w.words after slot bytes apart in
      offer_stage Whole Ending (below, few) (record { value = value })
      (offer_over_plain (λ o t v. LeadsOn post_script (over post_script plain) Ending (offered Whole o t) v) (record { value = value }) (at_slot s slot) (with_words w after)
      (omega arith)
      (let small : limit < 65536 = can.limit_small in omega arith)
      (λ empty. record {
        slot = slot;
        laid = after;
        later = later;
        filled = filled;
        bytes = bytes;
        seat = refl;
        won = λ e. (sym found ∙ empty, refl);
        lost = λ (e : true ≡ false). cc;
      })
      (λ full.
      let more : Filled (slot + 1) = filled_more slot filled (λ e. full (found ∙ e)) in
      again_or_end (nat_lt (slot + 1) limit) slot after refl
      (λ h. rounds n (slot + 1) after (omega arith) h (omega arith) more
      (λ last is'. laid_again first (length s.calling.bytes) s.calling.bytes w.words after last bytes is') long)
      (λ h. record {
        slot = slot + 1;
        laid = after;
        later = omega arith;
        filled = more;
        bytes = bytes;
        seat = refl;
        won = λ (e : false ≡ true). cc;
        lost = λ e. (h, refl);
      })))) can.some)

  -- a post that has not begun
  pub post_over_plain : Leads post_script (over post_script plain) Ending (post_of first value limit) s w
  post_over_plain =
      rounds limit s.walk.tail_slot w.words (omega arith) can.slot (omega arith)
      (λ k low high. absurd (omega arith)) (λ after is. is) refl
