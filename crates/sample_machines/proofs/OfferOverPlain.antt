-- An offer over a plain memory, for whatever is to hold afterwards.
use Rattle.std.proofs.Common.{ℕ, ◌≡◌, ◌≢◌, ◌+◌, ◌<◌, ◌==◌, if◌then◌else◌, Bool, true, false, List, length, slice_index, slice_set, refl, sym, subst, arith}
use Rattle.std.proofs.lemmas.Bool.Decides.{nat_tests}
use Rattle.std.proofs.lemmas.List.{set-get_or}
use Rattle.pmem_words.specs.Seats.{Seat}
use Rattle.pmem_words.specs.Courses.{over}
use Rattle.pmem_words.specs.Leads.{Leads, LeadsAfter}
use Rattle.asks.specs.SharedWords.{SharedWords}
use Rattle.pmem_words.specs.PlainWords.{plain}
use Rattle.pmem_words.proofs.PlainLemmas.{leads_plain}
use Rattle.sample_machines.specs.declared.offer.Offer.{Offer}
use Rattle.sample_machines.specs.Offering.{offer_script, offer_after_if, next_slot}
use Rattle.sample_machines.specs.Posted.{with_words}

module _ (Q : Bool → Seat → SharedWords → Type 0) (m : Offer) (s : Seat) (w : SharedWords) where
  offer_if : (b : Bool) → (slice_index w.words s.walk.tail_slot == 0) ≡ b
      → (slice_index w.words s.walk.tail_slot ≡ 0 → Q true s (with_words w (slice_set w.words s.walk.tail_slot m.value)))
      → (slice_index w.words s.walk.tail_slot ≢ 0 → Q false (next_slot s) w)
      → LeadsAfter offer_script (over offer_script plain) Q (offer_after_if b m s) (with_words w (slice_set w.words s.walk.tail_slot (if b then m.value else slice_index w.words s.walk.tail_slot)))
  offer_if true e won lost = won (grind (arith, nat_tests, e))
  offer_if false e won lost =
      subst (λ (words : List ℕ). Q false (next_slot s) (with_words w words)) (sym (set-get_or w.words s.walk.tail_slot 0))
      (lost (grind (arith, nat_tests, e)))

  pub offer_over_plain : s.walk.tail_slot < length w.words → s.walk.tail_slot + 1 < 65536
      → (slice_index w.words s.walk.tail_slot ≡ 0 → Q true s (with_words w (slice_set w.words s.walk.tail_slot m.value)))
      → (slice_index w.words s.walk.tail_slot ≢ 0 → Q false (next_slot s) w)
      → Leads offer_script (over offer_script plain) Q m s w
  offer_over_plain inside few won lost =
      leads_plain offer_script Q m s w inside (λ small. few) (offer_if (slice_index w.words s.walk.tail_slot == 0) refl won lost)
