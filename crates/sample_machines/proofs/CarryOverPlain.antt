-- Carrying words over a plain memory.
use Rattle.std.proofs.Common.{ℕ, zero, suc, ◌≡◌, ◌+◌, ◌<◌, ◌≤◌, nat_lt, Bool, true, false, List, length, drop, slice_index, slice_set, refl, subst, sym, ◌∙◌, arith}
use Rattle.std.specs.Prelude.{None, Some}
use Rattle.std.proofs.lemmas.Bool.{ltb-true, ltb-false}
use Rattle.std.proofs.lemmas.List.{get_or-drop}
use Rattle.pmem_words.specs.Seats.{Seat}
use Rattle.pmem_words.specs.Courses.{over}
use Rattle.pmem_words.specs.Leads.{Leads, LeadsAt}
use Rattle.asks.specs.SharedWords.{SharedWords}
use Rattle.pmem_words.specs.PlainWords.{plain}
use Rattle.pmem_words.proofs.PlainLemmas.{leads_plain, leads_plain_kept}
use Rattle.sample_machines.specs.Carrying.{carry_script}
use Rattle.sample_machines.specs.Laid.{IsLaid}
use Rattle.sample_machines.specs.Laying.{if_more}
use Rattle.sample_machines.specs.Posted.{with_words}
use Rattle.sample_machines.specs.declared.carry.Carry.{Carry}
use Rattle.sample_machines.proofs.LaidLemmas.{none_laid, more_laid, laid_before}

-- one word more, which stands as it did at first, since the words copied to lie behind it
one_more : (from to n : ℕ) (before words : List ℕ) → IsLaid to n (drop from before) before words → from + n < to → to + n < length words
    → IsLaid to (n + 1) (drop from before) before (slice_set words (to + n) (slice_index words (from + n)))
one_more from to n before words laid apart inside =
    let same : slice_index (drop from before) n ≡ slice_index words (from + n) = get_or-drop from before n 0 ∙ sym (laid_before to n (drop from before) before words (from + n) laid apart) in
    subst (λ (x : ℕ). IsLaid to (n + 1) (drop from before) before (slice_set words (to + n) x)) same (more_laid to n (drop from before) before words laid inside)

module _ (Q : Unit {0} → Seat → SharedWords → Type 0) (from to count : ℕ) (s : Seat) (w : SharedWords) (few : count < 65536) (apart : from + count ≤ to) (room : to + count ≤ length w.words)
    (then : (words : List ℕ) → IsLaid to count (drop from w.words) w.words words → Q tt s (with_words w words)) where
  -- about to load the next word
  abbrev loading : ℕ → Carry
  loading next = record { from = from; to = to; count = count; next = next; held = None }

  more_or_end : (b : Bool) (next : ℕ) (words : List ℕ) → nat_lt (next + 1) count ≡ b
      → (next + 1 < count → Leads carry_script (over carry_script plain) Q (loading (next + 1)) s (with_words w words))
      → (count ≤ next + 1 → Q tt s (with_words w words))
      → LeadsAt carry_script (over carry_script plain) Q (loading (next + 1)) s (if_more b) (with_words w words)
  more_or_end true next words e more done = more (ltb-true (next + 1) count e)
  more_or_end false next words e more done = done (ltb-false (next + 1) count e)

  carry_rest : (left next : ℕ) (words : List ℕ) → count ≤ next + left → next < count → IsLaid to next (drop from w.words) w.words words
      → Leads carry_script (over carry_script plain) Q (loading next) s (with_words w words)
  carry_rest zero next words end here laid = absurd (omega arith)
  carry_rest (suc left) next words end here laid =
      let long : length words ≡ length w.words = laid.same_length in
      let source : from + next < length words = omega arith in
      let inside : to + next < length words = omega arith in
      let more : IsLaid to (next + 1) (drop from w.words) w.words (slice_set words (to + next) (slice_index words (from + next))) = one_more from to next w.words words laid (omega arith) inside in
      leads_plain_kept carry_script Q (loading next) s (with_words w words) source refl
      (λ small. record { left = here; few = few })
      (leads_plain carry_script Q (record (loading next) { held = Some (slice_index words (from + next)) }) s (with_words w words) inside
      (λ small. record { left = here; few = few })
      (more_or_end (nat_lt (next + 1) count) next (slice_set words (to + next) (slice_index words (from + next))) refl
      (λ h. carry_rest left (next + 1) (slice_set words (to + next) (slice_index words (from + next))) (omega arith) h more)
      (λ h. let all : next + 1 ≡ count = omega arith in then (slice_set words (to + next) (slice_index words (from + next))) (subst (λ (n : ℕ). IsLaid to n (drop from w.words) w.words (slice_set words (to + next) (slice_index words (from + next)))) all more))))

  pub carry_over_plain : 0 < count → Leads carry_script (over carry_script plain) Q (loading 0) s w
  carry_over_plain some = carry_rest count 0 w.words (omega arith) some (none_laid to (drop from w.words) w.words)

-- what is left after carrying alone
pub record CarriedAlone (from to count : ℕ) (s : Seat) (w : SharedWords) (o : Unit {0}) (t : Seat) (v : SharedWords) : Type 0 where
  pub seat : t ≡ s
  pub others : v ≡ with_words w v.words
  pub carried : IsLaid to count (drop from w.words) w.words v.words

pub carried_alone : (from to count : ℕ) (s : Seat) (w : SharedWords) → 0 < count → count < 65536 → from + count ≤ to → to + count ≤ length w.words
    → Leads carry_script (over carry_script plain) (CarriedAlone from to count s w) (record { from = from; to = to; count = count; next = 0; held = None }) s w
carried_alone from to count s w some few apart room =
    carry_over_plain (CarriedAlone from to count s w) from to count s w few apart room (λ words is. record { seat = refl; others = refl; carried = is }) some
