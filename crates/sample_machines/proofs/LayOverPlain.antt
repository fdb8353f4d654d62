-- Laying over a plain memory, for whatever is to hold afterwards.
use Rattle.std.proofs.Common.{ℕ, zero, suc, ◌≡◌, ◌+◌, ◌<◌, ◌≤◌, nat_lt, Bool, true, false, List, length, slice_index, slice_set, refl, subst, arith}
use Rattle.std.proofs.lemmas.Bool.{ltb-true, ltb-false}
use Rattle.pmem_words.specs.Seats.{Seat}
use Rattle.pmem_words.specs.Courses.{over}
use Rattle.pmem_words.specs.Leads.{Leads, LeadsAt}
use Rattle.asks.specs.SharedWords.{SharedWords}
use Rattle.pmem_words.specs.PlainWords.{plain}
use Rattle.pmem_words.proofs.PlainLemmas.{leads_plain}
use Rattle.sample_machines.specs.Laid.{IsLaid}
use Rattle.sample_machines.specs.Laying.{lay_script, if_more}
use Rattle.sample_machines.specs.Posted.{with_words}
use Rattle.sample_machines.proofs.LaidLemmas.{none_laid, more_laid}

module _ (Q : Unit {0} → Seat → SharedWords → Type 0) (first : ℕ) (s : Seat) (w : SharedWords) (few : length s.calling.bytes < 65536) (room : first + length s.calling.bytes ≤ length w.words)
    (then : (words : List ℕ) → IsLaid first (length s.calling.bytes) s.calling.bytes w.words words → Q tt s (with_words w words)) where
  more_or_end : (b : Bool) (next : ℕ) (words : List ℕ) → nat_lt (next + 1) (length s.calling.bytes) ≡ b
      → (next + 1 < length s.calling.bytes → Leads lay_script (over lay_script plain) Q (record { first = first; next = next + 1 }) s (with_words w words))
      → (length s.calling.bytes ≤ next + 1 → Q tt s (with_words w words))
      → LeadsAt lay_script (over lay_script plain) Q (record { first = first; next = next + 1 }) s (if_more b) (with_words w words)
  more_or_end true next words e more done = more (ltb-true (next + 1) (length s.calling.bytes) e)
  more_or_end false next words e more done = done (ltb-false (next + 1) (length s.calling.bytes) e)

  lay_rest : (left next : ℕ) (words : List ℕ) → length s.calling.bytes ≤ next + left → next < length s.calling.bytes → IsLaid first next s.calling.bytes w.words words
      → Leads lay_script (over lay_script plain) Q (record { first = first; next = next }) s (with_words w words)
  lay_rest zero next words end here laid = absurd (omega arith)
  lay_rest (suc left) next words end here laid =
      let long : length words ≡ length w.words = laid.same_length in
      let inside : first + next < length words = omega arith in
      let more : IsLaid first (next + 1) s.calling.bytes w.words (slice_set words (first + next) (slice_index s.calling.bytes next)) = more_laid first next s.calling.bytes w.words words laid inside in
      leads_plain lay_script Q (record { first = first; next = next }) s (with_words w words) inside
      (λ small. record { left = here; few = few })
      (more_or_end (nat_lt (next + 1) (length s.calling.bytes)) next (slice_set words (first + next) (slice_index s.calling.bytes next)) refl
      (λ h. lay_rest left (next + 1) (slice_set words (first + next) (slice_index s.calling.bytes next)) (omega arith) h more)
      (λ h. let all : next + 1 ≡ length s.calling.bytes = omega arith in then (slice_set words (first + next) (slice_index s.calling.bytes next)) (subst (λ (n : ℕ). IsLaid first n s.calling.bytes w.words (slice_set words (first + next) (slice_index s.calling.bytes next))) all more)))

  pub lay_over_plain : 0 < length s.calling.bytes → Leads lay_script (over lay_script plain) Q (record { first = first; next = 0 }) s w
  lay_over_plain some = lay_rest (length s.calling.bytes) 0 w.words (omega arith) some (none_laid first s.calling.bytes w.words)

-- what is left after laying alone
pub record LaidAlone (first : ℕ) (s : Seat) (w : SharedWords) (o : Unit {0}) (t : Seat) (v : SharedWords) : Type 0 where
  pub seat : t ≡ s
  pub others : v ≡ with_words w v.words
  pub laid : IsLaid first (length s.calling.bytes) s.calling.bytes w.words v.words

pub laid_alone : (first : ℕ) (s : Seat) (w : SharedWords) → 0 < length s.calling.bytes → length s.calling.bytes < 65536 → first + length s.calling.bytes ≤ length w.words
    → Leads lay_script (over lay_script plain) (LaidAlone first s w) (record { first = first; next = 0 }) s w
laid_alone first s w some few room =
    lay_over_plain (LaidAlone first s w) first s w few room (λ words is. record { seat = refl; others = refl; laid = is }) some
