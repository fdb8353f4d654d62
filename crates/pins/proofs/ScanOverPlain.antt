-- A scan over a plain memory, for whatever is to hold afterwards.
use Rattle.std.proofs.Common.{ℕ, zero, suc, ◌≡◌, ◌+◌, ◌<◌, ◌≤◌, List, slice_index, refl, subst, sym, arith}
use Rattle.pmem_words.specs.Seats.{Seat}
use Rattle.pmem_words.specs.declared.TheConstants.{SEATS}
use Rattle.pmem_words.specs.Courses.{over}
use Rattle.pmem_words.specs.Leads.{Leads, LeadsAt}
use Rattle.asks.specs.SharedWords.{SharedWords}
use Rattle.pmem_words.specs.PlainWords.{plain}
use Rattle.pmem_words.proofs.PlainLemmas.{leads_plain_kept}
use Rattle.pmem_words.specs.declared.machine.Turn.{Turn}
use Rattle.pmem_words.specs.declared.machine.Turn.TheVariants.{Go, Done}
use Rattle.pins.specs.declared.scan.Scanned.{Scanned}
use Rattle.pins.specs.Steps.{with_seen, seen_after}
use Rattle.pins.specs.Scanning.{needs, scan_at, scan_of, scan_turn, scan_script}
use Rattle.pins.specs.Endings.{NeedsNone, IsScan, IsFirst, loads}
use Rattle.pins.proofs.ScanLemmas.{SoFar, none_yet, one_more, more_seen, goes_free, ends_found}

module _ (Q : Scanned → Seat → SharedWords → Type 0) (generation : ℕ) (s : Seat) (w : SharedWords) (few : s.seats ≤ SEATS)
    (then : (out : Scanned) (seen : List ℕ) → IsScan generation s.seats w.pins out → IsFirst (loads s.seats out) w.pins seen → Q out (with_seen s seen) w) where
  by_turn : (t : Turn Scanned) (n : ℕ) (seen : List ℕ)
      → (t ≡ Go → Leads scan_script (over scan_script plain) Q (scan_at generation n) (with_seen s seen) w)
      → ((out : Scanned) → t ≡ Done out → Q out (with_seen s seen) w)
      → LeadsAt scan_script (over scan_script plain) Q (scan_at generation n) (with_seen s seen) t w
  by_turn Go n seen go done = go refl
  by_turn (Done out) n seen go done = done out refl

  scan_rest : (left n : ℕ) (seen : List ℕ) → s.seats ≤ n + left → n < s.seats → SoFar generation n w.pins seen
      → Leads scan_script (over scan_script plain) Q (scan_at generation n) (with_seen s seen) w
  scan_rest zero n seen end here far = absurd (omega arith)
  scan_rest (suc left) n seen end here far =
      leads_plain_kept scan_script Q (scan_at generation n) (with_seen s seen) w (omega arith) refl
      (λ small. record { left = here; few = few; seen = far.in_order })
      (by_turn (scan_turn (needs generation (slice_index w.pins n)) (scan_at generation n) (with_seen s seen) (slice_index w.pins n)) (n + 1) (seen_after n seen (slice_index w.pins n))
      (λ go.
      let on : NeedsNone generation (slice_index w.pins n) × (n + 1 < s.seats) = goes_free (needs generation (slice_index w.pins n)) (scan_at generation n) (with_seen s seen) (slice_index w.pins n) refl go in
      scan_rest left (n + 1) (seen_after n seen (slice_index w.pins n)) (omega arith) on.1 (one_more generation n w.pins seen (slice_index w.pins n) far refl on.0))
      (λ out stop.
      let found : IsScan generation s.seats w.pins out × (loads s.seats out ≡ n + 1) = ends_found (scan_at generation n) (with_seen s seen) (slice_index w.pins n) w.pins out here refl far.free (needs generation (slice_index w.pins n)) refl stop in
      then out (seen_after n seen (slice_index w.pins n)) found.0
      (subst (λ (m : ℕ). IsFirst m w.pins (seen_after n seen (slice_index w.pins n))) (sym found.1) (more_seen n w.pins seen (slice_index w.pins n) far.first refl))))

  pub scan_over_plain : 0 < s.seats → Leads scan_script (over scan_script plain) Q (scan_of generation) s w
  scan_over_plain some = scan_rest s.seats 0 s.giving.pins_seen (omega arith) some (none_yet generation w.pins s.giving.pins_seen)

-- what is left after a scan alone
pub record ScannedAlone (generation : ℕ) (s : Seat) (w : SharedWords) (out : Scanned) (t : Seat) (v : SharedWords) : Type 0 where
  pub scan : IsScan generation s.seats w.pins out
  pub seen : IsFirst (loads s.seats out) w.pins t.giving.pins_seen
  pub seat : t ≡ with_seen s t.giving.pins_seen
  pub memory : v ≡ w

pub scanned_alone : (generation : ℕ) (s : Seat) (w : SharedWords) → 0 < s.seats → s.seats ≤ SEATS
    → Leads scan_script (over scan_script plain) (ScannedAlone generation s w) (scan_of generation) s w
scanned_alone generation s w some few =
    scan_over_plain (ScannedAlone generation s w) generation s w few
    (λ out seen scan first. record { scan = scan; seen = first; seat = refl; memory = refl }) some
