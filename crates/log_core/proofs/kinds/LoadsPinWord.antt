-- A load of a pin word keeps what holds of the seat's state.
use Rattle.std.proofs.Common.{◌≡◌, ◌≢◌, ◌<◌, ◌≤◌, ◌+◌, ℕ, true, List, [], ◌∷◌, ◌++◌, take, length, sym, ◌∙◌, ap, subst, arith, ◌⊎◌, ⊎_elim, slice_index}
use Rattle.std.proofs.lemmas.List.{get_or_push, get_or_append_left, get_or-take, length-take-le, length_push}
use Rattle.pmem_words.specs.Seats.{Seat, Hold}
use Rattle.persistence.specs.Memory.{cell}
use Rattle.log_core.specs.Entries.{head_place}
use Rattle.log_core.specs.Views.{Ghost, view_of}
use Rattle.log_core.specs.Origin.{Origin, first_generation}
use Rattle.log_core.specs.Cores.{Core, current}
use Rattle.log_core.specs.Pins.{PinHolds}
use Rattle.log_core.specs.Giving.{ScanHolds}
use Rattle.log_core.specs.Invariant.{Invariant}
use Rattle.log_core.specs.Knows.{Knows}
use Rattle.log_core.proofs.Facts.{scan_facts}
use Rattle.log_core.proofs.clauses.OneView.{same_or_other}

abbrev pub seen_at : Seat → ℕ → ℕ → Seat
seen_at s other found = record s { giving = record (s.giving) { pins_seen = take other s.giving.pins_seen ++ found ∷ [] } }

length_seen : (seen : List ℕ) (other found : ℕ) → other ≤ length seen → length (take other seen ++ found ∷ []) ≡ other + 1
length_seen seen other found low = length_push (take other seen) found ∙ ap (λ (m : ℕ). m + 1) (length-take-le other seen low)

before_seen : (seen : List ℕ) (other found k : ℕ) → other ≤ length seen → k < other → slice_index (take other seen ++ found ∷ []) k ≡ slice_index seen k
before_seen seen other found k low less =
    get_or_append_left (take other seen) (found ∷ []) 0 k (let e = length-take-le other seen low in omega (arith, e, less)) ∙ get_or-take other seen k 0 less

last_seen : (seen : List ℕ) (other found : ℕ) → other ≤ length seen → slice_index (take other seen ++ found ∷ []) other ≡ found
last_seen seen other found low = get_or_push (take other seen) found 0 other (length-take-le other seen low)

-- a value that is a valid pin of its seat tells that seat's generation
free_pin : (first now generation found : ℕ) (head : Rattle.persistence.specs.Memory.Cell) (h : Hold) → PinHolds first now head h → found ≡ h.pin → (found ≡ 0) ⊎ (generation < found) → h.valid ≡ true → generation < h.generation
free_pin first now generation found head h holds is free valid =
    (let e = holds.valid_is valid in let some = holds.valid_some valid in ⊎_elim
    (λ (none : found ≡ 0). absurd (some (sym e ∙ (sym is ∙ none))))
    (λ (above : generation < found). omega (arith, above, is, e))
    free)

-- of one list: a scan that is longer by this pin is right of each seat
list_seen : (seen : List ℕ) (other found k generation first now : ℕ) (head : Rattle.persistence.specs.Memory.Cell) (h : Hold) → other ≤ length seen → (k ≡ other → found ≡ h.pin) → PinHolds first now head h →
    (k < length seen → (slice_index seen k ≡ 0) ⊎ (generation < slice_index seen k) → h.valid ≡ true → generation < h.generation) →
    k < length (take other seen ++ found ∷ []) → (slice_index (take other seen ++ found ∷ []) k ≡ 0) ⊎ (generation < slice_index (take other seen ++ found ∷ []) k) → h.valid ≡ true → generation < h.generation
list_seen seen other found k generation first now head h low is holds old inside free valid = same_or_other k other
    (λ same. free_pin first now generation found head h holds (is same)
    (subst (λ (value : ℕ). (value ≡ 0) ⊎ (generation < value)) (last_seen seen other found low) (subst (λ (j : ℕ). (slice_index (take other seen ++ found ∷ []) j ≡ 0) ⊎ (generation < slice_index (take other seen ++ found ∷ []) j)) same free)) valid)
    (λ apart. (let count = length_seen seen other found low in let less : k < other = omega (arith, inside, count, apart) in
    old (omega (arith, less, low)) (subst (λ (value : ℕ). (value ≡ 0) ⊎ (generation < value)) (before_seen seen other found k low less) free) valid))

module _ (o : Origin) (c : Core) (n : ℕ) (s : Seat) (g : Ghost) (pin began other found : ℕ) (inv : Invariant o c) (f : Knows o c n s g pin began)
    (low : other ≤ length s.giving.pins_seen) (is_others : other ≢ n → found ≡ (view_of c.views other).seat.hold.pin) (is_own : other ≡ n → found ≡ s.hold.pin) where
  scan_seen : (k : ℕ) (h : Hold) → (k ≡ other → found ≡ h.pin) → PinHolds (first_generation o) (current o c.generations) (cell c.memory head_place) h → ScanHolds s.giving k h → ScanHolds (seen_at s other found).giving k h
  scan_seen k h is holds old = record {
    replaced = list_seen s.giving.pins_seen other found k s.giving.replaced_generation (first_generation o) (current o c.generations) (cell c.memory head_place) h low is holds old.replaced;
    limbo = list_seen s.giving.pins_seen other found k s.giving.limbo_generation (first_generation o) (current o c.generations) (cell c.memory head_place) h low is holds old.limbo;
  }

  other_pin : (k : ℕ) → k ≢ n → k ≡ other → found ≡ (view_of c.views k).seat.hold.pin
  other_pin k apart same = is_others (λ e. apart (same ∙ e)) ∙ ap (λ (j : ℕ). (view_of c.views j).seat.hold.pin) (sym same)

  pub seen_facts : Knows o c n (seen_at s other found) g pin began
  seen_facts = scan_facts o c n s g pin began f (take other s.giving.pins_seen ++ found ∷ []) s.giving.limbo_held
      (λ k apart. scan_seen k (view_of c.views k).seat.hold (other_pin k apart) (inv.pins.holds k) (f.scan_others k apart)) (scan_seen n s.hold (λ same. is_own (sym same)) f.pin_holds f.scan_self)
