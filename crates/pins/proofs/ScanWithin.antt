-- A scan of the pins is lawful within a core.
use Rattle.std.proofs.Common.{◌≡◌, ◌≢◌, ◌<◌, ◌≤◌, ◌+◌, ◌==◌, nat_lt, ℕ, zero, suc, Bool, true, false, List, [], ◌∷◌, take, length, refl, sym, ◌∙◌, ap, subst, arith, ◌⊎◌, inl, inr, slice_index}
use Rattle.std.proofs.lemmas.Bool.{eqb-true, eqb-false, ltb-true, ltb-false}
use Rattle.std.proofs.lemmas.List.{get_or_push, get_or_append_left, get_or-take, length-take-le, length_push}
use Rattle.log_entry.specs.declared.calls.Held.{Held as HeldPin}
use Rattle.pmem_words.specs.declared.TheConstants.{SEATS}
use Rattle.pmem_words.specs.Seats.{Seat}
use Rattle.pmem_words.specs.declared.machine.Turn.TheVariants.{Go, Done}
use Rattle.log_core.specs.Views.{Ghost}
use Rattle.log_core.specs.Origin.{Origin}
use Rattle.log_core.specs.Within.{no_record, Serves}
use Rattle.log_core.proofs.clauses.OneView.{same_or_other}
use Rattle.log_core.proofs.machines.Entering.{enters_turn}
use Rattle.log_core.proofs.machines.MachineLaws.{Law, promised}
use Rattle.pins.specs.declared.scan.Scan.{Scan}
use Rattle.pins.specs.declared.scan.Scanned.{Scanned}
use Rattle.pins.specs.declared.scan.Scanned.TheVariants.{Clear, Held}
use Rattle.pins.specs.Steps.{pin_found, seen_after, with_seen}
use Rattle.pins.specs.Scanning.{needs, scan_of, scan_script, scan_lowers, scan_turn, if_left}
use Rattle.pins.specs.Within.{MayScan, HasScanned, ScansWithin}

-- the pin words seen after one more: its own place has it, and the places before it are as they were
low_seen : (seen : List ℕ) (n : ℕ) → (n ≢ 0 → length seen ≡ n) → n ≤ length seen
low_seen seen zero is = omega arith
low_seen seen (suc n) is = (let e = is (λ none. cc) in omega (arith, e))

many_seen : (seen : List ℕ) (n word : ℕ) → n ≤ length seen → length (seen_after n seen word) ≡ n + 1
many_seen seen n word low = length_push (take n seen) word ∙ ap (λ (m : ℕ). m + 1) (length-take-le n seen low)

last_seen : (seen : List ℕ) (n word : ℕ) → n ≤ length seen → slice_index (seen_after n seen word) n ≡ word
last_seen seen n word low = get_or_push (take n seen) word 0 n (length-take-le n seen low)

before_seen : (seen : List ℕ) (n word k : ℕ) → n ≤ length seen → k < n → slice_index (seen_after n seen word) k ≡ slice_index seen k
before_seen seen n word k low less = get_or_append_left (take n seen) (word ∷ []) 0 k (let e = length-take-le n seen low in omega (arith, e, less)) ∙ get_or-take n seen k 0 less

module _ (o : Origin) (seat generation : ℕ) (s0 : Seat) (g0 : Ghost) where
  -- where a scan of this generation stands: a seat is left, and the pin words seen so far need nothing
  pub record ScanStands (m : Scan) (s : Seat) (g : Ghost) : Type 0 where
    pub generation_is : m.generation ≡ generation
    pub left : m.next < s.seats
    pub seen : m.next ≢ 0 → length s.giving.pins_seen ≡ m.next
    pub free : (k : ℕ) → k < m.next → needs m.generation (slice_index s.giving.pins_seen k) ≡ false
    pub others : s ≡ with_seen s0 s.giving.pins_seen
    pub ghost : g ≡ g0

  module _ (may : MayScan o seat s0 g0) where
    module _ (m : Scan) (s : Seat) (g : Ghost) (stands : ScanStands m s g) (f : ℕ) where
      seats_are : s.seats ≡ o.seats
      seats_are = ap (λ (t : Seat). t.seats) stands.others ∙ may.seats

      low : m.next ≤ length s.giving.pins_seen
      low = low_seen s.giving.pins_seen m.next stands.seen

      -- each pin word seen so far needs nothing, this one too
      free_to : needs m.generation f ≡ false → (k : ℕ) → k < m.next + 1 → needs m.generation (slice_index (seen_after m.next s.giving.pins_seen f) k) ≡ false
      free_to free k inside = same_or_other k m.next
          (λ same. subst (λ (j : ℕ). needs m.generation (slice_index (seen_after m.next s.giving.pins_seen f) j) ≡ false) (sym same) (ap (needs m.generation) (last_seen s.giving.pins_seen m.next f low) ∙ free))
          (λ apart. (let less : k < m.next = omega (arith, inside, apart) in ap (needs m.generation) (before_seen s.giving.pins_seen m.next f k low less) ∙ stands.free k less))

      -- nothing else of the seat has changed
      others_now : pin_found s m.next f ≡ with_seen s0 (seen_after m.next s.giving.pins_seen f)
      others_now = ap (λ (t : Seat). with_seen t (seen_after m.next s.giving.pins_seen f)) stands.others

      -- on to the next seat
      goes_by : (need left : Bool) → needs m.generation f ≡ need → nat_lt (m.next + 1) s.seats ≡ left → scan_turn need m s f ≡ Go → ScanStands (record m { next = m.next + 1 }) (pin_found s m.next f) g
      goes_by true left is more go = cc
      goes_by false true is more go = record {
        generation_is = stands.generation_is;
        left = ltb-true (m.next + 1) s.seats more;
        seen = λ some. many_seen s.giving.pins_seen m.next f low;
        free = free_to is;
        others = others_now;
        ghost = stands.ghost;
      }
      goes_by false false is more go = (let never : if_left false ≡ Go = ap if_left (sym more) ∙ go in cc)

      ends_by : (need left : Bool) (out : Scanned) → needs m.generation f ≡ need → nat_lt (m.next + 1) s.seats ≡ left → scan_turn need m s f ≡ Done out → HasScanned m.generation o seat s0 g0 out (pin_found s m.next f) g
      ends_by true left out is more done = (let same : Held (record { seat = m.next; generation = f }) ≡ out = cc in record {
        clear = λ clear. (let never : Held (record { seat = m.next; generation = f }) ≡ Clear = same ∙ clear in cc);
        held = λ held e. (let pin : record { seat = m.next; generation = f } ≡ held = (let both : Held (record { seat = m.next; generation = f }) ≡ Held held = same ∙ e in cc) in
            subst (λ (p : HeldPin). (length (seen_after m.next s.giving.pins_seen f) ≡ p.seat + 1) × (p.seat < o.seats) × (slice_index (seen_after m.next s.giving.pins_seen f) p.seat ≡ p.generation) × (needs m.generation p.generation ≡ true)
            × ((k : ℕ) → k < p.seat → needs m.generation (slice_index (seen_after m.next s.giving.pins_seen f) k) ≡ false)) pin (
              many_seen s.giving.pins_seen m.next f low,
              (let l = stands.left in let e = seats_are in omega (arith, l, e)),
              last_seen s.giving.pins_seen m.next f low,
              is,
              (λ k less. ap (needs m.generation) (before_seen s.giving.pins_seen m.next f k low less) ∙ stands.free k less),
            ));
        left = others_now;
        ghost = stands.ghost;
      })
      ends_by false true out is more done = (let never : if_left true ≡ Done out = ap if_left (sym more) ∙ done in cc)
      ends_by false false out is more done = (let same : Clear ≡ out = (let e : if_left false ≡ Done out = ap if_left (sym more) ∙ done in cc) in
          let count : m.next + 1 ≡ o.seats = (let l = stands.left in let e = seats_are in let last = ltb-false (m.next + 1) s.seats more in omega (arith, l, e, last)) in record {
            clear = λ clear. (many_seen s.giving.pins_seen m.next f low ∙ count, (λ k inside. free_to is k (omega (arith, inside, count))));
            held = λ held e. (let never : Clear ≡ Held held = same ∙ e in cc);
            left = others_now;
            ghost = stands.ghost;
          })

    pub scan_serves : Serves o seat scan_script no_record ScanStands (HasScanned generation o seat s0 g0)
    scan_serves m s g stands = record {
      may = λ c pin began inv unspent knows. record {
        head_fenced = ap (λ (t : Seat). t.giving.head_fenced) stands.others ∙ may.head_fenced;
        unpinned = ap (λ (t : Seat). t.hold.pin) stands.others ∙ may.unpinned;
        in_order = in_order (m.next == 0) refl;
        inside = (let l = stands.left in let e = seats_are m s g stands 0 in omega (arith, l, e));
      };
      admitted = λ c pin began inv unspent knows. record { left = stands.left; few = subst (λ (n : ℕ). n ≤ SEATS) (sym (ap (λ (t : Seat). t.seats) stands.others)) may.few; seen = stands.seen };
      enters = λ f found admits. enters_turn g (pin_found s m.next f) (pin_found s m.next f) (scan_turn (needs m.generation f) m s f) refl;
      goes = λ f found admits go. goes_by m s g stands f (needs m.generation f) (nat_lt (m.next + 1) s.seats) refl refl go;
      ends = λ f out found admits done. subst (λ (i : ℕ). HasScanned i o seat s0 g0 out (pin_found s m.next f) g) stands.generation_is
          (ends_by m s g stands f (needs m.generation f) (nat_lt (m.next + 1) s.seats) out refl refl done);
    }
      where
        in_order : (b : Bool) → (m.next == 0) ≡ b → (m.next ≡ 0) ⊎ (m.next ≡ length s.giving.pins_seen)
        in_order true e = inl (eqb-true m.next 0 e)
        in_order false e = inr (sym (stands.seen (eqb-false m.next 0 e)))

abbrev pub scan_law : (generation : ℕ) → Law scan_script (scan_of generation)
scan_law generation = record {
  may = MayScan;
  stands = λ o seat s0 g0 m s g. ScanStands o seat generation s0 g0 m s g;
  left = λ o seat s0 g0 out s g. HasScanned generation o seat s0 g0 out s g;
  begins = λ o seat s g may. record {
    generation_is = refl;
    left = may.some;
    seen = λ some. absurd (some refl);
    free = λ k less. absurd (omega (arith, less));
    others = refl;
    ghost = refl;
  };
  serves = λ o seat s0 g0 may. scan_serves o seat generation s0 g0 may;
  lowers = scan_lowers;
}

pub scans_within : ScansWithin
scans_within generation = promised scan_script (scan_of generation) (scan_law generation)
