-- Taking a pin, and giving it up, is lawful within a core.
use Rattle.std.proofs.Common.{◌≡◌, ◌≢◌, ◌≤◌, ◌==◌, ◌&&◌, ◌||◌, not, ℕ, Bool, true, false, if◌then◌else◌, List, [], refl, sym, ◌∙◌, ap, subst, arith, ◌⊎◌, inl, inr}
use Rattle.std.proofs.lemmas.Bool.{eqb-true, eq-eqb, eqb-false, ne_eqb}
use Rattle.log_entry.specs.Fields.{field}
use Rattle.log_entry.specs.declared.layouts.TheConstants.{HEAD_GENERATION}
use Rattle.log_entry.specs.declared.words.Head.{Head}
use Rattle.asks.specs.declared.ask.Ask.TheVariants.{Load}
use Rattle.asks.specs.declared.ask.Place.TheVariants.{Image}
use Rattle.pmem_words.specs.Seats.{Seat, Hold}
use Rattle.pmem_words.specs.declared.keeps.KeptWord.{KeptWord}
use Rattle.pmem_words.specs.declared.machine.Turn.TheVariants.{Go, Done}
use Rattle.persistence.specs.Memory.{cell}
use Rattle.log_core.specs.Entries.{head_place}
use Rattle.log_core.specs.Views.{Ghost}
use Rattle.log_core.specs.Origin.{Origin, q_of_origin}
use Rattle.log_core.specs.Cores.{Core}
use Rattle.log_core.specs.Steps.{Kind, LoadsHead, StoresOwnPin, NoKind, effect, ghost_after, kind_of_ask}
use Rattle.log_core.specs.May.{May, MayStoreOwnPin}
use Rattle.log_core.specs.Invariant.{Invariant}
use Rattle.log_core.specs.Knows.{Knows}
use Rattle.log_core.specs.Answers.{Enters}
use Rattle.log_core.specs.Within.{no_record, IsFound, Lawful, Serves}
use Rattle.log_core.proofs.Heads.{head_generation, was_low}
use Rattle.log_core.proofs.machines.Entering.{enters_same, enters_turn}
use Rattle.log_core.proofs.machines.Framing.{serves_as}
use Rattle.log_core.proofs.machines.MachineLaws.{Law, IsUnmoved, promised}
use Rattle.log_core.proofs.machines.OneStep.{HasStepped, one_step, serves_once}
use Rattle.pins.specs.declared.TheConstants.{HEAD_WORD}
use Rattle.pins.specs.declared.pin.Pin.{Pin}
use Rattle.pins.specs.declared.pin.Pin.TheVariants.{Begin, Publish, Confirm}
use Rattle.pins.specs.Steps.{generation_in, head_of, head_found, head_found_if, pin_stored}
use Rattle.pins.specs.Endings.{pinned}
use Rattle.pins.specs.Pinning.{pin_script, pin_lowers, confirm_after, confirm_turn}
use Rattle.pins.specs.Unpinning.{unpin_of, unpin_script, unpin_lowers}
use Rattle.pins.specs.Within.{MayPin, HasPinned, HasUnpinned, PinsWithin, UnpinsWithin}

eq_other : (a b : ℕ) → (a == b) ≡ (b == a)
eq_other a b = by (a == b) (b == a) refl refl
  where
    by : (x y : Bool) → (a == b) ≡ x → (b == a) ≡ y → (a == b) ≡ (b == a)
    by true true e d = e ∙ sym d
    by false false e d = e ∙ sym d
    by true false e d = (let never : true ≡ false = sym (eq-eqb b a (sym (eqb-true a b e))) ∙ d in cc)
    by false true e d = (let never : true ≡ false = sym (eq-eqb a b (sym (eqb-true b a d))) ∙ e in cc)

-- the core's load of the head is the machine's
loaded_if : (b : Bool) (s : Seat) (word : ℕ) →
    record s { hold = record (s.hold) { head = word; generation = if b then s.hold.pin else s.hold.generation; valid = s.hold.valid || b }; walk = record (s.walk) { ready = if b && not (s.hold.pin == s.hold.generation) then false else s.walk.ready; first_log = if b && not (s.hold.pin == s.hold.generation) then 0 else s.walk.first_log } } ≡ head_found_if b s word
loaded_if true s word = (by s.hold.valid (s.hold.pin == s.hold.generation) (s.hold.generation == s.hold.pin) (eq_other s.hold.pin s.hold.generation))
  where
    by : (valid same other : Bool) → same ≡ other →
        record s { hold = record (s.hold) { head = word; generation = s.hold.pin; valid = valid || true }; walk = record (s.walk) { ready = if not same then false else s.walk.ready; first_log = if not same then 0 else s.walk.first_log } }
        ≡ record s { hold = record (s.hold) { head = word; generation = s.hold.pin; valid = true }; walk = record (s.walk) { ready = if not other then false else s.walk.ready; first_log = if not other then 0 else s.walk.first_log } }
    by true same other e = ap (λ (b : Bool). record s { hold = record (s.hold) { head = word; generation = s.hold.pin; valid = true }; walk = record (s.walk) { ready = if not b then false else s.walk.ready; first_log = if not b then 0 else s.walk.first_log } }) e
    by false same other e = ap (λ (b : Bool). record s { hold = record (s.hold) { head = word; generation = s.hold.pin; valid = true }; walk = record (s.walk) { ready = if not b then false else s.walk.ready; first_log = if not b then 0 else s.walk.first_log } }) e
loaded_if false s word = by s.hold.valid
  where
    by : (valid : Bool) → record s { hold = record (s.hold) { head = word; valid = valid || false } } ≡ record s { hold = record (s.hold) { head = word; valid = valid } }
    by true = refl
    by false = refl

loaded : (s : Seat) (g : Ghost) (word : ℕ) → effect g.marks s LoadsHead word ≡ head_found s word
loaded s g word = loaded_if (s.hold.pin == generation_in word) s word

-- a map is ready at a later generation than the seat's last one alone where it is of that, whether or not it is made unready between
unready : (b : Bool) → (b && false) ≡ false
unready true = refl
unready false = refl

ready_alike : (generation pin later : ℕ) (ready : Bool) → generation ≤ pin → pin ≤ later → ((pin == later) && (if true && not (generation == pin) then false else ready)) ≡ ((generation == later) && ready)
ready_alike generation pin later ready low high = by (generation == pin) refl
  where
    by : (same : Bool) → (generation == pin) ≡ same → ((pin == later) && (if true && not same then false else ready)) ≡ ((generation == later) && ready)
    by true e = ap (λ (x : ℕ). (x == later) && ready) (sym (eqb-true generation pin e))
    by false e = unready (pin == later) ∙ sym (ap (λ (b : Bool). b && ready) (ne_eqb generation later (λ same. (let other = eqb-false generation pin e in omega (arith, same, other, low, high)))))

-- and so it is with the first log block
none_known : (b : Bool) (none : ℕ) → (if b then none else none) ≡ none
none_known true none = refl
none_known false none = refl

first_alike : (generation pin later first : ℕ) → generation ≤ pin → pin ≤ later →
    (if pin == later then (if true && not (generation == pin) then 0 else first) else 0) ≡ (if generation == later then first else 0)
first_alike generation pin later first low high = by (generation == pin) refl
  where
    by : (same : Bool) → (generation == pin) ≡ same → (if pin == later then (if true && not same then 0 else first) else 0) ≡ (if generation == later then first else 0)
    by true e = ap (λ (x : ℕ). if x == later then first else 0) (sym (eqb-true generation pin e))
    by false e = none_known (pin == later) 0 ∙ sym (ap (λ (b : Bool). if b then first else 0) (ne_eqb generation later (λ same. (let other = eqb-false generation pin e in omega (arith, same, other, low, high)))))

-- after a load of the head a pin of a later one leaves what it would have left before
alike_if : (b : Bool) (s : Seat) (f word : ℕ) → (s.hold.pin == generation_in f) ≡ b → s.hold.generation ≤ generation_in f → generation_in f ≤ generation_in word → pinned (head_found_if b s f) word ≡ pinned s word
alike_if true s f word e low later =
    (let same : s.hold.pin ≡ generation_in f = eqb-true s.hold.pin (generation_in f) e in
    alike_both (ready_alike s.hold.generation s.hold.pin (generation_in word) s.walk.ready (omega (arith, same, low)) (omega (arith, same, later)))
    (first_alike s.hold.generation s.hold.pin (generation_in word) s.walk.first_log (omega (arith, same, low)) (omega (arith, same, later))))
  where
    held : Bool → ℕ → Seat
    held ready first = record s { hold = record { head = word; pin = generation_in word; generation = generation_in word; valid = true }; walk = record s.walk { ready = ready; first_log = first; kept = [] } }

    alike_both : {was now : Bool} → {before after : ℕ} → was ≡ now → before ≡ after → held was before ≡ held now after
    alike_both {was} {now} {before} {after} a b = ap (λ (ready : Bool). held ready before) a ∙ ap (λ (first : ℕ). held now first) b
alike_if false s f word e low later = refl

kept_if : (same ready : Bool) → (if true && not same then false else ready) ≡ (same && ready)
kept_if true ready = refl
kept_if false ready = refl

first_if : (same : Bool) (first : ℕ) → (if true && not same then 0 else first) ≡ (if same then first else 0)
first_if true first = refl
first_if false first = refl

-- where the head found is of the pin's generation, and no word is kept, the seat is pinned
pinned_now : (s : Seat) (f : ℕ) → s.hold.pin ≡ generation_in f → s.walk.kept ≡ [] → head_found_if true s f ≡ pinned s f
pinned_now s f same none =
    ap (λ (ready : Bool). held s.hold.pin ready (if true && not (s.hold.generation == s.hold.pin) then 0 else s.walk.first_log) s.walk.kept) (kept_if (s.hold.generation == s.hold.pin) s.walk.ready)
    ∙ ap (λ (first : ℕ). held s.hold.pin (s.hold.generation == s.hold.pin && s.walk.ready) first s.walk.kept) (first_if (s.hold.generation == s.hold.pin) s.walk.first_log)
    ∙ ap (λ (pin : ℕ). held pin (s.hold.generation == pin && s.walk.ready) (if s.hold.generation == pin then s.walk.first_log else 0) s.walk.kept) same
    ∙ ap (λ kept. held (generation_in f) (s.hold.generation == generation_in f && s.walk.ready) (if s.hold.generation == generation_in f then s.walk.first_log else 0) kept) none
  where
    held : ℕ → Bool → ℕ → List KeptWord → Seat
    held pin ready first kept = record s { hold = record { head = f; pin = pin; generation = pin; valid = true }; walk = record s.walk { ready = ready; first_log = first; kept = kept } }

module _ (o : Origin) (seat : ℕ) where
  -- no head found is of a generation before the seat's last one
  low_found : (s : Seat) (g : Ghost) (f : ℕ) → IsFound o seat s g (Load (Image HEAD_WORD)) f → s.hold.generation ≤ generation_in f
  low_found s g f found = subst (λ (x : ℕ). s.hold.generation ≤ generation_in x) found.is (by (s.hold.generation == 0) refl)
    where
      by : (b : Bool) → (s.hold.generation == 0) ≡ b → s.hold.generation ≤ generation_in (cell found.core.memory head_place).present
      by true none = (let zero = eqb-true s.hold.generation 0 none in omega (arith, zero))
      by false some = (let low = found.knows.pin_holds.to_current (eqb-false s.hold.generation 0 some) in let now = head_generation o found.core found.holds in omega (arith, low, now))

  -- a head that was not found yet has generation 0
  value_may : (b : Bool) (h : Hold) → (h.head == 0) ≡ b → (generation_in h.head ≡ 0) ⊎ ((h.head ≢ 0) × (generation_in h.head ≡ field HEAD_GENERATION h.head))
  value_may true h e = inl (ap generation_in (eqb-true h.head 0 e))
  value_may false h e = inr (eqb-false h.head 0 e, refl)

  store_may : (s : Seat) (g : Ghost) → MayPin o seat s g → MayStoreOwnPin s g.marks (generation_in s.hold.head)
  store_may s g may = record { value_is = value_may (s.hold.head == 0) s.hold refl; no_marks = may.no_marks }

  -- a store of the own pin word, by the kind that the ask has
  store_kind : (s : Seat) (value : ℕ) → s.number ≡ seat → (if s.number == seat then StoresOwnPin value else NoKind) ≡ StoresOwnPin value
  store_kind s value number = ap (λ (b : Bool). if b then StoresOwnPin value else NoKind) (eq-eqb s.number seat number)

  stored_enters : (s : Seat) (g : Ghost) (value : ℕ) (kind : Kind) → kind ≡ StoresOwnPin value → (f : ℕ) → Enters (ghost_after g s (effect g.marks s kind f) kind f) (effect g.marks s kind f) (pin_stored s value) []
  stored_enters s g value kind e f = subst (λ (k : Kind). Enters (ghost_after g s (effect g.marks s k f) k f) (effect g.marks s k f) (pin_stored s value) []) (sym e)
      (enters_same g (pin_stored s value) (pin_stored s value) refl)

  ghost_stored : (s : Seat) (g : Ghost) (value : ℕ) (kind : Kind) → kind ≡ StoresOwnPin value → (f : ℕ) → ghost_after g s (effect g.marks s kind f) kind f ≡ g
  ghost_stored s g value kind e f = ap (λ (k : Kind). ghost_after g s (effect g.marks s k f) k f) e

  -- the generation stored is of a head that was, so the head found again is of none before it
  not_before : (b : Bool) (c : Core) (pin began : ℕ) (s : Seat) (g : Ghost) → (s.hold.head == 0) ≡ b → s.hold.pin ≡ generation_in s.hold.head → Invariant o c → Knows o c seat s g pin began →
      s.hold.pin ≤ generation_in (cell c.memory head_place).present
  not_before true c pin began s g e is inv knows = (let none : generation_in s.hold.head ≡ 0 = ap generation_in (eqb-true s.hold.head 0 e) in omega (arith, is, none))
  not_before false c pin began s g e is inv knows =
      (let now = head_generation o c inv in let low = was_low o c inv s.hold.head (knows.pin_holds.was (eqb-false s.hold.head 0 e)) in omega (arith, is, now, low))

  module _ (s0 : Seat) (g0 : Ghost) where
    -- on the way a pin of the head found last, or of a later one, would leave what it would have left at first
    pub record IsPinning (s : Seat) (g : Ghost) : Type 0 where
      pub alike : (word : ℕ) → generation_in s.hold.head ≤ generation_in word → pinned s word ≡ pinned s0 word
      pub ghost : g ≡ g0

    -- after the store the pin word has the generation of the head found last
    pub record IsConfirming (s : Seat) (g : Ghost) : Type 0 where
      pub pinning : IsPinning s g
      pub stored : s.hold.pin ≡ generation_in s.hold.head
      pub none_kept : s.walk.kept ≡ []

    abbrev pub PinStands : Pin → Seat → Ghost → Type 0
    PinStands Begin s g = IsUnmoved s0 g0 s g
    PinStands Publish s g = IsPinning s g
    PinStands Confirm s g = IsConfirming s g

    begin_lawful : (s : Seat) (g : Ghost) → IsUnmoved s0 g0 s g → Lawful o seat pin_script no_record PinStands (HasPinned o seat s0 g0) Begin s g
    begin_lawful s g from = record {
      may = λ c pin began inv unspent knows. tt;
      admitted = λ c pin began inv unspent knows. tt;
      enters = λ f found admits. enters_same g (effect g.marks s LoadsHead f) (head_found s f) (loaded s g f);
      goes = λ f found admits go. record {
        alike = λ word later. alike_if (s.hold.pin == generation_in f) s f word refl (low_found s g f found) later ∙ ap (λ (t : Seat). pinned t word) from.seat;
        ghost = from.ghost;
      };
      ends = λ f out found admits done. cc;
    }

    publish_lawful : MayPin o seat s0 g0 → (s : Seat) (g : Ghost) → IsPinning s g → Lawful o seat pin_script no_record PinStands (HasPinned o seat s0 g0) Publish s g
    publish_lawful may s g at = record {
      may = λ c pin began inv unspent knows. subst (λ (k : Kind). May o c g s k) (sym is) (store_may s g here);
      admitted = λ c pin began inv unspent knows. tt;
      enters = λ f found admits. stored_enters s g (generation_in s.hold.head) (kind_of_ask (q_of_origin o) seat (pin_script.asks Publish s)) is f;
      goes = λ f found admits go. subst (λ (h : Ghost). IsConfirming (pin_stored s (generation_in s.hold.head)) h) (sym (ghost_stored s g (generation_in s.hold.head) (kind_of_ask (q_of_origin o) seat (pin_script.asks Publish s)) is f))
          (record { pinning = record { alike = λ word later. at.alike word later; ghost = at.ghost }; stored = refl; none_kept = refl });
      ends = λ f out found admits done. cc;
    }
      where
        now : pinned s s.hold.head ≡ pinned s0 s.hold.head
        now = at.alike s.hold.head (omega arith)

        here : MayPin o seat s g
        here = record {
          number = ap (λ (t : Seat). t.number) now ∙ may.number;
          no_marks = λ sync. ap (λ (h : Ghost). h.marks) at.ghost ∙ may.no_marks (sym (ap (λ (t : Seat). t.calling.job) now) ∙ sync);
        }

        is : kind_of_ask (q_of_origin o) seat (pin_script.asks Publish s) ≡ StoresOwnPin (generation_in s.hold.head)
        is = store_kind s (generation_in s.hold.head) here.number

    -- the head found again, by whether it is of the generation stored
    goes_by : (b : Bool) (s : Seat) (g : Ghost) (f : ℕ) → IsConfirming s g → s.hold.pin ≤ generation_in f → (confirm_after b s f).turn ≡ Go → PinStands (confirm_after b s f).machine (head_found_if b s f) g
    goes_by true s g f at low go = cc
    goes_by false s g f at low go = record { alike = λ word later. at.pinning.alike word (let is = at.stored in omega (arith, is, low, later)); ghost = at.pinning.ghost }

    ends_by : (b : Bool) (s : Seat) (g : Ghost) (f : ℕ) (out : Head) → (s.hold.pin == generation_in f) ≡ b → IsConfirming s g → (confirm_turn b f) ≡ Done out → HasPinned o seat s0 g0 out (head_found_if b s f) g
    ends_by true s g f out e at done =
        (let same : head_of f ≡ out = cc in
        let pin : s.hold.pin ≡ generation_in f = eqb-true s.hold.pin (generation_in f) e in
        record {
          head = sym same;
          left = pinned_now s f pin at.none_kept ∙ at.pinning.alike f (let is = at.stored in omega (arith, is, pin));
          ghost = at.pinning.ghost;
        })
    ends_by false s g f out e at done = cc

    confirm_lawful : (s : Seat) (g : Ghost) → IsConfirming s g → Lawful o seat pin_script no_record PinStands (HasPinned o seat s0 g0) Confirm s g
    confirm_lawful s g at = record {
      may = λ c pin began inv unspent knows. tt;
      admitted = λ c pin began inv unspent knows. not_before (s.hold.head == 0) c pin began s g refl at.stored inv knows;
      enters = λ f found admits. enters_turn g (effect g.marks s LoadsHead f) (head_found s f) (confirm_turn (s.hold.pin == generation_in f) f) (loaded s g f);
      goes = λ f found admits go. goes_by (s.hold.pin == generation_in f) s g f at admits go;
      ends = λ f out found admits done. ends_by (s.hold.pin == generation_in f) s g f out refl at done;
    }

    pub pin_serves : MayPin o seat s0 g0 → Serves o seat pin_script no_record PinStands (HasPinned o seat s0 g0)
    pin_serves may Begin s g stands = begin_lawful s g stands
    pin_serves may Publish s g stands = publish_lawful may s g stands
    pin_serves may Confirm s g stands = confirm_lawful s g stands

    abbrev Stepped : Unit {0} → Seat → Ghost → Type 0
    Stepped out t h = HasStepped s0 g0 (StoresOwnPin 0) (λ f. tt) out t h

    pub unpin_serves : MayPin o seat s0 g0 → Serves o seat unpin_script no_record (λ m s g. IsUnmoved s0 g0 s g) (HasUnpinned o seat s0 g0)
    unpin_serves may = serves_as o seat unpin_script no_record (λ m s g. IsUnmoved s0 g0 s g) Stepped (HasUnpinned o seat s0 g0) (λ out t h stepped. record { left = stepped.left; ghost = stepped.ghost })
        (serves_once o seat unpin_script no_record Stepped s0 g0
        (λ m. one_step o seat unpin_script (λ m s g. IsUnmoved s0 g0 s g) m s0 g0 (StoresOwnPin 0) (λ f. tt) (store_kind s0 0 may.number) (λ f. refl)
        (λ c pin began inv unspent knows. record { value_is = inl refl; no_marks = may.no_marks }) (λ c pin began inv unspent knows. tt)))

abbrev pub pin_law : Law pin_script Begin
pin_law = record {
  may = MayPin;
  stands = λ o seat s0 g0 m s g. PinStands o seat s0 g0 m s g;
  left = HasPinned;
  begins = λ o seat s g may. record { seat = refl; ghost = refl };
  serves = λ o seat s0 g0 may. pin_serves o seat s0 g0 may;
  lowers = pin_lowers;
}

abbrev pub unpin_law : Law unpin_script unpin_of
unpin_law = record {
  may = MayPin;
  stands = λ o seat s0 g0 m s g. IsUnmoved s0 g0 s g;
  left = HasUnpinned;
  begins = λ o seat s g may. record { seat = refl; ghost = refl };
  serves = λ o seat s0 g0 may. unpin_serves o seat s0 g0 may;
  lowers = unpin_lowers;
}

pub pins_within : PinsWithin
pins_within = promised pin_script Begin pin_law

pub unpins_within : UnpinsWithin
unpins_within = promised unpin_script unpin_of unpin_law
