-- A pin that is driven over an image to its end.
use Rattle.std.proofs.Common.{◌≡◌, ◌<◌, ◌==◌, ℕ, Bool, true, false, List, length, sym, ◌∙◌, ap, subst, arith, slice_index, slice_set}
use Rattle.std.proofs.Math.Logic.{∥∥₁_elim}
use Rattle.std.proofs.Math.Nat.{ℕ_set}
use Rattle.std.proofs.Math.Bool.{Bool-set}
use Rattle.std.proofs.lemmas.Bool.{eq-eqb}
use Rattle.std.proofs.lemmas.List.{set-get_or}
use Rattle.asks.specs.SharedWords.{SharedWords}
use Rattle.asks.specs.declared.ask.Place.TheVariants.{Image}
use Rattle.asks.specs.declared.ask.Ask.TheVariants.{Load}
use Rattle.asks.proofs.WordLemmas.{with_same}
use Rattle.log_entry.specs.declared.words.Head.{Head}
use Rattle.pmem_words.specs.Seats.{Seat, new_seat}
use Rattle.pmem_words.specs.Courses.{over}
use Rattle.pmem_words.specs.Leads.{Leads}
use Rattle.pmem_words.specs.Drives.{IsSafe, Ends}
use Rattle.pmem_words.proofs.LeadsLemmas.{safe_by, ends_by}
use Rattle.pmem_words.specs.declared.machine.Turn.TheVariants.{Go}
use Rattle.persistence.specs.Memory.{found_answer}
use Rattle.log_core.specs.Views.{View, no_geometry}
use Rattle.log_core.specs.Within.{no_record}
use Rattle.crash_model.specs.Images.{SharedNow, image_after, image_steps}
use Rattle.crash_model.specs.Worlds.{WorldNow, seat_of, world_of}
use Rattle.crash_model.specs.Led.{Rests, Runs, IsAmong, IsResting, HasEndedAs}
use Rattle.crash_model.proofs.Leading.{at_hand, begins_as, rests_ended}
use Rattle.crash_model.proofs.Driving.{EndsAt, leads_image}
use Rattle.pins.specs.declared.pin.Pin.{Pin}
use Rattle.pins.specs.declared.pin.Pin.TheVariants.{Begin, Publish, Confirm}
use Rattle.pins.specs.declared.TheConstants.{HEAD_WORD}
use Rattle.pins.specs.Steps.{generation_in}
use Rattle.pins.specs.Pinning.{pin_script, pin_after, pin_asks, confirm_turn}
use Rattle.pins.specs.Within.{MayPin, HasPinned}
use Rattle.pins.proofs.PinWithin.{pins_within}
use Rattle.world_tests.specs.PinSeats.{MayTurn}
use Rattle.world_tests.proofs.PinLemmas.{pin_one}

-- the head in the image, which no step of a pin changes
abbrev head_in : SharedNow → ℕ
head_in i = found_answer i.cells.memory (Load (Image HEAD_WORD))

-- what the machine knows of it, and how many steps come after the next one
abbrev KnowsHead : Pin → Seat → SharedNow → Type 0
KnowsHead Begin s i = Unit {0}
KnowsHead Publish s i = s.hold.head ≡ head_in i
KnowsHead Confirm s i = s.hold.pin ≡ generation_in (head_in i)

abbrev steps_after : Pin → Seat → SharedNow → ℕ
steps_after Begin s i = 2
steps_after Publish s i = 1
steps_after Confirm s i = 0

never : (b : Bool) (a : ℕ) → b ≡ true → confirm_turn b a ≡ Go → ⊥
never true a e go = cc
never false a e go = cc

pin_goes : (seat : ℕ) (m : Pin) (s : Seat) (i : SharedNow) → KnowsHead m s i → (pin_after m s (found_answer i.cells.memory (pin_asks m s))).turn ≡ Go →
    KnowsHead (pin_after m s (found_answer i.cells.memory (pin_asks m s))).machine (pin_after m s (found_answer i.cells.memory (pin_asks m s))).seat (image_after i seat s (pin_asks m s))
    × (steps_after (pin_after m s (found_answer i.cells.memory (pin_asks m s))).machine (pin_after m s (found_answer i.cells.memory (pin_asks m s))).seat (image_after i seat s (pin_asks m s)) < steps_after m s i)
pin_goes seat Begin s i knows go = (ap (λ (p : SharedWords). slice_index p.words HEAD_WORD) (sym (with_same i.cells.memory.now (Image HEAD_WORD))), omega arith)
pin_goes seat Publish s i knows go = (ap generation_in knows, omega arith)
pin_goes seat Confirm s i knows go = absurd (never (s.hold.pin == generation_in (head_in i)) (head_in i) (eq-eqb s.hold.pin (generation_in (head_in i)) knows) go)

module _ (i : SharedNow) (seats : List Seat) (seat : ℕ) (inside : seat < length seats) (resting : IsResting (world_of i seats)) (may : MayTurn seat (seat_of (world_of i seats) seat)) where
  abbrev w : WorldNow
  w = world_of i seats

  abbrev pub PinEnds : Head → Seat → View → Type 0
  PinEnds head t v = HasEndedAs HasPinned seat (seat_of w seat) head t v

  begun : IsAmong Rests seat (Runs pin_script no_record (λ head t v. PinEnds head t v) Begin) w
  begun = begins_as Rests seat pin_script Begin MayPin HasPinned w pins_within (λ o c g known. record { number = may.number; no_marks = λ sync. absurd (may.no_sync sync) }) (at_hand Rests seat w inside resting)

  -- it leads to its end over the image
  pub pin_leads : 2 < i.cells.room → Leads pin_script (over pin_script image_steps) (λ head t j. EndsAt Rests seat pin_script no_record (λ out u v. PinEnds out u v) pin_one seats head t j) Begin (seat_of w seat) i
  pin_leads room = leads_image Rests seat pin_script no_record (λ head t v. PinEnds head t v) pin_one seats KnowsHead steps_after
      (λ m s j numbered knows admits go. pin_goes seat m s j knows go) Begin (seat_of w seat) i room tt
      (subst (λ (xs : List Seat). IsAmong Rests seat (Runs pin_script no_record (λ head t v. PinEnds head t v) Begin) (world_of i xs)) (sym (set-get_or seats seat (new_seat no_geometry 0 0 0))) begun)

  -- so it may be driven, and has ended so
  abbrev EndsHere : Head → Seat → SharedNow → Type 0
  EndsHere head t j = EndsAt Rests seat pin_script no_record (λ out u v. PinEnds out u v) pin_one seats head t j

  module _ (m : Pin) (s : Seat) (room : 2 < i.cells.room) (machine : m ≡ Begin) (state : s ≡ seat_of w seat) where
    leads_here : Leads pin_script (over pin_script image_steps) (λ head t j. EndsHere head t j) m s i
    leads_here = subst (λ (n : Pin). Leads pin_script (over pin_script image_steps) (λ head t j. EndsHere head t j) n s i) (sym machine)
        (subst (λ (x : Seat). Leads pin_script (over pin_script image_steps) (λ head t j. EndsHere head t j) Begin x i) (sym state) (pin_leads room))

    pub pin_safe : IsSafe pin_script (over pin_script image_steps) m s i
    pin_safe = safe_by pin_script (over pin_script image_steps) (λ head t j. EndsHere head t j) m s i leads_here

    pub pin_ended : (head : Head) (t : Seat) (j : SharedNow) → Ends pin_script (over pin_script image_steps) m s i head t j → EndsHere head t j
    pin_ended head t j ends = ends_by pin_script (over pin_script image_steps) (λ out u k. EndsHere out u k) m s i head t j leads_here ends

  module _ (head : Head) (t : Seat) (j : SharedNow) (ended : EndsAt Rests seat pin_script no_record (λ out u v. PinEnds out u v) pin_one seats head t j) where
    pub pin_rests : IsResting (world_of j (slice_set seats seat t))
    pin_rests = rests_ended seat (λ out u v. PinEnds out u v) head (world_of j (slice_set seats seat t)) (λ u v left. record { unspent = left.left.unspent; begins = left.left.begins }) ended

    pub pin_valid : (seat_of (world_of j (slice_set seats seat t)) seat).hold.valid ≡ true
    pin_valid = ∥∥₁_elim ended (Bool-set (seat_of (world_of j (slice_set seats seat t)) seat).hold.valid true) (λ e. ap (λ (s : Seat). s.hold.valid) e.2.here.holds.ends.left)

    pub pin_is : (seat_of (world_of j (slice_set seats seat t)) seat).hold.pin ≡ head.generation
    pin_is = ∥∥₁_elim ended (ℕ_set (seat_of (world_of j (slice_set seats seat t)) seat).hold.pin head.generation)
        (λ e. ap (λ (s : Seat). s.hold.pin) e.2.here.holds.ends.left ∙ ap (λ (h : Head). h.generation) (sym e.2.here.holds.ends.head))
