-- A machine that leads to its end within a core does so in a world, turn by turn.
use Rattle.std.proofs.Common.{◌≡◌, ◌≢◌, ◌<◌, ℕ, List, length, refl, sym, ◌∙◌, ap, subst, arith, slice_set}
use Rattle.std.proofs.Math.Logic.{∥∥₁_elim, ∥∥₁_map}
use Rattle.std.proofs.Math.Bridge.{le_prop}
use Rattle.std.proofs.lemmas.List.{get_or-set_same, get_or-set_other, length-set}
use Rattle.log_entry.specs.declared.calls.Call.{Call}
use Rattle.pmem_words.specs.Seats.{Seat, new_seat}
use Rattle.pmem_words.specs.Scripts.{Script}
use Rattle.pmem_words.specs.Leads.{Leads}
use Rattle.asks.specs.declared.ask.Ask.{Ask}
use Rattle.asks.specs.declared.ask.Ask.TheVariants.{Load, Store, Exchange, SetBits, ClearBits, Mark, Fence}
use Rattle.pmem_words.specs.declared.machine.Turn.TheVariants.{Go, Done}
use Rattle.pmem_words.proofs.LeadsLemmas.{ready_now, go_now, end_now, leads_weaker}
use Rattle.persistence.specs.Memory.{Memory, found_answer, memory_after, pending_of}
use Rattle.persistence.proofs.FenceLaws.{fences_forget_own_marks, pending_of-push_other}
use Rattle.log_core.specs.Views.{View, Ghost, view_of, spent_view, no_geometry}
use Rattle.log_core.specs.Origin.{Origin, q_of_origin}
use Rattle.log_core.specs.Cores.{Core}
use Rattle.log_core.specs.Steps.{Does, kind_of_ask, view_after, ghost_begun}
use Rattle.log_core.specs.After.{after}
use Rattle.log_core.specs.Runs.{Allowed}
use Rattle.log_core.specs.Within.{no_record, note_of, Did, IsReadyIn, within, IsLeft}
use Rattle.log_core.specs.Promising.{StartCondition, EndCondition, Promises}
use Rattle.log_core.proofs.clauses.OneView.{same_or_other}
use Rattle.crash_model.specs.Worlds.{WorldNow, StandsForCore, FitsCore, HasFitting, seat_of, world_after, answer_in, told_in, turned}
use Rattle.crash_model.specs.Led.{Held, IsComputed, Rests, Runs, Ended, IsIn, AmongIn, IsAmong, IsEach, IsLed, HasEndedInWorld, IsResting, HasLeft, HasEndedAs, IsTurnOf}
use Rattle.crash_model.proofs.Standing.{stands_after, stands_with}
use Rattle.crash_model.proofs.Resting.{IsKnown, number_next, next_may, known_in}

module _ {M Out : Type 0} (F : Held) (seat : ℕ) (script : Script M Out) (rec : Out → Seat → List Call) (Q : Out → Seat → View → Type 0) (m : M) (w : WorldNow) where
  module _ (o : Origin) (c : Core) (led : AmongIn F seat (Runs script rec Q m) w o c) where
    abbrev number : ℕ
    number = led.here.holds.number

    abbrev s : Seat
    s = seat_of w seat

    abbrev v : View
    v = view_of c.views seat

    abbrev f : ℕ
    f = found_answer c.memory (script.asks m s)

    ready : IsReadyIn o seat number script rec m s v
    ready = ready_now script (within o seat number script rec) Q led.here.holds.leads

    allowed : Allowed o c (Does seat (script.asks m s) (note_of o seat number script rec m s v.ghost f))
    allowed = ready.can c led.stands.reached led.here.made refl

    fits : FitsCore w seat (script.asks m s) o c (note_of o seat number script rec m s v.ghost f)
    fits = record { stands = led.stands; step = allowed; before = refl }

    answer_same : f ≡ answer_in script w seat m
    answer_same = ap (λ (x : Memory). found_answer x (script.asks m s)) led.stands.memory

    abbrev next : Core
    next = after o c (Does seat (script.asks m s) (note_of o seat number script rec m s v.ghost f))

    left : View
    left = view_after v (kind_of_ask (q_of_origin o) seat (script.asks m s)) (note_of o seat number script rec m s v.ghost f) f

    view_next : view_of next.views seat ≡ left
    unfolding left
    view_next = get_or-set_same c.views seat left spent_view led.here.made

    did : Did o seat v (script.asks m s) (note_of o seat number script rec m s v.ghost) f (view_of next.views seat)
    unfolding left
    did = record { core = c; reached = led.stands.reached; made = led.here.made; at = refl; answer = refl; left = view_next }

    admits : script.admits m s (answer_in script w seat m)
    admits = subst (λ (a : ℕ). script.admits m s a) answer_same (ready.admitted f (view_of next.views seat) did)

    -- the seat is there, so it has what it was told
    seat_here : seat < length w.seats
    seat_here = Rattle.crash_model.proofs.Standing.seat_made w seat (script.asks m s) ∣ (o, c, note_of o seat number script rec m s v.ghost f, fits) ∣₁

    told : seat_of (turned script w seat m) seat ≡ (script.after m s f).seat
    told = get_or-set_same w.seats seat (told_in script w seat m).seat (new_seat no_geometry 0 0 0) seat_here ∙ ap (λ (a : ℕ). (script.after m s a).seat) (sym answer_same)

    stands_next : StandsForCore (turned script w seat m) o next
    stands_next = stands_with (world_after w seat (script.asks m s)) (slice_set w.seats seat (told_in script w seat m).seat) (length-set w.seats seat (told_in script w seat m).seat) o next
        (stands_after w seat (script.asks m s) o c (note_of o seat number script rec m s v.ghost f) fits)

    made_next : seat < length next.views
    unfolding left
    made_next = subst (λ (n : ℕ). seat < n) (sym (length-set c.views seat left)) led.here.made

    -- of each other seat the same holds: it has the same state and view
    others_next : (other : ℕ) → other ≢ seat → other < length (turned script w seat m).seats → IsIn F (turned script w seat m) o next other
    unfolding left
    others_next other apart inside =
        (let before = led.others other apart (subst (λ (n : ℕ). other < n) (length-set w.seats seat (told_in script w seat m).seat) inside) in
        let same_view : view_of next.views other ≡ view_of c.views other = get_or-set_other c.views seat other left spent_view apart in
        let same_seat : seat_of (turned script w seat m) other ≡ seat_of w other = get_or-set_other w.seats seat other (told_in script w seat m).seat (new_seat no_geometry 0 0 0) apart in
        record {
          made = subst (λ (n : ℕ). other < n) (sym (length-set c.views seat left)) before.made;
          holds = subst (λ (x : Seat). F o other x (view_of next.views other)) (sym same_seat) (subst (λ (u : View). F o other (seat_of w other) u) (sym same_view) before.holds);
        })

    goes_on : (told_in script w seat m).turn ≡ Go → AmongIn F seat (Runs script rec Q (told_in script w seat m).machine) (turned script w seat m) o next
    goes_on go = record {
      stands = stands_next;
      here = record {
        made = made_next;
        holds = record {
          number = number;
          leads = subst (λ (t : Seat). Leads script (within o seat number script rec) Q (told_in script w seat m).machine t (view_of next.views seat)) (sym told)
              (subst (λ (a : ℕ). Leads script (within o seat number script rec) Q (script.after m s a).machine (script.after m s f).seat (view_of next.views seat)) answer_same
              (go_now script (within o seat number script rec) Q led.here.holds.leads f (view_of next.views seat) did (subst (λ (a : ℕ). (script.after m s a).turn ≡ Go) (sym answer_same) go)));
        };
      };
      others = others_next;
    }

    ends_so : (out : Out) → (told_in script w seat m).turn ≡ Done out → AmongIn F seat (Ended Q out) (turned script w seat m) o next
    ends_so out done = record {
      stands = stands_next;
      here = record {
        made = made_next;
        holds = subst (λ (t : Seat). Q out t (view_of next.views seat)) (sym told)
            (end_now script (within o seat number script rec) Q led.here.holds.leads f (view_of next.views seat) out did (subst (λ (a : ℕ). (script.after m s a).turn ≡ Done out) (sym answer_same) done));
      };
      others = others_next;
    }

  -- the ask is a step that a fitting core state allows
  pub fits_among : IsAmong F seat (Runs script rec Q m) w → HasFitting w seat (script.asks m (seat_of w seat))
  fits_among led = ∥∥₁_map led (λ l. (l.0, l.1, note_of l.0 seat l.2.here.holds.number script rec m (seat_of w seat) (view_of l.1.views seat).ghost (found_answer l.1.memory (script.asks m (seat_of w seat))), fits l.0 l.1 l.2))

  -- the answer is admitted
  pub admits_among : IsProp (script.admits m (seat_of w seat) (answer_in script w seat m)) → IsAmong F seat (Runs script rec Q m) w → script.admits m (seat_of w seat) (answer_in script w seat m)
  admits_among one led = ∥∥₁_elim led one (λ l. admits l.0 l.1 l.2)

  -- and it goes on to lead, or has ended
  pub goes_among : IsAmong F seat (Runs script rec Q m) w → (told_in script w seat m).turn ≡ Go → IsAmong F seat (Runs script rec Q (told_in script w seat m).machine) (turned script w seat m)
  goes_among led go = ∥∥₁_map led (λ l. (l.0, _, goes_on l.0 l.1 l.2 go))

  pub ends_among : (out : Out) → IsAmong F seat (Runs script rec Q m) w → (told_in script w seat m).turn ≡ Done out → IsAmong F seat (Ended Q out) (turned script w seat m)
  ends_among out led done = ∥∥₁_map led (λ l. (l.0, _, ends_so l.0 l.1 l.2 out done))

  -- the seat of a machine that leads is there
  pub inside_among : IsAmong F seat (Runs script rec Q m) w → seat < length w.seats
  inside_among led = ∥∥₁_elim led le_prop (λ l. seat_here l.0 l.1 l.2)

-- where each other seat is at rest
module _ {M Out : Type 0} (seat : ℕ) (script : Script M Out) (rec : Out → Seat → List Call) (Q : Out → Seat → View → Type 0) (m : M) (w : WorldNow) where
  pub fits_led : IsLed seat script rec Q m w → HasFitting w seat (script.asks m (seat_of w seat))
  fits_led led = fits_among Rests seat script rec Q m w led

  pub admits_led : IsProp (script.admits m (seat_of w seat) (answer_in script w seat m)) → IsLed seat script rec Q m w → script.admits m (seat_of w seat) (answer_in script w seat m)
  admits_led one led = admits_among Rests seat script rec Q m w one led

  pub goes_led : IsLed seat script rec Q m w → (told_in script w seat m).turn ≡ Go → IsLed seat script rec Q (told_in script w seat m).machine (turned script w seat m)
  goes_led led go = goes_among Rests seat script rec Q m w led go

  pub inside_led : IsLed seat script rec Q m w → seat < length w.seats
  inside_led led = inside_among Rests seat script rec Q m w led

-- of all seats one is at hand, and is one of them again; and what holds of the seat at hand, and of the others, may be weakened
pub at_hand : (F : Held) (seat : ℕ) (w : WorldNow) → seat < length w.seats → IsEach F w → IsAmong F seat F w
at_hand F seat w inside each = ∥∥₁_map each (λ e. (e.0, e.1, record { stands = e.2.stands; here = e.2.seats seat inside; others = λ other apart low. e.2.seats other low }))

pub put_back : (F : Held) (seat : ℕ) (G H : Held) (w : WorldNow) → ((o : Origin) (s : Seat) (v : View) → G o seat s v → H o seat s v) →
    ((o : Origin) (other : ℕ) (s : Seat) (v : View) → other ≢ seat → F o other s v → H o other s v) → IsAmong F seat G w → IsEach H w
put_back F seat G H w of_seat of_others among = ∥∥₁_map among (λ a. (
  a.0,
  a.1,
  record {
    stands = a.2.stands;
    seats = λ other low. same_or_other other seat
        (λ same. subst (λ (k : ℕ). IsIn H w a.0 a.1 k) (sym same) (record { made = a.2.here.made; holds = of_seat a.0 (seat_of w seat) (view_of a.1.views seat) a.2.here.holds }))
        (λ apart. (let is = a.2.others other apart low in record { made = is.made; holds = of_others a.0 other (seat_of w other) (view_of a.1.views other) apart is.holds }));
  },
))

pub among_weaker : (F E : Held) (seat : ℕ) (G H : Held) (w : WorldNow) → ((o : Origin) (s : Seat) (v : View) → G o seat s v → H o seat s v) →
    ((o : Origin) (other : ℕ) (s : Seat) (v : View) → other ≢ seat → F o other s v → E o other s v) → IsAmong F seat G w → IsAmong E seat H w
among_weaker F E seat G H w of_seat of_others among = ∥∥₁_map among (λ a. (
  a.0,
  a.1,
  record {
    stands = a.2.stands;
    here = record { made = a.2.here.made; holds = of_seat a.0 (seat_of w seat) (view_of a.1.views seat) a.2.here.holds };
    others = λ other apart low. (let is = a.2.others other apart low in record { made = is.made; holds = of_others a.0 other (seat_of w other) (view_of a.1.views other) apart is.holds });
  },
))

-- where a machine leaves the seat a state that is computed from its view's, the seat is at rest after it
pub rests_after : {Out : Type 0} (F : Held) (seat : ℕ) (Q : Out → Seat → View → Type 0) (out : Out) (w : WorldNow) → ((t : Seat) (v : View) → Q out t v → IsComputed v t) →
    IsAmong F seat (Ended Q out) w → IsAmong F seat Rests w
rests_after F seat Q out w leaves ended = among_weaker F F seat (Ended Q out) Rests w (λ o s v left. leaves s v left) (λ o other s v apart holds. holds) ended

pub rests_ended : {Out : Type 0} (seat : ℕ) (Q : Out → Seat → View → Type 0) (out : Out) (w : WorldNow) → ((t : Seat) (v : View) → Q out t v → IsComputed v t) → HasEndedInWorld seat Q out w → IsResting w
rests_ended seat Q out w leaves ended = put_back Rests seat Rests Rests w (λ o s v rests. rests) (λ o other s v apart rests. rests) (rests_after Rests seat Q out w leaves ended)

-- a machine that the core promises begins at a seat at rest, whatever the others are in the middle of, and leaves the seat a state that is
-- computed from its view's, of which the promise's end holds
pub begins_as : {M Out : Type 0} (F : Held) (seat : ℕ) (script : Script M Out) (m : M) (P : StartCondition) (R : EndCondition Out) (w : WorldNow) → Promises script P R m →
    ((o : Origin) (c : Core) (g : Ghost) → IsKnown w o c seat g → P o seat (seat_of w seat) g) → IsAmong F seat Rests w →
    IsAmong F seat (Runs script no_record (λ out t v. HasEndedAs R seat (seat_of w seat) out t v) m) w
begins_as {M} {Out} F seat script m P R w promises holds among = ∥∥₁_map among (λ a. (a.0, a.1, begin a.0 a.1 a.2))
  where
    begin : (o : Origin) (c : Core) → AmongIn F seat Rests w o c → AmongIn F seat (Runs script no_record (λ out t v. HasEndedAs R seat (seat_of w seat) out t v) m) w o c
    begin o c rests =
        (let at = rests.here in
        let v = view_of c.views seat in
        let number = number_next v (seat_of w seat) in
        let g = ghost_begun v.ghost v.seat (seat_of w seat) number in
        record {
          stands = rests.stands;
          here = record {
            made = at.made;
            holds = record {
              number = number;
              leads = leads_weaker script (within o seat number script no_record) (IsLeft v.done no_record (R o seat (seat_of w seat) g)) (λ out t u. HasEndedAs R seat (seat_of w seat) out t u)
                  (λ out t u left. record { origin = o; ghost = g; left = record { unspent = left.unspent; begins = left.seat.computed }; ends = left.fits })
                  (promises o rests.stands.start seat number v.done (seat_of w seat) v (record {
                    unspent = at.holds.unspent;
                    begins = at.holds.begins;
                    number_is = next_may v (seat_of w seat);
                    done = refl;
                    fits = holds o c g (known_in w o c seat rests.stands at);
                  }));
            };
          };
          others = rests.others;
        })

runs_weaker : {M Out : Type 0} (script : Script M Out) (rec : Out → Seat → List Call) (Q E : Out → Seat → View → Type 0) → ((out : Out) (t : Seat) (v : View) → Q out t v → E out t v) → (m : M) (o : Origin) (seat : ℕ) (s : Seat) (v : View) →
    Runs script rec Q m o seat s v → Runs script rec E m o seat s v
runs_weaker script rec Q E less m o seat s v runs = record { number = runs.number; leads = leads_weaker script (within o seat runs.number script rec) Q E less runs.leads }

pub begins_among : {M Out : Type 0} (F : Held) (seat : ℕ) (script : Script M Out) (m : M) (P : StartCondition) (R : EndCondition Out) (w : WorldNow) → Promises script P R m →
    ((o : Origin) (c : Core) (g : Ghost) → IsKnown w o c seat g → P o seat (seat_of w seat) g) → IsAmong F seat Rests w → IsAmong F seat (Runs script no_record (λ out t v. HasLeft out t v) m) w
begins_among F seat script m P R w promises holds among =
    among_weaker F F seat (Runs script no_record (λ out t v. HasEndedAs R seat (seat_of w seat) out t v) m) (Runs script no_record (λ out t v. HasLeft out t v) m) w
    (λ o s v runs. runs_weaker script no_record (λ out t u. HasEndedAs R seat (seat_of w seat) out t u) (λ out t u. HasLeft out t u) (λ out t u ended. ended.left) m o seat s v runs) (λ o other s v apart holds. holds)
    (begins_as F seat script m P R w promises holds among)

pub begins_led : {M Out : Type 0} (seat : ℕ) (script : Script M Out) (m : M) (P : StartCondition) (R : EndCondition Out) (w : WorldNow) → Promises script P R m →
    ((o : Origin) (c : Core) (g : Ghost) → IsKnown w o c seat g → P o seat (seat_of w seat) g) → seat < length w.seats → IsResting w → IsLed seat script no_record (λ out t v. HasLeft out t v) m w
begins_led seat script m P R w promises holds inside resting = begins_among Rests seat script m P R w promises holds (at_hand Rests seat w inside resting)

pub left_all : {Out : Type 0} (out : Out) (t : Seat) (v : View) → HasLeft out t v → IsComputed v t
left_all out t v left = record { unspent = left.unspent; begins = left.begins }

-- marks are a seat's own
others_marks : (m : Memory) (seat other : ℕ) (ask : Ask) → other ≢ seat → pending_of other (memory_after m seat ask).pending ≡ pending_of other m.pending
others_marks m seat other (Mark word) apart = pending_of-push_other other m.pending (record { seat = seat; word = word; time = length m.past }) apart
others_marks m seat other Fence apart = (fences_forget_own_marks m seat).1 other apart
others_marks m seat other (Load p) apart = refl
others_marks m seat other (Store p value) apart = refl
others_marks m seat other (Exchange p before after) apart = refl
others_marks m seat other (SetBits p bits) apart = refl
others_marks m seat other (ClearBits p bits) apart = refl

-- a turn leaves the other seats
module _ {M Out : Type 0} (script : Script M Out) (w : WorldNow) (seat : ℕ) (m : M) (inside : seat < length w.seats) where
  pub told_seat : seat_of (turned script w seat m) seat ≡ (told_in script w seat m).seat
  told_seat = get_or-set_same w.seats seat (told_in script w seat m).seat (new_seat no_geometry 0 0 0) inside

  pub is_turn : (May : ℕ → Seat → Type 0) → 0 < w.cells.room → (May seat (seat_of w seat) → May seat (told_in script w seat m).seat) → IsTurnOf May w (turned script w seat m) seat
  is_turn May some keeps = record {
    many = length-set w.seats seat (told_in script w seat m).seat;
    room = omega (arith, some);
    others = λ other apart. get_or-set_other w.seats seat other (told_in script w seat m).seat (new_seat no_geometry 0 0 0) apart;
    marks = λ other apart. others_marks w.cells.memory seat other (script.asks m (seat_of w seat)) apart;
    may = λ may. subst (λ (s : Seat). May seat s) (sym told_seat) (keeps may);
  }

-- a turn of a machine that leaves the seat so at its end: it is a turn, and after the last one each seat is at rest
module _ {M Out : Type 0} (script : Script M Out) (w : WorldNow) (seat : ℕ) (m : M) (led : IsLed seat script no_record (λ out t v. HasLeft out t v) m w) where
  pub turn_led : (May : ℕ → Seat → Type 0) → 0 < w.cells.room → (May seat (seat_of w seat) → May seat (told_in script w seat m).seat) → IsTurnOf May w (turned script w seat m) seat
  turn_led May some keeps = is_turn script w seat m (inside_led seat script no_record (λ out t v. HasLeft out t v) m w led) May some keeps

  pub rests_led : (out : Out) → (told_in script w seat m).turn ≡ Done out → IsResting (turned script w seat m)
  rests_led out done = rests_ended seat (λ out t v. HasLeft out t v) out (turned script w seat m) (left_all out) (ends_among Rests seat script no_record (λ out t v. HasLeft out t v) m w out led done)
