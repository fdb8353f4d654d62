-- Two seats of a world, one in the middle of taking a pin and one in the middle of a scan.
use Rattle.std.proofs.Common.{◌≡◌, ◌≢◌, ◌<◌, ℕ, zero, suc, length, refl, sym, ◌∙◌, subst, arith}
use Rattle.std.proofs.Math.Logic.{∥∥₁_map}
use Rattle.log_core.specs.Within.{no_record}
use Rattle.crash_model.specs.Worlds.{WorldNow, seat_of}
use Rattle.crash_model.specs.Led.{Held, Rests, Runs, IsIn, IsAmong, IsResting, HasLeft}
use Rattle.crash_model.proofs.Leading.{at_hand, put_back, begins_among}
use Rattle.pins.specs.declared.pin.Pin.{Pin}
use Rattle.pins.specs.declared.pin.Pin.TheVariants.{Begin}
use Rattle.pins.specs.declared.scan.Scan.{Scan}
use Rattle.pins.specs.Pinning.{pin_script}
use Rattle.pins.specs.Scanning.{scan_script, scan_of}
use Rattle.pins.specs.Within.{MayPin, HasPinned, MayScan, HasScanned}
use Rattle.pins.proofs.PinWithin.{pins_within}
use Rattle.pins.proofs.ScanWithin.{scans_within}
use Rattle.world_tests.specs.PinSeats.{MayTurn, MayLook}

-- of two seats either is at hand
swap : (F G : Held) (i j : ℕ) (w : WorldNow) → j ≢ i → j < length w.seats → ((k : ℕ) → k ≢ j → k < length w.seats → k ≡ i) → IsAmong F i G w → IsAmong G j F w
swap F G i j w apart inside only among = ∥∥₁_map among (λ a. (
  a.0,
  a.1,
  record {
    stands = a.2.stands;
    here = a.2.others j apart inside;
    others = λ k other low. subst (λ (n : ℕ). IsIn G w a.0 a.1 n) (sym (only k other low)) a.2.here;
  },
))

is_zero : (k : ℕ) → k ≢ 1 → k < 2 → k ≡ 0
is_zero zero apart low = refl
is_zero (suc zero) apart low = absurd (apart refl)
is_zero (suc (suc k)) apart low = absurd (omega (arith, low))

is_one : (k : ℕ) → k ≢ 0 → k < 2 → k ≡ 1
is_one zero apart low = absurd (apart refl)
is_one (suc zero) apart low = refl
is_one (suc (suc k)) apart low = absurd (omega (arith, low))

pub to_one : (F G : Held) (w : WorldNow) → length w.seats ≡ 2 → IsAmong F 0 G w → IsAmong G 1 F w
to_one F G w many among = swap F G 0 1 w (λ e. omega (arith, e)) (omega (arith, many)) (λ k apart low. is_zero k apart (omega (arith, low, many))) among

pub to_zero : (F G : Held) (w : WorldNow) → length w.seats ≡ 2 → IsAmong F 1 G w → IsAmong G 0 F w
to_zero F G w many among = swap F G 1 0 w (λ e. omega (arith, e)) (omega (arith, many)) (λ k apart low. is_one k apart (omega (arith, low, many))) among

abbrev pub Pins : Pin → Held
Pins m = Runs pin_script no_record (λ out t v. HasLeft out t v) m

abbrev pub Scans : Scan → Held
Scans m = Runs scan_script no_record (λ out t v. HasLeft out t v) m

-- where the machines begin, whatever the others are in the middle of
pin_begins : (F : Held) (w : WorldNow) (seat : ℕ) → MayTurn seat (seat_of w seat) → IsAmong F seat Rests w → IsAmong F seat (Pins Begin) w
pin_begins F w seat may among = begins_among F seat pin_script Begin MayPin HasPinned w pins_within (λ o c g known. record { number = may.number; no_marks = λ sync. absurd (may.no_sync sync) }) among

scan_begins : (F : Held) (w : WorldNow) (seat generation : ℕ) → MayLook seat (length w.seats) (seat_of w seat) → IsAmong F seat Rests w → IsAmong F seat (Scans (scan_of generation)) w
scan_begins F w seat generation may among = begins_among F seat scan_script (scan_of generation) MayScan (HasScanned generation) w (scans_within generation)
    (λ o c g known. record { number = may.number; seats = may.seats ∙ sym known.stands.seats; few = may.few; some = may.some; head_fenced = may.head_fenced; unpinned = may.unpinned }) among

-- both begin, before either makes a step
pub both_begin : (w : WorldNow) (generation : ℕ) → length w.seats ≡ 2 → IsResting w → MayTurn 0 (seat_of w 0) → MayLook 1 2 (seat_of w 1) → IsAmong (Scans (scan_of generation)) 0 (Pins Begin) w
both_begin w generation many resting may look =
    to_zero (Pins Begin) (Scans (scan_of generation)) w many
    (scan_begins (Pins Begin) w 1 generation (subst (λ (n : ℕ). MayLook 1 n (seat_of w 1)) (sym many) look)
    (to_one Rests (Pins Begin) w many
    (pin_begins Rests w 0 may
    (at_hand Rests 0 w (omega (arith, many)) resting))))

pub both_rest : (w : WorldNow) (seat : ℕ) → IsAmong Rests seat Rests w → IsResting w
both_rest w seat among = put_back Rests seat Rests Rests w (λ o s v holds. holds) (λ o other s v apart holds. holds) among
