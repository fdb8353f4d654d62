-- Machines of pins at a seat of a world.
use Rattle.std.proofs.Common.{◌≡◌, ◌<◌, ℕ, length, refl, sym, ◌∙◌}
use Rattle.std.proofs.Math.Bridge.{le_prop}
use Rattle.std.proofs.Math.Nat.{ℕ_set}
use Rattle.pmem_words.specs.Seats.{Seat}
use Rattle.log_core.specs.Within.{no_record}
use Rattle.crash_model.specs.Worlds.{WorldNow, seat_of}
use Rattle.crash_model.specs.Led.{IsLed, IsResting, HasLeft}
use Rattle.crash_model.proofs.Leading.{begins_led}
use Rattle.pins.specs.declared.pin.Pin.{Pin}
use Rattle.pins.specs.declared.pin.Pin.TheVariants.{Begin, Publish, Confirm}
use Rattle.pins.specs.declared.scan.Scan.{Scan}
use Rattle.pins.specs.Pinning.{pin_script, pin_admits}
use Rattle.pins.specs.Scanning.{scan_script, scan_of, HasSeat}
use Rattle.pins.specs.Unpinning.{unpin_script, unpin_of}
use Rattle.pins.specs.Within.{MayPin, HasPinned, HasUnpinned, MayScan, HasScanned}
use Rattle.world_tests.specs.PinSeats.{MayTurn, MayLook}
use Rattle.pins.proofs.PinWithin.{pins_within, unpins_within}
use Rattle.pins.proofs.ScanWithin.{scans_within}

-- what is admitted is said once
pub pin_one : (m : Pin) (s : Seat) (a : ℕ) → IsProp (pin_admits m s a)
pin_one Begin s a = λ x y. refl
pin_one Publish s a = λ x y. refl
pin_one Confirm s a = le_prop

pub scan_one : (m : Scan) (s : Seat) → IsProp (HasSeat m s)
scan_one m s = λ x y. λ i. record { left = le_prop x.left y.left i; few = le_prop x.few y.few i; seen = λ some. ℕ_set (length s.giving.pins_seen) m.next (x.seen some) (y.seen some) i }

-- where the machines begin
pub pin_led : (w : WorldNow) (seat : ℕ) → seat < length w.seats → IsResting w → MayTurn seat (seat_of w seat) → IsLed seat pin_script no_record (λ out t v. HasLeft out t v) Begin w
pin_led w seat inside resting may = begins_led seat pin_script Begin MayPin HasPinned w pins_within (λ o c g known. record { number = may.number; no_marks = λ sync. absurd (may.no_sync sync) }) inside resting

pub unpin_led : (w : WorldNow) (seat : ℕ) → seat < length w.seats → IsResting w → MayTurn seat (seat_of w seat) → IsLed seat unpin_script no_record (λ out t v. HasLeft out t v) unpin_of w
unpin_led w seat inside resting may = begins_led seat unpin_script unpin_of MayPin HasUnpinned w unpins_within (λ o c g known. record { number = may.number; no_marks = λ sync. absurd (may.no_sync sync) }) inside resting

pub scan_led : (w : WorldNow) (seat generation : ℕ) → seat < length w.seats → IsResting w → MayLook seat (length w.seats) (seat_of w seat) → IsLed seat scan_script no_record (λ out t v. HasLeft out t v) (scan_of generation) w
scan_led w seat generation inside resting may = begins_led seat scan_script (scan_of generation) MayScan (HasScanned generation) w (scans_within generation)
    (λ o c g known. record { number = may.number; seats = may.seats ∙ sym known.stands.seats; few = may.few; some = may.some; head_fenced = may.head_fenced; unpinned = may.unpinned }) inside resting

-- what a turn keeps
pub pin_keeps : (m : Pin) (s : Seat) (a seat : ℕ) → MayTurn seat s → MayTurn seat (pin_script.after m s a).seat
pin_keeps Begin s a seat may = record { number = may.number; no_sync = may.no_sync }
pin_keeps Publish s a seat may = record { number = may.number; no_sync = may.no_sync }
pin_keeps Confirm s a seat may = record { number = may.number; no_sync = may.no_sync }

pub scan_keeps : (m : Scan) (s : Seat) (a seat : ℕ) → MayTurn seat s → MayTurn seat (scan_script.after m s a).seat
scan_keeps m s a seat may = record { number = may.number; no_sync = may.no_sync }

pub scan_looks : (m : Scan) (s : Seat) (a seat seats : ℕ) → MayLook seat seats s → MayLook seat seats (scan_script.after m s a).seat
scan_looks m s a seat seats may = record { number = may.number; seats = may.seats; few = may.few; some = may.some; head_fenced = may.head_fenced; unpinned = may.unpinned }

-- a seat that another one's turns leave may still look
pub looks_still : (old new : WorldNow) (seat count : ℕ) → length old.seats ≡ count → length new.seats ≡ length old.seats → seat_of new seat ≡ seat_of old seat → MayLook seat count (seat_of old seat) → MayLook seat (length new.seats) (seat_of new seat)
looks_still old new seat count many same_many same may = rw (same, same_many, many) may
