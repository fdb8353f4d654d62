-- The machine that gives blocks back, at a seat of a world.
use Rattle.std.proofs.Common.{◌≡◌, ◌<◌, ◌==◌, ℕ, Bool, true, false, List, [], ◌∷◌, length, refl, ◌∙◌, ap}
use Rattle.std.proofs.Math.Bridge.{le_prop}
use Rattle.std.proofs.lemmas.Bool.{eqb-true}
use Rattle.pmem_words.specs.declared.owned.OwnedBlock.{OwnedBlock}
use Rattle.pmem_words.specs.Seats.{Seat}
use Rattle.pmem_words.specs.declared.machine.Turn.TheVariants.{Done}
use Rattle.log_core.specs.Within.{no_record}
use Rattle.crash_model.specs.Worlds.{WorldNow, seat_of, turned, told_in}
use Rattle.crash_model.specs.Led.{IsLed, IsResting, HasLeft}
use Rattle.crash_model.proofs.Leading.{begins_led, told_seat}
use Rattle.block_bitmap.specs.declared.give.Give.{Give}
use Rattle.block_bitmap.specs.declared.give.GiveFrom.{GiveFrom}
use Rattle.block_bitmap.specs.Giving.{HasGiven, give_of, give_turn, given_seat, given_count, give_script}
use Rattle.block_bitmap.specs.GiveWithin.{MayGive, HasGivenBlocks}
use Rattle.world_tests.specs.AloneSeats.{RunsAlone}
use Rattle.block_bitmap.proofs.GiveWithinCore.{gives_within}

-- where it begins
pub give_led : (w : WorldNow) (seat : ℕ) (from : GiveFrom) → seat < length w.seats → IsResting w → 0 < length (seat_of w seat).blocks.owned → IsLed seat give_script no_record (λ out t v. HasLeft out t v) (give_of from) w
give_led w seat from inside resting some = begins_led seat give_script (give_of from) (λ o n s g. MayGive s g) HasGivenBlocks w (gives_within from) (λ o c g known. record { some = some }) inside resting

-- what it admits is said once
pub give_one : (m : Give) (s : Seat) → IsProp (HasGiven m s)
give_one m s = λ x y. λ i. record { some = le_prop x.some y.some i; inside = le_prop x.inside y.inside i; few = le_prop x.few y.few i }

-- its turns leave the seat's call
pub give_keeps : (m : Give) (s : Seat) (a seat : ℕ) → RunsAlone seat s → RunsAlone seat (give_script.after m s a).seat
give_keeps m s a seat runs = record { number = runs.number; none_runs = runs.none_runs }

-- it ends where no block is left
nothing_in : (owned : List OwnedBlock) → length owned ≡ 0 → owned ≡ []
nothing_in [] none = refl
nothing_in (o ∷ owned) none = cc

ends_by : (b : Bool) (count out : ℕ) → give_turn b count ≡ Done out → b ≡ true
ends_by true count out done = refl
ends_by false count out done = cc

pub given_all : (m : Give) (w : WorldNow) (seat out : ℕ) → seat < length w.seats → (told_in give_script w seat m).turn ≡ Done out → (seat_of (turned give_script w seat m) seat).blocks.owned ≡ []
given_all m w seat out inside done = ap (λ (s : Seat). s.blocks.owned) (told_seat give_script w seat m inside)
    ∙ nothing_in (given_seat (seat_of w seat)).blocks.owned
    (eqb-true (length (given_seat (seat_of w seat)).blocks.owned) 0 (ends_by (length (given_seat (seat_of w seat)).blocks.owned == 0) (given_count m (seat_of w seat)) out done))
