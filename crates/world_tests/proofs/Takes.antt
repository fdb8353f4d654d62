-- The machine that takes blocks, at a seat of a world.
use Rattle.std.proofs.Common.{◌≡◌, ◌<◌, ◌≤◌, ◌+◌, ◌-◌, ◌==◌, ℕ, true, [], length, refl, sym, ap, subst, arith, Option, Some, None}
use Rattle.std.proofs.Math.Bridge.{le_prop}
use Rattle.log_entry.specs.declared.shapes.Area.{Area}
use Rattle.log_entry.specs.declared.shapes.Area.TheVariants.{Data, Log, Spare}
use Rattle.pmem_words.specs.declared.keeps.Task.TheVariants.{Take as TakeTask}
use Rattle.pmem_words.specs.Seats.{Seat, owned_room}
use Rattle.persistence.specs.Memory.{Memory, pending_of, memory_after}
use Rattle.log_core.specs.Needs.{is_area, lacking}
use Rattle.log_core.specs.Within.{no_record}
use Rattle.crash_model.specs.Worlds.{WorldNow, seat_of}
use Rattle.crash_model.specs.Led.{IsLed, IsResting, HasLeft}
use Rattle.crash_model.proofs.Leading.{begins_led}
use Rattle.block_bitmap.specs.declared.take.Take.{Take}
use Rattle.block_bitmap.specs.TakeScript.{MayTake, take_of, take_script, after_at, asks_at, with_found, word_of, less, seat_set, gained_at, known_set}
use Rattle.block_bitmap.specs.TakeWithin.{MayLack, HasTakenBlocks}
use Rattle.world_tests.specs.AloneSeats.{RunsAlone}
use Rattle.block_bitmap.proofs.TakeServes.{ended_seat}
use Rattle.block_bitmap.proofs.TakeSteps.{settled_seat}
use Rattle.block_bitmap.proofs.TakeWithinCore.{takes_within}

same_area : (area : Area) → is_area area area ≡ true
same_area Data = refl
same_area Log = refl
same_area Spare = refl

-- where it begins
pub take_led : (w : WorldNow) (seat count : ℕ) (area : Area) → seat < length w.seats → IsResting w → 0 < count → count ≤ 4 → (seat_of w seat).calling.job ≡ TakeTask area count → (seat_of w seat).blocks.owned ≡ [] →
    IsLed seat take_script no_record (λ out t v. HasLeft out t v) (take_of area count) w
take_led w seat count area inside resting some few job owned = begins_led seat take_script (take_of area count) (λ o n s g. MayLack area count s g) (HasTakenBlocks area count) w (takes_within area count)
    (λ o c g known. record { some = some; lacks = lacks; room = room }) inside resting
  where
    lacks : count ≤ lacking (seat_of w seat) (seat_of w seat).calling.job area
    lacks = rw (job, same_area area, owned) (omega arith)

    room : length (seat_of w seat).blocks.owned + count ≤ owned_room (seat_of w seat).geometry
    room = (let none : length (seat_of w seat).blocks.owned ≡ 0 = ap length owned in omega (arith, none, few))

-- what it admits is said once
pub take_one : (m : Take) (s : Seat) → IsProp (MayTake m s)
take_one m s = λ x y. λ i. record { to = le_prop x.to y.to i; inside = le_prop x.inside y.inside i; room = le_prop x.room y.room i }

-- its turns leave the seat's call, and its marks
take_calls : (known : Option ℕ) (m : Take) (s : Seat) (a seat : ℕ) → RunsAlone seat s → RunsAlone seat (after_at known m s a).seat
take_calls None m s a seat runs = subst (λ (t : Seat). RunsAlone seat t) (sym (settled_seat m (with_found (word_of m s) a s) a)) (record { number = runs.number; none_runs = runs.none_runs })
take_calls (Some known) m s a seat runs =
    subst (λ (t : Seat). RunsAlone seat t) (sym (ended_seat (m.count - length (gained_at m s known a) == 0) (less m (length (gained_at m s known a))) (seat_set m s known a) (known_set m s known a)))
    (record { number = runs.number; none_runs = runs.none_runs })

pub take_keeps : (m : Take) (s : Seat) (a seat : ℕ) → RunsAlone seat s → RunsAlone seat (take_script.after m s a).seat
take_keeps m s a seat runs = take_calls m.known m s a seat runs

pub take_marks : (m : Take) (s : Seat) (memory : Memory) (seat : ℕ) → pending_of seat (memory_after memory seat (take_script.asks m s)).pending ≡ pending_of seat memory.pending
take_marks m s memory seat = by m.known
  where
    by : (known : Option ℕ) → pending_of seat (memory_after memory seat (asks_at known m s)).pending ≡ pending_of seat memory.pending
    by None = refl
    by (Some known) = refl
