use Rattle.std.proofs.Common.{max, ℕ, sym, subst, refl, arith}
use Rattle.std.proofs.lemmas.List.FromFn.{get_or-map-range_with_len}
use Rattle.pmem_words.specs.Seats.{Seat, new_seat}
use Rattle.log_core.specs.Views.{no_geometry}
use Rattle.crash_model.specs.Worlds.{WorldNow}
use Rattle.crash_model.specs.Led.{IsResting}
use Rattle.crash_model.proofs.Resting.{rests_room}
use Rattle.world_tests.specs.PinSeats.{MayTurn}
use Rattle.drive_bench.proofs.world.sixteen_seats.Goals as goal

pub returns-clause-resting : goal.returns-clause-resting
returns-clause-resting c = subst (λ (w : WorldNow). IsResting w) (sym c.in_ok-reserve.ensures.ok) (rests_room c.in_ok-world.world (max c.in_ok-world.world.cells.room c.args.steps) c.in_ok-world.ensures.rests)

pub returns-clause-may : goal.returns-clause-may
returns-clause-may c = rw (c.in_ok-reserve.ensures.ok, c.in_ok-world.ensures.made) (λ seat inside.
    subst (λ (s : Seat). MayTurn seat s)
    (sym (get_or-map-range_with_len (λ (number : ℕ). new_seat c.in_ok-start.start.geometry number 16 c.in_ok-start.start.position) 0 16 seat seat (new_seat no_geometry 0 0 0) inside (omega arith)))
    (record { number = refl; no_sync = λ sync. cc }))
