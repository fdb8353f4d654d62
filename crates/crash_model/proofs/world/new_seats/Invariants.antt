use Rattle.std.proofs.Common.{◌≡◌, map, ℕ}
use Rattle.std.specs.List.{range_with_len}
use Rattle.pmem_words.specs.Seats.{new_seat}
use Rattle.crash_model.proofs.world.new_seats.Given as goal

abbrev pub invariant-loop-number : goal.invariant-loop-number
invariant-loop-number l = l.states.items ≡ map (λ (number : ℕ). new_seat l.fn.geometry number l.fn.seats l.fn.position) (range_with_len 0 l.number)
