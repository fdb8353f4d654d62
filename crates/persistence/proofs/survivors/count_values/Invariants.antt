use Rattle.std.proofs.Common.{◌≡◌, ℕ, ◌<◌, length, min, slice_index}
use Rattle.persistence.specs.Memory.{index_at}
use Rattle.persistence.proofs.survivors.count_values.Given as goal

-- of each word, how many of its values were seen before its floor, and how many in all
abbrev pub invariant-loop-time : goal.invariant-loop-time
invariant-loop-time l =
    (length l.floor.items ≡ length l.floors)
    × (length l.present.items ≡ length l.floors)
    × ((w : ℕ) → w < length l.floors → slice_index l.floor.items w ≡ index_at l.past (min l.time (slice_index l.floors w)) w)
    × ((w : ℕ) → w < length l.floors → slice_index l.present.items w ≡ index_at l.past l.time w)
