use Rattle.std.proofs.Common.{◌≡◌, ℕ, ◌<◌, length, get_or, slice_index, take}
use Rattle.persistence.specs.Memory.{values_of, index_at}
use Rattle.persistence.proofs.survivors.values_at.Given as goal

-- of each word, how many of its values were seen, and the one of its number where that was among them
abbrev pub invariant-loop-replaced : goal.invariant-loop-replaced
invariant-loop-replaced l =
    (length l.values.items ≡ length l.words)
    × (length l.seen.items ≡ length l.words)
    × ((w : ℕ) → w < length l.words → slice_index l.seen.items w ≡ index_at l.past l.replaced-index w)
    × ((w : ℕ) → w < length l.words → slice_index l.values.items w ≡ get_or (values_of (take l.replaced-index l.past) w) (slice_index l.indices w) (slice_index l.words w))
