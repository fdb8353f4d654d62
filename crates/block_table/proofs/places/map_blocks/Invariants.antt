use Rattle.std.proofs.Common.{◌≡◌, ℕ, ◌+◌, ◌-◌, if◌then◌else◌, slice_index}
use Rattle.block_table.specs.FileMap.{is_in_range}
use Rattle.block_table.proofs.places.map_blocks.Given as goal

abbrev pub invariant-loop-k : goal.invariant-loop-k
invariant-loop-k l =
    (v : ℕ) → slice_index l.places v ≡ (if is_in_range l.virt l.k v then l.block + (v - l.virt) else slice_index l.initial.places v)
