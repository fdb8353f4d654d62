-- A map from virtual to physical blocks as a list: one place for each virtual block of the file.
use Rattle.std.specs.Prelude.{ℕ, ◌+◌, ◌-◌, if◌then◌else◌, List, [], ◌∷◌, Option, None, Some, slice_index_or}
use Rattle.std.proofs.Common.{zero, suc}
use Rattle.block_table.specs.FileMap.{FileMap, block_at, is_in_range}
use Rattle.block_table.specs.declared.TheConstants.{VIRTUAL_BLOCKS}

-- what f gives at k and each number after it, n in all
unfoldable pub listed : ℕ → ℕ → (ℕ → Option ℕ) → List (Option ℕ)
listed k zero f = []
listed k (suc n) f = f k ∷ listed (k + 1) n f

-- the physical block of each virtual block by a table's map
unfoldable pub map_of : FileMap → List (Option ℕ)
map_of table = listed 0 VIRTUAL_BLOCKS (block_at table)

-- no virtual block is mapped
unfoldable pub unmapped : List (Option ℕ)
unmapped = listed 0 VIRTUAL_BLOCKS (λ v. None)

-- the map, whose first place is virtual block k, with count virtual blocks from virt on mapped to those from block on
unfoldable pub with_run_at : ℕ → ℕ → ℕ → ℕ → List (Option ℕ) → List (Option ℕ)
with_run_at k virt block count [] = []
with_run_at k virt block count (held ∷ map) = (if is_in_range virt count k then Some (block + (k - virt)) else held) ∷ with_run_at (k + 1) virt block count map

-- the map with this run
abbrev pub with_run : ℕ → ℕ → ℕ → List (Option ℕ) → List (Option ℕ)
with_run virt block count map = with_run_at 0 virt block count map

-- the physical block that holds a virtual block, if it is mapped
abbrev pub map_at : List (Option ℕ) → ℕ → Option ℕ
map_at map virt = slice_index_or map virt None
