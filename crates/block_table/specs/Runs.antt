-- Which run comes next in a map.
use Rattle.std.specs.Prelude.{◌≡◌, ◌≢◌, ℕ, ◌+◌, ◌<◌, ◌≤◌, None, Some}
use Rattle.block_table.specs.FileMap.{FileMap, block_at}
use Rattle.block_table.specs.declared.map_run.MapRun.{MapRun}
use Rattle.block_table.specs.declared.TheConstants.{VIRTUAL_BLOCKS, PHYSICAL_BLOCKS, LONGEST_RUN}

-- no virtual block from this one on is mapped
abbrev pub IsUnmappedFrom : FileMap → ℕ → Type 0
IsUnmappedFrom map from = (v : ℕ) → from ≤ v → block_at map v ≡ None

-- a run of the map: consecutive virtual blocks that consecutive physical blocks hold, at least one and at most LONGEST_RUN
pub record IsMapRun (map : FileMap) (run : MapRun) : Type 0 where
  pub some : 1 ≤ run.count
  pub cut : run.count ≤ LONGEST_RUN
  pub held : (k : ℕ) → k < run.count → block_at map (run.virt + k) ≡ Some (run.block + k)

-- the run begins at the first mapped virtual block at or after this one, and no longer run within LONGEST_RUN begins there
pub record IsNextRun (map : FileMap) (start : ℕ) (next : MapRun) : Type 0 where
  pub after : start ≤ next.virt
  pub first : (v : ℕ) → start ≤ v → v < next.virt → block_at map v ≡ None
  pub run : IsMapRun map next
  pub longest : next.count < LONGEST_RUN → block_at map (next.virt + next.count) ≢ Some (next.block + next.count)
  pub in_file : next.virt + next.count ≤ VIRTUAL_BLOCKS
  pub taken : 1 ≤ next.block
  pub in_image : next.block + next.count ≤ PHYSICAL_BLOCKS
