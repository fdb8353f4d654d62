-- What a seat's map holds after each of its changes.
use Rattle.std.proofs.Common.{ℕ, zero, suc, ◌≡◌, ◌+◌, ◌-◌, ◌<◌, if◌then◌else◌, List, [], ◌∷◌, length, refl, ap, ◌∙◌, arith}
use Rattle.std.specs.Prelude.{Option, None, Some}
use Rattle.block_table.specs.FileMap.{FileMap, block_at, is_in_range}
use Rattle.block_table.specs.declared.TheConstants.{VIRTUAL_BLOCKS}
use Rattle.pmem_words.specs.Maps.{listed, map_of, unmapped, with_run_at, with_run, map_at}

length_listed : (n k : ℕ) (f : ℕ → Option ℕ) → length (listed k n f) ≡ n
unfolding listed
length_listed zero k f = refl
length_listed (suc n) k f = ap suc (length_listed n (k + 1) f)

none_listed : (n k v : ℕ) → map_at (listed k n (λ u. None)) v ≡ None
unfolding listed
none_listed zero k v = refl
none_listed (suc n) k zero = refl
none_listed (suc n) k (suc v) = none_listed n (k + 1) v

length_run_at : (k virt block count : ℕ) (map : List (Option ℕ)) → length (with_run_at k virt block count map) ≡ length map
unfolding with_run_at
length_run_at k virt block count [] = refl
length_run_at k virt block count (held ∷ map) = ap suc (length_run_at (k + 1) virt block count map)

-- what stands at a place of a map from virtual block k on, with a run
abbrev held_with : ℕ → ℕ → ℕ → Option ℕ → ℕ → Option ℕ
held_with virt block count held v = if is_in_range virt count v then Some (block + (v - virt)) else held

at_run : (k virt block count : ℕ) (map : List (Option ℕ)) (v : ℕ) → v < length map → map_at (with_run_at k virt block count map) v ≡ held_with virt block count (map_at map v) (k + v)
unfolding with_run_at
at_run k virt block count [] v h = absurd (omega arith)
at_run k virt block count (held ∷ map) zero h = ap (held_with virt block count held) (let same : k ≡ k + 0 = omega arith in same)
at_run k virt block count (held ∷ map) (suc v) h =
    at_run (k + 1) virt block count map v (omega arith)
    ∙ ap (held_with virt block count (map_at map v)) (let same : k + 1 + v ≡ k + suc v = omega arith in same)

-- a table's map has a place for each virtual block
pub length_map : (t : FileMap) → length (map_of t) ≡ VIRTUAL_BLOCKS
unfolding map_of
length_map t = length_listed VIRTUAL_BLOCKS 0 (block_at t)

pub length_unmapped : length unmapped ≡ VIRTUAL_BLOCKS
unfolding unmapped
length_unmapped = length_listed VIRTUAL_BLOCKS 0 (λ v. None)

pub length_run : (virt block count : ℕ) (map : List (Option ℕ)) → length (with_run virt block count map) ≡ length map
length_run virt block count map = length_run_at 0 virt block count map

-- nothing is mapped
pub map_at_unmapped : (v : ℕ) → map_at unmapped v ≡ None
unfolding unmapped
map_at_unmapped v = none_listed VIRTUAL_BLOCKS 0 v

-- a run maps the virtual blocks that it names, and no other
pub map_at_run : (virt block count : ℕ) (map : List (Option ℕ)) (v : ℕ) → v < length map → map_at (with_run virt block count map) v ≡ (if is_in_range virt count v then Some (block + (v - virt)) else map_at map v)
map_at_run virt block count map v h = at_run 0 virt block count map v h ∙ ap (held_with virt block count (map_at map v)) (let same : 0 + v ≡ v = omega arith in same)
