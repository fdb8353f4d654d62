-- A table's map as a list, after each call on the table.
use Rattle.std.proofs.Common.{ℕ, zero, suc, ◌≡◌, ◌+◌, ◌-◌, ◌<◌, if◌then◌else◌, ◌∷◌, refl, ap, sym, ◌∙◌, arith}
use Rattle.std.specs.Prelude.{Option, None, Some}
use Rattle.block_table.specs.FileMap.{FileMap, block_at, is_in_range}
use Rattle.block_table.specs.declared.TheConstants.{VIRTUAL_BLOCKS}
use Rattle.pmem_words.specs.Maps.{listed, map_of, unmapped, with_run_at, with_run, map_at}

listed_same : (n k : ℕ) (f g : ℕ → Option ℕ) → ((v : ℕ) → f v ≡ g v) → listed k n f ≡ listed k n g
unfolding listed
listed_same zero k f g h = refl
listed_same (suc n) k f g h = λ i. h k i ∷ listed_same n (k + 1) f g h i

run_listed : (n k virt block count : ℕ) (f : ℕ → Option ℕ) → with_run_at k virt block count (listed k n f) ≡ listed k n (λ v. if is_in_range virt count v then Some (block + (v - virt)) else f v)
unfolding listed with_run_at
run_listed zero k virt block count f = refl
run_listed (suc n) k virt block count f = λ i. (if is_in_range virt count k then Some (block + (k - virt)) else f k) ∷ run_listed n (k + 1) virt block count f i

at_listed : (n k v : ℕ) (f : ℕ → Option ℕ) → v < n → map_at (listed k n f) v ≡ f (k + v)
unfolding listed
at_listed zero k v f h = absurd (omega arith)
at_listed (suc n) k zero f h = ap f (omega arith)
at_listed (suc n) k (suc v) f h = at_listed n (k + 1) v f (omega arith) ∙ ap f (omega arith)

-- a table with nothing mapped
pub unmapped_of : (t : FileMap) → ((v : ℕ) → block_at t v ≡ None) → map_of t ≡ unmapped
unfolding map_of unmapped
unmapped_of t h = listed_same VIRTUAL_BLOCKS 0 (block_at t) (λ v. None) h

-- a table with the same map
pub same_map : (t u : FileMap) → ((v : ℕ) → block_at u v ≡ block_at t v) → map_of u ≡ map_of t
unfolding map_of
same_map t u h = listed_same VIRTUAL_BLOCKS 0 (block_at u) (block_at t) h

-- a table with one run more
pub run_of : (t u : FileMap) (virt block count : ℕ) → ((v : ℕ) → block_at u v ≡ (if is_in_range virt count v then Some (block + (v - virt)) else block_at t v)) → map_of u ≡ with_run virt block count (map_of t)
unfolding map_of
run_of t u virt block count h =
    listed_same VIRTUAL_BLOCKS 0 (block_at u) (λ v. if is_in_range virt count v then Some (block + (v - virt)) else block_at t v) h
    ∙ sym (run_listed VIRTUAL_BLOCKS 0 virt block count (block_at t))

-- what stands at a place of the list
pub map_at_of : (t : FileMap) (v : ℕ) → v < VIRTUAL_BLOCKS → map_at (map_of t) v ≡ block_at t v
unfolding map_of
map_at_of t v h = at_listed VIRTUAL_BLOCKS 0 v (block_at t) h ∙ ap (block_at t) (omega arith)
