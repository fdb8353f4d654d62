-- A seat that takes blocks: its lists, and what its call lacks afterwards.
use Rattle.std.proofs.Common.{◌≡◌, ◌≤◌, ◌+◌, ◌-◌, ◌==◌, ◌&&◌, ◌⊎◌, inl, inr, max, not, nat_lt, if◌then◌else◌, ℕ, Bool, true, false, cond, List, [], ◌∷◌, ◌++◌, length, map, refl, sym, ap, ◌∙◌, arith, append-nil, append_assoc}
use Rattle.std.specs.Prelude.{filter}
use Rattle.log_entry.specs.Shape.{snapshot_blocks_of}
use Rattle.std.proofs.lemmas.Bool.{ltb-false, eq-eqb, or_cases, or_left, or_right}
use Rattle.std.proofs.lemmas.List.{map-append, length-append}
use Rattle.std.proofs.lemmas.List.Elements.{filter-append}
use Rattle.log_entry.specs.declared.shapes.Area.{Area}
use Rattle.log_entry.specs.declared.shapes.Area.TheVariants.{Data, Log, Spare}
use Rattle.pmem_words.specs.declared.keeps.Task.{Task}
use Rattle.pmem_words.specs.declared.keeps.Task.TheVariants.{Pwrite, Append, Collect, Take as TakeTask}
use Rattle.pmem_words.specs.declared.owned.OwnedBlock.{OwnedBlock}
use Rattle.pmem_words.specs.Seats.{Seat}
use Rattle.log_image.specs.Chains.{is_listed}
use Rattle.log_core.specs.Works.{seat_shape}
use Rattle.log_core.specs.Needs.{is_in_area, is_area, is_one_run, owned_numbers, owned_in, data_lacking, touched_from, lacking}
use Rattle.block_bitmap.specs.TakeScript.{fresh, with_taken_blocks}
use Rattle.block_bitmap.specs.TakeAlone.{found_as}
use Rattle.block_bitmap.specs.TakeWithin.{HasGrown}
use Rattle.block_bitmap.proofs.TakeMarks.{has_both}
use Rattle.block_bitmap.proofs.TakeCompose.{taken_both}

-- the numbers of owned blocks with more of them
numbers_fresh : (area : Area) (blocks : List ℕ) → owned_numbers (map (fresh area) blocks) ≡ blocks
numbers_fresh area [] = refl
numbers_fresh area (block ∷ blocks) = ap (λ (rest : List ℕ). block ∷ rest) (numbers_fresh area blocks)

pub numbers_more : (area : Area) (owned : List OwnedBlock) (blocks : List ℕ) → owned_numbers (owned ++ map (fresh area) blocks) ≡ owned_numbers owned ++ blocks
numbers_more area owned blocks = map-append (λ (o : OwnedBlock). o.block) owned (map (fresh area) blocks) ∙ ap (λ (rest : List ℕ). owned_numbers owned ++ rest) (numbers_fresh area blocks)

-- a test keeps a list of which each passes
pub kept_has : (p : ℕ → Bool) (blocks : List ℕ) → ((block : ℕ) → is_listed blocks block ≡ true → p block ≡ true) → filter p blocks ≡ blocks
kept_has p [] each = refl
kept_has p (block ∷ blocks) each =
    ap (λ (b : Bool). cond b (block ∷ filter p blocks) (filter p blocks)) (each block (or_left (block == block) (is_listed blocks block) (eq-eqb block block refl)))
    ∙ ap (λ (rest : List ℕ). block ∷ rest) (kept_has p blocks (λ other some. each other (or_right (block == other) (is_listed blocks other) some)))

-- what is owned in an area, after blocks of it were taken
pub owned_more : (area : Area) (s : Seat) (found : List ℕ) (blocks : List ℕ) → ((block : ℕ) → is_listed blocks block ≡ true → is_in_area (seat_shape s) area block ≡ true) → owned_in (found_as found (with_taken_blocks area blocks s)) area ≡ owned_in s area ++ blocks
owned_more area s found blocks each =
    ap (filter (λ (block : ℕ). is_in_area (seat_shape s) area block)) (numbers_more area s.blocks.owned blocks)
    ∙ filter-append (λ (block : ℕ). is_in_area (seat_shape s) area block) (owned_numbers s.blocks.owned) blocks
    ∙ ap (λ (rest : List ℕ). owned_in s area ++ rest) (kept_has (λ (block : ℕ). is_in_area (seat_shape s) area block) blocks each)

-- a seat that has grown grows on
pub grows_on : (area : Area) (first s : Seat) (blocks more : List ℕ) (found : List ℕ) → HasGrown area first blocks s → ((block : ℕ) → is_listed more block ≡ true → is_in_area (seat_shape s) area block ≡ true) →
    HasGrown area first (blocks ++ more) (found_as found (with_taken_blocks area more s))
grows_on area first s blocks more found grown each = record {
  seat = ap (λ (x : Seat). found_as found (with_taken_blocks area more x)) grown.seat ∙ ap (found_as found) (taken_both area blocks more first);
  in_area = λ block some. by block (or_cases (is_listed blocks block) (is_listed more block) (sym (has_both blocks more block) ∙ some));
  more = owned_more area s found more each ∙ ap (λ (owned : List ℕ). owned ++ more) grown.more ∙ append_assoc (owned_in first area) blocks more;
}
  where
    by : (block : ℕ) → (is_listed blocks block ≡ true) ⊎ (is_listed more block ≡ true) → is_in_area (seat_shape s) area block ≡ true
    by block (inl old) = grown.in_area block old
    by block (inr new) = each block new

-- and stays as it is while it finds blocks taken
pub grows_found : (area : Area) (first s : Seat) (blocks : List ℕ) (found : List ℕ) → HasGrown area first blocks s → HasGrown area first blocks (found_as found s)
grows_found area first s blocks found grown = record { seat = ap (found_as found) grown.seat; in_area = grown.in_area; more = grown.more }

-- a call lacks fewer blocks by no more than it takes
one_most : (b : Bool) → (if b then 1 else 0) ≤ 1
one_most true = omega arith
one_most false = omega arith

data_high : (touched : ℕ) (owned : List ℕ) → data_lacking touched owned ≤ max (touched - length owned) 1
data_high touched owned = by (nat_lt (length owned) touched) ((length owned == touched) && nat_lt 0 touched && not (is_one_run owned))
  where
    by : (fewer apart : Bool) → (if fewer then touched - length owned else if apart then 1 else 0) ≤ max (touched - length owned) 1
    by true apart = omega arith
    by false apart = (let one = one_most apart in omega (arith, one))

data_low : (touched : ℕ) (owned : List ℕ) → touched - length owned ≤ data_lacking touched owned
data_low touched owned = by (nat_lt (length owned) touched) ((length owned == touched) && nat_lt 0 touched && not (is_one_run owned)) refl
  where
    by : (fewer apart : Bool) → nat_lt (length owned) touched ≡ fewer → touched - length owned ≤ (if fewer then touched - length owned else if apart then 1 else 0)
    by true apart e = omega arith
    by false apart e = (let most = ltb-false (length owned) touched e in omega (arith, most))

data_falls : (touched : ℕ) (owned more : List ℕ) → data_lacking touched owned ≤ data_lacking touched (owned ++ more) + length more
data_falls touched owned [] = (let same = ap (data_lacking touched) (append-nil owned) in omega (arith, same))
data_falls touched owned (block ∷ more) = (let high = data_high touched owned in let low = data_low touched (owned ++ block ∷ more) in let long = length-append owned (block ∷ more) in omega (arith, high, low, long))

-- by the task and the area: what is lacking with these blocks of the area, and with more
abbrev lacks_with : Seat → Task → Area → List ℕ → ℕ
lacks_with s (Pwrite offset) Data owned = data_lacking (touched_from s.geometry.block_bytes offset s.calling.bytes) owned
lacks_with s Append Data owned = data_lacking (touched_from s.geometry.block_bytes s.walk.size s.calling.bytes) owned
lacks_with s (Pwrite offset) Log owned = 1 - length owned
lacks_with s Append Log owned = 1 - length owned
lacks_with s Collect Spare owned = snapshot_blocks_of s.geometry.data_blocks s.geometry.block_bytes + 1 - length owned
lacks_with s (TakeTask wanted count) area owned = if is_area wanted area then count - length owned else 0
lacks_with s _ area owned = 0

lacks_is : (s : Seat) (task : Task) (area : Area) → lacking s task area ≡ lacks_with s task area (owned_in s area)
lacks_is s (Pwrite offset) Data = refl
lacks_is s Append Data = refl
lacks_is s (Pwrite offset) Log = refl
lacks_is s Append Log = refl
lacks_is s Collect Spare = refl
lacks_is s (TakeTask wanted count) area = refl
lacks_is s _ area = refl

falls_if : (b : Bool) (count : ℕ) (owned more : List ℕ) → (if b then count - length owned else 0) ≤ (if b then count - length (owned ++ more) else 0) + length more
falls_if true count owned more = (let long = length-append owned more in omega (arith, long))
falls_if false count owned more = omega arith

falls_with : (s : Seat) (task : Task) (area : Area) (owned more : List ℕ) → lacks_with s task area owned ≤ lacks_with s task area (owned ++ more) + length more
falls_with s (Pwrite offset) Data owned more = data_falls (touched_from s.geometry.block_bytes offset s.calling.bytes) owned more
falls_with s Append Data owned more = data_falls (touched_from s.geometry.block_bytes s.walk.size s.calling.bytes) owned more
falls_with s (Pwrite offset) Log owned more = (let long = length-append owned more in omega (arith, long))
falls_with s Append Log owned more = (let long = length-append owned more in omega (arith, long))
falls_with s Collect Spare owned more = (let long = length-append owned more in omega (arith, long))
falls_with s (TakeTask wanted count) area owned more = falls_if (is_area wanted area) count owned more
falls_with s _ area owned more = omega arith

-- the seat's other fields stay
same_with : (s : Seat) (found : List ℕ) (area : Area) (blocks : List ℕ) (task : Task) (owned : List ℕ) → lacks_with (found_as found (with_taken_blocks area blocks s)) task area owned ≡ lacks_with s task area owned
same_with s found Data blocks (Pwrite offset) owned = refl
same_with s found Log blocks (Pwrite offset) owned = refl
same_with s found Data blocks Append owned = refl
same_with s found Log blocks Append owned = refl
same_with s found Spare blocks Collect owned = refl
same_with s found area blocks (TakeTask wanted count) owned = refl
same_with s found area blocks _ owned = refl

pub lacking_falls : (s : Seat) (found : List ℕ) (area : Area) (blocks : List ℕ) (task : Task) → ((block : ℕ) → is_listed blocks block ≡ true → is_in_area (seat_shape s) area block ≡ true) →
    lacking s task area ≤ lacking (found_as found (with_taken_blocks area blocks s)) task area + length blocks
lacking_falls s found area blocks task each =
    (let before = lacks_is s task area in
    let after = lacks_is (found_as found (with_taken_blocks area blocks s)) task area ∙ same_with s found area blocks task (owned_in (found_as found (with_taken_blocks area blocks s)) area) ∙ ap (lacks_with s task area) (owned_more area s found blocks each) in
    let falls = falls_with s task area (owned_in s area) blocks in omega (arith, before, after, falls))

pub lacking_found : (s : Seat) (found : List ℕ) (area : Area) (task : Task) → lacking (found_as found s) task area ≡ lacking s task area
lacking_found s found Data (Pwrite offset) = refl
lacking_found s found Log (Pwrite offset) = refl
lacking_found s found Data Append = refl
lacking_found s found Log Append = refl
lacking_found s found Spare Collect = refl
lacking_found s found area (TakeTask wanted count) = refl
lacking_found s found area _ = refl
