-- A write: its entry, and when it finds no space.
use Rattle.std.proofs.Common.{◌≡◌, ◌<◌, ◌≤◌, ◌+◌, ◌-◌, ◌*◌, ◌/◌, ◌&&◌, ◌⊎◌, inl, inr, max, ℕ, zero, suc, Bool, true, false, List, [], length, get_or, not, nat_le, nat_lt, Option, Some, None, IsTrue, if◌then◌else◌, refl, sym, ap, ◌∙◌, subst, arith}
use Rattle.std.specs.List.{list_all, slice_get, range_with_len}
use Rattle.std.proofs.lemmas.Bool.{cases_lt, le-leb, lt-ltb, leb-true, leb-false}
use Rattle.std.proofs.lemmas.List.FromFn.{length-range_with_len}
use Rattle.log_entry.specs.ByteFile.{write}
use Rattle.log_entry.specs.Fields.{field}
use Rattle.log_entry.specs.Shape.{longest_of, limit_of, is_block_bytes}
use Rattle.log_entry.specs.Legal.{touched_blocks}
use Rattle.std.proofs.lemmas.Bool.Decides.{nat_tests}
use Rattle.log_entry.specs.Words.{entry_word}
use Rattle.log_entry.specs.declared.entries.Entry.TheVariants.{Direct}
use Rattle.log_entry.specs.declared.layouts.TheConstants.{ENTRY_KIND, DIRECT_UNNAMED}
use Rattle.block_table.specs.FileMap.{FileMap, block_at}
use Rattle.log_image.specs.Image.{Shape, total, is_in_data, block_content}
use Rattle.log_image.specs.Entries.{Meaning, direct_meaning}
use Rattle.log_image.specs.Maps.{block_in, map_of, entry_end}
use Rattle.log_image.specs.Positions.{entries_of}
use Rattle.log_image.specs.Format.{is_direct, fits}
use Rattle.log_image.specs.Stands.{HoldsFile}
use Rattle.log_image.specs.Taken.{is_taken}
use Rattle.log_image.proofs.ClearedChains.{both}
use Rattle.image_steps.specs.Steps.{IsEntryOf, fits_log}
use Rattle.plain_engine.specs.Bytes.{laid_byte, present_byte}
use Rattle.plain_engine.proofs.CommitLemmas.{HasFields, word_fields}
use Rattle.plain_engine.proofs.FileLemmas.{write_place, length_write, Touches, touches}
use Rattle.plain_engine.proofs.WordLemmas.{laid_outside}
use Rattle.log_image.proofs.BlockLemmas.{block_inside}
use Rattle.std.proofs.Math.Nat.{mul-le-mul_right}

-- a run of blocks of the data area, for the virtual blocks that some bytes touch
pub record IsRunFor (shape : Shape) (virt block count leftover offset long : ℕ) : Type 0 where
  pub touches : Touches shape.block_bytes virt count offset long
  pub few : count ≤ longest_of shape.block_bytes
  pub in_file : virt + count ≤ 65536
  pub small_block : block < 65536
  pub first : 1 ≤ block
  pub last : block + count ≤ 1 + shape.data_blocks
  pub left : leftover ≡ (virt + count) * shape.block_bytes - (offset + long)
  pub small_left : leftover < 4096
  pub some : 0 < long
  pub small_count : count ≤ 256
  pub below : leftover < shape.block_bytes

-- what its entry means
abbrev run_meaning : ℕ → ℕ → ℕ → ℕ → Meaning
run_meaning virt block count leftover = record { holder = []; virt = virt; blocks = range_with_len block count; leftover = leftover }

pub fields_of : (shape : Shape) (virt block count leftover offset long : ℕ) → IsRunFor shape virt block count leftover offset long → HasFields (entry_word (Direct virt block count leftover)) virt block count leftover
fields_of shape virt block count leftover offset long is = word_fields virt block count leftover (omega (arith, is.in_file, is.touches.some)) is.small_block is.touches.some is.small_count is.small_left

pub run_means : (shape : Shape) (virt block count leftover offset long : ℕ) → IsRunFor shape virt block count leftover offset long → direct_meaning (entry_word (Direct virt block count leftover)) ≡ run_meaning virt block count leftover
run_means shape virt block count leftover offset long is =
    let f : HasFields (entry_word (Direct virt block count leftover)) virt block count leftover = fields_of shape virt block count leftover offset long is in
    rw (f.virt_is, f.block_is, f.count_is, f.leftover_is) refl

all_data : (shape : Shape) (first count : ℕ) → 1 ≤ first → first + count ≤ 1 + shape.data_blocks → list_all (is_in_data shape) (range_with_len first count) ≡ true
all_data shape first zero low high = refl
all_data shape first (suc count) low high =
    both (is_in_data shape first) (list_all (is_in_data shape) (range_with_len (first + 1) count))
    (both (nat_le 1 first) (nat_le first shape.data_blocks) (le-leb 1 first low) (le-leb first shape.data_blocks (omega (arith, high))))
    (all_data shape (first + 1) count (omega arith) (omega (arith, high)))

-- it fits a log block
pub run_fits : (shape : Shape) (virt block count leftover offset long : ℕ) → IsRunFor shape virt block count leftover offset long → fits_log shape (entry_word (Direct virt block count leftover)) ≡ true
run_fits shape virt block count leftover offset long is =
    let f : HasFields (entry_word (Direct virt block count leftover)) virt block count leftover = fields_of shape virt block count leftover offset long is in
    both (is_direct (entry_word (Direct virt block count leftover))) (fits shape (longest_of shape.block_bytes) (direct_meaning (entry_word (Direct virt block count leftover))))
    (direct (entry_word (Direct virt block count leftover)) f.kind f.unnamed)
    (ap (λ (m : Meaning). fits shape (longest_of shape.block_bytes) m) (run_means shape virt block count leftover offset long is) ∙ fit (length (range_with_len block count)) (length-range_with_len block count))
  where
    direct : (word : ℕ) → field ENTRY_KIND word ≡ 1 → field DIRECT_UNNAMED word ≡ 0 → is_direct word ≡ true
    direct word kind unnamed = rw (kind, unnamed) refl

    fit : (n : ℕ) → n ≡ count → (nat_le 1 n && nat_le n (longest_of shape.block_bytes) && nat_le (virt + n) 65536 && list_all (is_in_data shape) (range_with_len block count) && nat_lt leftover shape.block_bytes) ≡ true
    fit n same = rw (same, le-leb 1 count is.touches.some, le-leb count (longest_of shape.block_bytes) is.few, le-leb (virt + count) 65536 is.in_file, all_data shape block count is.first is.last, lt-ltb leftover shape.block_bytes is.below) refl

-- a place of a range of blocks
range_get : (first count place block : ℕ) → slice_get (range_with_len first count) place ≡ Some block → (place < count) × (block ≡ first + place)
range_get first zero place block found = cc
range_get first (suc count) zero block found = (omega arith, (let same : first ≡ block = cc in omega (arith, same)))
range_get first (suc count) (suc place) block found = (let rest : (place < count) × (block ≡ first + 1 + place) = range_get (first + 1) count place block found in (omega (arith, rest.0), omega (arith, rest.1)))

range_none : (first count place : ℕ) → slice_get (range_with_len first count) place ≡ None → count ≤ place
range_none first zero place none = omega arith
range_none first (suc count) zero none = cc
range_none first (suc count) (suc place) none = omega (arith, range_none (first + 1) count place none)

-- the virtual block that a block of the run holds
pub in_run : (virt block count leftover at held : ℕ) → block_in (run_meaning virt block count leftover) at ≡ Some held → (k : ℕ) × (k < count) × (at ≡ virt + k) × (held ≡ block + k)
in_run virt block count leftover at held found = go (nat_le virt at) refl found
  where
    go : (named : Bool) → nat_le virt at ≡ named → (if named then slice_get (range_with_len block count) (at - virt) else None) ≡ Some held → (k : ℕ) × (k < count) × (at ≡ virt + k) × (held ≡ block + k)
    go true low is = (let place : (at - virt < count) × (held ≡ block + (at - virt)) = range_get block count (at - virt) held is in (at - virt, place.0, omega (arith, leb-true virt at low), place.1))
    go false low is = cc

pub not_in_run : (virt block count leftover at : ℕ) → block_in (run_meaning virt block count leftover) at ≡ None → (at < virt) ⊎ (virt + count ≤ at)
not_in_run virt block count leftover at none = go (nat_le virt at) refl none
  where
    go : (named : Bool) → nat_le virt at ≡ named → (if named then slice_get (range_with_len block count) (at - virt) else None) ≡ None → (at < virt) ⊎ (virt + count ≤ at)
    go true low is = inr (omega (arith, leb-true virt at low, range_none block count (at - virt) is))
    go false low is = inl (omega (arith, leb-false virt at low))

-- the file at a place of a virtual block is what its block holds, or 0
pub present_is : (words : List ℕ) (shape : Shape) (chain file : List ℕ) (table : FileMap) → HoldsFile words shape (entries_of words shape chain) file → ((virt : ℕ) → block_at table virt ≡ map_of (entries_of words shape chain) virt) →
    (virt at : ℕ) → at < shape.block_bytes → present_byte words shape (block_at table virt) at ≡ get_or file (virt * shape.block_bytes + at) 0
present_is words shape chain file table holds map virt at inside = go (block_at table virt) refl
  where
    go : (found : Option ℕ) → block_at table virt ≡ found → present_byte words shape found at ≡ get_or file (virt * shape.block_bytes + at) 0
    go None is = sym (holds.unmapped virt (sym (map virt) ∙ is) at inside)
    go (Some block) is = holds.mapped virt block (sym (map virt) ∙ is) at inside

-- the entry of a run whose blocks hold the bytes laid over the file
pub run_entry : (words : List ℕ) (shape : Shape) (chain file bytes : List ℕ) (virt block count leftover offset : ℕ) → IsRunFor shape virt block count leftover offset (length bytes) →
    ((k : ℕ) → k < count → is_taken words shape chain (block + k) ≡ false) →
    ((k at : ℕ) → k < count → at < shape.block_bytes → get_or (block_content words shape (block + k)) at 0 ≡ laid_byte offset bytes ((virt + k) * shape.block_bytes + at) (get_or file ((virt + k) * shape.block_bytes + at) 0)) →
    IsEntryOf words shape chain file (write file offset bytes) (entry_word (Direct virt block count leftover))
run_entry words shape chain file bytes virt block count leftover offset is free stored = record {
  fitting = run_fits shape virt block count leftover offset (length bytes) is;
  free = subst (λ (m : Meaning). list_all (λ (b : ℕ). not (is_taken words shape chain b)) m.blocks ≡ true) (sym means) (all_free block count (λ k inside. free k inside));
  size = length_write file offset bytes is.some ∙ ap (λ (n : ℕ). max (length file) n) (sym (ap (λ (m : Meaning). entry_end shape m) means ∙ ends (length (range_with_len block count)) (length-range_with_len block count)));
  holds = λ at held found place inside. (let run : (k : ℕ) × (k < count) × (at ≡ virt + k) × (held ≡ block + k) = in_run virt block count leftover at held (sym (ap (λ (m : Meaning). block_in m at) means) ∙ found) in
      ap (λ (b : ℕ). get_or (block_content words shape b) place 0) run.3
      ∙ stored run.0 place run.1 inside
      ∙ sym (write_place file offset bytes ((virt + run.0) * shape.block_bytes + place) is.some)
      ∙ ap (λ (n : ℕ). get_or (write file offset bytes) (n * shape.block_bytes + place) 0) (sym run.2));
  others = λ at none place inside.
      write_place file offset bytes (at * shape.block_bytes + place) is.some
      ∙ laid_outside offset bytes (at * shape.block_bytes + place) (get_or file (at * shape.block_bytes + place) 0) (away at place inside (not_in_run virt block count leftover at (sym (ap (λ (m : Meaning). block_in m at) means) ∙ none)));
}
  where
    means : direct_meaning (entry_word (Direct virt block count leftover)) ≡ run_meaning virt block count leftover
    means = run_means shape virt block count leftover offset (length bytes) is

    all_free : (first many : ℕ) → ((k : ℕ) → k < many → is_taken words shape chain (first + k) ≡ false) → list_all (λ (b : ℕ). not (is_taken words shape chain b)) (range_with_len first many) ≡ true
    all_free first zero each = refl
    all_free first (suc many) each =
        both (not (is_taken words shape chain first)) (list_all (λ (b : ℕ). not (is_taken words shape chain b)) (range_with_len (first + 1) many))
        (ap (λ (b : Bool). not b) (ap (λ (n : ℕ). is_taken words shape chain n) (omega arith) ∙ each 0 (omega arith)))
        (all_free (first + 1) many (λ k inside. ap (λ (n : ℕ). is_taken words shape chain n) (omega arith) ∙ each (k + 1) (omega (arith, inside))))

    ends : (n : ℕ) → n ≡ count → (virt + n) * shape.block_bytes - leftover ≡ offset + length bytes
    ends n same = rw same (omega (arith, is.left, is.touches.ends))

    away : (at place : ℕ) → place < shape.block_bytes → (at < virt) ⊎ (virt + count ≤ at) → (at * shape.block_bytes + place < offset) ⊎ (offset + length bytes ≤ at * shape.block_bytes + place)
    away at place inside (inl before) = inl (omega (arith, inside, is.touches.starts, block_inside shape.block_bytes at virt before))
    away at place inside (inr past) = inr (omega (arith, inside, is.touches.ends, mul-le-mul_right shape.block_bytes past))

-- the numbers of a write's run
pub run_for : (shape : Shape) (offset long size again count block virt leftover : ℕ) → IsTrue (is_block_bytes shape.block_bytes) → total shape ≤ 65535 → size ≡ shape.block_bytes → again ≡ shape.block_bytes → count ≡ touched_blocks shape.block_bytes offset long → virt ≡ offset / size →
    0 < long → touched_blocks shape.block_bytes offset long ≤ longest_of shape.block_bytes → offset + long ≤ limit_of shape.block_bytes → 1 ≤ block → block + count ≤ 1 + shape.data_blocks → leftover ≡ (virt + count) * again - (offset + long) → IsRunFor shape virt block count leftover offset long
run_for shape offset long size again count block virt leftover allowed few is_size is_again is_count is_virt some fewer fits first last left =
    let bytes : (0 < shape.block_bytes) × (shape.block_bytes ≤ 4096) = (grind (arith, nat_tests, allowed), grind (arith, nat_tests, allowed)) in
    let same_virt : virt ≡ offset / shape.block_bytes = is_virt ∙ ap (λ (n : ℕ). offset / n) is_size in
    let touch : Touches shape.block_bytes virt count offset long =
    subst (λ (n : ℕ). Touches shape.block_bytes n count offset long) (sym same_virt) (subst (λ (n : ℕ). Touches shape.block_bytes (offset / shape.block_bytes) n offset long) (sym is_count) (touches shape.block_bytes offset long bytes.0 some)) in
    let same_left : leftover ≡ (virt + count) * shape.block_bytes - (offset + long) = left ∙ ap (λ (n : ℕ). (virt + count) * n - (offset + long)) is_again in
    record {
      touches = touch;
      few = omega (arith, is_count, fewer);
      in_file = in_limit (virt + count) (cases_lt (virt + count) 65537) touch.last;
      small_block = omega (arith, few, last, touch.some);
      first = first;
      last = last;
      left = same_left;
      small_left = omega (arith, same_left, touch.last, bytes.1);
      some = some;
      small_count = omega (arith, is_count, fewer);
      below = omega (arith, same_left, touch.last, bytes.0);
    }
  where
    in_limit : (blocks : ℕ) → (blocks < 65537) ⊎ (65537 ≤ blocks) → blocks * shape.block_bytes < offset + long + shape.block_bytes → blocks ≤ 65536
    in_limit blocks (inl below) short = omega (arith, below)
    in_limit blocks (inr past) short = (let times : 65537 * shape.block_bytes ≤ blocks * shape.block_bytes = mul-le-mul_right shape.block_bytes past in omega (arith, times, short, fits))
