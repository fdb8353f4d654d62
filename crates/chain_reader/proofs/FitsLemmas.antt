-- What the rules of one entry say of its numbers.
use Rattle.std.proofs.Common.{◌≡◌, ◌<◌, ◌≤◌, ◌+◌, ◌==◌, ◌&&◌, ◌||◌, nat_le, nat_lt, ℕ, zero, suc, Bool, true, false, List, [], length, if◌then◌else◌, subst, arith}
use Rattle.std.specs.List.{list_all, range_with_len}
use Rattle.std.proofs.lemmas.Bool.{leb-true, ltb-true, le-leb}
use Rattle.std.proofs.lemmas.List.FromFn.{length-range_with_len}
use Rattle.log_image.specs.Image.{Shape, is_in_data, block_words}
use Rattle.log_entry.specs.Fields.{field}
use Rattle.log_entry.specs.Shape.{longest_of}
use Rattle.log_entry.specs.Words.{entry_unnamed}
use Rattle.log_entry.specs.declared.layouts.TheConstants.{ENTRY_KIND, DIRECT, INDIRECT_BLOCK, DIRECT_VIRT, DIRECT_BLOCK, DIRECT_COUNT, DIRECT_LEFTOVER}
use Rattle.log_image.specs.Entries.{Meaning, direct_meaning, indirect_meaning, meaning}
use Rattle.log_image.specs.Format.{fits, is_direct, is_indirect, has_runs, is_log_entry, is_snapshot_entry}
use Rattle.log_image.proofs.HoldingLemmas.{both_left, both_right}

-- an entry that fits
pub record Fitting (shape : Shape) (longest : ℕ) (entry : Meaning) : Type 0 where
  pub some : 1 ≤ length entry.blocks
  pub few : length entry.blocks ≤ longest
  pub in_file : entry.virt + length entry.blocks ≤ 65536
  pub in_data : list_all (is_in_data shape) entry.blocks ≡ true
  pub ends_in : entry.leftover < shape.block_bytes

pub fitting : (shape : Shape) (longest : ℕ) (entry : Meaning) → fits shape longest entry ≡ true → Fitting shape longest entry
fitting shape longest entry good =
    let few : Bool = nat_le 1 (length entry.blocks) && nat_le (length entry.blocks) longest in
    let first : (few && nat_le (entry.virt + length entry.blocks) 65536 && list_all (is_in_data shape) entry.blocks) ≡ true = both_left (few && nat_le (entry.virt + length entry.blocks) 65536 && list_all (is_in_data shape) entry.blocks) (nat_lt entry.leftover shape.block_bytes) good in
    let second : (few && nat_le (entry.virt + length entry.blocks) 65536) ≡ true = both_left (few && nat_le (entry.virt + length entry.blocks) 65536) (list_all (is_in_data shape) entry.blocks) first in
    let third : few ≡ true = both_left few (nat_le (entry.virt + length entry.blocks) 65536) second in
    record {
      some = leb-true 1 (length entry.blocks) (both_left (nat_le 1 (length entry.blocks)) (nat_le (length entry.blocks) longest) third);
      few = leb-true (length entry.blocks) longest (both_right (nat_le 1 (length entry.blocks)) (nat_le (length entry.blocks) longest) third);
      in_file = leb-true (entry.virt + length entry.blocks) 65536 (both_right few (nat_le (entry.virt + length entry.blocks) 65536) second);
      in_data = both_right (few && nat_le (entry.virt + length entry.blocks) 65536) (list_all (is_in_data shape) entry.blocks) first;
      ends_in = ltb-true entry.leftover shape.block_bytes (both_right (few && nat_le (entry.virt + length entry.blocks) 65536 && list_all (is_in_data shape) entry.blocks) (nat_lt entry.leftover shape.block_bytes) good);
    }

pub inside_data : (shape : Shape) (block : ℕ) → is_in_data shape block ≡ true → (1 ≤ block) × (block ≤ shape.data_blocks)
inside_data shape block good = (
  leb-true 1 block (both_left (nat_le 1 block) (nat_le block shape.data_blocks) good),
  leb-true block shape.data_blocks (both_right (nat_le 1 block) (nat_le block shape.data_blocks) good),
)

-- blocks in a row that are all in the data area
pub row_inside : (shape : Shape) (block count : ℕ) → list_all (is_in_data shape) (range_with_len block count) ≡ true → 1 ≤ count → (1 ≤ block) × (block + count ≤ shape.data_blocks + 1)
row_inside shape block zero good some = absurd (omega (arith, some))
row_inside shape block (suc zero) good some =
    let first : (1 ≤ block) × (block ≤ shape.data_blocks) = inside_data shape block (both_left (is_in_data shape block) true good) in
    (first.0, omega (arith, first.1))
row_inside shape block (suc (suc count)) good some =
    let first : (1 ≤ block) × (block ≤ shape.data_blocks) = inside_data shape block (both_left (is_in_data shape block) (list_all (is_in_data shape) (range_with_len (block + 1) (suc count))) good) in
    let rest : (1 ≤ block + 1) × (block + 1 + suc count ≤ shape.data_blocks + 1) = row_inside shape (block + 1) (suc count) (both_right (is_in_data shape block) (list_all (is_in_data shape) (range_with_len (block + 1) (suc count))) good) (omega arith) in
    (first.0, omega (arith, rest.1))

-- the numbers of a run that a table may map
pub record RunNumbers (virt block count : ℕ) : Type 0 where
  pub some : 1 ≤ count
  pub taken : 1 ≤ block
  pub in_file : virt + count ≤ 65536
  pub in_image : block + count ≤ 65536

-- an entry that fits and is one run of blocks
pub row_numbers : (shape : Shape) (longest virt block count leftover : ℕ) (holder : List ℕ) → shape.data_blocks < 65535 →
    fits shape longest (record { holder = holder; virt = virt; blocks = range_with_len block count; leftover = leftover }) ≡ true → RunNumbers virt block count
row_numbers shape longest virt block count leftover holder small good =
    let is : Fitting shape longest (record { holder = holder; virt = virt; blocks = range_with_len block count; leftover = leftover }) = fitting shape longest _ good in
    let long : length (range_with_len block count) ≡ count = length-range_with_len block count in
    let some : 1 ≤ count = omega (arith, long, is.some) in
    let inside : (1 ≤ block) × (block + count ≤ shape.data_blocks + 1) = row_inside shape block count is.in_data some in
    record {
      some = some;
      taken = inside.0;
      in_file = omega (arith, long, is.in_file);
      in_image = omega (arith, inside.1);
    }

-- a direct entry that fits
pub direct_numbers : (shape : Shape) (longest word : ℕ) → shape.data_blocks < 65535 → fits shape longest (direct_meaning word) ≡ true →
    RunNumbers (field DIRECT_VIRT word) (field DIRECT_BLOCK word) (field DIRECT_COUNT word + 1)
direct_numbers shape longest word small good =
    row_numbers shape longest (field DIRECT_VIRT word) (field DIRECT_BLOCK word) (field DIRECT_COUNT word + 1) (field DIRECT_LEFTOVER word) [] small good

-- a snapshot's entry fits
pub snapshot_fits : (shape : Shape) (word : ℕ) → is_snapshot_entry shape word ≡ true → fits shape 256 (direct_meaning word) ≡ true
snapshot_fits shape word good = both_right (is_direct word && field DIRECT_LEFTOVER word == 0) (fits shape 256 (direct_meaning word)) good

-- where an entry has few blocks it has no more than a greater number
pub fits_more : (shape : Shape) (longest most : ℕ) (entry : Meaning) → longest ≤ most → fits shape longest entry ≡ true → fits shape most entry ≡ true
fits_more shape longest most entry below good =
    let few : length entry.blocks ≤ most = omega (arith, (fitting shape longest entry good).few, below) in
    wider (nat_le 1 (length entry.blocks)) (nat_le (length entry.blocks) longest) (nat_le (length entry.blocks) most) (nat_le (entry.virt + length entry.blocks) 65536) (list_all (is_in_data shape) entry.blocks) (nat_lt entry.leftover shape.block_bytes)
    (le-leb (length entry.blocks) most few) good
  where
    wider : (a b w d e f : Bool) → w ≡ true → (a && b && d && e && f) ≡ true → (a && w && d && e && f) ≡ true
    wider true true w d e f is good = rw is good
    wider true false w d e f is good = cc
    wider false b w d e f is good = good

-- what the rule of a log block's entry says of one that is not direct
pub not_direct : (words : List ℕ) (shape : Shape) (word : ℕ) → is_log_entry words shape word ≡ true → (field ENTRY_KIND word == DIRECT) ≡ false →
    (has_runs words shape word ≡ true) × (fits shape 256 (indirect_meaning (field INDIRECT_BLOCK word) (block_words words shape (field INDIRECT_BLOCK word))) ≡ true)
not_direct words shape word good other =
    let accepted : (is_direct word || (is_indirect word && has_runs words shape word)) ≡ true = both_left (is_direct word || (is_indirect word && has_runs words shape word)) (fits shape (longest_of shape.block_bytes) (meaning words shape word)) good in
    let fit : fits shape (longest_of shape.block_bytes) (meaning words shape word) ≡ true = both_right (is_direct word || (is_indirect word && has_runs words shape word)) (fits shape (longest_of shape.block_bytes) (meaning words shape word)) good in
    let few : longest_of shape.block_bytes ≤ 256 = omega arith in (
      second (field ENTRY_KIND word == DIRECT) (entry_unnamed word == 0) (is_indirect word) (has_runs words shape word) other accepted,
      subst (λ (b : Bool). fits shape 256 (if b then direct_meaning word else indirect_meaning (field INDIRECT_BLOCK word) (block_words words shape (field INDIRECT_BLOCK word))) ≡ true) other
          (fits_more shape (longest_of shape.block_bytes) 256 (meaning words shape word) few fit),
    )
  where
    second : (kind unnamed indirect runs : Bool) → kind ≡ false → ((kind && unnamed) || (indirect && runs)) ≡ true → runs ≡ true
    second true unnamed indirect runs is holds = cc
    second false unnamed true runs is holds = holds
    second false unnamed false runs is holds = cc
