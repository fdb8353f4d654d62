-- The word of a direct entry: its blocks are a run, and a log block may have it.
use Rattle.std.proofs.Common.{◌≡◌, ◌<◌, ◌≤◌, ◌+◌, ◌^◌, ℕ, zero, suc, Bool, true, List, [], length, refl, sym, subst, arith}
use Rattle.std.specs.List.{range_with_len, list_all}
use Rattle.std.proofs.lemmas.List.FromFn.{length-range_with_len}
use Rattle.log_entry.specs.Fields.{field}
use Rattle.log_entry.specs.Words.{entry_word}
use Rattle.log_entry.specs.declared.layouts.TheConstants.{ENTRY_KIND, DIRECT, DIRECT_VIRT, DIRECT_BLOCK, DIRECT_COUNT, DIRECT_LEFTOVER, DIRECT_UNNAMED}
use Rattle.log_entry.specs.declared.entries.Entry.TheVariants.{Direct}
use Rattle.log_entry.specs.Shape.{longest_of}
use Rattle.log_image.specs.Image.{Shape, is_in_data}
use Rattle.log_image.specs.Entries.{Meaning, direct_meaning}
use Rattle.log_image.specs.Format.{fits, is_direct}
use Rattle.log_core.specs.Entries.{meaning_by}
use Rattle.log_core.specs.May.{is_log_entry_by}
use Rattle.log_core.proofs.writes.GivenBlocks.{fits_by}

-- what holds of each number of a range
pub range_all : (p : ℕ → Bool) (first count : ℕ) → ((k : ℕ) → first ≤ k → k < first + count → p k ≡ true) → list_all p (range_with_len first count) ≡ true
range_all p first zero each = refl
range_all p first (suc count) each = rw (each first (omega arith) (omega arith)) (range_all p (first + 1) count (λ k from below. each k (omega (arith, from)) (omega (arith, below))))

-- its fields, by its numbers
module _ (virt block count leftover : ℕ) (small_virt : virt < 2 ^ 16) (small_block : block < 2 ^ 16) (some : 0 < count) (few : count ≤ 256) (small_leftover : leftover < 4096) where
  abbrev pub direct_word : ℕ
  direct_word = entry_word (Direct virt block count leftover)

  kind : field ENTRY_KIND direct_word ≡ DIRECT
  kind = omega (arith, small_virt, small_block, some, few, small_leftover)

  virt_field : field DIRECT_VIRT direct_word ≡ virt
  virt_field = omega (arith, small_virt, small_block, some, few, small_leftover)

  block_field : field DIRECT_BLOCK direct_word ≡ block
  block_field = omega (arith, small_virt, small_block, some, few, small_leftover)

  count_field : field DIRECT_COUNT direct_word + 1 ≡ count
  count_field = omega (arith, small_virt, small_block, some, few, small_leftover)

  leftover_field : field DIRECT_LEFTOVER direct_word ≡ leftover
  leftover_field = omega (arith, small_virt, small_block, some, few, small_leftover)

  unnamed_field : field DIRECT_UNNAMED direct_word ≡ 0
  unnamed_field = omega (arith, small_virt, small_block, some, few, small_leftover)

  pub direct_small : direct_word < 2 ^ 64
  direct_small = omega (arith, small_virt, small_block, some, few, small_leftover)

  -- it is a direct entry's, of a run of blocks, whatever blocks hold
  abbrev pub run_meaning : Meaning
  run_meaning = record { holder = []; virt = virt; blocks = range_with_len block count; leftover = leftover }

  pub direct_is : is_direct direct_word ≡ true
  direct_is = rw (kind, unnamed_field) refl

  pub direct_meaning_is : direct_meaning direct_word ≡ run_meaning
  direct_meaning_is = rw (virt_field, block_field, count_field, leftover_field) refl

  pub direct_meaning_by : (content : ℕ → List ℕ) → meaning_by content direct_word ≡ run_meaning
  direct_meaning_by content = rw (kind) direct_meaning_is

  -- a log block may have it where its blocks are data blocks, and no more than a write may touch
  module _ (content : ℕ → List ℕ) (image : Shape) (short : count ≤ longest_of image.block_bytes) (inside : virt + count ≤ 65536) (in_data : (k : ℕ) → block ≤ k → k < block + count → is_in_data image k ≡ true) (low : leftover < image.block_bytes) where
    run_long : length (range_with_len block count) ≡ count
    run_long = length-range_with_len block count

    run_fits : fits image (longest_of image.block_bytes) run_meaning ≡ true
    run_fits = fits_by image (longest_of image.block_bytes) run_meaning (omega (arith, run_long, some)) (omega (arith, run_long, short)) (omega (arith, run_long, inside))
        (range_all (is_in_data image) block count in_data) low

    pub direct_form : is_log_entry_by content image direct_word ≡ true
    direct_form = rw (direct_is) (subst (λ (m : Meaning). fits image (longest_of image.block_bytes) m ≡ true) (sym (direct_meaning_by content)) run_fits)
