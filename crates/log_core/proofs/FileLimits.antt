-- No entry of a log ends past the greatest size that a file may have, so entries make no greater one.
use Rattle.std.proofs.Common.{◌≡◌, ◌<◌, ◌≤◌, ◌+◌, ◌*◌, ◌^◌, ◌||◌, ◌==◌, Bool, false, refl, ◌&&◌, nat_le, nat_lt, max, ℕ, zero, suc, true, List, [], ◌∷◌, length, take, arith, slice_index_or, if◌then◌else◌, mul-le-mul_right}
use Rattle.std.specs.List.{list_all}
use Rattle.std.proofs.lemmas.Bool.{and_parts, leb-true, eqb-true}
use Rattle.log_entry.specs.Fields.{field}
use Rattle.log_entry.specs.Shape.{longest_of, limit_of, is_block_bytes}
use Rattle.log_entry.specs.declared.layouts.TheConstants.{INDIRECT_BLOCK}
use Rattle.log_image.specs.Image.{Shape, is_in_data}
use Rattle.log_image.specs.Entries.{Meaning}
use Rattle.log_image.specs.Maps.{entry_end, size_after}
use Rattle.log_image.specs.Format.{fits, is_direct, is_indirect, is_indirect_block}
use Rattle.log_core.specs.Entries.{LogEntry, no_entry, meaning_by, meanings}
use Rattle.log_core.specs.May.{is_log_entry_by}

-- an entry's virtual blocks are the file's
pub fits_inside : (image : Shape) (longest : ℕ) (meaning : Meaning) → fits image longest meaning ≡ true → meaning.virt + length meaning.blocks ≤ 65536
fits_inside image longest meaning good =
    (let some = nat_le 1 (length meaning.blocks) in
    let few = nat_le (length meaning.blocks) longest in
    let inside = nat_le (meaning.virt + length meaning.blocks) 65536 in
    let area = list_all (is_in_data image) meaning.blocks in
    let four = and_parts (some && few && inside && area) (nat_lt meaning.leftover image.block_bytes) good in
    let three = and_parts (some && few && inside) area four.0 in
    leb-true (meaning.virt + length meaning.blocks) 65536 (and_parts (some && few) inside three.0).1)

pub fits_end : (image : Shape) (longest : ℕ) (meaning : Meaning) → fits image longest meaning ≡ true → entry_end image meaning ≤ limit_of image.block_bytes
fits_end image longest meaning good =
    (let most : (meaning.virt + length meaning.blocks) * image.block_bytes ≤ 65536 * image.block_bytes = mul-le-mul_right image.block_bytes (fits_inside image longest meaning good) in
    omega (arith, most))

pub entry_within : (content : ℕ → List ℕ) (image : Shape) (word : ℕ) → is_log_entry_by content image word ≡ true → entry_end image (meaning_by content word) ≤ limit_of image.block_bytes
entry_within content image word good = fits_end image (longest_of image.block_bytes) (meaning_by content word)
    (and_parts (if is_direct word then true else is_indirect word && is_in_data image (field INDIRECT_BLOCK word) && is_indirect_block image (content (field INDIRECT_BLOCK word)))
    (fits image (longest_of image.block_bytes) (meaning_by content word)) good).1

larger : (a b most : ℕ) → a ≤ most → b ≤ most → max a b ≤ most
larger a b most first second = omega (arith, first, second)

-- the size after the first of some entries
pub sizes_within : (image : Shape) (most count size : ℕ) (es : List LogEntry) → size ≤ most → ((k : ℕ) → k < length es → entry_end image (slice_index_or es k no_entry).meaning ≤ most) →
    size_after image size (meanings (take count es)) ≤ most
sizes_within image most zero size es low each = low
sizes_within image most (suc count) size [] low each = low
sizes_within image most (suc count) size (e ∷ es) low each = sizes_within image most count (max size (entry_end image e.meaning)) es
    (larger size (entry_end image e.meaning) most low (each 0 (omega arith))) (λ k inside. each (suc k) (omega (arith, inside)))

-- a size that a file may have is of at most 48 bits
pub limit_small : (bytes : ℕ) → is_block_bytes bytes ≡ true → limit_of bytes < 2 ^ 48
limit_small bytes allowed = by (bytes == 64) (bytes == 512) (bytes == 4096) refl refl refl allowed
  where
    by : (small middle large : Bool) → (bytes == 64) ≡ small → (bytes == 512) ≡ middle → (bytes == 4096) ≡ large → (small || middle || large) ≡ true → limit_of bytes < 2 ^ 48
    by true middle large is other another some = (let e = eqb-true bytes 64 is in omega (arith, e))
    by false true large is other another some = (let e = eqb-true bytes 512 other in omega (arith, e))
    by false false true is other another some = (let e = eqb-true bytes 4096 another in omega (arith, e))
    by false false false is other another some = cc
