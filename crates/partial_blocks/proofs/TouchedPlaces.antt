-- Where the touched virtual blocks lie, and that none but the first and the last is touched in part.
use Rattle.std.proofs.Common.{◌≡◌, ◌⊎◌, inl, inr, ℕ, ◌+◌, ◌-◌, ◌*◌, ◌/◌, ◌<◌, ◌≤◌, ◌&&◌, not, nat_le, Bool, true, false, length, refl, ap, ◌∙◌, arith, mul-le-mul_right}
use Rattle.std.proofs.Math.Nat.{div-add-mod, mod-lt, div-mul-le_self}
use Rattle.std.proofs.lemmas.Bool.{leb-true, leb-false, cases_lt}
use Rattle.pmem_words.specs.Seats.{Seat}
use Rattle.log_core.proofs.writes.WholeWrites.{some_block_bytes}
use Rattle.partial_blocks.specs.Touching.{IsInFile, first_touched, last_touched, touched_count, is_in_part}

-- a number lies before the block after its own
pub under_next : (n size : ℕ) → 0 < size → n < (n / size) * size + size
under_next n size some = (let whole = div-add-mod n size in let low = mod-lt n some in let turn : size * (n / size) ≡ (n / size) * size = omega arith in omega (arith, whole, low, turn))

-- so it is in a block or in a later one, or in an earlier one
pub block_before : (n size virt : ℕ) → 0 < size → virt * size ≤ n → virt ≤ n / size
block_before n size virt some from = by (cases_lt (n / size) virt)
  where
    by : (n / size < virt) ⊎ (virt ≤ n / size) → virt ≤ n / size
    by (inl less) = absurd (let next : (n / size + 1) * size ≤ virt * size = mul-le-mul_right size (omega (arith, less)) in let split : (n / size + 1) * size ≡ (n / size) * size + size = omega arith in let under = under_next n size some in omega (arith, next, split, under, from))
    by (inr more) = more

pub block_behind : (n size virt : ℕ) → 0 < size → n < virt * size + size → n / size ≤ virt
block_behind n size virt some below = by (cases_lt virt (n / size))
  where
    by : (virt < n / size) ⊎ (n / size ≤ virt) → n / size ≤ virt
    by (inl more) = absurd (let next : (virt + 1) * size ≤ (n / size) * size = mul-le-mul_right size (omega (arith, more)) in let split : (virt + 1) * size ≡ virt * size + size = omega arith in let low = div-mul-le_self n size in omega (arith, next, split, low, below))
    by (inr less) = less

module _ (offset : ℕ) (s : Seat) (in_file : IsInFile offset s) where
  abbrev size : ℕ
  size = s.geometry.block_bytes

  pub some_size : 0 < size
  some_size = some_block_bytes size s.geometry.block_allowed

  pub ordered : first_touched offset s ≤ last_touched offset s
  ordered = block_before (offset + length s.calling.bytes - 1) size (offset / size) some_size (let low = div-mul-le_self offset size in let some = in_file.some in omega (arith, low, some))

  -- the bytes lie in the touched blocks
  pub begins_in : first_touched offset s * size ≤ offset
  begins_in = div-mul-le_self offset size

  pub ends_in : offset + length s.calling.bytes ≤ (first_touched offset s + touched_count offset s) * size
  ends_in = (let under = under_next (offset + length s.calling.bytes - 1) size some_size in let order = ordered in let some = in_file.some in
      let all : (first_touched offset s + touched_count offset s) * size ≡ last_touched offset s * size + size = ap (λ (n : ℕ). n * size) (let same : first_touched offset s + touched_count offset s ≡ last_touched offset s + 1 = omega (arith, order) in same) ∙ omega arith in
      omega (arith, under, some, all))

  -- and end in the last of them
  pub ends_late : (first_touched offset s + touched_count offset s - 1) * size < offset + length s.calling.bytes
  ends_late = (let low = div-mul-le_self (offset + length s.calling.bytes - 1) size in let order = ordered in let some = in_file.some in
      let last : (first_touched offset s + touched_count offset s - 1) * size ≡ last_touched offset s * size = ap (λ (n : ℕ). n * size) (let same : first_touched offset s + touched_count offset s - 1 ≡ last_touched offset s = omega (arith, order) in same) in
      omega (arith, low, some, last))

  -- what it is to be touched in part, or whole
  part_by : (virt : ℕ) → is_in_part offset s virt ≡ true → (virt * size < offset) ⊎ (offset + length s.calling.bytes < virt * size + size)
  part_by virt is = go (nat_le offset (virt * size)) (nat_le (virt * size + size) (offset + length s.calling.bytes)) refl refl is
    where
      go : (a b : Bool) → nat_le offset (virt * size) ≡ a → nat_le (virt * size + size) (offset + length s.calling.bytes) ≡ b → not (a && b) ≡ true → (virt * size < offset) ⊎ (offset + length s.calling.bytes < virt * size + size)
      go false b before behind is = inl (leb-false offset (virt * size) before)
      go true false before behind is = inr (leb-false (virt * size + size) (offset + length s.calling.bytes) behind)
      go true true before behind is = cc

  pub whole_by : (virt : ℕ) → is_in_part offset s virt ≡ false → (offset ≤ virt * size) × (virt * size + size ≤ offset + length s.calling.bytes)
  whole_by virt is = go (nat_le offset (virt * size)) (nat_le (virt * size + size) (offset + length s.calling.bytes)) refl refl is
    where
      go : (a b : Bool) → nat_le offset (virt * size) ≡ a → nat_le (virt * size + size) (offset + length s.calling.bytes) ≡ b → not (a && b) ≡ false → (offset ≤ virt * size) × (virt * size + size ≤ offset + length s.calling.bytes)
      go true true before behind is = (leb-true offset (virt * size) before, leb-true (virt * size + size) (offset + length s.calling.bytes) behind)
      go true false before behind is = cc
      go false b before behind is = cc

  -- a touched block that is touched in part is the first or the last
  pub part_at_end : (place : ℕ) → place < touched_count offset s → is_in_part offset s (first_touched offset s + place) ≡ true →
      (first_touched offset s + place ≡ first_touched offset s) ⊎ (first_touched offset s + place ≡ last_touched offset s)
  part_at_end place touched part = go (part_by (first_touched offset s + place) part)
    where
      go : ((first_touched offset s + place) * size < offset) ⊎ (offset + length s.calling.bytes < (first_touched offset s + place) * size + size) →
          (first_touched offset s + place ≡ first_touched offset s) ⊎ (first_touched offset s + place ≡ last_touched offset s)
      go (inl before) = inl (let low = block_before offset size (first_touched offset s + place) some_size (omega (arith, before)) in omega (arith, low))
      go (inr behind) = inr (let high = block_behind (offset + length s.calling.bytes - 1) size (first_touched offset s + place) some_size (omega (arith, behind)) in let order = ordered in omega (arith, high, order, touched))
