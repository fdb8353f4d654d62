-- The bits of an area's blocks in a word.
use Rattle.std.proofs.Common.{◌≡◌, ◌<◌, ◌≤◌, ◌+◌, ◌-◌, ◌*◌, ◌%◌, ◌^◌, ◌==◌, ◌&&◌, ◌⊎◌, inl, inr, min, ℕ, true, nat_lt, nat_le, sym, ap, ◌∙◌, arith}
use Rattle.std.specs.Prelude.{bit_and}
use Rattle.std.specs.Int.{bit_at}
use mir.Syntax.{w64}
use Rattle.std.proofs.Math.Pow.{pow_mono}
use Rattle.std.proofs.lemmas.Nat.{pow_pos}
use Rattle.std.proofs.lemmas.Bool.{and_parts, and_from, eqb-true, eq-eqb, leb-true, ltb-true, le-leb, lt-ltb, cases_lt}
use Rattle.std.proofs.lemmas.Nat.Bits.{bit_at_and, bit_at_not, bit_at-lt, bit_at_mask_inside, bit_at_mask_below, bit_at_mask_above}
use Rattle.log_entry.specs.Geometry.{count_of, first_of}
use Rattle.log_entry.specs.Shape.{total_of}
use Rattle.log_entry.specs.declared.shapes.Geometry.{Geometry}
use Rattle.log_entry.specs.declared.shapes.Area.{Area}
use Rattle.log_entry.specs.declared.shapes.Area.TheVariants.{Data, Log, Spare}
use Rattle.log_core.specs.Needs.{is_in_area}
use Rattle.log_image.specs.Image.{shape_by}
use Rattle.block_bitmap.specs.TakeBits.{blocks_of_word, blocks_in, open_blocks}
use Rattle.block_bitmap.proofs.TakeRanges.{same_test, agree, filter_both}

-- an area lies within the image
pub within_total : (g : Geometry) (area : Area) → first_of g area + count_of g area ≤ total_of g.data_blocks g.log_blocks g.block_bytes
within_total g Data = omega arith
within_total g Log = omega arith
within_total g Spare = omega arith

-- it has a block
pub some_in : (g : Geometry) (area : Area) → 0 < count_of g area
some_in g Data = g.some_data
some_in g Log = g.some_log
some_in g Spare = omega arith

-- its blocks are those from its first on, as many as it has
pub area_from : (g : Geometry) (area : Area) (block : ℕ) → is_in_area (shape_by g) area block ≡ true → (first_of g area ≤ block) × (block < first_of g area + count_of g area)
area_from g Data block is = (let both = and_parts (nat_le 1 block) (nat_le block g.data_blocks) is in let low = leb-true 1 block both.0 in let high = leb-true block g.data_blocks both.1 in (omega (arith, low), omega (arith, high)))
area_from g Log block is = (let both = and_parts (nat_lt g.data_blocks block) (nat_le block (g.data_blocks + g.log_blocks)) is in let low = ltb-true g.data_blocks block both.0 in let high = leb-true block (g.data_blocks + g.log_blocks) both.1 in (omega (arith, low), omega (arith, high)))
area_from g Spare block is =
    (let both = and_parts (nat_lt (g.data_blocks + g.log_blocks) block) (nat_lt block (total_of g.data_blocks g.log_blocks g.block_bytes)) is in
    let low = ltb-true (g.data_blocks + g.log_blocks) block both.0 in let high = ltb-true block (total_of g.data_blocks g.log_blocks g.block_bytes) both.1 in (omega (arith, low), omega (arith, high)))

pub area_at : (g : Geometry) (area : Area) (block : ℕ) → first_of g area ≤ block → block < first_of g area + count_of g area → is_in_area (shape_by g) area block ≡ true
area_at g Data block low high = and_from (nat_le 1 block) (nat_le block g.data_blocks) (le-leb 1 block (omega (arith, low))) (le-leb block g.data_blocks (omega (arith, high)))
area_at g Log block low high = and_from (nat_lt g.data_blocks block) (nat_le block (g.data_blocks + g.log_blocks)) (lt-ltb g.data_blocks block (omega (arith, low))) (le-leb block (g.data_blocks + g.log_blocks) (omega (arith, high)))
area_at g Spare block low high =
    and_from (nat_lt (g.data_blocks + g.log_blocks) block) (nat_lt block (total_of g.data_blocks g.log_blocks g.block_bytes)) (lt-ltb (g.data_blocks + g.log_blocks) block (omega (arith, low)))
    (lt-ltb block (total_of g.data_blocks g.log_blocks g.block_bytes) (omega (arith, high)))

-- the bits before a block of a word are fewer than those before a later one
pub below_grows : (word a b : ℕ) → a ≤ b → 2 ^ min (a - word * 64) 64 - 1 ≤ 2 ^ min (b - word * 64) 64 - 1
below_grows word a b less = (let grows : 2 ^ min (a - word * 64) 64 ≤ 2 ^ min (b - word * 64) 64 = pow_mono (omega (arith, less)) in omega (arith, grows))

-- a bit between two places
bit_between : (lo hi i : ℕ) → bit_at (2 ^ hi - 2 ^ lo) i ≡ 1 → (lo ≤ i) × (i < hi)
bit_between lo hi i is = (low (cases_lt i lo), high (cases_lt i hi))
  where
    low : (i < lo) ⊎ (lo ≤ i) → lo ≤ i
    low (inl before) = (let none = bit_at_mask_below lo hi i before in absurd (omega (arith, is, none)))
    low (inr after) = after

    high : (i < hi) ⊎ (hi ≤ i) → i < hi
    high (inl before) = before
    high (inr after) = (let none = bit_at_mask_above lo hi i after in absurd (omega (arith, is, none)))

module _ (word first end known x : ℕ) (low : word * 64 ≤ x) (high : x < word * 64 + 64) (small : known < 2 ^ 64) where
  abbrev lo : ℕ
  lo = min (first - word * 64) 64

  abbrev hi : ℕ
  hi = min (end - word * 64) 64

  bits_are : bit_at (bit_and (2 ^ hi - 1 - (2 ^ lo - 1)) (2 ^ 64 - 1 - known)) (x % 64) ≡ min (bit_at (2 ^ hi - 2 ^ lo) (x % 64)) (1 - bit_at known (x % 64))
  bits_are = (let lowest = pow_pos lo in let same : 2 ^ hi - 1 - (2 ^ lo - 1) ≡ 2 ^ hi - 2 ^ lo = omega (arith, lowest) in
      let both = bit_at_and (2 ^ hi - 2 ^ lo) (2 ^ 64 - 1 - known) (x % 64) in
      ap (λ (n : ℕ). bit_at (bit_and n (2 ^ 64 - 1 - known)) (x % 64)) same ∙ both ∙ ap (λ (n : ℕ). min (bit_at (2 ^ hi - 2 ^ lo) (x % 64)) n) (bit_at_not w64 known (x % 64) small (omega arith)))

  -- a bit of the word is set exactly where it is of a block between the two and not known to be set
  pub span_from : (bit_at (bit_and (2 ^ hi - 1 - (2 ^ lo - 1)) (2 ^ 64 - 1 - known)) (x % 64) == 1) ≡ true → (first ≤ x) × (x < end) × (bit_at known (x % 64) ≡ 0)
  span_from is = (let one = eqb-true (bit_at (bit_and (2 ^ hi - 1 - (2 ^ lo - 1)) (2 ^ 64 - 1 - known)) (x % 64)) 1 is in
      let set : bit_at (2 ^ hi - 2 ^ lo) (x % 64) ≡ 1 = (let below = bit_at-lt (2 ^ hi - 2 ^ lo) (x % 64) in omega (arith, one, bits_are, below)) in
      let between = bit_between lo hi (x % 64) set in
      let from = between.0 in let to = between.1 in
      (omega (arith, from, low, high), omega (arith, to, low, high), omega (arith, one, bits_are)))

  pub span_at : first ≤ x → x < end → bit_at known (x % 64) ≡ 0 → (bit_at (bit_and (2 ^ hi - 1 - (2 ^ lo - 1)) (2 ^ 64 - 1 - known)) (x % 64) == 1) ≡ true
  span_at from to clear = (let set = bit_at_mask_inside lo hi (x % 64) (omega (arith, from, low, high)) (omega (arith, to, low, high)) in
      eq-eqb (bit_at (bit_and (2 ^ hi - 1 - (2 ^ lo - 1)) (2 ^ 64 - 1 - known)) (x % 64)) 1 (omega (arith, bits_are, set, clear)))

-- the bits of the area's blocks that are not known to be set are those of the blocks that are not known to be taken
pub open_is : (g : Geometry) (area : Area) (word known : ℕ) → known < 2 ^ 64 →
    blocks_in word (bit_and (2 ^ min (first_of g area + count_of g area - word * 64) 64 - 1 - (2 ^ min (first_of g area - word * 64) 64 - 1)) (2 ^ 64 - 1 - known)) ≡ open_blocks (shape_by g) area word known
unfolding blocks_of_word
open_is g area word known small =
    agree (λ x. bit_at bits (x % 64) == 1) (λ x. is_in_area (shape_by g) area x && (bit_at known (x % 64) == 0)) (word * 64) 64
    (λ x low high. same_test (bit_at bits (x % 64) == 1) (is_in_area (shape_by g) area x && (bit_at known (x % 64) == 0))
    (λ is. let set = span_from word first end known x low high small is in and_from (is_in_area (shape_by g) area x) (bit_at known (x % 64) == 0) (area_at g area x set.0 set.1) (eq-eqb (bit_at known (x % 64)) 0 set.2))
    (λ is. let both = and_parts (is_in_area (shape_by g) area x) (bit_at known (x % 64) == 0) is in let between = area_from g area x both.0 in
    span_at word first end known x low high small between.0 between.1 (eqb-true (bit_at known (x % 64)) 0 both.1)))
    ∙ sym (filter_both (λ x. bit_at known (x % 64) == 0) (λ x. is_in_area (shape_by g) area x) (blocks_of_word word))
  where
    first : ℕ
    first = first_of g area

    end : ℕ
    end = first_of g area + count_of g area

    bits : ℕ
    bits = bit_and (2 ^ min (first_of g area + count_of g area - word * 64) 64 - 1 - (2 ^ min (first_of g area - word * 64) 64 - 1)) (2 ^ 64 - 1 - known)
