-- The words of a block by the image's, and what the numbers of an allowed shape are.
use Rattle.std.proofs.Common.{◌≡◌, ◌≤◌, ◌<◌, ◌+◌, ◌-◌, ◌*◌, ◌==◌, ◌||◌, not, nat_lt, ℕ, zero, suc, Bool, true, false, List, length, get_or, drop, Some, None, if◌then◌else◌, ◌⊎◌, inl, inr, refl, ap, ◌∙◌, arith, min}
use Rattle.std.specs.List.{slice_range}
use Rattle.std.proofs.lemmas.Bool.{eqb-true, ltb-false}
use Rattle.std.proofs.lemmas.List.{get_or-take, get_or-drop, length-take, length-drop}
use Rattle.log_entry.specs.Shape.{is_block_bytes, total_of}
use Rattle.log_entry.specs.Geometry.{shape_refusal}
use Rattle.log_entry.specs.declared.shapes.Area.TheVariants.{Data, Log}
use Rattle.log_entry.specs.declared.shapes.BadShape.{BadShape}
use Rattle.log_entry.specs.declared.shapes.BadShape.TheVariants.{BadBlock, BadArea, TooManyBlocks}
use Rattle.log_image.specs.Image.{Shape, words_in, block_words, word_in_block}

-- a word of a stretch of words
pub in_range : (words : List ℕ) (at count index : ℕ) → index < count → get_or (slice_range words at (at + count)) index 0 ≡ get_or words (at + index) 0
in_range words at count index inside =
    let size : at + count - at ≡ count = omega arith in
    rw size (get_or-take count (drop at words) index 0 inside ∙ get_or-drop at words index 0)

-- a word of a block's words is the block's word
pub in_block : (words : List ℕ) (shape : Shape) (block index : ℕ) → index < words_in shape → get_or (block_words words shape block) index 0 ≡ word_in_block words shape block index
in_block words shape block index inside = in_range words (block * words_in shape) (words_in shape) index inside

-- a block that is inside has all its words
pub length_range : (words : List ℕ) (at count : ℕ) → at + count ≤ length words → length (slice_range words at (at + count)) ≡ count
length_range words at count inside =
    let size : at + count - at ≡ count = omega arith in
    rw size (length-take count (drop at words) ∙ ap (λ (k : ℕ). min count k) (length-drop at words) ∙ omega (arith, inside))

-- where none of four conditions gives a refusal, none of them holds
none_holds : (X : Type 0) (a b c d : Bool) (w x y z : X) → (if a then Some w else if b then Some x else if c then Some y else if d then Some z else None) ≡ None → (a ≡ false) × (b ≡ false) × (c ≡ false) × (d ≡ false)
none_holds X true b c d w x y z none = cc
none_holds X false true c d w x y z none = cc
none_holds X false false true d w x y z none = cc
none_holds X false false false true w x y z none = cc
none_holds X false false false false w x y z none = (refl, refl, refl, refl)

-- what an allowed shape is
pub record Allowed (data_blocks log_blocks bytes : ℕ) : Type 0 where
  pub bytes_are : (bytes ≡ 64) ⊎ ((bytes ≡ 512) ⊎ (bytes ≡ 4096))
  pub some_data : 0 < data_blocks
  pub some_log : 0 < log_blocks
  pub few : total_of data_blocks log_blocks bytes ≤ 65535

one_of_three : (bytes : ℕ) (a b c : Bool) → (bytes == 64) ≡ a → (bytes == 512) ≡ b → (bytes == 4096) ≡ c → not (a || b || c) ≡ false → (bytes ≡ 64) ⊎ ((bytes ≡ 512) ⊎ (bytes ≡ 4096))
one_of_three bytes true b c is also last one = inl (eqb-true bytes 64 is)
one_of_three bytes false true c is also last one = inr (inl (eqb-true bytes 512 also))
one_of_three bytes false false true is also last one = inr (inr (eqb-true bytes 4096 last))
one_of_three bytes false false false is also last one = cc

not_zero : (n : ℕ) → (n == 0) ≡ false → 0 < n
not_zero zero is = cc
not_zero (suc n) is = omega arith

pub allowed_shape : (data_blocks log_blocks bytes : ℕ) → shape_refusal data_blocks log_blocks bytes ≡ None → Allowed data_blocks log_blocks bytes
allowed_shape data_blocks log_blocks bytes none =
    let four : (not (is_block_bytes bytes) ≡ false) × ((data_blocks == 0) ≡ false) × ((log_blocks == 0) ≡ false) × (nat_lt 65535 (total_of data_blocks log_blocks bytes) ≡ false) =
    none_holds BadShape (not (is_block_bytes bytes)) (data_blocks == 0) (log_blocks == 0) (nat_lt 65535 (total_of data_blocks log_blocks bytes))
    (BadBlock bytes) (BadArea Data) (BadArea Log) (TooManyBlocks (total_of data_blocks log_blocks bytes)) none in
    record {
      bytes_are = one_of_three bytes (bytes == 64) (bytes == 512) (bytes == 4096) refl refl refl four.0;
      some_data = not_zero data_blocks four.1;
      some_log = not_zero log_blocks four.2;
      few = ltb-false 65535 (total_of data_blocks log_blocks bytes) four.3;
    }
