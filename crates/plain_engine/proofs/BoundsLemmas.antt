-- What the numbers that an engine keeps are bounded by.
use Rattle.std.proofs.Common.{◌≡◌, ◌<◌, ◌≤◌, ◌+◌, ◌*◌, ◌/◌, ◌==◌, ◌^◌, ◌⊎◌, ℕ, nat_lt, zero, suc, Bool, true, false, List, [], ◌∷◌, ◌++◌, length, Some, if◌then◌else◌, refl, sym, ap, ◌∙◌, subst, arith, nat_le, length-drop}
use Rattle.log_image.proofs.HoldingLemmas.{both_left, both_right}
use Rattle.std.proofs.Math.Logic.{∥∥₁_elim}
use Rattle.std.proofs.Math.Nat.{ℕ_set, mul-le-mul_right}
use Rattle.std.proofs.Math.Bridge.{le_prop}
use Rattle.std.proofs.Math.Bool.{Bool-set}
use Rattle.std.proofs.lemmas.Bool.{eqb-true, leb-true, ltb-true}
use Rattle.block_table.specs.FileMap.{FileMap, block_at}
use Rattle.log_image.specs.Image.{Shape, words_in, total, is_in_data, is_in_log, block_words}
use Rattle.log_image.specs.Header.{shape_of}
use Rattle.log_image.specs.Entries.{all_names}
use Rattle.log_image.specs.Blocks.{slots_of, entry_words, is_closed}
use Rattle.log_image.specs.Positions.{entries_of}
use Rattle.log_image.specs.Tails.{AtSlot, AtLink, last_block, tail_in}
use Rattle.log_image.specs.Taken.{bit_of}
use Rattle.log_image.proofs.ImageLemmas.{length_range, allowed_shape}
use Rattle.log_image.proofs.MadeImages.{by_bytes}
use Rattle.log_image.proofs.HeaderSteps.{long_words}
use Rattle.log_image.specs.Chains.{is_listed}
use Rattle.log_image.proofs.NameLemmas.{test_in, names_in_data}
use Rattle.log_image.proofs.Clearing.{open_inside}
use Rattle.log_image.proofs.SetWordLemmas.{tail_inside}
use Rattle.image_steps.proofs.TailLemmas.{split_chain, AtTail, at_tail, last_of, name_taken, map_in_names}
use Rattle.plain_engine.specs.Running.{tail_at, Runs, RunsOnSome}

-- the bounds
pub record Bounds (shape : Shape) (words taken : List ℕ) (table : FileMap) (position tail_block tail_slot : ℕ) : Type 0 where
  pub whole : length words ≡ total shape * words_in shape
  pub room : total shape ≤ 64 * length taken
  pub long : 8 ≤ words_in shape
  pub short : words_in shape ≤ 512
  pub tail_inside : tail_block * words_in shape + words_in shape ≤ length words
  pub tail_area : is_in_log shape tail_block ≡ true
  pub slot_inside : tail_slot ≤ words_in shape
  pub below : position < 2 ^ 40
  pub held : (virt block : ℕ) → block_at table virt ≡ Some block → (is_in_data shape block ≡ true) × (bit_of taken block ≡ 1)

-- a block of the data area is in the image
pub data_inside : (shape : Shape) (block : ℕ) → is_in_data shape block ≡ true → block < total shape
data_inside shape block stored = omega (arith, leb-true block shape.data_blocks (both_right (nat_le 1 block) (nat_le block shape.data_blocks) stored))

-- the tail's block is the chain's last, and its slot one of it or its end
record AtEnd (tail_block tail_slot last size : ℕ) : Type 0 where
  same : last ≡ tail_block
  slot : tail_slot ≤ size

end_of_chain : (shape : Shape) (words : List ℕ) (last tail_block tail_slot : ℕ) → 3 ≤ words_in shape → length (block_words words shape last) ≡ words_in shape → tail_in last (block_words words shape last) ≡ tail_at shape tail_block tail_slot → AtEnd tail_block tail_slot last (words_in shape)
end_of_chain shape words last tail_block tail_slot long size is = go (is_closed (slots_of (block_words words shape last))) refl (tail_slot == words_in shape) refl is
  where
    go : (closed : Bool) → is_closed (slots_of (block_words words shape last)) ≡ closed → (full : Bool) → (tail_slot == words_in shape) ≡ full →
        (if closed then AtLink last else AtSlot last (3 + length (entry_words (slots_of (block_words words shape last))))) ≡ (if full then AtLink tail_block else AtSlot tail_block tail_slot) → AtEnd tail_block tail_slot last (words_in shape)
    go true closes true full tail = record { same = cc; slot = omega (arith, eqb-true tail_slot (words_in shape) full) }
    go true closes false full tail = cc
    go false opens true full tail = cc
    go false opens false full tail =
        let slot : 3 + length (entry_words (slots_of (block_words words shape last))) ≡ tail_slot = cc in
        record { same = cc; slot = omega (arith, slot, long, open_inside (slots_of (block_words words shape last)) opens, length-drop 3 (block_words words shape last), size) }

short_words : (shape : Shape) → (shape.block_bytes ≡ 64) ⊎ ((shape.block_bytes ≡ 512) ⊎ (shape.block_bytes ≡ 4096)) → words_in shape ≤ 512
short_words shape is = by_bytes (λ (b : ℕ). b / 8 ≤ 512) shape.block_bytes is (omega arith) (omega arith) (omega arith)

bounds_by : (words taken : List ℕ) (table : FileMap) (position tail_block tail_slot first_clear : ℕ) (front : List ℕ) (tail : ℕ) (file : List ℕ) → Runs (shape_of words) words taken table position tail_block tail_slot first_clear (front ++ tail ∷ []) file → Bounds (shape_of words) words taken table position tail_block tail_slot
bounds_by words taken table position tail_block tail_slot first_clear front tail file runs =
    let at : AtTail (shape_of words) words front tail = at_tail (shape_of words) words front tail file position runs.stands.stands in
    let long : 8 ≤ words_in (shape_of words) = long_words words runs.stands.header in
    let inside : tail * words_in (shape_of words) + words_in (shape_of words) ≤ length words = tail_inside words tail runs.stands.header at.area in
    let end : AtEnd tail_block tail_slot tail (words_in (shape_of words)) =
    end_of_chain (shape_of words) words tail tail_block tail_slot (omega (arith, long)) (length_range words (tail * words_in (shape_of words)) (words_in (shape_of words)) inside)
    (sym (ap (λ (b : ℕ). tail_in b (block_words words (shape_of words) b)) (last_of 0 front tail)) ∙ runs.fits.tail) in
    record {
      whole = runs.stands.header.whole;
      room = runs.fits.bitmap.room;
      long = long;
      short = short_words (shape_of words) (allowed_shape (shape_of words).data_blocks (shape_of words).log_blocks (shape_of words).block_bytes runs.stands.header.allowed).bytes_are;
      tail_inside = subst (λ (b : ℕ). b * words_in (shape_of words) + words_in (shape_of words) ≤ length words) end.same inside;
      tail_area = subst (λ (b : ℕ). is_in_log (shape_of words) b ≡ true) end.same at.area;
      slot_inside = end.slot;
      below = omega (arith, runs.stands.stands.ends_at, runs.stands.stands.format.below_limit);
      held = λ virt block is.
          let named : is_listed (all_names (entries_of words (shape_of words) (front ++ tail ∷ []))) block ≡ true = map_in_names (entries_of words (shape_of words) (front ++ tail ∷ [])) virt block (sym (runs.fits.map.each virt) ∙ is) in
          let stored : is_in_data (shape_of words) block ≡ true = test_in (is_in_data (shape_of words)) (all_names (entries_of words (shape_of words) (front ++ tail ∷ []))) block (names_in_data words (shape_of words) (front ++ tail ∷ []) runs.stands.stands.format) named in
          (stored, runs.fits.bitmap.bits block (data_inside (shape_of words) block stored) ∙ ap (λ (b : Bool). if b then 1 else 0) (name_taken words (shape_of words) (front ++ tail ∷ []) block named));
    }

bounds_at : (words taken : List ℕ) (table : FileMap) (position tail_block tail_slot first_clear : ℕ) (chain file : List ℕ) → Runs (shape_of words) words taken table position tail_block tail_slot first_clear chain file → Bounds (shape_of words) words taken table position tail_block tail_slot
bounds_at words taken table position tail_block tail_slot first_clear [] file runs = absurd runs.stands.stands.is_chain.linked
bounds_at words taken table position tail_block tail_slot first_clear (first ∷ rest) file runs =
    let split : (front : List ℕ) × (first ∷ rest ≡ front ++ last_block first rest ∷ []) = split_chain first rest in
    bounds_by words taken table position tail_block tail_slot first_clear split.0 (last_block first rest) file (subst (λ (l : List ℕ). Runs (shape_of words) words taken table position tail_block tail_slot first_clear l file) split.1 runs)

-- for an engine
pub bounds_of : (shape : Shape) (words taken : List ℕ) (table : FileMap) (position tail_block tail_slot first_clear : ℕ) → RunsOnSome shape words taken table position tail_block tail_slot first_clear → Bounds shape words taken table position tail_block tail_slot
bounds_of shape words taken table position tail_block tail_slot first_clear some =
    subst (λ (s : Shape). Runs s words taken table position tail_block tail_slot first_clear some.chain some.file → Bounds s words taken table position tail_block tail_slot) some.runs.fits.same_shape
    (bounds_at words taken table position tail_block tail_slot first_clear some.chain some.file) some.runs

pub bounds : (shape : Shape) (words taken : List ℕ) (table : FileMap) (position tail_block tail_slot first_clear : ℕ) → ∥ RunsOnSome shape words taken table position tail_block tail_slot first_clear ∥₁ → Bounds shape words taken table position tail_block tail_slot
bounds shape words taken table position tail_block tail_slot first_clear kept = ∥∥₁_elim kept (hlevel (ℕ_set, Bool-set, le_prop)) (bounds_of shape words taken table position tail_block tail_slot first_clear)

-- the bit of block 0, and those of the data blocks before the first that may be clear, are set
pub set_bits : (shape : Shape) (words taken : List ℕ) (table : FileMap) (position tail_block tail_slot first_clear : ℕ) → ∥ RunsOnSome shape words taken table position tail_block tail_slot first_clear ∥₁ → (block : ℕ) → block < first_clear → block < total shape → bit_of taken block ≡ 1
set_bits shape words taken table position tail_block tail_slot first_clear kept block before inside = ∥∥₁_elim kept (ℕ_set _ _) (λ some. by_one some block before inside)
  where
    by_one : RunsOnSome shape words taken table position tail_block tail_slot first_clear → (block : ℕ) → block < first_clear → block < total shape → bit_of taken block ≡ 1
    by_one some zero before inside = some.runs.fits.bitmap.bits 0 inside
    by_one some (suc block) before inside = some.runs.fits.bitmap.bits (suc block) inside ∙ ap (λ (b : Bool). if b then 1 else 0) (some.runs.fits.low (suc block) (omega arith) before)

pub header_bit : (shape : Shape) (words taken : List ℕ) (table : FileMap) (position tail_block tail_slot first_clear : ℕ) → ∥ RunsOnSome shape words taken table position tail_block tail_slot first_clear ∥₁ → bit_of taken 0 ≡ 1
header_bit shape words taken table position tail_block tail_slot first_clear kept = ∥∥₁_elim kept (ℕ_set _ _) (λ some. some.runs.fits.bitmap.bits 0 (omega arith))

-- a block of the log area is past block 0
pub past_first : (shape : Shape) (block : ℕ) → is_in_log shape block ≡ true → words_in shape ≤ block * words_in shape
past_first shape block log =
    let past : shape.data_blocks < block = ltb-true shape.data_blocks block (both_left (nat_lt shape.data_blocks block) (nat_lt block (total shape)) log) in
    let times : 1 * words_in shape ≤ block * words_in shape = mul-le-mul_right (words_in shape) (omega (arith, past)) in
    omega (arith, times)
