-- Kept words: the last one, and the words of a block in a row.
use Rattle.std.proofs.Common.{◌≡◌, ◌≢◌, ◌<◌, ◌+◌, ◌==◌, ◌&&◌, ℕ, zero, suc, Bool, true, false, if◌then◌else◌, List, [], ◌∷◌, ◌++◌, length, map, refl, sym, ◌∙◌, ap, arith, slice_index, Option, Some, None}
use Rattle.std.specs.List.{range_with_len}
use Rattle.std.specs.Option.{option_or}
use Rattle.std.proofs.lemmas.Bool.{eq-eqb, ne_eqb}
use Rattle.std.proofs.lemmas.Grind.{same_number_lists}
use Rattle.std.proofs.lemmas.List.FromFn.{get_or-map-range_with_len, length-map-range_with_len}
use Rattle.pmem_words.specs.declared.keeps.KeptWord.{KeptWord}
use Rattle.log_core.specs.Works.{kept_at, word_or_zero}
use Rattle.log_core.proofs.WalkMaps.{option_or_assoc}
use Rattle.log_blocks.specs.Committing.{rows}

or_none : (found : Option ℕ) → found ≡ option_or found None
or_none None = refl
or_none (Some word) = refl

-- what one kept word gives a place
abbrev gives : KeptWord → ℕ → ℕ → Option ℕ
gives k block slot = if k.block == block && k.slot == slot then Some k.word else None

kept_push : (kept : List KeptWord) (k : KeptWord) (block slot : ℕ) → kept_at (kept ++ k ∷ []) block slot ≡ option_or (gives k block slot) (kept_at kept block slot)
kept_push [] k block slot = or_none (gives k block slot)
kept_push (first ∷ kept) k block slot = ap (λ (found : Option ℕ). option_or found (gives first block slot)) (kept_push kept k block slot)
    ∙ option_or_assoc (gives k block slot) (kept_at kept block slot) (gives first block slot)

-- the word kept last is found at its place
pub kept_last : (kept : List KeptWord) (block slot word : ℕ) → kept_at (kept ++ record { block = block; slot = slot; word = word } ∷ []) block slot ≡ Some word
kept_last kept block slot word = kept_push kept (record { block = block; slot = slot; word = word }) block slot
    ∙ ap (λ (b : Bool). option_or (if b && slot == slot then Some word else None) (kept_at kept block slot)) (eq-eqb block block refl)
    ∙ ap (λ (b : Bool). option_or (if b then Some word else None) (kept_at kept block slot)) (eq-eqb slot slot refl)

-- and others as before
pub kept_other : (kept : List KeptWord) (at block slot other word : ℕ) → slot ≢ other → kept_at (kept ++ record { block = at; slot = slot; word = word } ∷ []) block other ≡ kept_at kept block other
kept_other kept at block slot other word apart = kept_push kept (record { block = at; slot = slot; word = word }) block other
    ∙ ap (λ (b : Bool). option_or (if at == block && b then Some word else None) (kept_at kept block other)) (ne_eqb slot other apart)
    ∙ by (at == block)
  where
    by : (b : Bool) → option_or (if b && false then Some word else None) (kept_at kept block other) ≡ kept_at kept block other
    by true = refl
    by false = refl

-- a row has no word of an earlier slot, nor of another block
rows_before : (block slot from : ℕ) (words : List ℕ) → slot < from → kept_at (rows block from words) block slot ≡ None
rows_before block slot from [] low = refl
rows_before block slot from (word ∷ words) low = ap (λ (found : Option ℕ). option_or found (if block == block && from == slot then Some word else None)) (rows_before block slot (from + 1) words (omega (arith, low)))
    ∙ ap (λ (b : Bool). if block == block && b then Some word else None) (ne_eqb from slot (λ same. omega (arith, same, low))) ∙ by (block == block)
  where
    by : (b : Bool) → (if b && false then Some word else None) ≡ None
    by true = refl
    by false = refl

pub rows_other : (block other slot from : ℕ) (words : List ℕ) → block ≢ other → kept_at (rows block from words) other slot ≡ None
rows_other block other slot from [] apart = refl
rows_other block other slot from (word ∷ words) apart = ap (λ (found : Option ℕ). option_or found (if block == other && from == slot then Some word else None)) (rows_other block other slot (from + 1) words apart)
    ∙ ap (λ (b : Bool). if b && from == slot then Some word else None) (ne_eqb block other apart)

-- it has its own
rows_at : (block from : ℕ) (words : List ℕ) (k : ℕ) → k < length words → kept_at (rows block from words) block (from + k) ≡ Some (slice_index words k)
rows_at block from [] k inside = absurd (omega (arith, inside))
rows_at block from (word ∷ words) zero inside =
    ap (λ (slot : ℕ). kept_at (rows block from (word ∷ words)) block slot) (let same : from + 0 ≡ from = omega arith in same)
    ∙ ap (λ (found : Option ℕ). option_or found (if block == block && from == from then Some word else None)) (rows_before block from (from + 1) words (omega arith))
    ∙ rw (eq-eqb block block refl, eq-eqb from from refl) refl
rows_at block from (word ∷ words) (suc k) inside =
    ap (λ (found : Option ℕ). option_or found (if block == block && from == from + suc k then Some word else None))
    (ap (λ (slot : ℕ). kept_at (rows block (from + 1) words) block slot) (let same : from + suc k ≡ from + 1 + k = omega arith in same) ∙ rows_at block (from + 1) words k (omega (arith, inside)))

pub rows_push : (block from word : ℕ) (words : List ℕ) → rows block from words ++ record { block = block; slot = from + length words; word = word } ∷ [] ≡ rows block from (words ++ word ∷ [])
rows_push block from word [] = ap (λ (slot : ℕ). record { block = block; slot = slot; word = word } ∷ []) (let same : from + 0 ≡ from = omega arith in same)
rows_push block from word (first ∷ words) = ap (λ (l : List KeptWord). record { block = block; slot = from; word = first } ∷ l)
    (ap (λ (slot : ℕ). rows block (from + 1) words ++ record { block = block; slot = slot; word = word } ∷ []) (let same : from + suc (length words) ≡ from + 1 + length words = omega arith in same)
    ∙ rows_push block (from + 1) word words)

pub rows_words : (block from : ℕ) (words : List ℕ) → map (λ (kept : KeptWord). kept.word) (rows block from words) ≡ words
rows_words block from [] = refl
rows_words block from (word ∷ words) = ap (λ (l : List ℕ). word ∷ l) (rows_words block (from + 1) words)

pub length_rows : (block from : ℕ) (words : List ℕ) → length (rows block from words) ≡ length words
length_rows block from [] = refl
length_rows block from (word ∷ words) = ap suc (length_rows block (from + 1) words)

-- behind a word of another block a row stands as it is
module _ (first : KeptWord) (block : ℕ) (words : List ℕ) where
  pub row_at : (k : ℕ) → k < length words → kept_at (first ∷ rows block 0 words) block k ≡ Some (slice_index words k)
  row_at k inside = ap (λ (found : Option ℕ). option_or found (gives first block k))
      (ap (λ (slot : ℕ). kept_at (rows block 0 words) block slot) (let same : k ≡ 0 + k = omega arith in same) ∙ rows_at block 0 words k inside)

  pub first_at : block ≢ first.block → kept_at (first ∷ rows block 0 words) first.block first.slot ≡ Some first.word
  first_at apart = ap (λ (found : Option ℕ). option_or found (gives first first.block first.slot)) (rows_other block first.block first.slot 0 words apart)
      ∙ rw (eq-eqb first.block first.block refl, eq-eqb first.slot first.slot refl) refl

  -- all words of the block are those of the row, where that has as many
  pub content_is : (q : ℕ) → length words ≡ q → map (λ (slot : ℕ). word_or_zero (kept_at (first ∷ rows block 0 words) block slot)) (range_with_len 0 q) ≡ words
  content_is q long = same_number_lists (map word_at (range_with_len 0 q)) words (length-map-range_with_len word_at 0 q ∙ sym long)
      (λ k inside. (let low : k < q = (let many = length-map-range_with_len word_at 0 q in omega (arith, inside, many)) in
      get_or-map-range_with_len word_at 0 q k k 0 low (omega arith) ∙ ap word_or_zero (row_at k (omega (arith, low, long)))))
    where
      word_at : ℕ → ℕ
      word_at slot = word_or_zero (kept_at (first ∷ rows block 0 words) block slot)
