-- Words that are set to what bytes are, block after block.
use Rattle.std.proofs.Common.{◌≡◌, ◌≢◌, ◌⊎◌, inl, inr, ℕ, zero, suc, ◌+◌, ◌-◌, ◌*◌, ◌^◌, ◌<◌, ◌≤◌, List, length, drop, replicate, slice_index, slice_set, refl, sym, ap, subst, ◌∙◌, arith, mul-le-mul_right}
use Rattle.std.specs.List.{slice_range}
use Rattle.std.proofs.lemmas.Bool.{cases_eq, cases_lt}
use Rattle.std.proofs.lemmas.List.{get_or-set_same, get_or-set_other, set_past, length-set, get_or-take, get_or-drop, get_or_past, get_or-replicate, length-take, length-replicate}
use Rattle.byteorder.specs.Endian.{little_number}
use Rattle.pmem_words.specs.ByteWords.{words_set, word_in}
use Rattle.write_any.specs.WriteWithin.{AreBytes}

-- each is a word of 64 bits
abbrev pub AreWords : List ℕ → Type 0
AreWords words = (k : ℕ) → slice_index words k < 2 ^ 64

pub range_bytes : (bytes : List ℕ) (from to : ℕ) → AreBytes bytes → AreBytes (slice_range bytes from to)
range_bytes bytes from to small k = by (cases_lt k (to - from))
  where
    by : (k < to - from) ⊎ (to - from ≤ k) → slice_index (slice_range bytes from to) k < 256
    by (inl below) = subst (λ (byte : ℕ). byte < 256) (sym (get_or-take (to - from) (drop from bytes) k 0 below ∙ get_or-drop from bytes k 0)) (small (from + k))
    by (inr past) = subst (λ (byte : ℕ). byte < 256) (sym (get_or_past (slice_range bytes from to) k 0 (let long = length-take (to - from) (drop from bytes) in omega (arith, long, past)))) (omega arith)

number_small : (bytes : List ℕ) → AreBytes bytes → little_number 8 bytes < 2 ^ 64
number_small bytes small = omega (arith, small 0, small 1, small 2, small 3, small 4, small 5, small 6, small 7)

pub word_small : (bytes : List ℕ) → AreBytes bytes → (word : ℕ) → word_in bytes word < 2 ^ 64
word_small bytes small word = number_small (drop (8 * word) bytes) (λ k. subst (λ (byte : ℕ). byte < 256) (sym (get_or-drop (8 * word) bytes k 0)) (small (8 * word + k)))

pub zero_words : (count : ℕ) → AreWords (replicate count 0)
zero_words count k = by (cases_lt k count)
  where
    by : (k < count) ⊎ (count ≤ k) → slice_index (replicate count 0) k < 2 ^ 64
    by (inl below) = subst (λ (word : ℕ). word < 2 ^ 64) (sym (get_or-replicate count k 0 0 below)) (omega arith)
    by (inr past) = subst (λ (word : ℕ). word < 2 ^ 64) (sym (get_or_past (replicate count 0) k 0 (let long = length-replicate {A = ℕ} count 0 in omega (arith, long, past)))) (omega arith)

pub set_words : (words : List ℕ) (place value : ℕ) → AreWords words → value < 2 ^ 64 → AreWords (slice_set words place value)
set_words words place value small fits k = by (cases_eq k place) (cases_lt place (length words))
  where
    by : (k ≡ place) ⊎ (k ≢ place) → (place < length words) ⊎ (length words ≤ place) → slice_index (slice_set words place value) k < 2 ^ 64
    by (inl here) (inl inside) = subst (λ (word : ℕ). word < 2 ^ 64) (sym (ap (λ (j : ℕ). slice_index (slice_set words place value) j) here ∙ get_or-set_same words place value 0 inside)) fits
    by (inl here) (inr past) = subst (λ (list : List ℕ). slice_index list k < 2 ^ 64) (sym (set_past words place value past)) (small k)
    by (inr other) order = subst (λ (word : ℕ). word < 2 ^ 64) (sym (get_or-set_other words place k value 0 other)) (small k)

-- the words of one block
module _ (bytes words : List ℕ) (start : ℕ) where
  words_long : (count : ℕ) → length (words_set bytes words start count) ≡ length words
  words_long zero = refl
  words_long (suc count) = length-set (words_set bytes words start count) (start + count) (word_in bytes count) ∙ words_long count

  word_there : (count k : ℕ) → start + count ≤ length words → k < count → slice_index (words_set bytes words start count) (start + k) ≡ word_in bytes k
  word_there zero k inside low = absurd (omega (arith, low))
  word_there (suc count) k inside low = by (cases_eq k count) (λ below. word_there count k (omega (arith, inside)) below)
    where
      by : (k ≡ count) ⊎ (k ≢ count) → (k < count → slice_index (words_set bytes words start count) (start + k) ≡ word_in bytes k) →
          slice_index (words_set bytes words start (suc count)) (start + k) ≡ word_in bytes k
      by (inl here) before = ap (λ (j : ℕ). slice_index (words_set bytes words start (suc count)) (start + j)) here
          ∙ (get_or-set_same (words_set bytes words start count) (start + count) (word_in bytes count) 0 (let long = words_long count in omega (arith, long, inside)) ∙ ap (λ (j : ℕ). word_in bytes j) (sym here))
      by (inr other) before = get_or-set_other (words_set bytes words start count) (start + count) (start + k) (word_in bytes count) 0 (λ same. other (omega (arith, same))) ∙ before (omega (arith, low, other))

  word_apart : (count k : ℕ) → (k < start) ⊎ (start + count ≤ k) → slice_index (words_set bytes words start count) k ≡ slice_index words k
  word_apart zero k apart = refl
  word_apart (suc count) k (inl before) = get_or-set_other (words_set bytes words start count) (start + count) k (word_in bytes count) 0 (λ same. omega (arith, same, before)) ∙ word_apart count k (inl before)
  word_apart (suc count) k (inr behind) = get_or-set_other (words_set bytes words start count) (start + count) k (word_in bytes count) 0 (λ same. omega (arith, same, behind)) ∙ word_apart count k (inr (omega (arith, behind)))

  words_small : (count : ℕ) → AreBytes bytes → AreWords words → AreWords (words_set bytes words start count)
  words_small zero are small = small
  words_small (suc count) are small = set_words (words_set bytes words start count) (start + count) (word_in bytes count) (words_small count are small) (word_small bytes are count)

-- the words of the first blocks, each of q words, by the bytes of each
abbrev pub blocks_words : (ℕ → List ℕ) → ℕ → List ℕ → ℕ → List ℕ
blocks_words source q words zero = words
blocks_words source q words (suc count) = words_set (source count) (blocks_words source q words count) (count * q) q

module _ (source : ℕ → List ℕ) (q : ℕ) (words : List ℕ) where
  pub blocks_words_long : (count : ℕ) → length (blocks_words source q words count) ≡ length words
  blocks_words_long zero = refl
  blocks_words_long (suc count) = words_long (source count) (blocks_words source q words count) (count * q) q ∙ blocks_words_long count

  pub blocks_words_at : (count place index : ℕ) → count * q ≤ length words → place < count → index < q → slice_index (blocks_words source q words count) (place * q + index) ≡ word_in (source place) index
  blocks_words_at zero place index inside low within = absurd (omega (arith, low))
  blocks_words_at (suc count) place index inside low within = by (cases_eq place count) (λ below. blocks_words_at count place index (omega (arith, inside)) below within)
    where
      by : (place ≡ count) ⊎ (place ≢ count) → (place < count → slice_index (blocks_words source q words count) (place * q + index) ≡ word_in (source place) index) →
          slice_index (blocks_words source q words (suc count)) (place * q + index) ≡ word_in (source place) index
      by (inl here) before = ap (λ (j : ℕ). slice_index (blocks_words source q words (suc count)) (j * q + index)) here
          ∙ (word_there (source count) (blocks_words source q words count) (count * q) q index (let long = blocks_words_long count in omega (arith, long, inside)) within ∙ ap (λ (j : ℕ). word_in (source j) index) (sym here))
      by (inr other) before = word_apart (source count) (blocks_words source q words count) (count * q) q (place * q + index) (inl under) ∙ before (omega (arith, low, other))
        where
          under : place * q + index < count * q
          under = (let next : (place + 1) * q ≤ count * q = mul-le-mul_right q (omega (arith, low, other)) in let split : (place + 1) * q ≡ place * q + q = omega arith in omega (arith, next, split, within))

  pub blocks_words_behind : (count k : ℕ) → count * q ≤ k → slice_index (blocks_words source q words count) k ≡ slice_index words k
  blocks_words_behind zero k behind = refl
  blocks_words_behind (suc count) k behind =
      (let next : suc count * q ≡ count * q + q = omega arith in
      word_apart (source count) (blocks_words source q words count) (count * q) q k (inr (omega (arith, behind, next))) ∙ blocks_words_behind count k (omega (arith, behind, next)))

  pub blocks_words_small : (count : ℕ) → ((place : ℕ) → AreBytes (source place)) → AreWords words → AreWords (blocks_words source q words count)
  blocks_words_small zero are small = small
  blocks_words_small (suc count) are small = words_small (source count) (blocks_words source q words count) (count * q) q (are count) (blocks_words_small count are small)
