-- Words of blocks that are set to what bytes are.
use Rattle.std.proofs.Common.{◌≡◌, ◌≢◌, ◌⊎◌, inl, inr, ℕ, zero, suc, ◌+◌, ◌-◌, ◌*◌, ◌^◌, ◌<◌, ◌≤◌, List, length, drop, slice_index, refl, sym, ap, subst, ◌∙◌, arith, mul-le-mul_right}
use Rattle.std.specs.List.{slice_range}
use Rattle.std.proofs.lemmas.Bool.{cases_eq, cases_lt}
use Rattle.std.proofs.lemmas.List.{get_or-set_same, get_or-set_other, length-set, get_or-take, get_or-drop, get_or_past, length-take}
use Rattle.byteorder.specs.Endian.{little_number}
use Rattle.pmem_words.specs.ByteWords.{words_set, word_in}
use Rattle.partial_blocks.specs.Holding.{AreBytes}

pub range_bytes : (bytes : List ℕ) (from to : ℕ) → AreBytes bytes → AreBytes (slice_range bytes from to)
range_bytes bytes from to small k = by (cases_lt k (to - from))
  where
    by : (k < to - from) ⊎ (to - from ≤ k) → slice_index (slice_range bytes from to) k < 256
    by (inl below) = subst (λ (byte : ℕ). byte < 256) (sym (get_or-take (to - from) (drop from bytes) k 0 below ∙ get_or-drop from bytes k 0)) (small (from + k))
    by (inr past) = subst (λ (byte : ℕ). byte < 256) (sym (get_or_past (slice_range bytes from to) k 0 (let long = length-take (to - from) (drop from bytes) in omega (arith, long, past)))) (omega arith)

pub number_small : (bytes : List ℕ) → AreBytes bytes → little_number 8 bytes < 2 ^ 64
number_small bytes small = omega (arith, small 0, small 1, small 2, small 3, small 4, small 5, small 6, small 7)

pub word_small : (bytes : List ℕ) → AreBytes bytes → (word : ℕ) → word_in bytes word < 2 ^ 64
word_small bytes small word = number_small (drop (8 * word) bytes) (λ k. subst (λ (byte : ℕ). byte < 256) (sym (get_or-drop (8 * word) bytes k 0)) (small (8 * word + k)))

module _ (bytes words : List ℕ) (start : ℕ) where
  pub set_long : (count : ℕ) → length (words_set bytes words start count) ≡ length words
  set_long zero = refl
  set_long (suc count) = length-set (words_set bytes words start count) (start + count) (word_in bytes count) ∙ set_long count

  pub set_there : (count k : ℕ) → start + count ≤ length words → k < count → slice_index (words_set bytes words start count) (start + k) ≡ word_in bytes k
  set_there zero k inside low = absurd (omega (arith, low))
  set_there (suc count) k inside low = by (cases_eq k count) (λ below. set_there count k (omega (arith, inside)) below)
    where
      by : (k ≡ count) ⊎ (k ≢ count) → (k < count → slice_index (words_set bytes words start count) (start + k) ≡ word_in bytes k) →
          slice_index (words_set bytes words start (suc count)) (start + k) ≡ word_in bytes k
      by (inl here) before = ap (λ (j : ℕ). slice_index (words_set bytes words start (suc count)) (start + j)) here
          ∙ (get_or-set_same (words_set bytes words start count) (start + count) (word_in bytes count) 0 (let long = set_long count in omega (arith, long, inside)) ∙ ap (λ (j : ℕ). word_in bytes j) (sym here))
      by (inr other) before = get_or-set_other (words_set bytes words start count) (start + count) (start + k) (word_in bytes count) 0 (λ same. other (omega (arith, same))) ∙ before (omega (arith, low, other))

  pub set_apart : (count k : ℕ) → (k < start) ⊎ (start + count ≤ k) → slice_index (words_set bytes words start count) k ≡ slice_index words k
  set_apart zero k apart = refl
  set_apart (suc count) k (inl before) = get_or-set_other (words_set bytes words start count) (start + count) k (word_in bytes count) 0 (λ same. omega (arith, same, before)) ∙ set_apart count k (inl before)
  set_apart (suc count) k (inr behind) = get_or-set_other (words_set bytes words start count) (start + count) k (word_in bytes count) 0 (λ same. omega (arith, same, behind)) ∙ set_apart count k (inr (omega (arith, behind)))

-- the words of a block at another place are not among those of one
pub words_apart : (q place other word : ℕ) → other ≢ place → word < q → (other * q + word < place * q) ⊎ (place * q + q ≤ other * q + word)
words_apart q place other word apart low = by (cases_lt other place)
  where
    by : (other < place) ⊎ (place ≤ other) → (other * q + word < place * q) ⊎ (place * q + q ≤ other * q + word)
    by (inl before) = inl (let next : (other + 1) * q ≤ place * q = mul-le-mul_right q (omega (arith, before)) in let split : (other + 1) * q ≡ other * q + q = omega arith in omega (arith, next, split, low))
    by (inr behind) = inr (let next : (place + 1) * q ≤ other * q = mul-le-mul_right q (omega (arith, behind, apart)) in let split : (place + 1) * q ≡ place * q + q = omega arith in omega (arith, next, split))
