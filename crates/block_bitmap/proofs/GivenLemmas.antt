-- The words of the bitmap after the bits of one word are cleared.
use Rattle.std.proofs.Common.{ℕ, zero, suc, ◌≡◌, ◌≢◌, ◌+◌, ◌/◌, ◌%◌, ◌^◌, ◌<◌, ◌≤◌, ◌==◌, ◌||◌, ◌⊎◌, inl, inr, not, Bool, true, false, if◌then◌else◌, List, [], ◌∷◌, ◌++◌, length, take, drop, slice_index, slice_set, refl, sym, ap, subst, ◌∙◌, arith}
use Rattle.std.proofs.lemmas.Bool.{eqb-true, ne_eqb, cases_eq, cond-true, cond-false}
use Rattle.std.proofs.lemmas.List.{get_or-set_same, get_or-set_other, length-set, ext_get_or}
use Rattle.std.specs.Prelude.{bit_or}
use Rattle.std.proofs.Math.Pow.{pow_mono}
use Rattle.std.proofs.lemmas.Nat.{or_lt}
use Rattle.pmem_words.specs.Owned.{owned_but, contents_but}
use Rattle.pmem_words.specs.declared.owned.OwnedBlock.{OwnedBlock}
use Rattle.asks.specs.Asks.{without_bits}
use Rattle.block_bitmap.specs.GivenBits.{with_bit, bits_from, bits_in}
use Rattle.block_bitmap.specs.BitsIn.{is_in, others_of}
use Rattle.block_bitmap.specs.Given.{word_without, cleared_from, bitmap_without, AreInside}

-- a block of another word
apart_from : (a b : ℕ) → a ≢ b → (x : ℕ) → (x == a) ≡ true → (x == b) ≡ false
apart_from a b apart x is = ne_eqb x b (λ e. apart (sym (eqb-true x a is) ∙ e))

-- no block of the word is left, and of each other word each
none_in : (word : ℕ) (owned : List OwnedBlock) → is_in word (others_of word owned) ≡ false
none_in word [] = refl
none_in word (o ∷ owned) = by (o.block / 64 == word) refl (none_in word owned)
  where
    by : (here : Bool) → (o.block / 64 == word) ≡ here → is_in word (others_of word owned) ≡ false → is_in word (if not here then o ∷ others_of word owned else others_of word owned) ≡ false
    by true is rest = rest
    by false is rest = rw (is, rest) refl

same_in : (word other : ℕ) (owned : List OwnedBlock) → word ≢ other → is_in other (others_of word owned) ≡ is_in other owned
same_in word other [] apart = refl
same_in word other (o ∷ owned) apart = by (o.block / 64 == word) refl (same_in word other owned apart)
  where
    by : (here : Bool) → (o.block / 64 == word) ≡ here → is_in other (others_of word owned) ≡ is_in other owned
        → is_in other (if not here then o ∷ others_of word owned else others_of word owned) ≡ ((o.block / 64 == other) || is_in other owned)
    by true is rest = rest ∙ ap (λ (b : Bool). b || is_in other owned) (sym (apart_from word other apart (o.block / 64) is))
    by false is rest = ap (λ (b : Bool). (o.block / 64 == other) || b) rest

same_bits : (word other bits : ℕ) (owned : List OwnedBlock) → word ≢ other → bits_from other bits (others_of word owned) ≡ bits_from other bits owned
same_bits word other bits [] apart = refl
same_bits word other bits (o ∷ owned) apart = by (o.block / 64 == word) refl (λ more. same_bits word other more owned apart)
  where
    by : (here : Bool) → (o.block / 64 == word) ≡ here → ((more : ℕ) → bits_from other more (others_of word owned) ≡ bits_from other more owned)
        → bits_from other bits (if not here then o ∷ others_of word owned else others_of word owned) ≡ bits_from other (with_bit other o.block bits) owned
    by true is rest = rest bits ∙ ap (λ (n : ℕ). bits_from other n owned) (sym (cond-false (o.block / 64 == other) _ bits (apart_from word other apart (o.block / 64) is)))
    by false is rest = rest (with_bit other o.block bits)

length_cleared : (word : ℕ) (owned : List OwnedBlock) (words : List ℕ) → length (cleared_from word owned words) ≡ length words
length_cleared word owned [] = refl
length_cleared word owned (found ∷ words) = ap suc (length_cleared (word + 1) owned words)

cleared_at : (word : ℕ) (owned : List OwnedBlock) (words : List ℕ) (k : ℕ) → k < length words → slice_index (cleared_from word owned words) k ≡ word_without (word + k) owned (slice_index words k)
cleared_at word owned [] k inside = absurd (omega (arith, inside))
cleared_at word owned (found ∷ words) zero inside = ap (λ (n : ℕ). word_without n owned found) (let same : word ≡ word + 0 = omega arith in same)
cleared_at word owned (found ∷ words) (suc k) inside = cleared_at (word + 1) owned words k (omega (arith, inside)) ∙ ap (λ (n : ℕ). word_without n owned (slice_index words k)) (let same : word + 1 + k ≡ word + suc k = omega arith in same)

cleared_first : (owned : List OwnedBlock) (words : List ℕ) (k : ℕ) → k < length words → slice_index (bitmap_without owned words) k ≡ word_without k owned (slice_index words k)
cleared_first owned words k inside = cleared_at 0 owned words k inside ∙ ap (λ (n : ℕ). word_without n owned (slice_index words k)) (let same : 0 + k ≡ k = omega arith in same)

-- with no blocks, the words stay
pub cleared_none : (word : ℕ) (words : List ℕ) → cleared_from word [] words ≡ words
cleared_none word [] = refl
cleared_none word (found ∷ words) = ap (λ (rest : List ℕ). found ∷ rest) (cleared_none (word + 1) words)

-- the bits of one word first, and then the others
module _ (word : ℕ) (owned : List OwnedBlock) (words : List ℕ) (some : is_in word owned ≡ true) where
  abbrev first : List ℕ
  first = slice_set words word (without_bits (slice_index words word) (bits_in word owned))

  first_at : (k : ℕ) → k < length words → (k ≡ word) ⊎ (k ≢ word) → word_without k (others_of word owned) (slice_index first k) ≡ word_without k owned (slice_index words k)
  first_at k inside (inl same) = subst (λ (n : ℕ). n < length words → word_without n (others_of word owned) (slice_index first n) ≡ word_without n owned (slice_index words n)) (sym same) (λ within.
      cond-false (is_in word (others_of word owned)) _ _ (none_in word owned)
      ∙ get_or-set_same words word (without_bits (slice_index words word) (bits_in word owned)) 0 within
      ∙ sym (cond-true (is_in word owned) _ _ some)) inside
  first_at k inside (inr apart) = (let other : word ≢ k = (λ e. apart (sym e)) in
      (λ i. if same_in word k owned other i then without_bits (get_or-set_other words word k (without_bits (slice_index words word) (bits_in word owned)) 0 apart i) (same_bits word k 0 owned other i) else get_or-set_other words word k (without_bits (slice_index words word) (bits_in word owned)) 0 apart i))

  pub cleared_step : bitmap_without (others_of word owned) first ≡ bitmap_without owned words
  cleared_step = ext_get_or 0 (bitmap_without (others_of word owned) first) (bitmap_without owned words) (many ∙ sym (length_cleared 0 owned words)) each
    where
      long : length first ≡ length words
      long = length-set words word (without_bits (slice_index words word) (bits_in word owned))

      many : length (bitmap_without (others_of word owned) first) ≡ length words
      many = length_cleared 0 (others_of word owned) first ∙ long

      each : (k : ℕ) → k < length (bitmap_without (others_of word owned) first) → slice_index (bitmap_without (others_of word owned) first) k ≡ slice_index (bitmap_without owned words) k
      each k inside = (let within : k < length words = omega (arith, inside, many) in
          cleared_first (others_of word owned) first k (omega (arith, within, long)) ∙ first_at k within (cases_eq k word) ∙ sym (cleared_first owned words k within))

-- where no block stays, no content does
pub none_left : (q : ℕ) (f : ℕ → Bool) (owned : List OwnedBlock) (words : List ℕ) → owned_but f owned ≡ [] → contents_but q f owned words ≡ []
none_left q f [] words none = refl
none_left q f (o ∷ owned) words none = by (f o.block) none (λ e. none_left q f owned (drop q words) e)
  where
    by : (here : Bool) → (if not here then o ∷ owned_but f owned else owned_but f owned) ≡ [] → (owned_but f owned ≡ [] → contents_but q f owned (drop q words) ≡ [])
        → (if here then contents_but q f owned (drop q words) else take q words ++ contents_but q f owned (drop q words)) ≡ []
    by true e rest = rest e
    by false e rest = cc

-- a word in which one of the blocks is, is one of those that have their bits
pub word_inside : (words word : ℕ) (owned : List OwnedBlock) → AreInside words owned → is_in word owned ≡ true → word < words
word_inside words word [] inside some = cc
word_inside words word (o ∷ owned) inside some = by (o.block / 64 == word) refl some (λ e. word_inside words word owned inside.1 e)
  where
    by : (here : Bool) → (o.block / 64 == word) ≡ here → (here || is_in word owned) ≡ true → (is_in word owned ≡ true → word < words) → word < words
    by true is one rest = (let same = eqb-true (o.block / 64) word is in let low = inside.0 in omega (arith, same, low))
    by false is one rest = rest one

-- bits of one word are of 64 bits
small_with : (word block bits : ℕ) → bits < 2 ^ 64 → with_bit word block bits < 2 ^ 64
small_with word block bits small = by (block / 64 == word)
  where
    one : 2 ^ (block % 64) < 2 ^ 64
    one = (let low : block % 64 ≤ 63 = omega arith in let grows : 2 ^ (block % 64) ≤ 2 ^ 63 = pow_mono low in omega (arith, grows))

    by : (here : Bool) → (if here then bit_or bits (2 ^ (block % 64)) else bits) < 2 ^ 64
    by true = or_lt 64 bits (2 ^ (block % 64)) small one
    by false = small

pub small_from : (word bits : ℕ) (owned : List OwnedBlock) → bits < 2 ^ 64 → bits_from word bits owned < 2 ^ 64
small_from word bits [] small = small
small_from word bits (o ∷ owned) small = small_from word (with_bit word o.block bits) owned (small_with word o.block bits small)
