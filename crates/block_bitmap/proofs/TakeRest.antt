-- The clear blocks of an area by words.
use Rattle.std.proofs.Common.{◌≡◌, ◌≢◌, ◌<◌, ◌≤◌, ◌+◌, ◌-◌, ◌*◌, ◌/◌, ◌%◌, ◌^◌, ◌==◌, ◌&&◌, ◌⊎◌, inl, inr, max, min, ℕ, zero, suc, Bool, true, false, cond, List, [], ◌∷◌, ◌++◌, length, slice_index, refl, sym, ap, ◌∙◌, subst, arith}
use Rattle.std.specs.Prelude.{filter}
use Rattle.std.specs.Int.{bit_at}
use Rattle.std.specs.List.{range_with_len}
use Rattle.std.proofs.lemmas.Bool.{and_left, cases_lt, false_from_ne_true}
use Rattle.std.proofs.lemmas.List.Elements.{filter-append}
use Rattle.log_entry.specs.Geometry.{count_of, first_of}
use Rattle.log_entry.specs.declared.shapes.Geometry.{Geometry}
use Rattle.log_entry.specs.declared.shapes.Area.{Area}
use Rattle.log_image.specs.Taken.{bit_of}
use Rattle.log_core.specs.Needs.{is_in_area}
use Rattle.log_image.specs.Image.{shape_by}
use Rattle.block_bitmap.specs.TakeBits.{blocks_of_word, open_blocks}
use Rattle.block_bitmap.specs.TakeAlone.{free_blocks}
use Rattle.block_bitmap.proofs.TakeRanges.{agree, none_pass, filter_both}
use Rattle.block_bitmap.proofs.TakeWords.{area_from, area_at, some_in}

-- a range in two parts
pub two_parts : (a n k : ℕ) → range_with_len a (n + k) ≡ range_with_len a n ++ range_with_len (a + n) k
two_parts a zero k = ap (range_with_len a) {x = zero + k} {y = k} (omega arith) ∙ ap (λ (b : ℕ). range_with_len b k) {x = a} {y = a + zero} (omega arith)
two_parts a (suc n) k =
    ap (range_with_len a) {x = suc n + k} {y = suc (n + k)} (omega arith)
    ∙ ap (λ (rest : List ℕ). a ∷ rest) (two_parts (a + 1) n k ∙ ap (λ (b : ℕ). range_with_len (a + 1) n ++ range_with_len b k) {x = a + 1 + n} {y = a + suc n} (omega arith))

pub filter_parts : (p : ℕ → Bool) (a n k : ℕ) → filter p (range_with_len a (n + k)) ≡ filter p (range_with_len a n) ++ filter p (range_with_len (a + n) k)
filter_parts p a n k = ap (filter p) (two_parts a n k) ∙ filter-append p (range_with_len a n) (range_with_len (a + n) k)

-- only a part of a range passes
pub only_part : (p : ℕ → Bool) (a before inside after : ℕ) → ((x : ℕ) → a ≤ x → x < a + before → p x ≡ false) → ((x : ℕ) → a + before + inside ≤ x → x < a + before + inside + after → p x ≡ false) →
    filter p (range_with_len a (before + (inside + after))) ≡ filter p (range_with_len (a + before) inside)
only_part p a before inside after low high =
    filter_parts p a before (inside + after)
    ∙ ap (λ (rest : List ℕ). rest ++ filter p (range_with_len (a + before) (inside + after))) (none_pass p a before low)
    ∙ filter_parts p (a + before) inside after
    ∙ ap (λ (rest : List ℕ). filter p (range_with_len (a + before) inside) ++ rest) (none_pass p (a + before + inside) after high)
    ∙ Rattle.std.proofs.Common.append-nil (filter p (range_with_len (a + before) inside))

module _ (g : Geometry) (area : Area) (taken : List ℕ) where
  abbrev first : ℕ
  first = first_of g area

  abbrev end : ℕ
  end = first_of g area + count_of g area

  abbrev is_clear : ℕ → Bool
  is_clear block = bit_of taken block == 0

  -- the clear blocks of the area from a word on
  abbrev pub rest_from : ℕ → List ℕ
  rest_from word = filter (λ (block : ℕ). bit_of taken block == 0) (range_with_len (max (first_of g area) (word * 64)) (first_of g area + count_of g area - max (first_of g area) (word * 64)))

  -- and those in it
  abbrev pub clear_at : ℕ → List ℕ
  clear_at word = open_blocks (shape_by g) area word (slice_index taken word)

  pub rest_first : rest_from (first_of g area / 64) ≡ free_blocks g area taken
  rest_first = (let from : max first (first / 64 * 64) ≡ first = omega arith in
      ap (λ (a : ℕ). filter is_clear (range_with_len a (end - a))) from ∙ ap (λ (n : ℕ). filter is_clear (range_with_len first n)) {x = end - first} {y = count_of g area} (omega arith))

  pub rest_none : (word : ℕ) → end ≤ word * 64 → rest_from word ≡ []
  rest_none word past = ap (λ (n : ℕ). filter is_clear (range_with_len (max first (word * 64)) n)) {x = end - max first (word * 64)} {y = 0} (omega (arith, past))

  module _ (word : ℕ) (from : first < word * 64 + 64) (to : word * 64 < end) where
    abbrev lo : ℕ
    lo = max first (word * 64)

    abbrev hi : ℕ
    hi = min end (word * 64 + 64)

    abbrev passes : ℕ → Bool
    passes x = is_in_area (shape_by g) area x && (bit_at (slice_index taken word) (x % 64) == 0)

    not_before : (x : ℕ) → word * 64 ≤ x → x < word * 64 + (lo - word * 64) → passes x ≡ false
    not_before x low high = and_left (is_in_area (shape_by g) area x) (bit_at (slice_index taken word) (x % 64) == 0)
        (false_from_ne_true (is_in_area (shape_by g) area x) (λ inside. (let at = (area_from g area x inside).0 in omega (arith, low, high, at))))

    not_after : (x : ℕ) → word * 64 + (lo - word * 64) + (hi - lo) ≤ x → x < word * 64 + (lo - word * 64) + (hi - lo) + (word * 64 + 64 - hi) → passes x ≡ false
    not_after x low high = and_left (is_in_area (shape_by g) area x) (bit_at (slice_index taken word) (x % 64) == 0)
        (false_from_ne_true (is_in_area (shape_by g) area x) (λ inside. (let some = some_in g area in let at = (area_from g area x inside).1 in omega (arith, low, high, at, from, to, some))))

    same_clear : (x : ℕ) → lo ≤ x → x < lo + (hi - lo) → passes x ≡ is_clear x
    same_clear x low high =
        (let in_word : x / 64 ≡ word = omega (arith, low, high, from, to) in
        ap (λ (b : Bool). b && (bit_at (slice_index taken word) (x % 64) == 0)) (area_at g area x (omega (arith, low)) (omega (arith, low, high, from, to)))
        ∙ ap (λ (w : ℕ). bit_at (slice_index taken w) (x % 64) == 0) (sym in_word))

    clear_part : clear_at word ≡ filter is_clear (range_with_len lo (hi - lo))
    unfolding blocks_of_word
    clear_part =
        filter_both (λ x. bit_at (slice_index taken word) (x % 64) == 0) (λ x. is_in_area (shape_by g) area x) (blocks_of_word word)
        ∙ ap (λ (n : ℕ). filter passes (range_with_len (word * 64) n)) {x = 64} {y = (lo - word * 64) + ((hi - lo) + (word * 64 + 64 - hi))} (let some = some_in g area in omega (arith, from, to, some))
        ∙ only_part passes (word * 64) (lo - word * 64) (hi - lo) (word * 64 + 64 - hi) not_before not_after
        ∙ ap (λ (a : ℕ). filter passes (range_with_len a (hi - lo))) {x = word * 64 + (lo - word * 64)} {y = lo} (omega arith)
        ∙ agree passes is_clear lo (hi - lo) same_clear

    rest_after : filter is_clear (range_with_len (lo + (hi - lo)) (end - hi)) ≡ rest_from (word + 1)
    rest_after = by (cases_lt end (word * 64 + 64))
      where
        by : (end < word * 64 + 64) ⊎ (word * 64 + 64 ≤ end) → filter is_clear (range_with_len (lo + (hi - lo)) (end - hi)) ≡ rest_from (word + 1)
        by (inl ends) = ap (λ (n : ℕ). filter is_clear (range_with_len (lo + (hi - lo)) n)) {x = end - hi} {y = 0} (omega (arith, ends)) ∙ sym (rest_none (word + 1) (omega (arith, ends)))
        by (inr goes) =
            ap (λ (a : ℕ). filter is_clear (range_with_len a (end - hi))) {x = lo + (hi - lo)} {y = max first ((word + 1) * 64)} (omega (arith, goes, from, to))
            ∙ ap (λ (n : ℕ). filter is_clear (range_with_len (max first ((word + 1) * 64)) n)) {x = end - hi} {y = end - max first ((word + 1) * 64)} (omega (arith, goes, from, to))

    -- the clear blocks from a word on are those in it and those from the next one on
    pub rest_more : rest_from word ≡ clear_at word ++ rest_from (word + 1)
    rest_more =
        ap (λ (n : ℕ). filter is_clear (range_with_len lo n)) {x = end - lo} {y = (hi - lo) + (end - hi)} (let some = some_in g area in omega (arith, from, to, some))
        ∙ filter_parts is_clear lo (hi - lo) (end - hi)
        ∙ ap (λ (rest : List ℕ). rest ++ filter is_clear (range_with_len (lo + (hi - lo)) (end - hi))) (sym clear_part)
        ∙ ap (λ (rest : List ℕ). clear_at word ++ rest) rest_after
