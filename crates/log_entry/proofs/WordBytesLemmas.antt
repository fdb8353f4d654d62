-- Words as bytes, one word more at a time, and back.
use Rattle.std.proofs.Common.{◌≡◌, ℕ, suc, ◌+◌, ◌*◌, ◌^◌, ◌<◌, ◌≤◌, List, [], ◌∷◌, ◌++◌, length, take, drop, get_or, slice_index, refl, sym, ap, ◌∙◌, append_assoc, inl, inr, add-one, length-take, length-drop, arith}
use Rattle.std.proofs.Math.Seq.{take-suc, take-add}
use Rattle.std.proofs.lemmas.Nat.{le_bytes_8}
use Rattle.std.proofs.lemmas.Bool.{cases_lt}
use Rattle.std.proofs.lemmas.List.{get_or-take, get_or-drop, get_or_past}
use Rattle.std.proofs.lemmas.List.Elements.{All-append}
use Rattle.std.specs.List.{All}
use Rattle.std.specs.Int.{w64, from_le_bytes}
use Rattle.byteorder.specs.Endian.{little_bytes, little_number}
use Rattle.byteorder.specs.Numbers.{little_number-reads_back, little_from-take}
use Rattle.log_entry.specs.WordBytes.{word_bytes}

-- eight bytes for each word
pub eight_each : (words : List ℕ) → length (word_bytes words) ≡ 8 * length words
eight_each [] = refl
eight_each (w ∷ words) = omega (arith, eight_each words)

-- one word more is eight bytes more
pub word_bytes-more : (words : List ℕ) (word : ℕ) → word_bytes (words ++ (word ∷ [])) ≡ word_bytes words ++ little_bytes 8 word
word_bytes-more [] word = refl
word_bytes-more (w ∷ words) word = ap (λ (rest : List ℕ). little_bytes 8 w ++ rest) (word_bytes-more words word) ∙ sym (append_assoc (little_bytes 8 w) (word_bytes words) (little_bytes 8 word))

-- the bytes of one word more of a list
pub word_bytes-next : (words : List ℕ) (i : ℕ) → i < length words → word_bytes (take (i + 1) words) ≡ word_bytes (take i words) ++ little_bytes 8 (slice_index words i)
word_bytes-next words i inside = rw (add-one, take-suc words i 0 inside) (word_bytes-more (take i words) (slice_index words i))

-- the places of a part of a list of bytes hold bytes
part_small : (bytes : List ℕ) (from count : ℕ) → ((i : ℕ) → get_or bytes i 0 < 256) → (i : ℕ) → get_or (take count (drop from bytes)) i 0 < 256
part_small bytes from count small i =
    elim (cases_lt i count) [
      | inl below ↦ rw (get_or-take count (drop from bytes) i 0 below, get_or-drop from bytes i 0) (small (from + i))
      | inr past ↦ (let end : length (take count (drop from bytes)) ≤ i = simp length-take (omega arith) in rw (get_or_past (take count (drop from bytes)) i 0 end) (omega arith))
    ]

-- eight bytes are the bytes of the number that they are
pub bytes_back : (bytes : List ℕ) → length bytes ≡ 8 → ((i : ℕ) → get_or bytes i 0 < 256) → little_bytes 8 (little_number 8 bytes) ≡ bytes
bytes_back bytes eight small =
    let sum : little_number 8 bytes ≡ from_le_bytes w64 bytes = omega arith in
    le_bytes_8 bytes (little_number 8 bytes) eight small sum

-- different words have different bytes
pub words_back : (words others : List ℕ) → All (λ word. word < 2 ^ 64) words → All (λ word. word < 2 ^ 64) others → word_bytes words ≡ word_bytes others → words ≡ others
words_back [] [] fit fits same = refl
words_back [] (v ∷ others) fit fits same = cc
words_back (w ∷ words) [] fit fits same = cc
words_back (w ∷ words) (v ∷ others) fit fits same =
    let first : w ≡ v = sym (little_number-reads_back 8 w (word_bytes words) (fit 0 0 (omega arith))) ∙ ap (λ (bytes : List ℕ). little_number 8 bytes) same ∙ little_number-reads_back 8 v (word_bytes others) (fits 0 0 (omega arith)) in
    let rest : words ≡ others = words_back words others (λ k d in_list. fit (suc k) d (omega (arith, in_list))) (λ k d in_list. fits (suc k) d (omega (arith, in_list))) (ap (λ (bytes : List ℕ). drop 8 bytes) same) in
    rw (first, rest) refl

-- eight bytes more are one word more
pub bytes-next : (words bytes : List ℕ) (i word : ℕ) → 8 * i + 8 ≤ length bytes → ((k : ℕ) → get_or bytes k 0 < 256) → word_bytes words ≡ take (8 * i) bytes → word ≡ little_number 8 (drop (8 * i) bytes) → word_bytes (words ++ (word ∷ [])) ≡ take (8 * (i + 1)) bytes
bytes-next words bytes i word inside small so_far is =
    let next : List ℕ = take 8 (drop (8 * i) bytes) in
    let eight : length next ≡ 8 = simp (length-take, length-drop) (omega (arith, inside)) in
    let same : word ≡ little_number 8 next = is ∙ sym (little_from-take 0 8 8 (drop (8 * i) bytes) (omega arith)) in
    let back : little_bytes 8 word ≡ next = ap (λ (n : ℕ). little_bytes 8 n) same ∙ bytes_back next eight (part_small bytes (8 * i) 8 small) in
    let place : 8 * (i + 1) ≡ 8 * i + 8 = omega arith in
    rw (place, take-add (8 * i) 8 bytes, word_bytes-more words word, so_far, back) refl

-- words that fit, and one more
pub fit-more : (words : List ℕ) (word : ℕ) → All (λ (fit : ℕ). fit < 2 ^ 64) words → word < 2 ^ 64 → All (λ (fit : ℕ). fit < 2 ^ 64) (words ++ (word ∷ []))
fit-more words word fit below =
    let last : All (λ (fits : ℕ). fits < 2 ^ 64) (word ∷ []) = λ k d only. (let zero : k ≡ 0 = omega (arith, only) in rw zero below) in
    All-append (λ (fits : ℕ). fits < 2 ^ 64) words (word ∷ []) fit last
