-- The words of bases: what is left of them where an entry takes some of their virtual blocks.
use Rattle.std.proofs.Common.{◌≡◌, ◌<◌, ◌≤◌, ◌+◌, ◌-◌, ◌*◌, ◌++◌, not, ℕ, zero, suc, Bool, true, false, if◌then◌else◌, List, [], ◌∷◌, length, take, drop, refl, sym, ◌∙◌, ap, subst, arith, slice_index, append_assoc, length-append, ⊎_elim}
use Rattle.byteorder.specs.Endian.{little_bytes}
use Rattle.std.proofs.lemmas.Bool.{cases_lt}
use Rattle.std.proofs.lemmas.List.{length-take, length-drop, take-append-drop, get_or_append_left, get_or-append-add}
use Rattle.log_entry.specs.WordBytes.{word_bytes}
use Rattle.log_entry.proofs.WordBytesLemmas.{eight_each}
use Rattle.log_image.specs.Entries.{Meaning}
use Rattle.log_core.specs.Works.{touches, bases_left, base_words_left}

pub word_bytes-append : (first second : List ℕ) → word_bytes (first ++ second) ≡ word_bytes first ++ word_bytes second
word_bytes-append [] second = refl
word_bytes-append (word ∷ first) second = ap (λ (rest : List ℕ). little_bytes 8 word ++ rest) (word_bytes-append first second) ∙ sym (append_assoc (little_bytes 8 word) (word_bytes first) (word_bytes second))

-- a byte of the earlier of some words, and of the later
pub earlier_byte : (first second : List ℕ) (at : ℕ) → at < 8 * length first → slice_index (word_bytes (first ++ second)) at ≡ slice_index (word_bytes first) at
earlier_byte first second at inside = ap (λ (bytes : List ℕ). slice_index bytes at) (word_bytes-append first second)
    ∙ get_or_append_left (word_bytes first) (word_bytes second) 0 at (let long = eight_each first in omega (arith, inside, long))

pub later_byte : (first second : List ℕ) (at : ℕ) → slice_index (word_bytes (first ++ second)) (8 * length first + at) ≡ slice_index (word_bytes second) at
later_byte first second at = ap (λ (bytes : List ℕ). slice_index bytes (8 * length first + at)) (word_bytes-append first second)
    ∙ (ap (λ (k : ℕ). slice_index (word_bytes first ++ word_bytes second) (k + at)) (sym (eight_each first)) ∙ get_or-append-add (word_bytes first) (word_bytes second) at 0)

-- as many words as all bases but the last have
drops_one : (bases q words : ℕ) → (suc bases - 1) * q ≤ words → (bases - 1) * q ≤ words - q
drops_one zero q words all = omega arith
drops_one (suc bases) q words all = (let less : suc (suc bases) - 1 ≡ suc bases = omega arith in
    let same : (suc (suc bases) - 1) * q ≡ q + bases * q = ap (λ (k : ℕ). k * q) less ∙ (let more : suc bases * q ≡ q + bases * q = omega arith in more) in
    let rest : (suc bases - 1) * q ≡ bases * q = ap (λ (k : ℕ). k * q) (let one : suc bases - 1 ≡ bases = omega arith in one) in
    omega (arith, all, same, rest))

adds_one : (bases q words : ℕ) → 0 < bases → (bases - 1) * q ≤ words → (suc bases - 1) * q ≤ q + words
adds_one zero q words some all = absurd (omega (arith, some))
adds_one (suc bases) q words some all = (let less : suc (suc bases) - 1 ≡ suc bases = omega arith in
    let same : (suc (suc bases) - 1) * q ≡ q + bases * q = ap (λ (k : ℕ). k * q) less ∙ (let more : suc bases * q ≡ q + bases * q = omega arith in more) in
    let rest : (suc bases - 1) * q ≡ bases * q = ap (λ (k : ℕ). k * q) (let one : suc bases - 1 ≡ bases = omega arith in one) in
    omega (arith, all, same, rest))

has_one : (bases q words : ℕ) → 0 < bases → (suc bases - 1) * q ≤ words → q ≤ words
has_one zero q words some all = absurd (omega (arith, some))
has_one (suc bases) q words some all = (let less : suc (suc bases) - 1 ≡ suc bases = omega arith in
    let same : (suc (suc bases) - 1) * q ≡ q + bases * q = ap (λ (k : ℕ). k * q) less ∙ (let more : suc bases * q ≡ q + bases * q = omega arith in more) in
    omega (arith, all, same))

-- each base has q words of bytes, which are known where the call runs
module _ (q size : ℕ) (same_size : size ≡ 8 * q) (Running : Type 0) where
  -- the bytes of the bases are these
  abbrev pub AreBytes : (ℕ → ℕ → ℕ) → List ℕ → List ℕ → Type 0
  AreBytes byte bases words = (place at : ℕ) → place < length bases → at < size → place * size + at < 8 * length words →
      slice_index (word_bytes words) (place * size + at) ≡ byte (slice_index bases place) at

  pub record AreBases (byte : ℕ → ℕ → ℕ) (bases words : List ℕ) : Type 0 where
    pub most : length words ≤ length bases * q
    pub whole : (length bases - 1) * q ≤ length words
    pub bytes : Running → AreBytes byte bases words

  -- the words without those of the first base
  byte_after : (words : List ℕ) (at : ℕ) → q ≤ length words → slice_index (word_bytes (drop q words)) at ≡ slice_index (word_bytes words) (size + at)
  byte_after words at long = sym (later_byte (take q words) (drop q words) at)
      ∙ (ap (λ (l : List ℕ). slice_index (word_bytes l) (8 * length (take q words) + at)) (take-append-drop q words)
      ∙ ap (λ (k : ℕ). slice_index (word_bytes words) (k + at)) (let taken = length-take q words in let same : 8 * length (take q words) ≡ size = omega (arith, taken, long, same_size) in same))

  rest_of : (byte : ℕ → ℕ → ℕ) (virt : ℕ) (bases words : List ℕ) → AreBases byte (virt ∷ bases) words → AreBases byte bases (drop q words)
  rest_of byte virt bases words are = record {
    most = (let long = length-drop q words in let most = are.most in omega (arith, long, most));
    whole = subst (λ (k : ℕ). (length bases - 1) * q ≤ k) (sym (length-drop q words)) (drops_one (length bases) q (length words) are.whole);
    bytes = λ running place at inside low within. (let dropped = length-drop q words in
        let long : q ≤ length words = ⊎_elim (λ short. absurd (let none : length (drop q words) ≡ 0 = omega (arith, dropped, short) in omega (arith, within, none))) (λ more. more) (cases_lt (length words) q) in
        byte_after words (place * size + at) long
        ∙ (ap (λ (k : ℕ). slice_index (word_bytes words) k) (let same : size + (place * size + at) ≡ suc place * size + at = omega arith in same)
        ∙ are.bytes running (suc place) at (omega (arith, inside)) low (omega (arith, within, dropped, long, same_size))));
  }

  -- bases of which the earlier is whole where there are later ones
  joined : (byte : ℕ → ℕ → ℕ) (virt : ℕ) (words : List ℕ) (bases rest : List ℕ) → (0 < length bases → q ≤ length words) →
      (Running → (at : ℕ) → at < size → at < 8 * length words → slice_index (word_bytes words) at ≡ byte virt at) → AreBases byte bases rest → AreBases byte (virt ∷ bases) (take q words ++ rest)
  joined byte virt words bases rest long first are = record {
    most = (let taken = length-take q words in let more = length-append (take q words) rest in let most = are.most in omega (arith, taken, more, most));
    whole = whole bases long are.whole;
    bytes = λ running. bytes running;
  }
    where
      whole : (bases : List ℕ) → (0 < length bases → q ≤ length words) → (length bases - 1) * q ≤ length rest → (length (virt ∷ bases) - 1) * q ≤ length (take q words ++ rest)
      whole [] long all = omega arith
      whole (base ∷ bases) long all = (let many = long (omega arith) in
          let taken = length-take q words in
          let more = length-append (take q words) rest in
          let both = adds_one (length (base ∷ bases)) q (length rest) (omega arith) all in
          omega (arith, both, many, taken, more))

      bytes : Running → AreBytes byte (virt ∷ bases) (take q words ++ rest)
      bytes running zero at inside low within = ⊎_elim (λ here. first_byte here) (λ past. absurd (none_past past)) (cases_lt at (8 * length (take q words)))
        where
          first_byte : at < 8 * length (take q words) → slice_index (word_bytes (take q words ++ rest)) (0 * size + at) ≡ byte virt at
          first_byte here = ap (λ (k : ℕ). slice_index (word_bytes (take q words ++ rest)) k) (let same : 0 * size + at ≡ at = omega arith in same) ∙ (earlier_byte (take q words) rest at here
              ∙ (sym (earlier_byte (take q words) (drop q words) at here) ∙ (ap (λ (l : List ℕ). slice_index (word_bytes l) at) (take-append-drop q words)
              ∙ first running at low (let taken = length-take q words in omega (arith, here, taken)))))

          no_rest : (bases : List ℕ) → (0 < length bases → q ≤ length words) → length rest ≤ length bases * q → length words < q → length rest ≡ 0
          no_rest [] many most short = omega (arith, most)
          no_rest (base ∷ bases) many most short = absurd (let enough = many (omega arith) in omega (arith, enough, short))

          none_past : 8 * length (take q words) ≤ at → ⊥
          none_past past = (let taken = length-take q words in
              let short : length words < q = omega (arith, past, taken, low, same_size) in
              let none = no_rest bases long are.most short in
              let more = length-append (take q words) rest in
              omega (arith, within, more, none, past))
      bytes running (suc place) at inside low within =
          (let many = long (omega (arith, inside)) in
          let taken = length-take q words in
          let more = length-append (take q words) rest in
          let whole_first : 8 * length (take q words) ≡ size = omega (arith, taken, many, same_size) in
          ap (λ (k : ℕ). slice_index (word_bytes (take q words ++ rest)) k) (let same : suc place * size + at ≡ 8 * length (take q words) + (place * size + at) = omega (arith, whole_first) in same)
          ∙ (later_byte (take q words) rest (place * size + at) ∙ are.bytes running place at (omega (arith, inside)) low (omega (arith, within, more, whole_first))))

  first_long : (byte : ℕ → ℕ → ℕ) (virt : ℕ) (bases words : List ℕ) → AreBases byte (virt ∷ bases) words → 0 < length bases → q ≤ length words
  first_long byte virt bases words are some = has_one (length bases) q (length words) some are.whole

  pub left_some : (meaning : Meaning) (bases : List ℕ) → 0 < length (bases_left meaning bases) → 0 < length bases
  left_some meaning [] some = absurd (omega (arith, some))
  left_some meaning (base ∷ bases) some = omega arith

  -- what is left where an entry takes virtual blocks, with the bytes of others the same
  pub left_bases : (before after : ℕ → ℕ → ℕ) (meaning : Meaning) → (Running → (virt at : ℕ) → touches meaning virt ≡ false → at < size → before virt at ≡ after virt at) →
      (bases words : List ℕ) → AreBases before bases words → AreBases after (bases_left meaning bases) (base_words_left q meaning bases words)
  left_bases before after meaning same [] words are = record { most = omega arith; whole = omega arith; bytes = λ running place at inside. absurd (omega (arith, inside)) }
  left_bases before after meaning same (virt ∷ bases) words are = go (touches meaning virt) refl (left_bases before after meaning same bases (drop q words) (rest_of before virt bases words are))
    where
      go : (touched : Bool) → touches meaning virt ≡ touched → AreBases after (bases_left meaning bases) (base_words_left q meaning bases (drop q words)) →
          AreBases after (if not touched then virt ∷ bases_left meaning bases else bases_left meaning bases)
          (if touched then base_words_left q meaning bases (drop q words) else take q words ++ base_words_left q meaning bases (drop q words))
      go true e rest = rest
      go false e rest = joined after virt words (bases_left meaning bases) (base_words_left q meaning bases (drop q words))
          (λ some. first_long before virt bases words are (left_some meaning bases some))
          (λ running at low inside. ap (λ (k : ℕ). slice_index (word_bytes words) k) (let same_place : at ≡ 0 * size + at = omega arith in same_place)
          ∙ (are.bytes running 0 at (omega arith) low (omega (arith, inside)) ∙ same running virt at e low)) rest
