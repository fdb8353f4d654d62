-- Pairs of digits decoded one after another, and the text of some bytes read again.
use Rattle.std.proofs.Common.{◌≡◌, ℕ, ◌+◌, ◌*◌, ◌%◌, ◌<◌, ◌≤◌, ◌==◌, Bool, true, false, not, ◌⊎◌, List, [], ◌∷◌, length, get_or, set, take, drop, max, Option, None, Some, unwrap_or, Result, Ok, Err, inl, inr, codes, refl, sym, ap, ◌∙◌, arith}
use Rattle.std.proofs.lemmas.Bool.{cases_lt, false≢true}
use Rattle.std.specs.Prelude.{IsTrue, if◌then◌else◌}
use Rattle.std.proofs.lemmas.List.{get_or_past}
use Rattle.std.proofs.lemmas.List.Elements.{All-from_get_or}
use Rattle.std.proofs.lemmas.Slice.Eq.{bytes_eq-Decides}
use Rattle.std.specs.List.{All}
use Rattle.std.specs.Str.{bytes_eq}
use Rattle.hex.proofs.HexLemmas.{length-encode_with, decode_of-encode_lower, decode_of-ok, decode_of-even}
use Rattle.hex.proofs.Pairs.{prepend, decode_step, decode_err, decode_done}
use Rattle.hex.specs.Hex.{IsBytes, decode_of, decode_pairs, digit_or_error, hex_digit_value, encode_lower, lower_digits, pair_value, value_at}
use Rattle.hex.specs.declared.error.FromHexError.{FromHexError}
use Rattle.hex.specs.declared.error.FromHexError.TheVariants.{InvalidHexCharacter}
use Rattle.log_entry.specs.Text.{bytes_text}
use Rattle.trace_reader.specs.Calls.{bytes_of, decoded_or}

abbrev pub IsByte : ℕ → Type 0
IsByte byte = byte < 256

-- how far decoding has come: all digits so far are some, and the bytes stand there; or one is none
abbrev pub DecodedTo : List ℕ → List ℕ → ℕ → ℕ → Type 0
DecodedTo text into at worst =
    ((worst < 16) × (decode_pairs 0 text ≡ prepend (take at into) (decode_pairs (2 * at) (drop (2 * at) text))))
    ⊎ ((worst ≡ 255) × (why : FromHexError) × (decode_pairs 0 text ≡ Err why))

small_digit : (c v : ℕ) → hex_digit_value c ≡ Some v → v < 16
small_digit c v e = grind (arith)

option_value : (found : Option ℕ) (v : ℕ) → ((w : ℕ) → found ≡ Some w → w < 16) → v ≡ unwrap_or found 255 → ((v < 16) × (found ≡ Some v)) ⊎ ((v ≡ 255) × (found ≡ None))
option_value (Some w) v small is = inl (rw is (small w refl), ap Some (sym is))
option_value None v small is = inr (is, refl)

digit_value : (c v : ℕ) → v ≡ unwrap_or (hex_digit_value c) 255 → ((v < 16) × (hex_digit_value c ≡ Some v)) ⊎ ((v ≡ 255) × (hex_digit_value c ≡ None))
digit_value c v is = option_value (hex_digit_value c) v (λ w e. small_digit c w e) is

good_pair : (a b i high low : ℕ) → hex_digit_value a ≡ Some high → hex_digit_value b ≡ Some low → pair_value a b i ≡ Ok (high * 16 + low)
good_pair a b i high low ea eb =
    let first : value_at a i ≡ Ok high = ap (digit_or_error a i) ea in
    let second : value_at b (i + 1) ≡ Ok low = ap (digit_or_error b (i + 1)) eb in
    rw (first, second) refl

bad_first : (a b i : ℕ) → hex_digit_value a ≡ None → pair_value a b i ≡ Err (InvalidHexCharacter a i)
bad_first a b i ea =
    let first : value_at a i ≡ Err (InvalidHexCharacter a i) = ap (digit_or_error a i) ea in
    rw first refl

bad_second : (a b i high : ℕ) → hex_digit_value a ≡ Some high → hex_digit_value b ≡ None → pair_value a b i ≡ Err (InvalidHexCharacter b (i + 1))
bad_second a b i high ea eb =
    let first : value_at a i ≡ Ok high = ap (digit_or_error a i) ea in
    let second : value_at b (i + 1) ≡ Err (InvalidHexCharacter b (i + 1)) = ap (digit_or_error b (i + 1)) eb in
    rw (first, second) refl

-- one pair more
pub decoded_more : (text into : List ℕ) (at high low worst new : ℕ) → 2 * at + 1 < length text → at < length into
    → high ≡ unwrap_or (hex_digit_value (get_or text (2 * at) 0)) 255 → low ≡ unwrap_or (hex_digit_value (get_or text (2 * at + 1) 0)) 255 → new ≡ max (max worst high) low
    → DecodedTo text into at worst → DecodedTo text (set into at ((high * 16 % 256 + low) % 256)) (at + 1) new
decoded_more text into at high low worst new inside room is_high is_low is_new (inr bad) =
    let upper : high ≤ 255 = elim (digit_value (get_or text (2 * at) 0) high is_high) [ inl some ↦ let s = some.0 in omega arith | inr none ↦ let s = none.0 in omega arith ] in
    let lower : low ≤ 255 = elim (digit_value (get_or text (2 * at + 1) 0) low is_low) [ inl some ↦ let s = some.0 in omega arith | inr none ↦ let s = none.0 in omega arith ] in
    let was : worst ≡ 255 = bad.0 in
    inr (omega arith, bad.1, bad.2)
decoded_more text into at high low worst new inside room is_high is_low is_new (inl good) =
    let was : worst < 16 = good.0 in
    elim (digit_value (get_or text (2 * at) 0) high is_high) [
      | inl upper ↦ elim (digit_value (get_or text (2 * at + 1) 0) low is_low) [
        | inl lower ↦
            let a : high < 16 = upper.0 in
            let b : low < 16 = lower.0 in
            let whole : (high * 16 % 256 + low) % 256 ≡ high * 16 + low = omega arith in
            let pair = good_pair (get_or text (2 * at) 0) (get_or text (2 * at + 1) 0) (2 * at) high low upper.1 lower.1 in
            rw whole (inl (omega arith, decode_step text into at (high * 16 + low) inside room pair good.1))
        | inr lower ↦
            let a : high < 16 = upper.0 in
            let b : low ≡ 255 = lower.0 in
            inr (omega arith, _, decode_err text into at _ inside (bad_second (get_or text (2 * at) 0) (get_or text (2 * at + 1) 0) (2 * at) high upper.1 lower.1) good.1)
      ]
      | inr upper ↦
          let a : high ≡ 255 = upper.0 in
          let b : low ≤ 255 = elim (digit_value (get_or text (2 * at + 1) 0) low is_low) [ inl some ↦ let s = some.0 in omega arith | inr none ↦ let s = none.0 in omega arith ] in
          inr (omega arith, _, decode_err text into at _ inside (bad_first (get_or text (2 * at) 0) (get_or text (2 * at + 1) 0) (2 * at) upper.1) good.1)
    ]

-- all pairs were read
pub decoded_yes : (text into : List ℕ) (at worst : ℕ) → length into ≤ at → length text ≤ 2 * at → DecodedTo text into at worst → IsTrue (not (worst == 255)) → decode_pairs 0 text ≡ Ok into
decoded_yes text into at worst all whole (inl good) told = decode_done text into at all whole good.1
decoded_yes text into at worst all whole (inr bad) told =
    let none : not (worst == 255) ≡ false = ap (λ (k : ℕ). not (k == 255)) bad.0 in
    absurd (false≢true (sym none ∙ told))

pub decoded_no : (text into : List ℕ) (at worst : ℕ) → DecodedTo text into at worst → not (worst == 255) ≡ false → (why : FromHexError) × (decode_pairs 0 text ≡ Err why)
decoded_no text into at worst (inl good) told =
    let small : worst < 16 = good.0 in
    let some : not (worst == 255) ≡ true = grind (arith) in
    absurd (false≢true (sym told ∙ some))
decoded_no text into at worst (inr bad) told = (bad.1, bad.2)

-- ---- bytes of a text

pub bytes_of-dash : (text : List ℕ) → text ≡ codes "-" → bytes_of text ≡ Some []
bytes_of-dash text dash = ap bytes_of dash

cases_bool : (b : Bool) → (b ≡ true) ⊎ (b ≡ false)
cases_bool true = inl refl
cases_bool false = inr refl

not_dash : (text : List ℕ) → (text ≡ codes "-" → ⊥) → bytes_eq text (codes "-") ≡ false
not_dash text other = elim (cases_bool (bytes_eq text (codes "-"))) [ inl is ↦ absurd (other ((bytes_eq-Decides text (codes "-")).0 is)) | inr is ↦ is ]

pub bytes_of-decoded : (text : List ℕ) → 0 < length text → (text ≡ codes "-" → ⊥) → bytes_of text ≡ decoded_or (decode_of text)
bytes_of-decoded [] some other = absurd (omega arith)
bytes_of-decoded (first ∷ text) some other =
    let dash : bytes_eq (first ∷ text) (codes "-") ≡ false = not_dash (first ∷ text) other in
    rw dash refl

pub bytes_of-pairs : (text : List ℕ) → 0 < length text → (text ≡ codes "-" → ⊥) → length text % 2 ≡ 0 → bytes_of text ≡ decoded_or (decode_pairs 0 text)
bytes_of-pairs text some other even = bytes_of-decoded text some other ∙ ap decoded_or (decode_of-even text even)

odd_text : (text : List ℕ) → (length text % 2 ≡ 0 → ⊥) → decoded_or (decode_of text) ≡ None
odd_text text odd =
    let one : length text % 2 ≡ 1 = omega arith in
    rw one refl

-- no bytes are of an empty text, or of one of an odd length, but for the dash
pub bytes_of-none : (text : List ℕ) → (text ≡ codes "-" → ⊥) → (length text ≡ 0) ⊎ (length text % 2 ≡ 0 → ⊥) → bytes_of text ≡ None
bytes_of-none [] other why = refl
bytes_of-none (first ∷ text) other (inl none) = absurd (omega arith)
bytes_of-none (first ∷ text) other (inr odd) = bytes_of-decoded (first ∷ text) (omega arith) other ∙ odd_text (first ∷ text) odd

all_bytes : (bytes : List ℕ) → IsBytes bytes → All IsByte bytes
all_bytes bytes each = All-from_get_or IsByte bytes 0 (λ i inside. each i)

bytes_all : (bytes : List ℕ) → All IsByte bytes → IsBytes bytes
bytes_all bytes all = λ i.
    elim (cases_lt i (length bytes)) [
      | inl inside ↦ all i 0 inside
      | inr past ↦ rw (get_or_past bytes i 0 past) (omega arith)
    ]

-- what is printed of bytes is read as them
pub bytes_of-printed : (bytes : List ℕ) → All IsByte bytes → bytes_of (bytes_text bytes) ≡ Some bytes
bytes_of-printed [] all = refl
bytes_of-printed (byte ∷ bytes) all =
    let long = length-encode_with lower_digits (byte ∷ bytes) in
    bytes_of-decoded (encode_lower (byte ∷ bytes)) (omega (arith, long)) (λ dash. let one : length (encode_lower (byte ∷ bytes)) ≡ 1 = ap length dash in omega (arith, long, one))
    ∙ ap decoded_or (decode_of-encode_lower (byte ∷ bytes) (bytes_all (byte ∷ bytes) all))

decoded_some : (found : Result (List ℕ) FromHexError) (bytes : List ℕ) → decoded_or found ≡ Some bytes → found ≡ Ok bytes
decoded_some (Ok other) bytes is = ap Ok (ap (λ (o : Option (List ℕ)). unwrap_or o []) is)
decoded_some (Err why) bytes is = cc is

bytes_by : (dash : Bool) (text bytes : List ℕ) → (if dash then Some [] else decoded_or (decode_of text)) ≡ Some bytes → All IsByte bytes
bytes_by true text bytes is = rw (← (ap (λ (o : Option (List ℕ)). unwrap_or o []) is)) (All-from_get_or IsByte [] 0 (λ i inside. absurd (omega arith)))
bytes_by false text bytes is = all_bytes bytes (decode_of-ok text bytes (decoded_some (decode_of text) bytes is)).3

-- what is read are bytes
pub bytes_of-small : (text bytes : List ℕ) → bytes_of text ≡ Some bytes → All IsByte bytes
bytes_of-small [] bytes is = cc is
bytes_of-small (first ∷ text) bytes is = bytes_by (bytes_eq (first ∷ text) (codes "-")) (first ∷ text) bytes is
