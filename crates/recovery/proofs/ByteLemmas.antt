-- Bytes of words that are not 0.
use Rattle.std.proofs.Common.{◌≡◌, ◌≢◌, ◌<◌, ◌≤◌, ◌+◌, ◌-◌, ◌*◌, ◌/◌, ◌%◌, ◌^◌, ◌==◌, ◌||◌, not, ℕ, zero, suc, Bool, true, false, List, [], ◌∷◌, ◌++◌, length, take, drop, get_or, refl, sym, ap, ◌∙◌, arith, add-zero}
use Rattle.std.specs.List.{All}
use Rattle.std.specs.Int.{byte_at, bytes_low_first}
use Rattle.std.proofs.Math.Nat.{div-one, pow-suc, div-eq_of_lt}
use Rattle.std.proofs.lemmas.Bool.{eqb-true}
use Rattle.std.proofs.lemmas.Bool.Decides.{nat_tests}
use Rattle.std.proofs.lemmas.Nat.{shr-shr, pow-add}
use Rattle.std.proofs.lemmas.List.{drop-append-le, get_or_default, take_all, length-drop}
use Rattle.std.proofs.lemmas.List.Folds.{list_any-append}
use Rattle.std.proofs.Math.Seq.{drop-append-add}
use Rattle.log_entry.specs.WordBytes.{word_bytes}
use Rattle.log_entry.proofs.WordBytesLemmas.{eight_each}
use Rattle.recovery.specs.Slacks.{is_some_nonzero}

-- a power of 256 is one of 2
power_of_bytes : (count : ℕ) → 256 ^ count ≡ 2 ^ (8 * count)
power_of_bytes zero = refl
power_of_bytes (suc count) =
    let next : 8 * suc count ≡ 8 * count + 8 = omega arith in
    pow-suc 256 count ∙ ap (λ (power : ℕ). power * 256) (power_of_bytes count) ∙ sym (rw next (pow-add 2 (8 * count) 8))

-- a byte of a number by its place
byte_by_place : (index number : ℕ) → byte_at index number ≡ number / 2 ^ (8 * index) % 256
byte_by_place zero number = ap (λ (high : ℕ). high % 256) (sym (div-one number))
byte_by_place (suc index) number = ap (λ (power : ℕ). number / power % 256) (power_of_bytes (suc index))

-- the bytes of a number from a place on
drop-bytes : (index first count number : ℕ) → index ≤ count → drop index (bytes_low_first first count number) ≡ bytes_low_first (first + index) (count - index) number
drop-bytes zero first count number short = let left : count - 0 ≡ count = omega arith in rw (add-zero, left) refl
drop-bytes (suc index) first zero number short = absurd (omega arith)
drop-bytes (suc index) first (suc count) number short =
    let from : first + suc index ≡ suc first + index = omega arith in
    let left : suc count - suc index ≡ count - index = omega arith in
    rw (from, left) (drop-bytes index (suc first) count number (omega arith))

-- one of them is not 0, or those above it are not
nonzero_either : (number : ℕ) → (not (number % 256 == 0) || not (number / 256 == 0)) ≡ not (number == 0)
nonzero_either number = grind (arith, nat_tests)

-- some byte from a place on is not 0 where the number without the lower ones is not 0
nonzero-bytes : (first count number : ℕ) → number < 2 ^ (8 * (first + count)) → is_some_nonzero (bytes_low_first first count number) ≡ not (number / 2 ^ (8 * first) == 0)
nonzero-bytes first zero number small =
    let below : number < 2 ^ (8 * first) = rw add-zero at small in
    let none : number / 2 ^ (8 * first) ≡ 0 = div-eq_of_lt below in
    ap (λ (high : ℕ). not (high == 0)) (sym none)
nonzero-bytes first (suc count) number small =
    let place : first + suc count ≡ suc first + count = omega arith in
    let next : 8 * suc first ≡ 8 * first + 8 = omega arith in
    let above : number / 2 ^ (8 * suc first) ≡ number / 2 ^ (8 * first) / 256 = rw next (sym (shr-shr number (8 * first) 8)) in
    ap (λ (rest : Bool). not (byte_at first number == 0) || rest) (nonzero-bytes (suc first) count number (rw place at small))
    ∙ ap (λ (byte : ℕ). not (byte == 0) || not (number / 2 ^ (8 * suc first) == 0)) (byte_by_place first number)
    ∙ ap (λ (high : ℕ). not (number / 2 ^ (8 * first) % 256 == 0) || not (high == 0)) above
    ∙ nonzero_either (number / 2 ^ (8 * first))

-- a word has a byte that is not 0 where it is not 0
nonzero-word : (word : ℕ) → word < 2 ^ 64 → is_some_nonzero (bytes_low_first 0 8 word) ≡ not (word == 0)
nonzero-word word small = nonzero-bytes 0 8 word small ∙ ap (λ (high : ℕ). not (high == 0)) (div-one word)

-- so some words have one where one of them is not 0
nonzero-words : (words : List ℕ) → All (λ (word : ℕ). word < 2 ^ 64) words → is_some_nonzero (word_bytes words) ≡ is_some_nonzero words
nonzero-words [] small = refl
nonzero-words (word ∷ words) small =
    list_any-append (λ (number : ℕ). not (number == 0)) (bytes_low_first 0 8 word) (word_bytes words)
    ∙ ap (λ (here : Bool). here || is_some_nonzero (word_bytes words)) (nonzero-word word (small 0 0 (omega arith)))
    ∙ ap (λ (rest : Bool). not (word == 0) || rest) (nonzero-words words (λ place default inside. small (suc place) default (omega (arith, inside))))

-- the bytes of words from one in a word on
nonzero-from : (words : List ℕ) (whole part : ℕ) → All (λ (word : ℕ). word < 2 ^ 64) words → part < 8 → whole < length words →
    is_some_nonzero (drop (8 * whole + part) (word_bytes words)) ≡ (not (get_or words whole 0 / 2 ^ (8 * part) == 0) || is_some_nonzero (drop (suc whole) words))
nonzero-from [] whole part small below inside = absurd (omega (arith, inside))
nonzero-from (word ∷ words) zero part small below inside =
    let bytes : List ℕ = bytes_low_first 0 8 word in
    let short : 8 * 0 + part ≤ length bytes = omega (arith, below) in
    let place : 8 * 0 + part ≡ part = omega arith in
    let split : drop (8 * 0 + part) (bytes ++ word_bytes words) ≡ drop part bytes ++ word_bytes words = rw place (drop-append-le part bytes (word_bytes words) (omega (arith, below))) in
    let all : part + (8 - part) ≡ 8 = omega (arith, below) in
    let fits : word < 2 ^ (8 * (part + (8 - part))) = rw all (small 0 0 (omega arith)) in
    ap (λ (rest : List ℕ). is_some_nonzero rest) split
    ∙ list_any-append (λ (number : ℕ). not (number == 0)) (drop part bytes) (word_bytes words)
    ∙ ap (λ (rest : List ℕ). is_some_nonzero rest || is_some_nonzero (word_bytes words)) (drop-bytes part 0 8 word (omega arith))
    ∙ here (0 + part) part (omega arith) fits
  where
    here : (from part : ℕ) → from ≡ part → word < 2 ^ (8 * (part + (8 - part))) →
        (is_some_nonzero (bytes_low_first from (8 - part) word) || is_some_nonzero (word_bytes words)) ≡ (not (word / 2 ^ (8 * part) == 0) || is_some_nonzero words)
    here from part same fits =
        ap (λ (place : ℕ). is_some_nonzero (bytes_low_first place (8 - part) word) || is_some_nonzero (word_bytes words)) same
        ∙ ap (λ (some : Bool). some || is_some_nonzero (word_bytes words)) (nonzero-bytes part (8 - part) word fits)
        ∙ ap (λ (rest : Bool). not (word / 2 ^ (8 * part) == 0) || rest) (nonzero-words words (λ place default inside. small (suc place) default (omega (arith, inside))))
nonzero-from (word ∷ words) (suc whole) part small below inside =
    let place : 8 * suc whole + part ≡ length (bytes_low_first 0 8 word) + (8 * whole + part) = omega arith in
    let later : drop (8 * suc whole + part) (bytes_low_first 0 8 word ++ word_bytes words) ≡ drop (8 * whole + part) (word_bytes words) =
    rw place (drop-append-add (bytes_low_first 0 8 word) (word_bytes words) (8 * whole + part)) in
    ap (λ (rest : List ℕ). is_some_nonzero rest) later
    ∙ nonzero-from words whole part (λ place default at. small (suc place) default (omega (arith, at))) below (omega (arith, inside))

-- the bytes of words from one on, as the word that has it and the words after it say
pub nonzero_at : (words : List ℕ) (kept : ℕ) → ((index : ℕ) → get_or words index 0 < 2 ^ 64) → kept / 8 < length words →
    is_some_nonzero (drop kept (word_bytes words)) ≡ (not (get_or words (kept / 8) 0 / 2 ^ (8 * (kept % 8)) == 0) || is_some_nonzero (drop (suc (kept / 8)) words))
nonzero_at words kept small inside =
    let place : 8 * (kept / 8) + kept % 8 ≡ kept = omega arith in
    ap (λ (at : ℕ). is_some_nonzero (drop at (word_bytes words))) (sym place) ∙ nonzero-from words (kept / 8) (kept % 8) (λ index default within. rw (get_or_default words index default 0 within) (small index)) (omega arith) inside

-- where the word has it
pub nonzero_first : (words : List ℕ) (kept : ℕ) → ((index : ℕ) → get_or words index 0 < 2 ^ 64) → kept / 8 < length words → (get_or words (kept / 8) 0 / 2 ^ (8 * (kept % 8)) ≡ 0 → ⊥) →
    is_some_nonzero (drop kept (word_bytes words)) ≡ not (get_or words (kept / 8) 0 / 2 ^ (8 * (kept % 8)) == 0)
nonzero_first words kept small inside nonzero = nonzero_at words kept small inside ∙ at (get_or words (kept / 8) 0 / 2 ^ (8 * (kept % 8)) == 0) refl
  where
    at : (zero : Bool) → (get_or words (kept / 8) 0 / 2 ^ (8 * (kept % 8)) == 0) ≡ zero → (not zero || is_some_nonzero (drop (suc (kept / 8)) words)) ≡ not zero
    at true is = absurd (nonzero (eqb-true (get_or words (kept / 8) 0 / 2 ^ (8 * (kept % 8))) 0 is))
    at false is = refl

-- where it does not
pub nonzero_later : (words : List ℕ) (kept : ℕ) → ((index : ℕ) → get_or words index 0 < 2 ^ 64) → kept / 8 < length words → get_or words (kept / 8) 0 / 2 ^ (8 * (kept % 8)) ≡ 0 →
    is_some_nonzero (drop kept (word_bytes words)) ≡ is_some_nonzero (take (length words - (kept / 8 + 1)) (drop (kept / 8 + 1) words))
nonzero_later words kept small inside none =
    let next : kept / 8 + 1 ≡ suc (kept / 8) = omega arith in
    let all : take (length words - suc (kept / 8)) (drop (suc (kept / 8)) words) ≡ drop (suc (kept / 8)) words = take_all (length words - suc (kept / 8)) (drop (suc (kept / 8)) words) (omega (arith, length-drop (suc (kept / 8)) words)) in
    rw (next, all) (nonzero_at words kept small inside ∙ ap (λ (high : ℕ). not (high == 0) || is_some_nonzero (drop (suc (kept / 8)) words)) none)

-- where no word is left
pub nonzero_past : (words : List ℕ) (kept : ℕ) → length words ≤ kept / 8 → is_some_nonzero (drop kept (word_bytes words)) ≡ false
nonzero_past words kept past = ap is_some_nonzero (drop_all kept (word_bytes words) (omega (arith, eight_each words, past)))
  where
    drop_all : (count : ℕ) (bytes : List ℕ) → length bytes ≤ count → drop count bytes ≡ []
    drop_all zero [] short = refl
    drop_all zero (byte ∷ bytes) short = absurd (omega (arith, short))
    drop_all (suc count) [] short = refl
    drop_all (suc count) (byte ∷ bytes) short = drop_all count bytes (omega (arith, short))

-- a number among some that is not 0
pub nonzero_found : (numbers : List ℕ) → is_some_nonzero numbers ≡ true → (place : ℕ) × (place < length numbers) × (get_or numbers place 0 ≢ 0)
nonzero_found [] some = cc
nonzero_found (number ∷ numbers) some = at (number == 0) refl (nonzero_found numbers)
  where
    so : (b : Bool) → b ≡ true → (not b || is_some_nonzero numbers) ≡ true → is_some_nonzero numbers ≡ true
    so true is some = some
    so false is some = cc

    at : (none : Bool) → (number == 0) ≡ none → (is_some_nonzero numbers ≡ true → (place : ℕ) × (place < length numbers) × (get_or numbers place 0 ≢ 0))
        → (place : ℕ) × (place < length (number ∷ numbers)) × (get_or (number ∷ numbers) place 0 ≢ 0)
    at true is rest = let found = rest (so (number == 0) is some) in (suc found.0, omega (arith, found.1), found.2)
    at false is rest = (0, omega arith, λ zero. grind (arith, nat_tests, is, zero))

-- each of some is 0
pub nonzero_none : (numbers : List ℕ) → is_some_nonzero numbers ≡ false → (place : ℕ) → get_or numbers place 0 ≡ 0
nonzero_none [] none place = refl
nonzero_none (number ∷ numbers) none place = at place (number == 0) refl none (nonzero_none numbers)
  where
    at : (place : ℕ) (zero_here : Bool) → (number == 0) ≡ zero_here → (not zero_here || is_some_nonzero numbers) ≡ false
        → (is_some_nonzero numbers ≡ false → (place : ℕ) → get_or numbers place 0 ≡ 0) → get_or (number ∷ numbers) place 0 ≡ 0
    at zero true is none rest = eqb-true number 0 is
    at (suc place) true is none rest = rest none place
    at place false is none rest = cc
