-- Digits of which some are still to be read, and the number that all of them are.
use Rattle.std.proofs.Common.{◌≡◌, ℕ, ◌+◌, ◌*◌, ◌^◌, ◌<◌, ◌≤◌, true, List, [], ◌∷◌, length, get_or, drop, None, Some, refl, arith, add-one, drop-cons}
use Rattle.std.proofs.lemmas.List.{drop_all}
use Rattle.std.proofs.lemmas.Grind.{common_steps}
use Rattle.std.specs.Char.{digit_value}
use Rattle.std.specs.Str.{all_ascii_digits}
use Rattle.std.specs.Str.Parse.{digits_value, digits_value_after}
use Rattle.log_entry.specs.Text.{number_of}

-- more digits make no smaller number
pub value-grows : (n : ℕ) (ds : List ℕ) → n ≤ digits_value_after 10 n ds
value-grows n [] = omega arith
value-grows n (d ∷ ds) = omega (arith, value-grows (n * 10 + digit_value d) ds)

-- a value that is too great already stays so
pub too_great : (n i : ℕ) (text : List ℕ) → digits_value_after 10 n (drop i text) ≡ digits_value 10 text → i < length text → 2 ^ 64 ≤ n * 10 + digit_value (get_or text i 0) → number_of text ≡ None
too_great n i text whole inside great =
    let step : digits_value_after 10 n (drop i text) ≡ digits_value_after 10 (n * 10 + digit_value (get_or text i 0)) (drop (i + 1) text) = rw (add-one, drop-cons text i 0) refl in
    let high : 2 ^ 64 ≤ digits_value 10 text = omega (arith, value-grows (n * 10 + digit_value (get_or text i 0)) (drop (i + 1) text), step, whole) in
    grind (arith, common_steps)

-- a text is its number once all of its digits are read
pub all_read : (n i : ℕ) (text : List ℕ) → digits_value_after 10 n (drop i text) ≡ digits_value 10 text → all_ascii_digits (drop i text) ≡ all_ascii_digits text → length text ≤ i → 0 < length text → n < 2 ^ 64 → Some n ≡ number_of text
all_read n i text value digits past some small =
    let none_left : drop i text ≡ [] = drop_all i text past in
    let whole : n ≡ digits_value 10 text = rw none_left at value in
    let each : true ≡ all_ascii_digits text = rw none_left at digits in
    grind (arith, common_steps)
