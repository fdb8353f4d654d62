-- Where a number or some bytes end in a text, so that what was printed can be read off it.
use Rattle.std.proofs.Common.{◌≡◌, ◌∙◌, ℕ, ◌/◌, ◌%◌, ◌<◌, ◌≤◌, List, [], ◌∷◌, ◌++◌, length, suc, Some, None, true, false, nat_eq, eq-eqb, decimal, refl, sym, ap, arith}
use Rattle.std.specs.Prelude.{slice_index}
use Rattle.std.specs.Char.{digit_value}
use Rattle.std.specs.Str.Parse.{AllDigits, digits_value}
use Rattle.std.proofs.lemmas.Fmt.{decimal_is_IsNumeral_wide}
use Rattle.hex.specs.Hex.{IsBytes, encode_lower, encode_with, hex_digit_value, lower_digits}
use Rattle.hex.proofs.HexLemmas.{IsDigits-lower_digits}
use Rattle.history_report.specs.TextFixes.{IsShort}

-- two texts with different characters at one place are not the same
pub differ : (place : ℕ) (xs ys : List ℕ) → xs ≡ ys → nat_eq (slice_index xs place) (slice_index ys place) ≡ false → ⊥
differ place xs ys e apart =
    let same : nat_eq (slice_index xs place) (slice_index ys place) ≡ true = eq-eqb (slice_index xs place) (slice_index ys place) (ap (λ (text : List ℕ). slice_index text place) e) in
    cc

-- a text that does not begin with a digit
abbrev pub IsStop : List ℕ → Type 0
IsStop [] = Unit {0}
IsStop (c ∷ cs) = 10 ≤ digit_value c

-- digits before a stop are the digits before the stop
pub split_digits : (xs ys x y : List ℕ) → AllDigits 10 xs → AllDigits 10 ys → IsStop x → IsStop y → xs ++ x ≡ ys ++ y → (xs ≡ ys) × (x ≡ y)
split_digits [] [] x y dx dy sx sy e = (refl, e)
split_digits [] (b ∷ ys) [] y dx dy sx sy e = absurd (cc)
split_digits [] (b ∷ ys) (c ∷ x) y dx dy sx sy e =
    let head : c ≡ b = cc in
    absurd (omega (arith, dy.0, sx, ap digit_value head))
split_digits (a ∷ xs) [] x [] dx dy sx sy e = absurd (cc)
split_digits (a ∷ xs) [] x (c ∷ y) dx dy sx sy e =
    let head : a ≡ c = cc in
    absurd (omega (arith, dx.0, sy, ap digit_value head))
split_digits (a ∷ xs) (b ∷ ys) x y dx dy sx sy e =
    let head : a ≡ b = cc in
    let tail : xs ++ x ≡ ys ++ y = cc in
    let rest : (xs ≡ ys) × (x ≡ y) = split_digits xs ys x y dx.1 dy.1 sx sy tail in
    let both : xs ≡ ys = rest.0 in
    (cc, rest.1)

-- so numbers before a stop are the same, and so is what follows
pub number_then : (m n : ℕ) (x y : List ℕ) → IsShort m → IsShort n → IsStop x → IsStop y → decimal m ++ x ≡ decimal n ++ y → (m ≡ n) × (x ≡ y)
number_then m n x y sm sn hx hy e =
    let dm = decimal_is_IsNumeral_wide m sm in
    let dn = decimal_is_IsNumeral_wide n sn in
    let s = split_digits (decimal m) (decimal n) x y dm.0.1 dn.0.1 hx hy e in
    (sym dm.1 ∙ ap (digits_value 10) s.0 ∙ dn.1, s.1)

-- at the end of a line
pub number_line : (m n : ℕ) (x y : List ℕ) → IsShort m → IsShort n → decimal m ++ (10 ∷ x) ≡ decimal n ++ (10 ∷ y) → (m ≡ n) × (x ≡ y)
number_line m n x y sm sn e =
    let s : (m ≡ n) × (10 ∷ x ≡ 10 ∷ y) = number_then m n (10 ∷ x) (10 ∷ y) sm sn (omega arith) (omega arith) e in
    let t : 10 ∷ x ≡ 10 ∷ y = s.1 in
    (s.0, cc)

-- before a blank
pub number_blank : (m n : ℕ) (x y : List ℕ) → IsShort m → IsShort n → decimal m ++ (32 ∷ x) ≡ decimal n ++ (32 ∷ y) → (m ≡ n) × (x ≡ y)
number_blank m n x y sm sn e =
    let s : (m ≡ n) × (32 ∷ x ≡ 32 ∷ y) = number_then m n (32 ∷ x) (32 ∷ y) sm sn (omega arith) (omega arith) e in
    let t : 32 ∷ x ≡ 32 ∷ y = s.1 in
    (s.0, cc)

begins : (ds x : List ℕ) (c : ℕ) (y : List ℕ) → 0 < length ds → AllDigits 10 ds → 10 ≤ digit_value c → ds ++ x ≡ c ∷ y → ⊥
begins [] x c y some d s e = omega arith
begins (b ∷ ds) x c y some d s e =
    let head : b ≡ c = cc in
    omega (arith, d.0, s, ap digit_value head)

-- a number does not begin with a letter
pub no_number : (n c : ℕ) (x y : List ℕ) → IsShort n → 10 ≤ digit_value c → decimal n ++ x ≡ c ∷ y → ⊥
no_number n c x y sn s e = let d = decimal_is_IsNumeral_wide n sn in begins (decimal n) x c y d.0.0 d.0.1 s e

same_digit : (i j : ℕ) → i < 16 → j < 16 → slice_index lower_digits i ≡ slice_index lower_digits j → i ≡ j
same_digit i j li lj e =
    let both : Some i ≡ Some j = sym (IsDigits-lower_digits i li) ∙ ap hex_digit_value e ∙ IsDigits-lower_digits j lj in
    cc

pub no_line : (i : ℕ) → i < 16 → 10 ≡ slice_index lower_digits i → ⊥
no_line i li e =
    let both : None ≡ Some i = ap hex_digit_value e ∙ IsDigits-lower_digits i li in
    cc

-- bytes before the end of a line are the same, and so is what follows
pub hex_line : (xs ys x y : List ℕ) → IsBytes xs → IsBytes ys → encode_lower xs ++ (10 ∷ x) ≡ encode_lower ys ++ (10 ∷ y) → (xs ≡ ys) × (x ≡ y)
unfolding encode_with
hex_line [] [] x y bx by e = (refl, cc)
hex_line [] (b ∷ ys) x y bx by e =
    let low : b < 256 = by 0 in
    let head : 10 ≡ slice_index lower_digits (b / 16) = cc in
    absurd (no_line (b / 16) (omega arith) head)
hex_line (a ∷ xs) [] x y bx by e =
    let low : a < 256 = bx 0 in
    let head : 10 ≡ slice_index lower_digits (a / 16) = cc in
    absurd (no_line (a / 16) (omega arith) head)
hex_line (a ∷ xs) (b ∷ ys) x y bx by e =
    let la : a < 256 = bx 0 in
    let lb : b < 256 = by 0 in
    let highs : slice_index lower_digits (a / 16) ≡ slice_index lower_digits (b / 16) = cc in
    let lows : slice_index lower_digits (a % 16) ≡ slice_index lower_digits (b % 16) = cc in
    let high : a / 16 ≡ b / 16 = same_digit (a / 16) (b / 16) (omega arith) (omega arith) highs in
    let low : a % 16 ≡ b % 16 = same_digit (a % 16) (b % 16) (omega arith) (omega arith) lows in
    let head : a ≡ b = omega arith in
    let tail : encode_lower xs ++ (10 ∷ x) ≡ encode_lower ys ++ (10 ∷ y) = cc in
    let rest : (xs ≡ ys) × (x ≡ y) = hex_line xs ys x y (λ k. bx (suc k)) (λ k. by (suc k)) tail in
    let both : xs ≡ ys = rest.0 in
    (cc, rest.1)
