-- Blocks whose bits are clear, and a word in which all of them were set.
use Rattle.std.proofs.Common.{◌≡◌, ◌≤◌, ◌%◌, ◌^◌, ◌==◌, ℕ, Bool, true, false, cond, List, [], ◌∷◌, take, refl, ap, ◌∙◌, arith}
use Rattle.std.specs.Prelude.{filter, bit_or}
use Rattle.std.specs.Int.{bit_at}
use Rattle.std.specs.List.{AllByRecursion}
use Rattle.std.proofs.lemmas.Bool.{eqb-false, ne_eqb}
use Rattle.std.proofs.lemmas.List.Elements.{All-take, filter_passes, recursion_from_All}
use Rattle.std.proofs.lemmas.Nat.Bits.{bit_at_or}
use Rattle.block_bitmap.specs.TakeBits.{bits_of, clear_in}
use Rattle.block_bitmap.specs.TakeLists.{first_bit}

-- a test keeps all that pass it
kept_all : (p : ℕ → Bool) (xs : List ℕ) → AllByRecursion (λ x. p x ≡ true) xs → filter p xs ≡ xs
kept_all p [] all = refl
kept_all p (x ∷ xs) all = ap (λ (b : Bool). cond b (x ∷ filter p xs) (filter p xs)) all.0 ∙ ap (λ (rest : List ℕ). x ∷ rest) (kept_all p xs all.1)

pub clear_still : (found n : ℕ) (xs : List ℕ) → clear_in found (take n (clear_in found xs)) ≡ take n (clear_in found xs)
clear_still found n xs = kept_all (λ x. bit_at found (x % 64) == 0) (take n (clear_in found xs))
    (recursion_from_All (λ x. (bit_at found (x % 64) == 0) ≡ true) (take n (clear_in found xs)) (All-take (λ x. (bit_at found (x % 64) == 0) ≡ true) n (clear_in found xs) (filter_passes (λ x. bit_at found (x % 64) == 0) xs)))

-- where the bits of all clear blocks are set, none is clear
covered_by : (b : Bool) (found more x : ℕ) (xs : List ℕ) → (bit_at found (x % 64) == 0) ≡ b → ((i : ℕ) → bit_at (bits_of (cond b (x ∷ clear_in found xs) (clear_in found xs))) i ≤ bit_at more i) → clear_in (bit_or found (bit_or found more)) xs ≡ [] →
    cond (bit_at (bit_or found (bit_or found more)) (x % 64) == 0) (x ∷ clear_in (bit_or found (bit_or found more)) xs) (clear_in (bit_or found (bit_or found more)) xs) ≡ []
covered_by true found more x xs is all rest =
    (let here = all (x % 64) in let one = first_bit x (clear_in found xs) in
    let set = ne_eqb (bit_at (bit_or found (bit_or found more)) (x % 64)) 0 (λ none. omega (arith, none, here, one, bit_at_or found (bit_or found more) (x % 64), bit_at_or found more (x % 64))) in
    ap (λ (b : Bool). cond b (x ∷ clear_in (bit_or found (bit_or found more)) xs) (clear_in (bit_or found (bit_or found more)) xs)) set ∙ rest)
covered_by false found more x xs is all rest =
    (let not = eqb-false (bit_at found (x % 64)) 0 is in
    let set = ne_eqb (bit_at (bit_or found (bit_or found more)) (x % 64)) 0 (λ none. not (omega (arith, none, bit_at_or found (bit_or found more) (x % 64)))) in
    ap (λ (b : Bool). cond b (x ∷ clear_in (bit_or found (bit_or found more)) xs) (clear_in (bit_or found (bit_or found more)) xs)) set ∙ rest)

fewer_bits : (b : Bool) (x : ℕ) (blocks : List ℕ) (i : ℕ) → bit_at (bits_of blocks) i ≤ bit_at (bits_of (cond b (x ∷ blocks) blocks)) i
fewer_bits true x blocks i = omega (arith, bit_at_or (2 ^ (x % 64)) (bits_of blocks) i)
fewer_bits false x blocks i = omega arith

pub covered : (found more : ℕ) (xs : List ℕ) → ((i : ℕ) → bit_at (bits_of (clear_in found xs)) i ≤ bit_at more i) → clear_in (bit_or found (bit_or found more)) xs ≡ []
covered found more [] all = refl
covered found more (x ∷ xs) all = covered_by (bit_at found (x % 64) == 0) found more x xs refl all
    (covered found more xs (λ i. (let less = all i in let fewer = fewer_bits (bit_at found (x % 64) == 0) x (clear_in found xs) i in omega (arith, less, fewer))))
