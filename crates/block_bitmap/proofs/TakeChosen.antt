-- The bits of chosen blocks of a word are those of the same blocks.
use Rattle.std.proofs.Common.{◌≡◌, ◌≢◌, ◌<◌, ◌≤◌, ◌+◌, ◌-◌, ◌*◌, ◌%◌, ◌^◌, ◌==◌, ◌&&◌, ℕ, zero, suc, Bool, true, false, cond, List, [], ◌∷◌, refl, sym, ap, ◌∙◌, subst, arith}
use Rattle.std.specs.Prelude.{filter, take, bit_and}
use Rattle.std.specs.Int.{bit_at}
use Rattle.std.specs.List.{range_with_len, All, AllByRecursion}
use mir.Syntax.{w64}
use Rattle.std.proofs.lemmas.Bool.{eq-eqb, eqb-true, ne_eqb, and_parts, and_from}
use Rattle.std.proofs.lemmas.List.Elements.{All-filter, All-take, recursion_from_All}
use Rattle.std.proofs.lemmas.List.FromFn.{length-range_with_len, get_or-range_with_len}
use Rattle.std.proofs.lemmas.Nat.Bits.{bit_at-zero, bit_at_or, bit_at_and, bit_at_not, bit_at-pow_other, bit_at-lt}
use Rattle.log_image.specs.Image.{Shape}
use Rattle.log_entry.specs.declared.shapes.Area.{Area}
use Rattle.log_core.specs.Needs.{is_in_area}
use Rattle.block_bitmap.specs.TakeBits.{blocks_of_word, blocks_in, bits_of, clear_in, open_blocks}
use Rattle.block_bitmap.specs.TakeLists.{first_bit}
use Rattle.block_bitmap.proofs.TakeRanges.{same_test, agree, none_pass, filter_both}

-- what holds of each number of a range holds of each that is chosen
all_range : (P : ℕ → Type 0) (a n : ℕ) → ((x : ℕ) → a ≤ x → x < a + n → P x) → All P (range_with_len a n)
all_range P a n each k d inside = (let below : k < n = omega (arith, inside, length-range_with_len a n) in subst P (sym (get_or-range_with_len a n k d below)) (each (a + k) (omega arith) (omega (arith, below))))

pub all_chosen : (P : ℕ → Type 0) (p : ℕ → Bool) (a n k : ℕ) → ((x : ℕ) → a ≤ x → x < a + n → P x) → AllByRecursion P (take k (filter p (range_with_len a n)))
all_chosen P p a n k each = recursion_from_All P (take k (filter p (range_with_len a n))) (All-take P k (filter p (range_with_len a n)) (All-filter p P (range_with_len a n) (all_range P a n each)))

-- a bit that none of the blocks has
no_bit : (i : ℕ) (blocks : List ℕ) → AllByRecursion (λ (y : ℕ). i ≢ y % 64) blocks → bit_at (bits_of blocks) i ≡ 0
no_bit i [] all = bit_at-zero i
no_bit i (y ∷ blocks) all = (let other = bit_at-pow_other (y % 64) i all.0 in let rest = no_bit i blocks all.1 in omega (arith, bit_at_or (2 ^ (y % 64)) (bits_of blocks) i, other, rest))

nothing_taken : (k : ℕ) → ◌≡◌ {A = List ℕ} (take k []) []
nothing_taken zero = refl
nothing_taken (suc k) = refl

-- by whether the first number of the range passes
module _ (a n : ℕ) (free : List ℕ) (again : (k : ℕ) → filter (λ x. bit_at (bits_of (take k free)) (x % 64) == 1) (range_with_len (a + 1) n) ≡ take k free)
    (apart : (k : ℕ) → AllByRecursion (λ (y : ℕ). a % 64 ≢ y % 64) (take k free)) (others : (x : ℕ) → a + 1 ≤ x → x < a + 1 + n → x % 64 ≢ a % 64) where
  same_rest : (k x : ℕ) → a + 1 ≤ x → x < a + 1 + n → (bit_at (bits_of (a ∷ take k free)) (x % 64) == 1) ≡ (bit_at (bits_of (take k free)) (x % 64) == 1)
  same_rest k x low high = (let other = bit_at-pow_other (a % 64) (x % 64) (others x low high) in ap (λ (n : ℕ). n == 1) (omega (arith, bit_at_or (2 ^ (a % 64)) (bits_of (take k free)) (x % 64), other)))

  first_is : (k : ℕ) → (bit_at (bits_of (a ∷ take k free)) (a % 64) == 1) ≡ true
  first_is k = eq-eqb (bit_at (bits_of (a ∷ take k free)) (a % 64)) 1 (first_bit a (take k free))

  first_not : (k : ℕ) → (bit_at (bits_of (take k free)) (a % 64) == 1) ≡ false
  first_not k = (let none = no_bit (a % 64) (take k free) (apart k) in ne_eqb (bit_at (bits_of (take k free)) (a % 64)) 1 (λ one. omega (arith, one, none)))

  abbrev kept : List ℕ → List ℕ
  kept chosen = filter (λ x. bit_at (bits_of chosen) (x % 64) == 1) (range_with_len (a + 1) n)

  chosen_by : (b : Bool) (k : ℕ) → filter (λ x. bit_at (bits_of (take k (cond b (a ∷ free) free))) (x % 64) == 1) (range_with_len a (suc n)) ≡ take k (cond b (a ∷ free) free)
  chosen_by true zero = none_pass (λ x. bit_at 0 (x % 64) == 1) a (suc n) (λ x low high. (let none = bit_at-zero (x % 64) in ne_eqb (bit_at 0 (x % 64)) 1 (λ one. omega (arith, one, none))))
  chosen_by true (suc k) = ap (λ (b : Bool). cond b (a ∷ kept (a ∷ take k free)) (kept (a ∷ take k free))) (first_is k)
      ∙ ap (λ (rest : List ℕ). a ∷ rest) (agree (λ x. bit_at (bits_of (a ∷ take k free)) (x % 64) == 1) (λ x. bit_at (bits_of (take k free)) (x % 64) == 1) (a + 1) n (same_rest k) ∙ again k)
  chosen_by false k = ap (λ (b : Bool). cond b (a ∷ kept (take k free)) (kept (take k free))) (first_not k) ∙ again k

chosen : (p : ℕ → Bool) (word a n : ℕ) → word * 64 ≤ a → a + n ≤ word * 64 + 64 → (k : ℕ) →
    filter (λ x. bit_at (bits_of (take k (filter p (range_with_len a n)))) (x % 64) == 1) (range_with_len a n) ≡ take k (filter p (range_with_len a n))
chosen p word a zero low high k = sym (nothing_taken k)
chosen p word a (suc n) low high k = chosen_by a n (filter p (range_with_len (a + 1) n)) (chosen p word (a + 1) n (omega (arith, low)) (omega (arith, high)))
    (λ k. all_chosen (λ (y : ℕ). a % 64 ≢ y % 64) p (a + 1) n k (λ x first last same. omega (arith, first, last, low, high, same)))
    (λ x first last same. omega (arith, first, last, low, high, same)) (p a) k

-- the blocks of the bits of chosen blocks of a word are those blocks
pub chosen_again : (p : ℕ → Bool) (word k : ℕ) → blocks_in word (bits_of (take k (filter p (blocks_of_word word)))) ≡ take k (filter p (blocks_of_word word))
unfolding blocks_of_word
chosen_again p word k = chosen p word (word * 64) 64 (omega arith) (omega arith) k

-- so are those of blocks that are not known to be taken
pub wanted_again : (image : Shape) (area : Area) (word known k : ℕ) → blocks_in word (bits_of (take k (open_blocks image area word known))) ≡ take k (open_blocks image area word known)
wanted_again image area word known k =
    (let same = filter_both (λ x. bit_at known (x % 64) == 0) (λ x. is_in_area image area x) (blocks_of_word word) in
    ap (λ (free : List ℕ). blocks_in word (bits_of (take k free))) same ∙ chosen_again (λ x. is_in_area image area x && (bit_at known (x % 64) == 0)) word k ∙ ap (take k) (sym same))

-- the bits that a word has clear are those of the blocks that it has clear
pub clear_is : (word bits found : ℕ) → found < 2 ^ 64 → blocks_in word (bit_and bits (2 ^ 64 - 1 - found)) ≡ clear_in found (blocks_in word bits)
unfolding blocks_of_word
clear_is word bits found small =
    agree (λ x. bit_at both (x % 64) == 1) (λ x. (bit_at bits (x % 64) == 1) && (bit_at found (x % 64) == 0)) (word * 64) 64
    (λ x low high.
    (let is = bit_at_and bits (2 ^ 64 - 1 - found) (x % 64) in let not = bit_at_not w64 found (x % 64) small (omega arith) in let below = bit_at-lt bits (x % 64) in
    same_test (bit_at both (x % 64) == 1) ((bit_at bits (x % 64) == 1) && (bit_at found (x % 64) == 0))
    (λ one. let set = eqb-true (bit_at both (x % 64)) 1 one in and_from (bit_at bits (x % 64) == 1) (bit_at found (x % 64) == 0) (eq-eqb (bit_at bits (x % 64)) 1 (omega (arith, is, not, below, set))) (eq-eqb (bit_at found (x % 64)) 0 (omega (arith, is, not, below, set))))
    (λ parts. let two = and_parts (bit_at bits (x % 64) == 1) (bit_at found (x % 64) == 0) parts in let set = eqb-true (bit_at bits (x % 64)) 1 two.0 in let clear = eqb-true (bit_at found (x % 64)) 0 two.1 in eq-eqb (bit_at both (x % 64)) 1 (omega (arith, is, not, set, clear)))))
    ∙ sym (filter_both (λ x. bit_at found (x % 64) == 0) (λ x. bit_at bits (x % 64) == 1) (blocks_of_word word))
  where
    both : ℕ
    both = bit_and bits (2 ^ 64 - 1 - found)
