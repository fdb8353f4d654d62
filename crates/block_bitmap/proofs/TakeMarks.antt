-- The bits of a bitmap after those of some blocks were set.
use Rattle.std.proofs.Common.{◌≡◌, ◌≢◌, ◌<◌, ◌≤◌, ◌+◌, ◌*◌, ◌/◌, ◌%◌, ◌==◌, ◌||◌, ◌⊎◌, inl, inr, if◌then◌else◌, ℕ, zero, suc, Bool, true, false, cond, List, [], ◌∷◌, ◌++◌, length, slice_index, slice_set, refl, sym, ap, ◌∙◌, arith}
use Rattle.std.specs.Prelude.{filter, bit_or}
use Rattle.std.specs.Int.{bit_at}
use Rattle.std.specs.List.{range_with_len}
use Rattle.std.proofs.lemmas.Bool.{eq-eqb, eqb-true, eqb-false, ne_eqb, cases_eq, cases_lt, or_from}
use Rattle.std.proofs.lemmas.List.{length-set, get_or-set_same, get_or-set_other}
use Rattle.std.proofs.lemmas.Nat.Bits.{bit_at_or, bit_at-lt}
use Rattle.log_image.specs.Taken.{bit_of}
use Rattle.log_image.specs.Chains.{is_listed}
use Rattle.block_bitmap.specs.TakeBits.{blocks_of_word, blocks_in}
use Rattle.block_bitmap.specs.TakeAlone.{AreSet}

-- a number of two lists
pub has_both : (xs ys : List ℕ) (block : ℕ) → is_listed (xs ++ ys) block ≡ (is_listed xs block || is_listed ys block)
has_both [] ys block = refl
has_both (x ∷ xs) ys block = ap (λ (b : Bool). (x == block) || b) (has_both xs ys block) ∙ by (x == block) (is_listed xs block) (is_listed ys block)
  where
    by : (a b c : Bool) → (a || (b || c)) ≡ (a || b || c)
    by true b c = refl
    by false b c = refl

-- a number out of a range is not among those that pass
out_by : (b : Bool) (a x : ℕ) (rest : List ℕ) → (a == x) ≡ false → is_listed rest x ≡ false → is_listed (cond b (a ∷ rest) rest) x ≡ false
out_by true a x rest other none = or_from (a == x) (is_listed rest x) other none
out_by false a x rest other none = none

pub not_among : (p : ℕ → Bool) (a n x : ℕ) → (x < a) ⊎ (a + n ≤ x) → is_listed (filter p (range_with_len a n)) x ≡ false
not_among p a zero x out = refl
not_among p a (suc n) x (inl below) = out_by (p a) a x (filter p (range_with_len (a + 1) n)) (ne_eqb a x (λ same. omega (arith, same, below))) (not_among p (a + 1) n x (inl (omega (arith, below))))
not_among p a (suc n) x (inr past) = out_by (p a) a x (filter p (range_with_len (a + 1) n)) (ne_eqb a x (λ same. omega (arith, same, past))) (not_among p (a + 1) n x (inr (omega (arith, past))))

-- one of a range is where it passes
here_by : (b : Bool) (a : ℕ) (rest : List ℕ) → is_listed rest a ≡ false → is_listed (cond b (a ∷ rest) rest) a ≡ b
here_by true a rest none = ap (λ (b : Bool). b || is_listed rest a) (eq-eqb a a refl)
here_by false a rest none = none

later_by : (b c : Bool) (a x : ℕ) (rest : List ℕ) → (a == x) ≡ false → is_listed rest x ≡ c → is_listed (cond b (a ∷ rest) rest) x ≡ c
later_by true c a x rest other is = ap (λ (b : Bool). b || is_listed rest x) other ∙ is
later_by false c a x rest other is = is

among_by : (p : ℕ → Bool) (a n x : ℕ) → (x ≡ a) ⊎ (x ≡ a → ⊥) → (a + 1 ≤ x → is_listed (filter p (range_with_len (a + 1) n)) x ≡ p x) → a ≤ x → is_listed (filter p (range_with_len a (suc n))) x ≡ p x
among_by p a n x (inl same) later low = ap (is_listed (filter p (range_with_len a (suc n)))) same ∙ here_by (p a) a (filter p (range_with_len (a + 1) n)) (not_among p (a + 1) n a (inl (omega arith))) ∙ ap p (sym same)
among_by p a n x (inr apart) later low = later_by (p a) (p x) a x (filter p (range_with_len (a + 1) n)) (ne_eqb a x (λ same. apart (sym same))) (later (omega (arith, low, apart)))

pub among : (p : ℕ → Bool) (a n x : ℕ) → a ≤ x → x < a + n → is_listed (filter p (range_with_len a n)) x ≡ p x
among p a zero x low high = absurd (omega (arith, low, high))
among p a (suc n) x low high = among_by p a n x (cases_eq x a) (λ next. among p (a + 1) n x next (omega (arith, high))) low

-- the blocks of a word's bits
pub in_word : (word bits block : ℕ) → block / 64 ≡ word → is_listed (blocks_in word bits) block ≡ (bit_at bits (block % 64) == 1)
unfolding blocks_of_word
in_word word bits block is = among (λ x. bit_at bits (x % 64) == 1) (word * 64) 64 block (omega (arith, is)) (omega (arith, is))

pub not_in_word : (word bits block : ℕ) → block / 64 ≢ word → is_listed (blocks_in word bits) block ≡ false
unfolding blocks_of_word
not_in_word word bits block other = by (cases_lt block (word * 64))
  where
    by : (block < word * 64) ⊎ (word * 64 ≤ block) → is_listed (filter (λ x. bit_at bits (x % 64) == 1) (range_with_len (word * 64) 64)) block ≡ false
    by (inl below) = not_among (λ x. bit_at bits (x % 64) == 1) (word * 64) 64 block (inl below)
    by (inr above) = not_among (λ x. bit_at bits (x % 64) == 1) (word * 64) 64 block (inr (omega (arith, above, other)))

-- a bit of two words put together
or_bit : (b : Bool) (a bits i : ℕ) → (bit_at bits i == 1) ≡ b → bit_at (bit_or a bits) i ≡ (if b then 1 else bit_at a i)
or_bit true a bits i is = (let one = eqb-true (bit_at bits i) 1 is in let below = bit_at-lt a i in omega (arith, bit_at_or a bits i, one, below))
or_bit false a bits i is = (let not = eqb-false (bit_at bits i) 1 is in let below = bit_at-lt bits i in let none : bit_at bits i ≡ 0 = omega (arith, not, below) in omega (arith, bit_at_or a bits i, none))

-- nothing is set
pub none_set : (taken : List ℕ) → AreSet [] taken taken
none_set taken = record { long = refl; bits = λ block. refl }

-- bits of one word are set
pub set_in : (taken : List ℕ) (word bits : ℕ) → word < length taken → AreSet (blocks_in word bits) taken (slice_set taken word (bit_or (slice_index taken word) bits))
set_in taken word bits inside = record { long = length-set taken word (bit_or (slice_index taken word) bits); bits = λ block. at block (cases_eq (block / 64) word) }
  where
    after : List ℕ
    after = slice_set taken word (bit_or (slice_index taken word) bits)

    at : (block : ℕ) → (block / 64 ≡ word) ⊎ (block / 64 ≡ word → ⊥) → bit_of after block ≡ (if is_listed (blocks_in word bits) block then 1 else bit_of taken block)
    at block (inl is) =
        ap (λ (w : ℕ). bit_at (slice_index after w) (block % 64)) is
        ∙ ap (λ (n : ℕ). bit_at n (block % 64)) (get_or-set_same taken word (bit_or (slice_index taken word) bits) 0 inside)
        ∙ or_bit (bit_at bits (block % 64) == 1) (slice_index taken word) bits (block % 64) refl
        ∙ ap (λ (b : Bool). if b then 1 else bit_at (slice_index taken word) (block % 64)) (sym (in_word word bits block is))
        ∙ ap (λ (w : ℕ). if is_listed (blocks_in word bits) block then 1 else bit_at (slice_index taken w) (block % 64)) (sym is)
    at block (inr other) =
        ap (λ (n : ℕ). bit_at n (block % 64)) (get_or-set_other taken word (block / 64) (bit_or (slice_index taken word) bits) 0 other)
        ∙ ap (λ (b : Bool). if b then 1 else bit_of taken block) (sym (not_in_word word bits block other))

-- bits that are set after others
either : (a b : Bool) (n : ℕ) → (if b then 1 else (if a then 1 else n)) ≡ (if a || b then 1 else n)
either true true n = refl
either true false n = refl
either false b n = refl

pub set_both : (xs ys before between after : List ℕ) → AreSet xs before between → AreSet ys between after → AreSet (xs ++ ys) before after
set_both xs ys before between after one two = record {
  long = two.long ∙ one.long;
  bits = λ block.
      two.bits block
      ∙ ap (λ (n : ℕ). if is_listed ys block then 1 else n) (one.bits block)
      ∙ either (is_listed xs block) (is_listed ys block) (bit_of before block)
      ∙ ap (λ (b : Bool). if b then 1 else bit_of before block) (sym (has_both xs ys block));
}
