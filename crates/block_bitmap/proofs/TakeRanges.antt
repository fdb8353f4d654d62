-- Numbers of a range by a test.
use Rattle.std.proofs.Common.{◌≡◌, ◌≢◌, ◌<◌, ◌≤◌, ◌+◌, ◌&&◌, ℕ, zero, suc, Bool, true, false, cond, List, [], ◌∷◌, refl, sym, ap, ◌∙◌, arith}
use Rattle.std.specs.Prelude.{filter}
use Rattle.std.specs.List.{range_with_len}

-- two tests of which each implies the other
pub same_test : (a b : Bool) → (a ≡ true → b ≡ true) → (b ≡ true → a ≡ true) → a ≡ b
same_test true true there back = refl
same_test true false there back = (let never = there refl in cc)
same_test false true there back = (let never = back refl in cc)
same_test false false there back = refl

-- two tests that agree within a range keep the same numbers of it
pub agree : (p q : ℕ → Bool) (a n : ℕ) → ((x : ℕ) → a ≤ x → x < a + n → p x ≡ q x) → filter p (range_with_len a n) ≡ filter q (range_with_len a n)
agree p q a zero same = refl
agree p q a (suc n) same =
    ap (λ (b : Bool). cond b (a ∷ filter p (range_with_len (a + 1) n)) (filter p (range_with_len (a + 1) n))) (same a (omega arith) (omega arith))
    ∙ ap (λ (rest : List ℕ). cond (q a) (a ∷ rest) rest) (agree p q (a + 1) n (λ x low high. same x (omega (arith, low)) (omega (arith, high))))

-- the first number that passes, and the rest by a test that refuses it alone
pub first_passes : (p q : ℕ → Bool) (a n k : ℕ) → k < n → p (a + k) ≡ true → q (a + k) ≡ false → ((i : ℕ) → i < k → p (a + i) ≡ false) → ((x : ℕ) → a ≤ x → x < a + n → x ≢ a + k → q x ≡ p x) →
    filter p (range_with_len a n) ≡ (a + k) ∷ filter q (range_with_len a n)
first_passes p q a zero k inside is gone before others = absurd (omega (arith, inside))
first_passes p q a (suc n) zero inside is gone before others =
    (let here : a + 0 ≡ a = omega arith in
    ap (λ (b : Bool). cond b (a ∷ filter p (range_with_len (a + 1) n)) (filter p (range_with_len (a + 1) n))) (ap p (sym here) ∙ is)
    ∙ ap (λ (rest : List ℕ). a ∷ rest) (agree p q (a + 1) n (λ x low high. sym (others x (omega (arith, low)) (omega (arith, high)) (λ same. omega (arith, low, same)))))
    ∙ ap (λ (x : ℕ). x ∷ filter q (range_with_len (a + 1) n)) (sym here)
    ∙ ap (λ (b : Bool). (a + 0) ∷ cond b (a ∷ filter q (range_with_len (a + 1) n)) (filter q (range_with_len (a + 1) n))) (sym (ap q (sym here) ∙ gone)))
first_passes p q a (suc n) (suc k) inside is gone before others =
    (let at : a + 1 + k ≡ a + suc k = omega arith in
    let none : p a ≡ false = ap p (omega arith) ∙ before 0 (omega arith) in
    ap (λ (b : Bool). cond b (a ∷ filter p (range_with_len (a + 1) n)) (filter p (range_with_len (a + 1) n))) none
    ∙ first_passes p q (a + 1) n k (omega (arith, inside)) (ap p at ∙ is) (ap q at ∙ gone) (λ i less. ap p (omega arith) ∙ before (suc i) (omega (arith, less))) (λ x low high apart. others x (omega (arith, low)) (omega (arith, high)) (λ same. apart (omega (arith, same))))
    ∙ ap (λ (x : ℕ). x ∷ filter q (range_with_len (a + 1) n)) at
    ∙ ap (λ (b : Bool). (a + suc k) ∷ cond b (a ∷ filter q (range_with_len (a + 1) n)) (filter q (range_with_len (a + 1) n))) (sym (others a (omega arith) (omega arith) (λ same. omega (arith, same)) ∙ none)))

-- none passes
pub none_pass : (p : ℕ → Bool) (a n : ℕ) → ((x : ℕ) → a ≤ x → x < a + n → p x ≡ false) → filter p (range_with_len a n) ≡ []
none_pass p a zero none = refl
none_pass p a (suc n) none =
    ap (λ (b : Bool). cond b (a ∷ filter p (range_with_len (a + 1) n)) (filter p (range_with_len (a + 1) n))) (none a (omega arith) (omega arith))
    ∙ none_pass p (a + 1) n (λ x low high. none x (omega (arith, low)) (omega (arith, high)))

-- two filters are one by both tests
by_both : (p q : ℕ → Bool) (x : ℕ) (rest : List ℕ) (b : Bool) → q x ≡ b → filter p (cond b (x ∷ rest) rest) ≡ cond (b && p x) (x ∷ filter p rest) (filter p rest)
by_both p q x rest true is = refl
by_both p q x rest false is = refl

pub filter_both : (p q : ℕ → Bool) (xs : List ℕ) → filter p (filter q xs) ≡ filter (λ (x : ℕ). q x && p x) xs
filter_both p q [] = refl
filter_both p q (x ∷ xs) = by_both p q x (filter q xs) (q x) refl ∙ ap (λ (rest : List ℕ). cond (q x && p x) (x ∷ rest) rest) (filter_both p q xs)
