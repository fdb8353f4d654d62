-- Facts of each element of a list.
use Rattle.std.proofs.Common.{◌≡◌, ℕ, zero, suc, ◌<◌, Bool, true, false, ◌||◌, List, [], ◌∷◌, ◌++◌, length, get_or, filter, cond, map, refl, ap, ◌∙◌, arith, slice_set, slice_index, ◌^◌}
use Rattle.std.specs.List.{AllByRecursion, list_any}

pub each_weaker : {X : Type 0} (P Q : X → Type 0) (xs : List X) → ((x : X) → P x → Q x) → AllByRecursion P xs → AllByRecursion Q xs
each_weaker P Q [] weaker all = tt
each_weaker P Q (x ∷ xs) weaker all = (weaker x all.0, each_weaker P Q xs weaker all.1)

pub each_push : {X : Type 0} (P : X → Type 0) (xs : List X) (x : X) → AllByRecursion P xs → P x → AllByRecursion P (xs ++ x ∷ [])
each_push P [] x all new = (new, tt)
each_push P (y ∷ xs) x all new = (all.0, each_push P xs x all.1 new)

-- of the one at a place
pub each_at : {X : Type 0} (P : X → Type 0) (xs : List X) (d : X) (n : ℕ) → n < length xs → AllByRecursion P xs → P (get_or xs n d)
each_at P [] d n inside all = absurd (omega (arith, inside))
each_at P (x ∷ xs) d zero inside all = all.0
each_at P (x ∷ xs) d (suc n) inside all = each_at P xs d n (omega (arith, inside)) all.1

-- and of each where one is replaced by another
pub each_replaced : {X : Type 0} (P : X → Type 0) (xs : List X) (n : ℕ) (x : X) → AllByRecursion P xs → P x → AllByRecursion P (slice_set xs n x)
each_replaced P [] n x all new = tt
each_replaced P (y ∷ xs) zero x all new = (new, all.1)
each_replaced P (y ∷ xs) (suc n) x all new = (all.0, each_replaced P xs n x all.1 new)

-- a word of 64-bit words, or 0 past them
pub each_word : (words : List ℕ) (n : ℕ) → AllByRecursion (λ (word : ℕ). word < 2 ^ 64) words → slice_index words n < 2 ^ 64
each_word [] n all = omega arith
each_word (word ∷ words) zero all = all.0
each_word (word ∷ words) (suc n) all = each_word words n all.1

pub each_both : {X : Type 0} (P Q : X → Type 0) (xs : List X) → AllByRecursion P xs → AllByRecursion Q xs → AllByRecursion (λ (x : X). P x × Q x) xs
each_both P Q [] first second = tt
each_both P Q (x ∷ xs) first second = ((first.0, second.0), each_both P Q xs first.1 second.1)

cond_each : {X : Type 0} (P : X → Type 0) (b : Bool) (x : X) (xs : List X) → (b ≡ true → P x) → AllByRecursion P xs → AllByRecursion P (cond b (x ∷ xs) xs)
cond_each P true x xs here rest = (here refl, rest)
cond_each P false x xs here rest = rest

-- of those that a test leaves
pub each_filter : {X : Type 0} (P : X → Type 0) (f : X → Bool) (xs : List X) → AllByRecursion (λ (x : X). f x ≡ true → P x) xs → AllByRecursion P (filter f xs)
each_filter P f [] all = tt
each_filter P f (x ∷ xs) all = cond_each P (f x) x (filter f xs) all.0 (each_filter P f xs all.1)

-- what follows of one that a test passes, where it does of each
pub any_each : {X R : Type 0} (P : X → Type 0) (f : X → Bool) (xs : List X) → list_any f xs ≡ true → AllByRecursion P xs → ((x : X) → f x ≡ true → P x → R) → R
any_each P f [] any all gives = cc
any_each {X} {R} P f (x ∷ xs) any all gives = by (f x) (λ passes. gives x passes all.0) (λ rest. any_each P f xs rest all.1 gives) any
  where
    by : (b : Bool) → (b ≡ true → R) → (list_any f xs ≡ true → R) → (b || list_any f xs) ≡ true → R
    by true here later e = here refl
    by false here later e = later e

-- two tests that agree at each element
pub any_same : {X : Type 0} (f g : X → Bool) (xs : List X) → AllByRecursion (λ (x : X). f x ≡ g x) xs → list_any f xs ≡ list_any g xs
any_same f g [] same = refl
any_same f g (x ∷ xs) same = ap (λ (b : Bool). b || list_any f xs) same.0 ∙ ap (λ (b : Bool). g x || b) (any_same f g xs same.1)

pub each_map : {X Y : Type 0} (P : Y → Type 0) (f : X → Y) (xs : List X) → AllByRecursion (λ (x : X). P (f x)) xs → AllByRecursion P (map f xs)
each_map P f [] all = tt
each_map P f (x ∷ xs) all = (all.0, each_map P f xs all.1)

-- two functions that agree at each element
pub map_same : {X Y : Type 0} (f g : X → Y) (xs : List X) → AllByRecursion (λ (x : X). f x ≡ g x) xs → map f xs ≡ map g xs
map_same f g [] same = refl
map_same {X} {Y} f g (x ∷ xs) same = ap (λ (y : Y). y ∷ map f xs) same.0 ∙ ap (λ (ys : List Y). g x ∷ ys) (map_same f g xs same.1)

-- a test of what a function makes of each
pub any_map : {X Y : Type 0} (f : X → Y) (p : Y → Bool) (xs : List X) → list_any p (map f xs) ≡ list_any (λ (x : X). p (f x)) xs
any_map f p [] = refl
any_map f p (x ∷ xs) = ap (λ (b : Bool). p (f x) || b) (any_map f p xs)

-- what holds at each place of a list holds of each
pub each_place : {X : Type 0} (P : X → Type 0) (xs : List X) (d : X) → ((n : ℕ) → n < length xs → P (get_or xs n d)) → AllByRecursion P xs
each_place P [] d at = tt
each_place P (x ∷ xs) d at = (at 0 (omega arith), each_place P xs d (λ n inside. at (suc n) (omega (arith, inside))))
