-- Different numbers, and what two lists of names leave of each other.
use Rattle.std.proofs.Common.{◌+◌, ◌≡◌, ◌<◌, ◌≤◌, ◌||◌, ◌&&◌, not, ⊎_elim, ℕ, zero, suc, Bool, true, false, List, [], ◌∷◌, length, refl, sym, ◌∙◌, ap, arith, slice_index, Option, Some, None}
use Rattle.std.specs.List.{range_with_len}
use Rattle.std.proofs.lemmas.Bool.{and_parts, cases_lt, eqb-true, eq-eqb, ne_eqb}
use Rattle.log_image.specs.Chains.{all_different, is_listed}
use Rattle.pmem_words.specs.Maps.{map_at}
use Rattle.log_core.specs.Steps.{is_block, is_mapped}
use Rattle.log_core.proofs.Fronts.{not_again}
use Rattle.log_core.proofs.SnapshotReads.{listed_at}
use Rattle.log_core.proofs.clauses.OneView.{same_or_other}

-- a number below is not in a range, nor one past its end
pub not_in_range : (first count number : ℕ) → (number < first) → is_listed (range_with_len first count) number ≡ false
not_in_range first zero number low = refl
not_in_range first (suc count) number low = rw (ne_eqb first number (λ e. omega (arith, e, low))) (not_in_range (first + 1) count number (omega (arith, low)))

pub past_range : (first count number : ℕ) → first + count ≤ number → is_listed (range_with_len first count) number ≡ false
past_range first zero number past = refl
past_range first (suc count) number past = rw (ne_eqb first number (λ e. omega (arith, e, past))) (past_range (first + 1) count number (omega (arith, past)))

-- different numbers stand at one place each
not_later : (l : List ℕ) (first second : ℕ) → all_different l ≡ true → first < second → second < length l → slice_index l first ≡ slice_index l second → ⊥
not_later [] first second different before inside same = omega (arith, inside)
not_later (x ∷ l) zero zero different before inside same = omega (arith, before)
not_later (x ∷ l) zero (suc second) different before inside same = not_again x l different (listed_at l second x (omega (arith, inside)) (sym same))
not_later (x ∷ l) (suc first) zero different before inside same = omega (arith, before)
not_later (x ∷ l) (suc first) (suc second) different before inside same =
    not_later l first second (and_parts (not (is_listed l x)) (all_different l) different).1 (omega (arith, before)) (omega (arith, inside)) same

pub one_place : (l : List ℕ) (first second : ℕ) → all_different l ≡ true → first < length l → second < length l → slice_index l first ≡ slice_index l second → first ≡ second
one_place l first second different one two same = same_or_other first second (λ e. e) (λ other. ⊎_elim
    (λ less. absurd (not_later l first second different less two same))
    (λ more. absurd (not_later l second first different (omega (arith, more, other)) one (sym same))) (cases_lt first second))

-- a block of a map stands at a virtual block
pub mapped_at : (blocks : List (Option ℕ)) (block : ℕ) → is_mapped blocks block ≡ true → (virt : ℕ) × (map_at blocks virt ≡ Some block)
mapped_at [] block mapped = cc
mapped_at (held ∷ blocks) block mapped = go held (is_block block held) refl mapped (λ rest. mapped_at blocks block rest)
  where
    go : (found : Option ℕ) (b : Bool) → is_block block found ≡ b → (b || is_mapped blocks block) ≡ true → (is_mapped blocks block ≡ true → (virt : ℕ) × (map_at blocks virt ≡ Some block)) →
        (virt : ℕ) × (map_at (found ∷ blocks) virt ≡ Some block)
    go None true e here rest = cc
    go (Some other) true e here rest = (0, ap (λ (b : ℕ). Some b) (eqb-true other block e))
    go found false e here rest = (let r = rest here in (suc r.0, r.1))

pub at_mapped : (blocks : List (Option ℕ)) (virt block : ℕ) → map_at blocks virt ≡ Some block → is_mapped blocks block ≡ true
at_mapped [] virt block is = cc
at_mapped (held ∷ blocks) zero block is = rw (ap (is_block block) is ∙ eq-eqb block block refl) refl
at_mapped (held ∷ blocks) (suc virt) block is = go (is_block block held) (at_mapped blocks virt block is)
  where
    go : (b : Bool) → is_mapped blocks block ≡ true → (b || is_mapped blocks block) ≡ true
    go true rest = refl
    go false rest = rest

-- two tests of which each follows from the other
pub both_ways : (a b : Bool) → (a ≡ true → b ≡ true) → (b ≡ true → a ≡ true) → a ≡ b
both_ways true b there back = sym (there refl)
both_ways false true there back = back refl
both_ways false false there back = refl

-- names of an older chain and of a newer one that begins at a log block: the snapshot's, those of log blocks before that one and of
-- entries before it are the older one's alone, but for what the newer one's snapshot names
left_true : (s f t e : Bool) → t ≡ false → ((s || f) || e) ≡ true → ((s || (f || (t || false))) || e) ≡ true
left_true true f t e none some = refl
left_true false true t e none some = refl
left_true false false t true none some = rw none refl
left_true false false t false none some = cc

right_true : (s f l e r : Bool) → l ≡ false → ((s || f) || e) ≡ true → ((s || (f || l)) || (e || r)) ≡ true
right_true true f l e r none some = refl
right_true false true l e r none some = refl
right_true false false l true r none some = rw none refl
right_true false false l false r none some = cc

rest_same : (m t l r n : Bool) → t ≡ false → l ≡ false → r ≡ false → n ≡ false → (not m && not t) ≡ not ((n || l) || (m || r))
rest_same true t l r n no_t no_l no_r no_n = rw (no_l, no_n) refl
rest_same false t l r n no_t no_l no_r no_n = rw (no_t, no_l, no_r, no_n) refl

left_false : (s f t e m : Bool) → ((s || f) || e) ≡ false → (((s || (f || (t || false))) || e) && (not m && not t)) ≡ false
left_false true f t e m none = cc
left_false false true t e m none = cc
left_false false false t true m none = cc
left_false false false true false true none = refl
left_false false false true false false none = refl
left_false false false false false m none = refl

right_false : (s f l e r n m : Bool) → ((s || f) || e) ≡ false → (((s || (f || l)) || (e || r)) && not ((n || l) || (m || r))) ≡ false
right_false true f l e r n m none = cc
right_false false true l e r n m none = cc
right_false false false l true r n m none = cc
right_false false false true false r true m none = refl
right_false false false true false r false m none = refl
right_false false false false false true true m none = refl
right_false false false false false true false true none = refl
right_false false false false false true false false none = refl
right_false false false false false false n m none = refl

pub left_over : (s f t l e r n m : Bool) → (((s || f) || e) ≡ true → (l ≡ false) × (r ≡ false) × (n ≡ false)) → (t ≡ true → l ≡ true) →
    (((s || (f || (t || false))) || e) && (not m && not t)) ≡ (((s || (f || l)) || (e || r)) && not ((n || l) || (m || r)))
left_over s f t l e r n m apart tail = go ((s || f) || e) refl
  where
    no_tail : (b : Bool) → t ≡ b → l ≡ false → t ≡ false
    no_tail true is none = (let both : true ≡ false = sym (tail is) ∙ none in cc)
    no_tail false is none = is

    go : (b : Bool) → ((s || f) || e) ≡ b → (((s || (f || (t || false))) || e) && (not m && not t)) ≡ (((s || (f || l)) || (e || r)) && not ((n || l) || (m || r)))
    go true is = (let none = apart is in let no_t = no_tail t refl none.0 in
        ap (λ (b : Bool). b && (not m && not t)) (left_true s f t e no_t is)
        ∙ (rest_same m t l r n no_t none.0 none.1 none.2 ∙ sym (ap (λ (b : Bool). b && not ((n || l) || (m || r))) (right_true s f l e r none.0 is))))
    go false is = left_false s f t e m is ∙ sym (right_false s f l e r n m is)
