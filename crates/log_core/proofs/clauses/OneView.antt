-- One view is replaced by another: what has to hold of it, so that the invariant stays.
use Rattle.std.proofs.Common.{◌≡◌, ◌≢◌, ◌<◌, ◌+◌, ◌==◌, ℕ, zero, suc, Bool, true, false, List, [], ◌∷◌, length, refl, sym, ◌∙◌, ap, subst, arith, slice_set}
use Rattle.std.specs.List.{AllByRecursion}
use Rattle.std.proofs.lemmas.Bool.{eqb-true, eq-eqb}
use Rattle.std.proofs.lemmas.List.{get_or-set_same, get_or-set_other}
use Rattle.log_core.specs.Views.{View, view_of, spent_view}
use Rattle.log_core.specs.Cores.{Core}
use Rattle.log_core.proofs.Each.{each_at}
use Rattle.log_core.specs.Records.{parts_with, count_in, collected_by, collected_in, putting}

-- the core with another view at one place, other pin words, and another list of ends
abbrev pub with_view : Core → ℕ → View → List ℕ → List ℕ → Core
with_view c n w pins began = record c {
  memory = record (c.memory) { now = record (c.memory.now) { pins = pins } };
  views = slice_set c.views n w;
  began = began;
}

-- a place is another one, or not
pub same_or_other : {P : Type 0} (k n : ℕ) → (k ≡ n → P) → (k ≢ n → P) → P
same_or_other {P} k n same other = by (k == n) refl
  where
    by : (b : Bool) → (k == n) ≡ b → P
    by true e = same (eqb-true k n e)
    by false e = other (λ q. (let never : true ≡ false = sym (eq-eqb k n q) ∙ e in cc))

-- a fact of the view at each place, where one is written
pub each_set : (P : ℕ → View → Type 0) (views : List View) (n : ℕ) (w : View) → n < length views → P n w → ((k : ℕ) → k ≢ n → P k (view_of views k)) → (k : ℕ) → P k (view_of (slice_set views n w) k)
each_set P views n w here new old k = same_or_other k n
    (λ same. subst (λ (j : ℕ). P j (view_of (slice_set views n w) j)) (sym same) (subst (λ (x : View). P n x) (sym (get_or-set_same views n w spent_view here)) new))
    (λ other. subst (λ (x : View). P k x) (sym (get_or-set_other views n k w spent_view other)) (old k other))

-- how often a seat is a part, where one view is written
pub parts_moved : (views : List View) (n : ℕ) (w : View) (seat : ℕ) → n < length views → parts_with (slice_set views n w) seat + count_in (view_of views n).parts seat ≡ parts_with views seat + count_in w.parts seat
parts_moved [] n w seat here = absurd (omega (arith, here))
parts_moved (v ∷ views) zero w seat here = omega arith
parts_moved (v ∷ views) (suc n) w seat here = (let rest = parts_moved views n w seat (omega (arith, here)) in omega (arith, rest))

-- how often a generation was put in place, where one is
pub collected_moved : (views : List View) (n : ℕ) (w : View) (generation : ℕ) → n < length views →
    collected_by generation (slice_set views n w) + (collected_in generation (view_of views n).done + putting generation (view_of views n).ghost.call.put)
    ≡ collected_by generation views + (collected_in generation w.done + putting generation w.ghost.call.put)
collected_moved [] n w generation here = absurd (omega (arith, here))
collected_moved (v ∷ views) zero w generation here = omega arith
collected_moved (v ∷ views) (suc n) w generation here = (let rest = collected_moved views n w generation (omega (arith, here)) in omega (arith, rest))

-- so the parts stay where it has the same ones
pub parts_set : (views : List View) (n : ℕ) (w : View) (seat : ℕ) → w.parts ≡ (view_of views n).parts → n < length views → parts_with (slice_set views n w) seat ≡ parts_with views seat
parts_set views n w seat same here = (let moved = parts_moved views n w seat here in let count = ap (λ (parts : List ℕ). count_in parts seat) same in omega (arith, moved, count))

-- and the count of a generation, where it counts as many
pub collected_with : (views : List View) (n : ℕ) (w : View) (generation : ℕ) →
    collected_in generation w.done + putting generation w.ghost.call.put ≡ collected_in generation (view_of views n).done + putting generation (view_of views n).ghost.call.put → n < length views →
    collected_by generation (slice_set views n w) ≡ collected_by generation views
collected_with views n w generation same here = (let moved = collected_moved views n w generation here in omega (arith, moved, same))

-- so it is with the same records and the same head put
pub collected_set : (views : List View) (n : ℕ) (w : View) (generation : ℕ) → w.done ≡ (view_of views n).done → w.ghost.call.put ≡ (view_of views n).ghost.call.put → n < length views →
    collected_by generation (slice_set views n w) ≡ collected_by generation views
collected_set views n w generation done put here = collected_with views n w generation (rw (done, put) refl) here

-- a fact of each view of the list, where one is written
pub all_set : (P : View → Type 0) (views : List View) (n : ℕ) (w : View) → P w → AllByRecursion P views → AllByRecursion P (slice_set views n w)
all_set P [] n w new all = all
all_set P (v ∷ views) zero w new all = (new, all.1)
all_set P (v ∷ views) (suc n) w new all = (all.0, all_set P views n w new all.1)

pub all_at : (P : View → Type 0) (views : List View) (n : ℕ) → n < length views → AllByRecursion P views → P (view_of views n)
all_at P views n here all = each_at P views spent_view n here all
