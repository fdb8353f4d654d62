-- The parts and records of two views together.
use Rattle.std.proofs.Common.{◌≡◌, ◌≢◌, ◌<◌, ◌≤◌, ◌+◌, ◌==◌, ◌||◌, nat_lt, ℕ, zero, suc, Bool, true, false, if◌then◌else◌, List, [], ◌∷◌, ◌++◌, length, refl, sym, ◌∙◌, ap, subst, arith, slice_set}
use Rattle.std.specs.List.{AllByRecursion}
use Rattle.std.proofs.lemmas.Bool.{ne_eqb}
use Rattle.std.proofs.lemmas.List.{get_or-set_other}
use Rattle.log_entry.specs.declared.calls.Call.{Call}
use Rattle.log_image.specs.Chains.{is_listed}
use Rattle.log_core.specs.Views.{View, view_of, spent_view}
use Rattle.log_core.specs.Records.{one_if, count_in, parts_with, collected_in, writes_at, NeverFall}
use Rattle.log_core.proofs.Each.{each_weaker}
use Rattle.log_core.proofs.clauses.OneView.{parts_moved}

-- counts over two lists
pub count_join : (first second : List ℕ) (seat : ℕ) → count_in (first ++ second) seat ≡ count_in first seat + count_in second seat
count_join [] second seat = omega arith
count_join (part ∷ first) second seat = (let rest = count_join first second seat in omega (arith, rest))

pub collected_join : (generation : ℕ) (first second : List Call) → collected_in generation (first ++ second) ≡ collected_in generation first + collected_in generation second
collected_join generation [] second = omega arith
collected_join generation (call ∷ first) second = (let rest = collected_join generation first second in omega (arith, rest))

pub writes_join : (position : ℕ) (first second : List Call) → writes_at position (first ++ second) ≡ writes_at position first + writes_at position second
writes_join position [] second = omega arith
writes_join position (call ∷ first) second = (let rest = writes_join position first second in omega (arith, rest))

-- a part is counted
listed_count : (parts : List ℕ) (seat : ℕ) → is_listed parts seat ≡ true → 0 < count_in parts seat
listed_count [] seat listed = cc
listed_count (part ∷ parts) seat listed = go (part == seat) listed (λ later. listed_count parts seat later)
  where
    go : (same : Bool) → (same || is_listed parts seat) ≡ true → (is_listed parts seat ≡ true → 0 < count_in parts seat) → 0 < one_if same + count_in parts seat
    go true listed rest = omega arith
    go false listed rest = (let more = rest listed in omega (arith, more))

part_below : (views : List View) (k seat : ℕ) → count_in (view_of views k).parts seat ≤ parts_with views seat
part_below [] k seat = omega arith
part_below (v ∷ views) zero seat = omega arith
part_below (v ∷ views) (suc k) seat = (let rest = part_below views k seat in omega (arith, rest))

pub one_most : (b : Bool) → one_if b ≤ 1
one_most true = omega arith
one_most false = omega arith

-- where each seat is a part of one view at most, two views have no part in common
pub parts_apart : (views : List View) (n k seat : ℕ) → n ≢ k → n < length views → parts_with views seat ≡ one_if (nat_lt seat (length views)) → is_listed (view_of views n).parts seat ≡ true → is_listed (view_of views k).parts seat ≡ true → ⊥
parts_apart views n k seat apart here once first second =
    (let moved = parts_moved views n spent_view seat here in
    let one = listed_count (view_of views n).parts seat first in
    let two = listed_count (view_of views k).parts seat second in
    let same : count_in (view_of (slice_set views n spent_view) k).parts seat ≡ count_in (view_of views k).parts seat = ap (λ (v : View). count_in v.parts seat) (get_or-set_other views n k spent_view spent_view (λ e. apart (sym e))) in
    let below = part_below (slice_set views n spent_view) k seat in
    let most = one_most (nat_lt seat (length views)) in
    omega (arith, moved, one, two, same, below, once, most))

-- of tests that are not both true, one is counted
pub one_of : (a b : Bool) → (a ≡ true → b ≡ true → ⊥) → one_if a + one_if b ≡ one_if (a || b)
one_of true true never = absurd (never refl refl)
one_of true false never = refl
one_of false b never = omega arith

-- records of other seats change nothing for a seat
others_fall : (part position number : ℕ) (calls : List Call) → AllByRecursion (λ (call : Call). call.seat ≢ part) calls → NeverFall part position number calls
others_fall part position number [] others = tt
others_fall part position number (call ∷ calls) others = (λ same. absurd (others.0 same), rw (ne_eqb call.seat part others.0) (others_fall part position number calls others.1))

others_first : (part position number : ℕ) (first second : List Call) → AllByRecursion (λ (call : Call). call.seat ≢ part) first → NeverFall part position number second → NeverFall part position number (first ++ second)
others_first part position number [] second others rest = rest
others_first part position number (call ∷ first) second others rest = (λ same. absurd (others.0 same), rw (ne_eqb call.seat part others.0) (others_first part position number first second others.1 rest))

others_last : (part position number : ℕ) (first second : List Call) → AllByRecursion (λ (call : Call). call.seat ≢ part) second → NeverFall part position number first → NeverFall part position number (first ++ second)
others_last part position number [] second others rest = others_fall part position number second others
others_last part position number (call ∷ first) second others rest = (rest.0, others_last part (if call.seat == part then call.position else position) (if call.seat == part then call.number else number) first second others rest.1)

-- so where a seat has records in one of two lists alone, they never fall in both together
pub fall_join : (part : ℕ) (first second : List Call) (mine : ℕ → Bool) (theirs : ℕ → Bool) → (mine part ≡ true → theirs part ≡ true → ⊥) →
    AllByRecursion (λ (call : Call). mine call.seat ≡ true) first → AllByRecursion (λ (call : Call). theirs call.seat ≡ true) second →
    NeverFall part 0 0 first → NeverFall part 0 0 second → NeverFall part 0 0 (first ++ second)
fall_join part first second mine theirs apart own other fall later = go (mine part) refl
  where
    none_of : (test : ℕ → Bool) (calls : List Call) → (test part ≡ true → ⊥) → AllByRecursion (λ (call : Call). test call.seat ≡ true) calls → AllByRecursion (λ (call : Call). call.seat ≢ part) calls
    none_of test calls never all = each_weaker (λ (call : Call). test call.seat ≡ true) (λ (call : Call). call.seat ≢ part) calls (λ call is same. never (subst (λ (seat : ℕ). test seat ≡ true) same is)) all

    go : (b : Bool) → mine part ≡ b → NeverFall part 0 0 (first ++ second)
    go true is = others_last part 0 0 first second (none_of theirs second (λ there. apart is there) other) fall
    go false is = others_first part 0 0 first second (none_of mine first (λ here. (let both : false ≡ true = sym is ∙ here in cc)) own) later
