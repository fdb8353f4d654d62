-- The order of a report as numbers that rise: each call stands at or behind the ones before it.
use Rattle.std.proofs.Common.{◌≡◌, ◌≢◌, ◌≤◌, ◌+◌, ◌==◌, ℕ, suc, Bool, true, false, not, cond, Ordering, Less, Equal, Greater, nat_lt, List, [], ◌∷◌, refl, sym, ◌∙◌, subst, arith, slice_index_or}
use Rattle.std.specs.List.{AllByRecursion}
use Rattle.std.specs.Ordering.{is_lt, nat_cmp, bool_cmp, ordering_then}
use Rattle.std.proofs.lemmas.Bool.{ltb-false, eqb-true, eq-eqb}
use Rattle.log_entry.specs.Legal.{is_write}
use Rattle.log_entry.specs.Order.{IsInOrder, place_of, place_cmp}
use Rattle.log_entry.specs.declared.calls.Call.{Call}
use Rattle.log_core.specs.Records.{one_if}
use Rattle.log_core.proofs.Each.{each_weaker}
use Rattle.log_core.proofs.clauses.JoinedParts.{one_most}

-- where a call stands: twice its position, and one more where it is no write
abbrev pub place_number : Call → ℕ
place_number call = call.position + call.position + one_if (not (is_write call.op call.reply))

-- none of the calls stands before a place
abbrev pub AllFrom : ℕ → List Call → Type 0
AllFrom place calls = AllByRecursion (λ (call : Call). place ≤ place_number call) calls

-- each call stands at or behind the ones before it
abbrev pub Rises : List Call → Type 0
Rises [] = Unit {0}
Rises (call ∷ calls) = AllFrom (place_number call) calls × Rises calls

-- how two calls compare by what position, kind, seat and number say
abbrev pub compared : (lower same : Bool) → (kinds seats numbers : Ordering) → Bool
compared lower same kinds seats numbers = is_lt (ordering_then (ordering_then (ordering_then (cond lower Less (cond same Equal Greater)) kinds) seats) numbers)

-- at one position a write stands first
kinds_behind : (first second : Bool) (seats numbers : Ordering) → compared false true (bool_cmp (not second) (not first)) seats numbers ≡ false → one_if (not first) ≤ one_if (not second)
kinds_behind true second seats numbers is = omega arith
kinds_behind false false seats numbers is = omega arith
kinds_behind false true seats numbers is = cc

-- a call that does not go before another stands at or behind it
pub behind : (first second : Bool) (position next : ℕ) (seats numbers : Ordering) →
    compared (nat_lt next position) (next == position) (bool_cmp (not second) (not first)) seats numbers ≡ false →
    position + position + one_if (not first) ≤ next + next + one_if (not second)
behind first second position next seats numbers order = by (nat_lt next position) (next == position) refl refl order
  where
    by : (lower same : Bool) → nat_lt next position ≡ lower → (next == position) ≡ same → compared lower same (bool_cmp (not second) (not first)) seats numbers ≡ false →
        position + position + one_if (not first) ≤ next + next + one_if (not second)
    by true same below e is = cc
    by false true below e is = (let at = eqb-true next position e in let rest = kinds_behind first second seats numbers is in omega (arith, at, rest))
    by false false below e is =
        (let high = ltb-false next position below in let most = one_most (not first) in let apart = apart_by e in omega (arith, apart, most, high))
      where
        apart_by : (next == position) ≡ false → next ≢ position
        apart_by e same = (let never : true ≡ false = sym (eq-eqb next position same) ∙ e in cc)

-- the rest of a list in order is in order
pub order_rest : (call : Call) (calls : List Call) → IsInOrder (call ∷ calls) → IsInOrder calls
order_rest call calls order k d low high =
    (let same : suc k + 1 ≡ suc (k + 1) = omega arith in
    subst (λ (j : ℕ). is_lt (place_cmp (place_of (slice_index_or (call ∷ calls) j d)) (place_of (slice_index_or calls k d))) ≡ false) same (order (suc k) d (omega arith) (omega (arith, high))))

all_behind : (call : Call) (calls : List Call) → IsInOrder (call ∷ calls) → Rises calls → AllFrom (place_number call) calls
all_behind call [] order rises = tt
all_behind call (next ∷ calls) order rises =
    (let first : place_number call ≤ place_number next = behind (is_write call.op call.reply) (is_write next.op next.reply) call.position next.position (nat_cmp next.seat call.seat) (nat_cmp next.number call.number) (order 0 call (omega arith) (omega arith)) in
    (first, each_weaker (λ (other : Call). place_number next ≤ place_number other) (λ (other : Call). place_number call ≤ place_number other) calls (λ other later. omega (arith, first, later)) rises.0))

pub rises_in_order : (calls : List Call) → IsInOrder calls → Rises calls
rises_in_order [] order = tt
rises_in_order (call ∷ calls) order = (let rest = rises_in_order calls (order_rest call calls order) in (all_behind call calls order rest, rest))
