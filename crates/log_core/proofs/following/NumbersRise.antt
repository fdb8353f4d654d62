-- In the order of a report each seat's calls stand in the order of their numbers, each number once.
use Rattle.std.proofs.Common.{◌≡◌, ◌≢◌, ⊎_elim, ◌<◌, ◌≤◌, ◌+◌, ◌==◌, ◌&&◌, not, cond, if◌then◌else◌, nat_lt, ℕ, Bool, true, false, List, [], ◌∷◌, Ordering, Less, Equal, Greater, refl, sym, ◌∙◌, ap, arith}
use Rattle.std.specs.List.{AllByRecursion}
use Rattle.std.specs.Ordering.{is_lt, nat_cmp, bool_cmp, ordering_then}
use Rattle.std.proofs.lemmas.Bool.{cases_lt, ltb-false, le-ltb, eqb-true, eq-eqb}
use Rattle.log_entry.specs.Legal.{is_write}
use Rattle.log_entry.specs.Order.{IsInOrder, place_of, place_cmp}
use Rattle.log_entry.specs.declared.calls.Call.{Call}
use Rattle.log_core.specs.Records.{one_if, NeverFall}
use Rattle.log_core.proofs.Each.{each_weaker}
use Rattle.log_core.proofs.following.Rising.{place_number, compared, behind, order_rest}
use Rattle.log_core.proofs.clauses.JoinedParts.{one_most}
use Rattle.log_core.proofs.following.SeatOrder.{AreInTime}

-- a call stands at or behind another: at one place by seat, and then by number
abbrev pub IsBehind : Call → Call → Type 0
IsBehind a b = (place_number a ≤ place_number b) × (place_number a ≡ place_number b → (a.seat ≤ b.seat) × (a.seat ≡ b.seat → a.number ≤ b.number))

-- what does not compare as less is no less, and where it is the same the rest decides
high_by : (a b : ℕ) (rest : Ordering) → is_lt (ordering_then (nat_cmp b a) rest) ≡ false → (a ≤ b) × (a ≡ b → is_lt rest ≡ false)
high_by a b rest order = by (nat_lt b a) (b == a) refl refl order
  where
    by : (lower same : Bool) → nat_lt b a ≡ lower → (b == a) ≡ same → is_lt (ordering_then (cond lower Less (cond same Equal Greater)) rest) ≡ false → (a ≤ b) × (a ≡ b → is_lt rest ≡ false)
    by true same low e is = cc
    by false true low e is = (ltb-false b a low, λ equal. is)
    by false false low e is = (ltb-false b a low, λ equal. (let never : true ≡ false = sym (eq-eqb b a (sym equal)) ∙ e in cc))

high : (a b : ℕ) → is_lt (nat_cmp b a) ≡ false → a ≤ b
high a b order = by (nat_lt b a) refl
  where
    by : (lower : Bool) → nat_lt b a ≡ lower → a ≤ b
    by true low = (let never : true ≡ false = sym (ap (λ (l : Bool). is_lt (cond l Less (cond (b == a) Equal Greater))) low) ∙ order in cc)
    by false low = ltb-false b a low

-- at one position and kind, seat and number decide
same_place : (first second : Bool) (position next : ℕ) (seats numbers : Ordering) → position + position + one_if (not first) ≡ next + next + one_if (not second) →
    compared (nat_lt next position) (next == position) (bool_cmp (not second) (not first)) seats numbers ≡ false → is_lt (ordering_then seats numbers) ≡ false
same_place true true position next seats numbers place order = (let at : next ≡ position = omega (arith, place) in
    sym (ap (λ (b : Bool). compared b true Equal seats numbers) (le-ltb next position (omega (arith, at)))) ∙ (sym (ap (λ (b : Bool). compared (nat_lt next position) b Equal seats numbers) (eq-eqb next position at)) ∙ order))
same_place false false position next seats numbers place order = (let at : next ≡ position = omega (arith, place) in
    sym (ap (λ (b : Bool). compared b true Equal seats numbers) (le-ltb next position (omega (arith, at)))) ∙ (sym (ap (λ (b : Bool). compared (nat_lt next position) b Equal seats numbers) (eq-eqb next position at)) ∙ order))
same_place true false position next seats numbers place order = absurd (omega (arith, place))
same_place false true position next seats numbers place order = absurd (omega (arith, place))

behind_next : (a b : Call) → is_lt (place_cmp (place_of b) (place_of a)) ≡ false → IsBehind a b
behind_next a b order = (
  behind (is_write a.op a.reply) (is_write b.op b.reply) a.position b.position (nat_cmp b.seat a.seat) (nat_cmp b.number a.number) order,
  λ place. (let rest = high_by a.seat b.seat (nat_cmp b.number a.number) (same_place (is_write a.op a.reply) (is_write b.op b.reply) a.position b.position (nat_cmp b.seat a.seat) (nat_cmp b.number a.number) place order) in
      (rest.0, λ seat. high a.number b.number (rest.1 seat))),
)

behind_all : (a b c : Call) → IsBehind a b → IsBehind b c → IsBehind a c
behind_all a b c first second = (
  (let one = first.0 in let two = second.0 in omega (arith, one, two)),
  λ place. (let one = first.0 in let two = second.0 in
      let same : place_number a ≡ place_number b = omega (arith, one, two, place) in
      let same_too : place_number b ≡ place_number c = omega (arith, one, two, place) in
      let seat = (first.1 same).0 in let seat_too = (second.1 same_too).0 in
      (omega (arith, seat, seat_too), λ seats. (let number = (first.1 same).1 (omega (arith, seat, seat_too, seats)) in let number_too = (second.1 same_too).1 (omega (arith, seat, seat_too, seats)) in omega (arith, number, number_too)))),
)

-- each call of a list in order stands behind the ones before it
abbrev pub AllBehind : List Call → Type 0
AllBehind [] = Unit {0}
AllBehind (call ∷ calls) = AllByRecursion (λ (other : Call). IsBehind call other) calls × AllBehind calls

first_behind : (call : Call) (calls : List Call) → IsInOrder (call ∷ calls) → AllBehind calls → AllByRecursion (λ (other : Call). IsBehind call other) calls
first_behind call [] order all = tt
first_behind call (next ∷ calls) order all = (let one = behind_next call next (order 0 call (omega arith) (omega arith)) in
    (one, each_weaker (λ (other : Call). IsBehind next other) (λ (other : Call). IsBehind call other) calls (λ other later. behind_all call next other one later) all.0))

pub all_in_order : (calls : List Call) → IsInOrder calls → AllBehind calls
all_in_order [] order = tt
all_in_order (call ∷ calls) order = (let rest = all_in_order calls (order_rest call calls order) in (first_behind call calls order rest, rest))

-- how often a call of a seat and a number is among calls
abbrev pub is_call : ℕ → ℕ → Call → Bool
is_call seat number call = (call.seat == seat) && (call.number == number)

abbrev pub count_calls : ℕ → ℕ → List Call → ℕ
count_calls seat number [] = 0
count_calls seat number (call ∷ calls) = one_if (is_call seat number call) + count_calls seat number calls

counted_call : (call : Call) → one_if (is_call call.seat call.number call) ≡ 1
counted_call call = ap (λ (b : Bool). one_if (b && (call.number == call.number))) (eq-eqb call.seat call.seat refl) ∙ ap one_if (eq-eqb call.number call.number refl)

-- where it is none of them, each of its seat has another number
other_numbers : (seat number : ℕ) (calls : List Call) → count_calls seat number calls ≡ 0 → AllByRecursion (λ (other : Call). other.seat ≡ seat → other.number ≢ number) calls
other_numbers seat number [] none = tt
other_numbers seat number (call ∷ calls) none = (
  λ same_seat same_number. (let is : one_if (is_call seat number call) ≡ 1 = ap (λ (b : Bool). one_if (b && (call.number == number))) (eq-eqb call.seat seat same_seat) ∙ ap one_if (eq-eqb call.number number same_number) in omega (arith, is, none)),
  other_numbers seat number calls (omega (arith, none)),
)

-- each pair of calls of one seat stands in the order of their numbers
abbrev ArePaired : Call → Call → Type 0
ArePaired a b = b.seat ≡ a.seat → (a.position ≤ b.position) × (a.number < b.number)

abbrev AllPaired : List Call → Type 0
AllPaired [] = Unit {0}
AllPaired (call ∷ calls) = AllByRecursion (λ (other : Call). ArePaired call other) calls × AllPaired calls

abbrev pub InTime : List Call → Type 0
InTime calls = AllByRecursion (λ (b : Call). AllByRecursion (λ (a : Call). AreInTime a b) calls) calls

position_high : (a b : Call) → place_number a ≤ place_number b → a.position ≤ b.position
position_high a b place = (let one = one_most (not (is_write a.op a.reply)) in let two = one_most (not (is_write b.op b.reply)) in omega (arith, place, one, two))

-- a call that its number puts before another stands at or before it
place_low : (a b : Call) → (a.position ≤ b.position) × (is_write b.op b.reply ≡ true → a.position < b.position) → place_number a ≤ place_number b
place_low a b early = go (is_write b.op b.reply) refl
  where
    go : (write : Bool) → is_write b.op b.reply ≡ write → place_number a ≤ b.position + b.position + one_if (not (is_write b.op b.reply))
    go true is = (let less = early.1 is in let most = one_most (not (is_write a.op a.reply)) in omega (arith, less, most))
    go false is = (let low = early.0 in let most = one_most (not (is_write a.op a.reply)) in let one = ap (λ (w : Bool). one_if (not w)) is in omega (arith, low, most, one))

pair : (a b : Call) → IsBehind a b → AreInTime b a → (b.seat ≡ a.seat → b.number ≢ a.number) → ArePaired a b
pair a b order time other same = (
  position_high a b order.0,
  ⊎_elim
      (λ (less : a.number < b.number). less)
      (λ (upto : b.number ≤ a.number). absurd (let apart = other same in
      let less : b.number < a.number = omega (arith, upto, apart) in
      let back = place_low b a (time same less) in let front = order.0 in
      let number = (order.1 (omega (arith, front, back))).1 (sym same) in omega (arith, number, less)))
      (cases_lt a.number b.number),
)

all_paired : (calls : List Call) → AllBehind calls → InTime calls → ((seat number : ℕ) → count_calls seat number calls ≤ 1) → AllPaired calls
all_paired [] order time once = tt
all_paired (call ∷ calls) order time once = (
  each_weaker (λ (other : Call). IsBehind call other × AreInTime other call × (other.seat ≡ call.seat → other.number ≢ call.number)) (λ (other : Call). ArePaired call other) calls (λ other parts. pair call other parts.0 parts.1 parts.2)
      (three calls order.0 time.0.1 (other_numbers call.seat call.number calls (let one = once call.seat call.number in let here = counted_call call in omega (arith, one, here)))),
  all_paired calls order.1
      (each_weaker (λ (b : Call). AllByRecursion (λ (a : Call). AreInTime a b) (call ∷ calls)) (λ (b : Call). AllByRecursion (λ (a : Call). AreInTime a b) calls) calls (λ b all. all.1) time.1)
      (λ seat number. (let one = once seat number in omega (arith, one))),
)
  where
    three : (others : List Call) → AllByRecursion (λ (other : Call). IsBehind call other) others → AllByRecursion (λ (other : Call). AreInTime other call) others → AllByRecursion (λ (other : Call). other.seat ≡ call.seat → other.number ≢ call.number) others →
        AllByRecursion (λ (other : Call). IsBehind call other × AreInTime other call × (other.seat ≡ call.seat → other.number ≢ call.number)) others
    three [] first second third = tt
    three (other ∷ others) first second third = ((first.0, second.0, third.0), three others first.1 second.1 third.1)

-- so they never fall
never_fall_from : (seat position number : ℕ) (calls : List Call) → AllPaired calls → AllByRecursion (λ (call : Call). call.seat ≡ seat → (position ≤ call.position) × (number < call.number)) calls → NeverFall seat position number calls
never_fall_from seat position number [] pairs all = tt
never_fall_from seat position number (call ∷ calls) pairs all = (
  all.0,
  by (call.seat == seat) refl
      (λ same. never_fall_from seat call.position call.number calls pairs.1 (each_weaker (λ (other : Call). ArePaired call other) (λ (other : Call). other.seat ≡ seat → (call.position ≤ other.position) × (call.number < other.number)) calls
      (λ other paired is. paired (is ∙ sym same)) pairs.0))
      (never_fall_from seat position number calls pairs.1 all.1),
)
  where
    by : (same : Bool) → (call.seat == seat) ≡ same → (call.seat ≡ seat → NeverFall seat call.position call.number calls) → NeverFall seat position number calls →
        NeverFall seat (if same then call.position else position) (if same then call.number else number) calls
    by true e mine others = mine (eqb-true call.seat seat e)
    by false e mine others = others

pub never_fall_in_order : (seat : ℕ) (calls : List Call) → IsInOrder calls → InTime calls → ((of number : ℕ) → count_calls of number calls ≤ 1) → AllByRecursion (λ (call : Call). 0 < call.number) calls → NeverFall seat 0 0 calls
never_fall_in_order seat calls order time once some = never_fall_from seat 0 0 calls (all_paired calls (all_in_order calls order) time once)
    (each_weaker (λ (call : Call). 0 < call.number) (λ (call : Call). call.seat ≡ seat → (0 ≤ call.position) × (0 < call.number)) calls (λ call positive same. (omega arith, positive)) some)
