-- Each seat and number is that of one call at most, of all that are recorded and the quiet ones.
use Rattle.std.proofs.Common.{◌≡◌, ◌≢◌, ◌⊎◌, inl, inr, ⊎_elim, ◌<◌, ◌≤◌, ◌+◌, ◌==◌, ◌&&◌, if◌then◌else◌, nat_lt, ℕ, Bool, true, false, List, [], ◌∷◌, ◌++◌, length, refl, sym, ◌∙◌, subst, arith}
use Rattle.std.specs.List.{AllByRecursion, flat_map}
use Rattle.std.proofs.lemmas.Bool.{false≢true, and_parts, eqb-true, eq-eqb, ne_eqb}
use Rattle.log_entry.specs.declared.calls.Call.{Call}
use Rattle.log_image.specs.Chains.{is_listed}
use Rattle.log_core.specs.Views.{View}
use Rattle.log_core.specs.Origin.{Origin}
use Rattle.log_core.specs.Cores.{Core}
use Rattle.log_core.specs.Steps.{Step}
use Rattle.log_core.specs.Records.{one_if, NeverFall, count_in, parts_with}
use Rattle.log_core.specs.Invariant.{Invariant}
use Rattle.log_core.specs.Histories.{recorded_calls, IsQuietCall, AreQuiet}
use Rattle.log_core.proofs.Each.{each_weaker, each_both}
use Rattle.log_core.proofs.clauses.GrownRecords.{count_some}
use Rattle.log_core.proofs.clauses.JoinedParts.{one_most}
use Rattle.log_core.proofs.following.RecordedCalls.{each_view}
use Rattle.log_core.proofs.following.NumbersRise.{is_call, count_calls}

pub count_join : (seat number : ℕ) (first second : List Call) → count_calls seat number (first ++ second) ≡ count_calls seat number first + count_calls seat number second
count_join seat number [] second = omega arith
count_join seat number (call ∷ first) second = (let rest = count_join seat number first second in omega (arith, rest))

-- a call of the seat and number is neither, or it is both
not_call : (seat number : ℕ) (call : Call) → (call.seat ≡ seat → call.number ≢ number) → one_if (is_call seat number call) ≡ 0
not_call seat number call other = go (call.seat == seat) (call.number == number) refl refl
  where
    go : (one two : Bool) → (call.seat == seat) ≡ one → (call.number == number) ≡ two → one_if (one && two) ≡ 0
    go true true a b = absurd (other (eqb-true call.seat seat a) (eqb-true call.number number b))
    go true false a b = refl
    go false two a b = refl

pub none_counted : (seat number : ℕ) (calls : List Call) → AllByRecursion (λ (call : Call). call.seat ≡ seat → call.number ≢ number) calls → count_calls seat number calls ≡ 0
none_counted seat number [] all = refl
none_counted seat number (call ∷ calls) all = (let here = not_call seat number call all.0 in let rest = none_counted seat number calls all.1 in omega (arith, here, rest))

-- of numbers that rise each is there once at most, and none up to where they begin
fall_count : (seat number position from : ℕ) (calls : List Call) → NeverFall seat position from calls → (number ≤ from → count_calls seat number calls ≡ 0) × (count_calls seat number calls ≤ 1)
fall_count seat number position from [] fall = (λ low. refl, omega arith)
fall_count seat number position from (call ∷ calls) fall = by (call.seat == seat) refl fall.1 (λ place next. fall_count seat number place next calls)
  where
    by : (same : Bool) → (call.seat == seat) ≡ same → NeverFall seat (if same then call.position else position) (if same then call.number else from) calls →
        ((place next : ℕ) → NeverFall seat place next calls → (number ≤ next → count_calls seat number calls ≡ 0) × (count_calls seat number calls ≤ 1)) →
        (number ≤ from → one_if (is_call seat number call) + count_calls seat number calls ≡ 0) × (one_if (is_call seat number call) + count_calls seat number calls ≤ 1)
    by false e later rest = (let there = rest position from later in
        let none = not_call seat number call (λ same. (let never : true ≡ false = sym (eq-eqb call.seat seat same) ∙ e in cc)) in
        (λ low. (let zero_of = there.0 low in omega (arith, zero_of, none)), (let most = there.1 in omega (arith, most, none))))
    by true e later rest = (let there = rest call.position call.number later in
        let rises = (fall.0 (eqb-true call.seat seat e)).1 in
        let most = one_most (is_call seat number call) in (
          λ low. (let none = not_call seat number call (λ same is. omega (arith, is, rises, low)) in let zero_of = there.0 (omega (arith, rises, low)) in omega (arith, none, zero_of)),
          ⊎_elim (λ (upto : number ≤ call.number). (let zero_of = there.0 upto in omega (arith, zero_of, most)))
              (λ (past : call.number < number). (let none = not_call seat number call (λ same is. omega (arith, is, past)) in let one = there.1 in omega (arith, none, one)))
              (cases number call.number),
        ))
      where
        cases : (a b : ℕ) → (a ≤ b) ⊎ (b < a)
        cases a b = ⊎_elim (λ less. inr less) (λ upto. inl upto) (Rattle.std.proofs.lemmas.Bool.cases_lt b a)

-- so they are all above it
fall_each : (seat position from : ℕ) (calls : List Call) → NeverFall seat position from calls → AllByRecursion (λ (call : Call). call.seat ≡ seat → from < call.number) calls
fall_each seat position from [] fall = tt
fall_each seat position from (call ∷ calls) fall = (λ same. (fall.0 same).1, by (call.seat == seat) refl fall.1 (λ place next. fall_each seat place next calls))
  where
    by : (same : Bool) → (call.seat == seat) ≡ same → NeverFall seat (if same then call.position else position) (if same then call.number else from) calls →
        ((place next : ℕ) → NeverFall seat place next calls → AllByRecursion (λ (other : Call). other.seat ≡ seat → next < other.number) calls) → AllByRecursion (λ (other : Call). other.seat ≡ seat → from < other.number) calls
    by false e later rest = rest position from later
    by true e later rest = each_weaker (λ (other : Call). other.seat ≡ seat → call.number < other.number) (λ (other : Call). other.seat ≡ seat → from < other.number) calls
        (λ other above same. (let more = above same in let rises = (fall.0 (eqb-true call.seat seat e)).1 in omega (arith, more, rises))) (rest call.position call.number later)

-- what holds of each seat's calls holds of all
each_seat : (P : Call → Type 0) (calls : List Call) → ((seat : ℕ) → AllByRecursion (λ (call : Call). call.seat ≡ seat → P call) calls) → AllByRecursion P calls
each_seat P [] all = tt
each_seat P (call ∷ calls) all = ((all call.seat).0 refl, each_seat P calls (λ seat. (all seat).1))

pub positive_numbers : (calls : List Call) → ((seat : ℕ) → NeverFall seat 0 0 calls) → AllByRecursion (λ (call : Call). 0 < call.number) calls
positive_numbers calls fall = each_seat (λ (call : Call). 0 < call.number) calls (λ seat. fall_each seat 0 0 calls (fall seat))

-- in some calls of all views a seat and number is counted as often as the seat is a part at most
pub count_over : (seat number : ℕ) (calls : View → List Call) (views : List View) → AllByRecursion (λ (v : View). count_calls seat number (calls v) ≤ count_in v.parts seat) views →
    count_calls seat number (flat_map calls views) ≤ parts_with views seat
count_over seat number calls [] all = omega arith
count_over seat number calls (v ∷ views) all =
    (let both = count_join seat number (calls v) (flat_map calls views) in let rest = count_over seat number calls views all.1 in let here = all.0 in omega (arith, both, rest, here))

count_in_view : (seat number : ℕ) (v : View) → AllByRecursion (λ (call : Call). is_listed v.parts call.seat ≡ true) v.done → NeverFall seat 0 0 v.done → count_calls seat number v.done ≤ count_in v.parts seat
count_in_view seat number v own fall = by (is_listed v.parts seat) refl
  where
    by : (listed : Bool) → is_listed v.parts seat ≡ listed → count_calls seat number v.done ≤ count_in v.parts seat
    by true is = (let some = count_some v.parts seat is in let most = (fall_count seat number 0 0 v.done fall).1 in omega (arith, some, most))
    by false is = (let none = none_counted seat number v.done (each_weaker (λ (call : Call). is_listed v.parts call.seat ≡ true) (λ (call : Call). call.seat ≡ seat → call.number ≢ number) v.done
        (λ call mine same. absurd (false≢true (sym is ∙ subst (λ (j : ℕ). is_listed v.parts j ≡ true) same mine))) own) in omega (arith, none))

pub records_counted : (o : Origin) (c : Core) → Invariant o c → (seat number : ℕ) → count_calls seat number (recorded_calls c.views) ≤ 1
records_counted o c inv seat number =
    (let over = count_over seat number (λ (v : View). v.done) c.views
    (each_weaker (λ (v : View). AllByRecursion (λ (call : Call). is_listed v.parts call.seat ≡ true) v.done × NeverFall seat 0 0 v.done) (λ (v : View). count_calls seat number v.done ≤ count_in v.parts seat) c.views
    (λ v both. count_in_view seat number v both.0 both.1)
    (each_both (λ (v : View). AllByRecursion (λ (call : Call). is_listed v.parts call.seat ≡ true) v.done) (λ (v : View). NeverFall seat 0 0 v.done) c.views inv.records.seats_once.records
    (each_view (λ (v : View). NeverFall seat 0 0 v.done) c.views (λ k. inv.records.never_fall k seat)))) in
    let once = inv.records.seats_once.once seat in
    let most = one_most (nat_lt seat (length c.views)) in omega (arith, over, once, most))

module _ (o : Origin) (c : Core) where
  quiet_counted : (steps : List Step) (calls : List Call) → AreQuiet o c steps calls → (seat number : ℕ) → count_calls seat number calls ≤ 1
  quiet_counted steps [] are seat number = omega arith
  quiet_counted steps (call ∷ calls) are seat number = by (call.seat == seat) (call.number == number) refl refl (quiet_counted are.0.earlier calls are.2 seat number)
    where
      by : (one two : Bool) → (call.seat == seat) ≡ one → (call.number == number) ≡ two → count_calls seat number calls ≤ 1 → one_if (one && two) + count_calls seat number calls ≤ 1
      by true true a b rest = (let seat_is = eqb-true call.seat seat a in let number_is = eqb-true call.number number b in
          let none = none_counted seat number calls (each_weaker (λ (other : Call). other.seat ≡ call.seat → other.number < call.number) (λ (other : Call). other.seat ≡ seat → other.number ≢ number) calls
          (λ other less same is. (let low = less (same ∙ sym seat_is) in omega (arith, low, is, number_is))) are.1) in omega (arith, none))
      by true false a b rest = omega (arith, rest)
      by false two a b rest = omega (arith, rest)

  -- no quiet call has the seat and number of one that has steps
  apart_counted : (steps : List Step) (calls : List Call) → AllByRecursion (IsQuietCall o steps c) calls → (seat number : ℕ) → (count_calls seat number calls ≡ 0) ⊎ (count_calls seat number (recorded_calls c.views) ≡ 0)
  apart_counted steps [] are seat number = inl refl
  apart_counted steps (call ∷ calls) are seat number = by (call.seat == seat) (call.number == number) refl refl (apart_counted steps calls are.1 seat number)
    where
      by : (one two : Bool) → (call.seat == seat) ≡ one → (call.number == number) ≡ two → (count_calls seat number calls ≡ 0) ⊎ (count_calls seat number (recorded_calls c.views) ≡ 0) →
          (one_if (one && two) + count_calls seat number calls ≡ 0) ⊎ (count_calls seat number (recorded_calls c.views) ≡ 0)
      by true true a b rest = (let seat_is = eqb-true call.seat seat a in let number_is = eqb-true call.number number b in let after = are.0.made.after in
          inr (none_counted seat number (recorded_calls c.views) (each_weaker _ (λ (other : Call). other.seat ≡ seat → other.number ≢ number) (recorded_calls c.views)
          (λ other either same is. ⊎_elim (λ low. omega (arith, low, after, is, number_is)) (λ high. omega (arith, high, is, number_is)) (either (same ∙ sym seat_is))) are.0.made.before)))
      by true false a b rest = ⊎_elim (λ none. inl (omega (arith, none))) (λ none. inr none) rest
      by false two a b rest = ⊎_elim (λ none. inl (omega (arith, none))) (λ none. inr none) rest

  pub all_counted : (inv : Invariant o c) (steps : List Step) (calls : List Call) → AreQuiet o c steps calls → AllByRecursion (IsQuietCall o steps c) calls → (seat number : ℕ) → count_calls seat number (recorded_calls c.views ++ calls) ≤ 1
  all_counted inv steps calls are each seat number =
      (let both = count_join seat number (recorded_calls c.views) calls in
      let one = records_counted o c inv seat number in
      let other = quiet_counted steps calls are seat number in
      ⊎_elim (λ none. omega (arith, both, one, none)) (λ none. omega (arith, both, other, none)) (apart_counted steps calls each seat number))
