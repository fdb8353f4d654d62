-- The greatest position of calls.
use Rattle.std.proofs.Common.{◌≤◌, max, ℕ, List, [], ◌∷◌, ◌++◌, arith}
use Rattle.std.specs.List.{AllByRecursion}
use Rattle.log_entry.specs.declared.calls.Call.{Call}
use Rattle.log_core.specs.Histories.{greatest_position}

-- it is no less than the first one
pub greatest_low : (position : ℕ) (calls : List Call) → position ≤ greatest_position position calls
greatest_low position [] = omega arith
greatest_low position (call ∷ calls) = (let rest = greatest_low (max position call.position) calls in omega (arith, rest))

-- nor than any
pub greatest_each : (position : ℕ) (calls : List Call) → AllByRecursion (λ (call : Call). call.position ≤ greatest_position position calls) calls
greatest_each position [] = tt
greatest_each position (call ∷ calls) = ((let rest = greatest_low (max position call.position) calls in omega (arith, rest)), greatest_each (max position call.position) calls)

-- nor does it fall with more calls
pub greatest_more : (position : ℕ) (calls others : List Call) → greatest_position position calls ≤ greatest_position position (calls ++ others)
greatest_more position [] others = greatest_low position others
greatest_more position (call ∷ calls) others = greatest_more (max position call.position) calls others

-- and it is no more than a bound of all
pub greatest_high : (position most : ℕ) (calls : List Call) → position ≤ most → AllByRecursion (λ (call : Call). call.position ≤ most) calls → greatest_position position calls ≤ most
greatest_high position most [] low all = low
greatest_high position most (call ∷ calls) low all = greatest_high (max position call.position) most calls (let here = all.0 in omega (arith, low, here)) all.1
