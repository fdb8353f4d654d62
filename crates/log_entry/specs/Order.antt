-- The order of a report: by position; at one position the write before the other calls; then by seat; then by number.
use Rattle.std.specs.Prelude.{ℕ, Bool, not, List, IsPermutation}
use Rattle.std.specs.List.Sorted.{IsSortedByKey, IsStableByKey}
use Rattle.std.specs.Ordering.{nat_cmp, bool_cmp, ordering_then}
use Rattle.std.specs.declared.cmp.Ordering.{Ordering}
use Rattle.log_entry.specs.Legal.{is_write}
use Rattle.log_entry.specs.declared.calls.Call.{Call}

-- what the order looks at, in turn
abbrev pub place_of : Call → ℕ × Bool × ℕ × ℕ
place_of call = (call.position, not (is_write call.op call.reply), call.seat, call.number)

-- the first of these that differs decides
abbrev pub place_cmp : ℕ × Bool × ℕ × ℕ → ℕ × Bool × ℕ × ℕ → Ordering
place_cmp a b = ordering_then (ordering_then (ordering_then (nat_cmp a.0 b.0) (bool_cmp a.1 b.1)) (nat_cmp a.2 b.2)) (nat_cmp a.3 b.3)

-- no call stands behind one that it goes before
abbrev pub IsInOrder : List Call → Type 0
IsInOrder calls = IsSortedByKey place_of place_cmp calls

-- the same calls, each as often, in order; calls that tie keep their order
pub record Orders (old new : List Call) : Type 0 where
  pub same_calls : IsPermutation old new
  pub in_order : IsInOrder new
  pub stable : IsStableByKey place_of place_cmp old new
