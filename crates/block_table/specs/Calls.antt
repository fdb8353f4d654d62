-- What a list of calls, first call first, makes of a table.
use Rattle.std.specs.Prelude.{◌≡◌, ℕ, ◌+◌, ◌-◌, max, if◌then◌else◌, true, false, List, [], ◌∷◌, ◌++◌, reverse, All, Option, None, Some}
use Rattle.block_table.specs.FileMap.{FileMap, block_at, is_in_range}

-- a call that changes a table, with its arguments
pub data TableCall : Type 0 where
  Reset : (size : ℕ) → TableCall
  Apply : (virt block count : ℕ) → TableCall
  Grow : (end : ℕ) → TableCall

-- by calls from the latest back: the last apply since the last reset that names v holds it, and without one v is unmapped
abbrev pub latest_block : List TableCall → ℕ → Option ℕ
latest_block [] v = None
latest_block (Reset size ∷ before) v = None
latest_block (Apply virt block count ∷ before) v = if is_in_range virt count v then Some (block + (v - virt)) else latest_block before v
latest_block (Grow end ∷ before) v = latest_block before v

-- by calls from the latest back: the largest of the last reset's size and the ends of the grows since then
abbrev pub latest_size : List TableCall → ℕ
latest_size [] = 0
latest_size (Reset size ∷ before) = size
latest_size (Apply virt block count ∷ before) = latest_size before
latest_size (Grow end ∷ before) = max (latest_size before) end

-- the physical block that holds v after these calls
abbrev pub block_after_calls : List TableCall → ℕ → Option ℕ
block_after_calls calls v = latest_block (reverse calls) v

-- the file's size in bytes after these calls
abbrev pub size_after_calls : List TableCall → ℕ
size_after_calls calls = latest_size (reverse calls)

-- the map and the size are those that these calls on a new table give
pub record IsTableOf (calls : List TableCall) (map : FileMap) : Type 0 where
  pub size : map.size ≡ size_after_calls calls
  pub blocks : (v : ℕ) → block_at map v ≡ block_after_calls calls v

-- a call that leaves v as it is: a grow, or an apply that does not name v
abbrev pub LeavesAlone : ℕ → TableCall → Type 0
LeavesAlone v (Reset size) = ⊥
LeavesAlone v (Apply virt block count) = is_in_range virt count v ≡ false
LeavesAlone v (Grow end) = Unit {0}

-- one of these calls is an apply that maps v to this block, and each call since then leaves v alone
pub record IsHeldSince (calls : List TableCall) (v held : ℕ) : Type 0 where
  pub before : List TableCall
  pub virt : ℕ
  pub block : ℕ
  pub count : ℕ
  pub since : List TableCall
  pub in_order : calls ≡ before ++ Apply virt block count ∷ since
  pub named : is_in_range virt count v ≡ true
  pub maps : held ≡ block + (v - virt)
  pub alone : All (LeavesAlone v) since
