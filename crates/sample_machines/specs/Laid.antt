-- Bytes that stand in words.
use Rattle.std.specs.Prelude.{ℕ, ◌≡◌, ◌+◌, ◌-◌, ◌&&◌, nat_le, nat_lt, if◌then◌else◌, List, length, slice_index}

-- the first n of these bytes stand in the words from `first` on, and all other words are as before
pub record IsLaid (first n : ℕ) (bytes before after : List ℕ) : Type 0 where
  pub same_length : length after ≡ length before
  pub each : (v : ℕ) → slice_index after v ≡ (if nat_le first v && nat_lt v (first + n) then slice_index bytes (v - first) else slice_index before v)
