-- What a crash may leave of one word.
use Rattle.std.specs.Prelude.{ℕ, ◌<◌, ◌≤◌, ◌≡◌, length, slice_index}
use Rattle.persistence.specs.Memory.{Cell}

-- no value but this one is possible
pub record IsCertain (c : Cell) (value : ℕ) : Type 0 where
  pub present : c.present ≡ value
  pub before : (k : ℕ) → c.floor ≤ k → k < length c.past → slice_index c.past k ≡ value

-- this value is the present one, and each other that is possible is 0: a slot or a link, in use or empty
pub record IsGrowing (c : Cell) (value : ℕ) : Type 0 where
  pub present : c.present ≡ value
  pub before : (k : ℕ) → c.floor ≤ k → k < length c.past → slice_index c.past k ≡ 0
