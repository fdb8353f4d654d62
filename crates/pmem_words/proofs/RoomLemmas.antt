-- The blocks that a seat may own are few.
use Rattle.std.proofs.Common.{ℕ, ◌≡◌, ◌+◌, ◌*◌, ◌<◌, ◌≤◌, ◌^◌, min, arith}
use Rattle.log_entry.specs.Shape.{snapshot_blocks_of, longest_of}
use Rattle.log_entry.specs.declared.shapes.Geometry.{Geometry}

few : (snapshots a b : ℕ) → 1 + a + b + (2 * (snapshots + 1) + 16) ≤ 65535 → snapshots ≤ 32758
few snapshots a b all = omega arith

short : (blocks : ℕ) → min blocks 256 ≤ 256
short blocks = omega arith

small : (a b longest snapshots : ℕ) → longest ≤ 256 → snapshots ≤ 32758 → a ≡ longest → b ≡ snapshots → a + b + 4 < 2 ^ 32
small a b longest snapshots short few p q = omega arith

pub room_fits : (g : Geometry) (a b : ℕ) → a ≡ longest_of g.block_bytes → b ≡ snapshot_blocks_of g.data_blocks g.block_bytes → a + b + 4 < 2 ^ 32
room_fits g a b p q = small a b _ _ (short _) (few _ _ _ g.few_blocks) p q

pub sum_fits : (g : Geometry) (a b : ℕ) → a ≡ longest_of g.block_bytes → b ≡ snapshot_blocks_of g.data_blocks g.block_bytes → a + b < 2 ^ 32
sum_fits g a b p q = let fits : a + b + 4 < 2 ^ 32 = room_fits g a b p q in omega arith
