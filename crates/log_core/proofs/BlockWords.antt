-- The words of a block: 8, 64 or 512.
use Rattle.std.proofs.Common.{ℕ, ◌≡◌, ◌*◌, ◌<◌, ◌≤◌, ◌/◌, ◌==◌, ◌||◌, ◌^◌, Bool, true, false, refl, arith}
use Rattle.std.proofs.lemmas.Bool.{eqb-true}
use Rattle.std.proofs.Math.Nat.{mul-le-mul}
use Rattle.log_entry.specs.declared.shapes.Geometry.{Geometry}
use Rattle.pmem_words.specs.Seats.{q_of}

of_bytes : (bytes : ℕ) (a b c : Bool) → (bytes == 64) ≡ a → (bytes == 512) ≡ b → (bytes == 4096) ≡ c → (a || b || c) ≡ true → (8 ≤ bytes / 8) × (bytes / 8 ≤ 512)
of_bytes bytes true b c e f g all = (let same : bytes ≡ 64 = eqb-true bytes 64 e in (omega (arith, same), omega (arith, same)))
of_bytes bytes false true c e f g all = (let same : bytes ≡ 512 = eqb-true bytes 512 f in (omega (arith, same), omega (arith, same)))
of_bytes bytes false false true e f g all = (let same : bytes ≡ 4096 = eqb-true bytes 4096 g in (omega (arith, same), omega (arith, same)))
of_bytes bytes false false false e f g all = cc

pub q_range : (g : Geometry) → (8 ≤ q_of g) × (q_of g ≤ 512)
q_range g = of_bytes g.block_bytes (g.block_bytes == 64) (g.block_bytes == 512) (g.block_bytes == 4096) refl refl refl g.block_allowed

-- the words of a block's place in the image are few
pub few_words : (block q : ℕ) → block < 2 ^ 16 → q ≤ 512 → block * q ≤ 65535 * 512
few_words block q few short = (let most : block ≤ 65535 = omega (arith, few) in mul-le-mul most short)
