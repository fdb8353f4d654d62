-- How many words as many blocks have.
use Rattle.std.proofs.Common.{ℕ, ◌≡◌, ◌+◌, ◌*◌, ◌<◌, ◌≤◌, arith}
use Rattle.std.proofs.Math.Nat.{mul-le-mul_right}

-- one block left out of a list of blocks of q words
pub left_out : (k n m q a b : ℕ) → k < n → m + 1 ≡ n → a ≡ n * q → (k * q + q ≤ a → b + q ≡ a) → b ≡ m * q
left_out k n m q a b below less all cut =
    let most : k ≤ m = omega arith in
    let grown : k * q ≤ m * q = mul-le-mul_right q most in
    let whole : a ≡ m * q + q = rw (all, ← less) (omega arith) in
    let rest : b + q ≡ a = cut (omega arith) in
    omega arith
