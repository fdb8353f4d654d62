-- What a crash may leave of the worked memory, and what it never leaves.
use Rattle.std.proofs.Common.{◌≡◌, ℕ, zero, suc, ◌<◌, ◌≤◌, [], ◌∷◌, slice_index, refl, subst, arith}
use Rattle.persistence.specs.Memory.{cell}
use Rattle.persistence.specs.Survivors.{Survives, IsPossible}
use Rattle.persistence.specs.Rows.{mixed}

each_left : (word : ℕ) → word < 3 → IsPossible (cell mixed word) (slice_index (11 ∷ 21 ∷ 30 ∷ []) word)
each_left zero below = record { index = 1; above = omega arith; inside = omega arith; same = refl }
each_left (suc zero) below = record { index = 1; above = omega arith; inside = omega arith; same = refl }
each_left (suc (suc zero)) below = record { index = 0; above = omega arith; inside = omega arith; same = refl }
each_left (suc (suc (suc word))) below = absurd (omega (arith, below))

pub left_at : Survives mixed (11 ∷ 21 ∷ 30 ∷ [])
left_at = record { same_length = refl; each = each_left }

-- word 0 has 10, 11 and 12, and its floor is at 11
before_floor : (index : ℕ) → 1 ≤ index → index ≤ 2 → slice_index (10 ∷ 11 ∷ 12 ∷ []) index ≡ 10 → ⊥
before_floor zero above inside is = omega (arith, above)
before_floor (suc zero) above inside is = omega (arith, is)
before_floor (suc (suc zero)) above inside is = omega (arith, is)
before_floor (suc (suc (suc index))) above inside is = omega (arith, inside)

pub not_before : Survives mixed (10 ∷ 22 ∷ 30 ∷ []) → ⊥
not_before left = let h : IsPossible (cell mixed 0) 10 = left.each 0 (omega arith) in before_floor h.index h.above h.inside h.same

-- word 2 has 30 alone
never_held : (index : ℕ) → index ≤ 0 → slice_index (30 ∷ []) index ≡ 31 → ⊥
never_held index inside is =
    let only : index ≡ 0 = omega (arith, inside) in
    let same : 30 ≡ 31 = subst (λ (k : ℕ). slice_index (30 ∷ []) k ≡ 31) only is in
    omega (arith, same)

pub not_other : Survives mixed (12 ∷ 22 ∷ 31 ∷ []) → ⊥
not_other left = let h : IsPossible (cell mixed 2) 31 = left.each 2 (omega arith) in never_held h.index h.inside h.same

pub not_shorter : Survives mixed (12 ∷ 22 ∷ []) → ⊥
not_shorter left = omega (arith, left.same_length)
