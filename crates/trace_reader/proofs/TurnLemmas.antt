-- The turns of seats: a division one further, and the operations of the turns.
use Rattle.std.specs.Prelude.{if◌then◌else◌}
use Rattle.std.proofs.Common.{◌≡◌, ℕ, suc, ◌+◌, ◌*◌, ◌/◌, ◌%◌, ◌<◌, ◌⊎◌, Bool, true, false, inl, inr, refl, sym, ap, subst, ◌∙◌, add-one, arith}
use Rattle.std.proofs.Math.Nat.{suc-mul, mul-add-mod_self_right, mod-eq_of_lt, zero-mod}
use Rattle.std.proofs.lemmas.Bool.{cases_lt}
use Rattle.std.proofs.lemmas.Nat.{div-add-mod', div-mul-add, mod_below}
use Rattle.log_entry.specs.declared.calls.Op.{Op}
use Rattle.log_entry.specs.declared.calls.Op.TheVariants.{Size, Sync, Collect}

-- the next number has the next remainder, or begins with none
abbrev pub StepsOn : ℕ → ℕ → Type 0
StepsOn n d = (((n + 1) % d ≡ n % d + 1) × ((n + 1) / d ≡ n / d) × (n % d + 1 < d)) ⊎ (((n + 1) % d ≡ 0) × ((n + 1) / d ≡ n / d + 1) × (n % d + 1 ≡ d))

steps_at : (n d q r : ℕ) → q ≡ n / d → r ≡ n % d → 0 < d → r < d → n ≡ q * d + r → StepsOn n d
steps_at n d q r q_is r_is some below whole = elim (cases_lt (r + 1) d) [
  | inl less ↦
      let next : n + 1 ≡ q * d + (r + 1) = omega (arith, whole) in
      inl (
        ap (λ (k : ℕ). k % d) next ∙ mul-add-mod_self_right q d (r + 1) ∙ mod-eq_of_lt less ∙ ap (λ (k : ℕ). k + 1) r_is,
        ap (λ (k : ℕ). k / d) next ∙ div-mul-add q d (r + 1) less ∙ q_is,
        subst (λ (k : ℕ). k + 1 < d) r_is less,
      )
  | inr full ↦
      let all : r + 1 ≡ d = omega arith in
      let product : suc q * d ≡ q * d + d = suc-mul q d in
      let next : n + 1 ≡ suc q * d + 0 = omega (arith, whole, product) in
      inr (
        ap (λ (k : ℕ). k % d) next ∙ mul-add-mod_self_right (suc q) d 0 ∙ zero-mod d,
        ap (λ (k : ℕ). k / d) next ∙ div-mul-add (suc q) d 0 some ∙ sym (add-one q) ∙ ap (λ (k : ℕ). k + 1) q_is,
        subst (λ (k : ℕ). k + 1 ≡ d) r_is all,
      )
]

pub steps_on : (n d : ℕ) → 0 < d → StepsOn n d
steps_on n d some = steps_at n d (n / d) (n % d) refl refl some (mod_below n d some) (sym (div-add-mod' n d))

-- an operation with this of each branch
abbrev pub ByTurn : (Op → Type 0) → Bool → Bool → Bool → Bool → Bool → Bool → Op → Op → Op → Type 0
ByTurn P write adds reads plain syncs collects w a r =
    P (if write then w else if adds then a else if reads then r else if plain then (if syncs then Sync else Size) else (if collects then Collect else Size))

pub by_turn : (P : Op → Type 0) (write adds reads plain syncs collects : Bool) (w a r : Op) → P w → P a → P r → P Sync → P Size → P Collect → ByTurn P write adds reads plain syncs collects w a r
by_turn P true adds reads plain syncs collects w a r pw pa pr ps pz pc = pw
by_turn P false true reads plain syncs collects w a r pw pa pr ps pz pc = pa
by_turn P false false true plain syncs collects w a r pw pa pr ps pz pc = pr
by_turn P false false false true true collects w a r pw pa pr ps pz pc = ps
by_turn P false false false true false collects w a r pw pa pr ps pz pc = pz
by_turn P false false false false syncs true w a r pw pa pr ps pz pc = pc
by_turn P false false false false syncs false w a r pw pa pr ps pz pc = pz
