-- The first rows: the just-made image, a pin, and a scan.
use Rattle.std.proofs.Common.{◌≡◌, ◌⊎◌, ◌≤◌, ℕ, zero, suc, true, refl, inl, inr, arith}
use Rattle.std.proofs.lemmas.Bool.{false≢true}
use Rattle.log_core.specs.Views.{view_of}
use Rattle.log_core.specs.Cores.{first_core, IsPinned}
use Rattle.log_core.specs.worked_rows.Samples.{image_a}
use Rattle.log_core.specs.worked_rows.Rows.{JustMade, PinsInThreeSteps, ScanSeesPins, ComesToTail}

pub just_made : JustMade
just_made = (refl, refl, refl, refl, refl, refl, refl, refl, refl, refl, refl, refl, refl, refl, refl, refl, refl, refl, refl, refl)

none_pinned : (seat : ℕ) → (view_of (first_core image_a).views seat).seat.hold.valid ≡ true → ⊥
none_pinned zero valid = false≢true valid
none_pinned (suc zero) valid = false≢true valid
none_pinned (suc (suc seat)) valid = false≢true valid

not_kept : (5 ≤ 0) ⊎ IsPinned image_a (first_core image_a).views 0 → ⊥
not_kept (inl low) = omega (arith, low)
not_kept (inr pinned) = none_pinned pinned.seat pinned.valid

pub pins_in_three_steps : PinsInThreeSteps
pins_in_three_steps = (refl, refl, refl, refl, refl, refl, refl, record { inside = omega arith; why = inr (record { seat = 0; valid = refl; same = refl }) }, λ kept. not_kept kept.why)

-- the word that a scan of two pins has next
no_other : (next : ℕ) → next ≡ 1 → (next ≡ 0) ⊎ (next ≡ 2) → ⊥
no_other next one (inl none) = omega (arith, one, none)
no_other next one (inr two) = omega (arith, one, two)

pub scan_sees_pins : ScanSeesPins
scan_sees_pins = (
  refl,
  refl,
  refl,
  record { head_fenced = refl; unpinned = refl; in_order = inr refl; inside = omega arith },
  record { head_fenced = refl; unpinned = refl; in_order = inl refl; inside = omega arith },
  λ may. no_other 1 refl may.in_order,
  λ may. omega (arith, may.inside),
  λ may. omega (arith, may.unpinned),
)

pub comes_to_tail : ComesToTail
comes_to_tail = (refl, refl, refl, refl, refl, refl)
