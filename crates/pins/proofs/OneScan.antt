-- Pin words have one answer to a scan.
use Rattle.std.proofs.Common.{ℕ, ◌≡◌, ◌<◌, ◌≤◌, ◌⊎◌, inl, inr, List, slice_index, refl, sym, ap, ◌∙◌, arith}
use Rattle.std.proofs.lemmas.Bool.{cases_order}
use Rattle.log_entry.specs.declared.calls.Held.{Held}
use Rattle.pins.specs.declared.scan.Scanned.{Scanned}
use Rattle.pins.specs.declared.scan.Scanned.TheVariants.{Clear, Held as HeldBy}
use Rattle.pins.specs.Endings.{NeedsNone, IsHeld, IsScan}

not_free : (generation word value : ℕ) → word ≡ value → 0 < value → value ≤ generation → NeedsNone generation word → ⊥
not_free generation word value same some most (inl zero_is) = omega arith
not_free generation word value same some most (inr greater) = omega arith

module _ (generation seats : ℕ) (words : List ℕ) where
  held_not_free : (held : Held) → IsHeld generation seats words held → NeedsNone generation (slice_index words held.seat) → ⊥
  held_not_free held is free = not_free generation (slice_index words held.seat) held.generation is.word is.some is.most free

  one_held : (a b : Held) → IsHeld generation seats words a → IsHeld generation seats words b → (a.seat ≡ b.seat) ⊎ ((a.seat < b.seat) ⊎ (b.seat < a.seat)) → a ≡ b
  one_held a b is also (inl same) =
      let generations : a.generation ≡ b.generation = sym is.word ∙ ap (slice_index words) same ∙ also.word in
      λ i. record { seat = same i; generation = generations i }
  one_held a b is also (inr (inl before)) = absurd (held_not_free a is (also.before a.seat before))
  one_held a b is also (inr (inr after)) = absurd (held_not_free b also (is.before b.seat after))

  pub one_scan : (a b : Scanned) → IsScan generation seats words a → IsScan generation seats words b → a ≡ b
  one_scan Clear Clear is also = refl
  one_scan Clear (HeldBy held) is also = absurd (held_not_free held also (is held.seat also.seat))
  one_scan (HeldBy held) Clear is also = absurd (held_not_free held is (also held.seat is.seat))
  one_scan (HeldBy a) (HeldBy b) is also = ap HeldBy (one_held a b is also (cases_order a.seat b.seat))
