-- The used slots of a log block.
use Rattle.std.proofs.Common.{◌≡◌, ◌≢◌, ◌⊎◌, ℕ, zero, suc, ◌+◌, ◌<◌, ◌≤◌, ◌==◌, Bool, true, false, List, [], ◌∷◌, length, get_or, refl, sym, ap, ◌∙◌, arith, inl, inr}
use Rattle.std.proofs.lemmas.Bool.{false≢true, true≢false, eqb-true, eqb-false}
use Rattle.log_image.specs.Blocks.{entry_words, is_closed}
use Rattle.log_image.specs.Format.{is_seal_last}
use Rattle.log_core.specs.Origin.{used_slots}
use Rattle.log_core.specs.Cores.{is_sealed}

-- a slot is empty, a seal, or neither
abbrev Cases : ℕ → Type 0
Cases slot = ((slot == 0) ≡ true) ⊎ ((((slot == 0) ≡ false) × ((slot == 3) ≡ true)) ⊎ (((slot == 0) ≡ false) × ((slot == 3) ≡ false)))

cases : (slot : ℕ) → Cases slot
cases slot = go (slot == 0) (slot == 3) refl refl
  where
    go : (empty seal : Bool) → (slot == 0) ≡ empty → (slot == 3) ≡ seal → Cases slot
    go true seal is also = inl is
    go false true is also = inr (inl (is, also))
    go false false is also = inr (inr (is, also))

-- they have the same entries
pub used_entries : (slots : List ℕ) → entry_words (used_slots slots) ≡ entry_words slots
used_entries [] = refl
used_entries (slot ∷ slots) = go (cases slot) (used_entries slots)
  where
    go : Cases slot → entry_words (used_slots slots) ≡ entry_words slots → entry_words (used_slots (slot ∷ slots)) ≡ entry_words (slot ∷ slots)
    go (inl empty) rest = rw empty refl
    go (inr (inl seal)) rest = rw (seal.0, seal.1, seal.0, seal.1) refl
    go (inr (inr entry)) rest = rw (entry.0, entry.1, entry.0, entry.1, rest) refl

pub used_short : (slots : List ℕ) → length (used_slots slots) ≤ length slots
used_short [] = omega arith
used_short (slot ∷ slots) = go (cases slot) (used_short slots)
  where
    go : Cases slot → length (used_slots slots) ≤ length slots → length (used_slots (slot ∷ slots)) ≤ suc (length slots)
    go (inl empty) rest = rw empty (omega arith)
    go (inr (inl seal)) rest = rw (seal.0, seal.1) (omega arith)
    go (inr (inr entry)) rest = rw (entry.0, entry.1) (omega (arith, rest))

-- each is the slot of its place, and not empty
pub used_front : (slots : List ℕ) (k : ℕ) → k < length (used_slots slots) → (get_or slots k 0 ≡ get_or (used_slots slots) k 0) × (get_or (used_slots slots) k 0 ≢ 0)
used_front [] k inside = absurd (omega (arith, inside))
used_front (slot ∷ slots) zero inside = go (cases slot) inside
  where
    go : Cases slot → 0 < length (used_slots (slot ∷ slots)) → (slot ≡ get_or (used_slots (slot ∷ slots)) 0 0) × (get_or (used_slots (slot ∷ slots)) 0 0 ≢ 0)
    go (inl empty) inside = absurd (omega (arith, rw empty at inside))
    go (inr (inl seal)) inside = rw (seal.0, seal.1) (refl, eqb-false slot 0 seal.0)
    go (inr (inr entry)) inside = rw (entry.0, entry.1) (refl, eqb-false slot 0 entry.0)
used_front (slot ∷ slots) (suc k) inside = go (cases slot) (used_front slots k) inside
  where
    go : Cases slot → (k < length (used_slots slots) → (get_or slots k 0 ≡ get_or (used_slots slots) k 0) × (get_or (used_slots slots) k 0 ≢ 0)) → suc k < length (used_slots (slot ∷ slots)) →
        (get_or slots k 0 ≡ get_or (used_slots (slot ∷ slots)) (suc k) 0) × (get_or (used_slots (slot ∷ slots)) (suc k) 0 ≢ 0)
    go (inl empty) rest inside = absurd (omega (arith, rw empty at inside))
    go (inr (inl seal)) rest inside = absurd (omega (arith, rw (seal.0, seal.1) at inside))
    go (inr (inr entry)) rest inside = (let shorter : k < length (used_slots slots) = omega (arith, rw (entry.0, entry.1) at inside) in rw (entry.0, entry.1) (rest shorter))

-- a seal is the last
pub seal_end : (slots : List ℕ) (k : ℕ) → get_or (used_slots slots) k 0 ≡ 3 → k + 1 ≡ length (used_slots slots)
seal_end [] k is = absurd (omega (arith, is))
seal_end (slot ∷ slots) zero is = go (cases slot) is
  where
    go : Cases slot → get_or (used_slots (slot ∷ slots)) 0 0 ≡ 3 → 1 ≡ length (used_slots (slot ∷ slots))
    go (inl empty) is = absurd (omega (arith, rw empty at is))
    go (inr (inl seal)) is = rw (seal.0, seal.1) refl
    go (inr (inr entry)) is = absurd (eqb-false slot 3 entry.1 (rw (entry.0, entry.1) at is))
seal_end (slot ∷ slots) (suc k) is = go (cases slot) (seal_end slots k) is
  where
    go : Cases slot → (get_or (used_slots slots) k 0 ≡ 3 → k + 1 ≡ length (used_slots slots)) → get_or (used_slots (slot ∷ slots)) (suc k) 0 ≡ 3 → suc k + 1 ≡ length (used_slots (slot ∷ slots))
    go (inl empty) rest is = absurd (omega (arith, rw empty at is))
    go (inr (inl seal)) rest is = absurd (omega (arith, rw (seal.0, seal.1) at is))
    go (inr (inr entry)) rest is = (let shorter : k + 1 ≡ length (used_slots slots) = rest (rw (entry.0, entry.1) at is) in rw (entry.0, entry.1) (omega (arith, shorter)))

-- where the first slot is no seal, a seal is not the first
pub seal_later : (slots : List ℕ) (k : ℕ) → (get_or slots 0 0 == 3) ≡ false → get_or (used_slots slots) k 0 ≡ 3 → 0 < k
seal_later slots (suc k) first is = omega arith
seal_later [] zero first is = absurd (omega (arith, is))
seal_later (slot ∷ slots) zero first is = go (cases slot) is
  where
    go : Cases slot → get_or (used_slots (slot ∷ slots)) 0 0 ≡ 3 → 0 < 0
    go (inl empty) is = absurd (omega (arith, rw empty at is))
    go (inr (inl seal)) is = absurd (false≢true (sym first ∙ seal.1))
    go (inr (inr entry)) is = absurd (eqb-false slot 3 entry.1 (rw (entry.0, entry.1) at is))

-- each but a seal is an entry of its place
pub used_entry : (slots : List ℕ) (k : ℕ) → k < length (used_slots slots) → get_or (used_slots slots) k 0 ≢ 3 → (k < length (entry_words slots)) × (get_or (entry_words slots) k 0 ≡ get_or (used_slots slots) k 0)
used_entry [] k inside other = absurd (omega (arith, inside))
used_entry (slot ∷ slots) zero inside other = go (cases slot) inside other
  where
    go : Cases slot → 0 < length (used_slots (slot ∷ slots)) → get_or (used_slots (slot ∷ slots)) 0 0 ≢ 3 → (0 < length (entry_words (slot ∷ slots))) × (get_or (entry_words (slot ∷ slots)) 0 0 ≡ get_or (used_slots (slot ∷ slots)) 0 0)
    go (inl empty) inside other = absurd (omega (arith, rw empty at inside))
    go (inr (inl seal)) inside other = absurd ((rw (seal.0, seal.1) at other) (eqb-true slot 3 seal.1))
    go (inr (inr entry)) inside other = rw (entry.0, entry.1) (omega arith, refl)
used_entry (slot ∷ slots) (suc k) inside other = go (cases slot) (used_entry slots k) inside other
  where
    go : Cases slot → (k < length (used_slots slots) → get_or (used_slots slots) k 0 ≢ 3 → (k < length (entry_words slots)) × (get_or (entry_words slots) k 0 ≡ get_or (used_slots slots) k 0)) →
        suc k < length (used_slots (slot ∷ slots)) → get_or (used_slots (slot ∷ slots)) (suc k) 0 ≢ 3 → (suc k < length (entry_words (slot ∷ slots))) × (get_or (entry_words (slot ∷ slots)) (suc k) 0 ≡ get_or (used_slots (slot ∷ slots)) (suc k) 0)
    go (inl empty) rest inside other = absurd (omega (arith, rw empty at inside))
    go (inr (inl seal)) rest inside other = absurd (omega (arith, rw (seal.0, seal.1) at inside))
    go (inr (inr entry)) rest inside other =
        let shorter : k < length (used_slots slots) = omega (arith, rw (entry.0, entry.1) at inside) in
        let same : (k < length (entry_words slots)) × (get_or (entry_words slots) k 0 ≡ get_or (used_slots slots) k 0) = rest shorter (rw (entry.0, entry.1) at other) in
        rw (entry.0, entry.1) (omega (arith, same.0), same.1)

-- closed slots are sealed or all used; open ones are not sealed, and all used ones are entries
pub closed_full : (slots : List ℕ) → is_closed slots ≡ true → (is_sealed (used_slots slots) ≡ true) ⊎ (length (used_slots slots) ≡ length slots)
closed_full [] closed = inr refl
closed_full (slot ∷ slots) closed = go (cases slot) (closed_full slots) closed
  where
    go : Cases slot → (is_closed slots ≡ true → (is_sealed (used_slots slots) ≡ true) ⊎ (length (used_slots slots) ≡ length slots)) → is_closed (slot ∷ slots) ≡ true →
        (is_sealed (used_slots (slot ∷ slots)) ≡ true) ⊎ (length (used_slots (slot ∷ slots)) ≡ suc (length slots))
    go (inl empty) rest closed = absurd (false≢true (rw empty at closed))
    go (inr (inl seal)) rest closed = inl (rw (seal.0, seal.1, seal.1) refl)
    go (inr (inr entry)) rest closed = next (rest (rw (entry.0, entry.1) at closed))
      where
        next : (is_sealed (used_slots slots) ≡ true) ⊎ (length (used_slots slots) ≡ length slots) → (is_sealed (used_slots (slot ∷ slots)) ≡ true) ⊎ (length (used_slots (slot ∷ slots)) ≡ suc (length slots))
        next (inl sealed) = inl (rw (entry.0, entry.1, entry.1) sealed)
        next (inr full) = inr (rw (entry.0, entry.1) (ap suc full))

pub open_used : (slots : List ℕ) → is_closed slots ≡ false → (is_sealed (used_slots slots) ≡ false) × (length (used_slots slots) ≡ length (entry_words slots))
open_used [] opens = absurd (true≢false opens)
open_used (slot ∷ slots) opens = go (cases slot) (open_used slots) opens
  where
    go : Cases slot → (is_closed slots ≡ false → (is_sealed (used_slots slots) ≡ false) × (length (used_slots slots) ≡ length (entry_words slots))) → is_closed (slot ∷ slots) ≡ false →
        (is_sealed (used_slots (slot ∷ slots)) ≡ false) × (length (used_slots (slot ∷ slots)) ≡ length (entry_words (slot ∷ slots)))
    go (inl empty) rest opens = rw empty (refl, refl)
    go (inr (inl seal)) rest opens = absurd (true≢false (rw (seal.0, seal.1) at opens))
    go (inr (inr entry)) rest opens =
        let shorter : (is_sealed (used_slots slots) ≡ false) × (length (used_slots slots) ≡ length (entry_words slots)) = rest (rw (entry.0, entry.1) at opens) in
        rw (entry.0, entry.1, entry.1) (shorter.0, ap suc shorter.1)

-- the slot after the used ones is empty, or there is none; right after a seal it is so by the form of a log block
pub after_used : (slots : List ℕ) → is_seal_last slots ≡ true → get_or slots (length (used_slots slots)) 0 ≡ 0
after_used [] placed = refl
after_used (slot ∷ slots) placed = go (cases slot) (after_used slots) placed
  where
    go : Cases slot → (is_seal_last slots ≡ true → get_or slots (length (used_slots slots)) 0 ≡ 0) → is_seal_last (slot ∷ slots) ≡ true → get_or (slot ∷ slots) (length (used_slots (slot ∷ slots))) 0 ≡ 0
    go (inl empty) rest placed = rw empty (eqb-true slot 0 empty)
    go (inr (inl seal)) rest placed = (let next : get_or slots 0 0 ≡ 0 = eqb-true (get_or slots 0 0) 0 (rw (seal.0, seal.1) at placed) in rw (seal.0, seal.1) next)
    go (inr (inr entry)) rest placed = (let next : get_or slots (length (used_slots slots)) 0 ≡ 0 = rest (rw (entry.0, entry.1) at placed) in rw (entry.0, entry.1) next)
