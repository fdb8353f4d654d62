-- The slots that a crash leaves of a log block's used ones: their entries are the first of its entries.
use Rattle.std.proofs.Common.{◌≡◌, ◌≢◌, ◌<◌, ◌≤◌, ◌+◌, ◌==◌, ◌⊎◌, inl, inr, ℕ, zero, suc, Bool, true, false, List, [], ◌∷◌, length, take, refl, sym, ◌∙◌, ap, subst, arith, slice_index, ⊎_elim}
use Rattle.std.proofs.lemmas.Bool.{eqb-true, eq-eqb}
use Rattle.log_entry.specs.declared.layouts.TheConstants.{EMPTY, SEAL}
use Rattle.log_image.specs.Blocks.{entry_words, is_closed}
use Rattle.log_image.specs.Format.{is_seal_last}
use Rattle.log_core.specs.Cores.{is_sealed}

-- each slot has its used value, if it has one, or is empty; of the slots behind a seal the first alone is said to be so
pub record SlotsLeft (used left : List ℕ) : Type 0 where
  pub room : length used ≤ length left
  pub each : (k : ℕ) → k < length left → (is_sealed used ≡ true → k ≤ length used) → (slice_index left k ≡ slice_index used k) ⊎ (slice_index left k ≡ 0)
  pub some : (k : ℕ) → k < length used → slice_index used k ≢ EMPTY
  pub seal_last : (k : ℕ) → slice_index used k ≡ SEAL → k + 1 ≡ length used

-- a slot is empty, a seal, or an entry
data SlotKind (slot : ℕ) : Type 0 where
  Empty : slot ≡ EMPTY → SlotKind slot
  Seal : slot ≡ SEAL → SlotKind slot
  Entry : (slot == EMPTY) ≡ false → (slot == SEAL) ≡ false → SlotKind slot

kind : (slot : ℕ) → SlotKind slot
kind slot = go (slot == EMPTY) (slot == SEAL) refl refl
  where
    go : (empty seal : Bool) → (slot == EMPTY) ≡ empty → (slot == SEAL) ≡ seal → SlotKind slot
    go true seal e s = Empty (eqb-true slot EMPTY e)
    go false true e s = Seal (eqb-true slot SEAL s)
    go false false e s = Entry e s

module _ (slot : ℕ) (slots : List ℕ) (some : (slot == EMPTY) ≡ false) (other : (slot == SEAL) ≡ false) where
  entry_more : entry_words (slot ∷ slots) ≡ slot ∷ entry_words slots
  entry_more = rw (some, other) refl

  closed_more : is_closed (slot ∷ slots) ≡ is_closed slots
  closed_more = rw (some, other) refl

  placed_more : is_seal_last (slot ∷ slots) ≡ is_seal_last slots
  placed_more = rw (some, other) refl

  sealed_more : is_sealed (slot ∷ slots) ≡ is_sealed slots
  sealed_more = rw other refl

-- without the first slot
rest_left : (slot other : ℕ) (used left : List ℕ) → (slot == SEAL) ≡ false → SlotsLeft (slot ∷ used) (other ∷ left) → SlotsLeft used left
rest_left slot other used left entry is = record {
  room = (let room = is.room in omega (arith, room));
  each = λ k inside behind. is.each (suc k) (omega (arith, inside)) (λ sealed. (let low = behind (let more : is_sealed (slot ∷ used) ≡ is_sealed used = rw entry refl in sym more ∙ sealed) in omega (arith, low)));
  some = λ k inside. is.some (suc k) (omega (arith, inside));
  seal_last = λ k seal. (let last = is.seal_last (suc k) seal in omega (arith, last));
}

-- what is left: the first entries; all of them where it is closed; and no used slot behind a seal
pub record SlotsStay (used left : List ℕ) : Type 0 where
  pub few : length (entry_words left) ≤ length (entry_words used)
  pub front : entry_words left ≡ take (length (entry_words left)) (entry_words used)
  pub whole : is_closed left ≡ true → length (entry_words left) ≡ length (entry_words used)
  pub placed : is_seal_last left ≡ true

none_left : (used left : List ℕ) → SlotsStay used (0 ∷ left)
none_left used left = record { few = omega arith; front = refl; whole = λ closed. (let no : false ≡ true = closed in cc); placed = refl }

pub slots_stay : (used left : List ℕ) → SlotsLeft used left → SlotsStay used left
slots_stay [] [] is = record { few = omega arith; front = refl; whole = λ closed. refl; placed = refl }
slots_stay (slot ∷ used) [] is = absurd (let room = is.room in omega (arith, room))
slots_stay [] (other ∷ left) is = nothing other (⊎_elim (λ same. same) (λ none. none) (is.each 0 (omega arith) (λ sealed. omega arith)))
  where
    nothing : (other : ℕ) → other ≡ 0 → SlotsStay [] (other ∷ left)
    nothing other none = subst (λ (slot : ℕ). SlotsStay [] (slot ∷ left)) (sym none) (none_left [] left)
slots_stay (slot ∷ used) (other ∷ left) is = ⊎_elim
    (λ same. subst (λ (s : ℕ). SlotsStay (slot ∷ used) (s ∷ left)) (sym same) (stays (λ rest. slots_stay used left rest) (kind slot)))
    (λ none. subst (λ (s : ℕ). SlotsStay (slot ∷ used) (s ∷ left)) (sym none) (none_left (slot ∷ used) left))
    (is.each 0 (omega arith) (λ sealed. omega arith))
  where
    stays : (SlotsLeft used left → SlotsStay used left) → SlotKind slot → SlotsStay (slot ∷ used) (slot ∷ left)
    stays again (Empty none) = absurd (is.some 0 (omega arith) none)
    stays again (Seal seal) = (let last = is.seal_last 0 seal in
        let no_more : length used ≡ 0 = omega (arith, last) in
        let sealed : is_sealed (slot ∷ used) ≡ true = rw (eq-eqb slot SEAL seal) refl in
        let behind : slice_index left 0 ≡ 0 = empty_behind left no_more (λ inside. is.each 1 (omega (arith, inside)) (λ sealed. omega arith)) in
        subst (λ (s : ℕ). SlotsStay (s ∷ used) (s ∷ left)) (sym seal) (record {
          few = omega arith;
          front = refl;
          whole = λ closed. refl;
          placed = rw behind refl;
        }))
      where
        empty_behind : (left : List ℕ) → length used ≡ 0 → (0 < length left → (slice_index left 0 ≡ slice_index used 0) ⊎ (slice_index left 0 ≡ 0)) → slice_index left 0 ≡ 0
        empty_behind [] none each = refl
        empty_behind (first ∷ left) none each = ⊎_elim (λ same. same ∙ nothing used none) (λ zero_slot. zero_slot) (each (omega arith))
          where
            nothing : (used : List ℕ) → length used ≡ 0 → slice_index used 0 ≡ 0
            nothing [] none = refl
            nothing (slot ∷ used) none = absurd (omega (arith, none))
    stays again (Entry some entry) = (let rest = again (rest_left slot other used left entry is) in
        let mine = entry_more slot left some entry in
        let all = entry_more slot used some entry in record {
          few = rw (mine, all) (let few = rest.few in omega (arith, few));
          front = rw (mine, all) (ap (λ (l : List ℕ). slot ∷ l) rest.front);
          whole = λ closed. rw (mine, all) (ap suc (rest.whole (sym (closed_more slot left some entry) ∙ closed)));
          placed = placed_more slot left some entry ∙ rest.placed;
        })

-- where the slots below a number have stayed, so many entries are left, or all; and then, if there are fewer than that, the block is
-- closed where it was full
pub data Stayed (count : ℕ) (used left : List ℕ) : Type 0 where
  Enough : count ≤ length (entry_words left) → Stayed count used left
  All : length (entry_words left) ≡ length (entry_words used) →
      (length (entry_words used) < count → (is_sealed used ≡ true) ⊎ (length used ≡ length left) → is_closed left ≡ true) → Stayed count used left

pub stayed : (count : ℕ) (used left : List ℕ) → SlotsLeft used left → ((k : ℕ) → k < length used → k < count → slice_index left k ≡ slice_index used k) → Stayed count used left
stayed zero used left is same = Enough (omega arith)
stayed (suc count) [] [] is same = All refl (λ fewer full. refl)
stayed (suc count) (slot ∷ used) [] is same = absurd (let room = is.room in omega (arith, room))
stayed (suc count) [] (other ∷ left) is same = subst (λ (slot : ℕ). Stayed (suc count) [] (slot ∷ left))
    (sym (⊎_elim (λ e. e) (λ e. e) (is.each 0 (omega arith) (λ sealed. omega arith))))
    (All refl (λ fewer full. ⊎_elim (λ sealed. (let no : false ≡ true = sealed in cc)) (λ long. absurd (omega (arith, long))) full))
stayed (suc count) (slot ∷ used) (other ∷ left) is same = subst (λ (s : ℕ). Stayed (suc count) (slot ∷ used) (s ∷ left)) (sym (same 0 (omega arith) (omega arith))) (by (λ rest. stayed count used left rest) (kind slot))
  where
    by : (SlotsLeft used left → ((k : ℕ) → k < length used → k < count → slice_index left k ≡ slice_index used k) → Stayed count used left) → SlotKind slot → Stayed (suc count) (slot ∷ used) (slot ∷ left)
    by again (Empty none) = absurd (is.some 0 (omega arith) none)
    by again (Seal seal) = subst (λ (s : ℕ). Stayed (suc count) (s ∷ used) (s ∷ left)) (sym seal) (All refl (λ fewer full. refl))
    by again (Entry some entry) = more (again (rest_left slot other used left entry is) (λ k inside low. same (suc k) (omega (arith, inside)) (omega (arith, low))))
      where
        more : Stayed count used left → Stayed (suc count) (slot ∷ used) (slot ∷ left)
        more (Enough enough) = Enough (rw (entry_more slot left some entry) (omega (arith, enough)))
        more (All all closes) = All (rw (entry_more slot left some entry, entry_more slot used some entry) (ap suc all))
            (λ fewer full. closed_more slot left some entry ∙ closes (fewer_rest fewer) (full_rest full))
          where
            fewer_rest : length (entry_words (slot ∷ used)) < suc count → length (entry_words used) < count
            fewer_rest fewer = (let long = ap (λ (l : List ℕ). length l) (entry_more slot used some entry) in omega (arith, fewer, long))

            full_rest : (is_sealed (slot ∷ used) ≡ true) ⊎ (length (slot ∷ used) ≡ length (slot ∷ left)) → (is_sealed used ≡ true) ⊎ (length used ≡ length left)
            full_rest (inl sealed) = inl (sym (sealed_more slot used some entry) ∙ sealed)
            full_rest (inr long) = inr (omega (arith, long))
