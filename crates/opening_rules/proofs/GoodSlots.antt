-- Of slots that the format allows no condition holds.
use Rattle.std.proofs.Common.{◌≡◌, ◌<◌, ◌≤◌, ◌+◌, ◌^◌, ◌==◌, ◌&&◌, ◌||◌, not, nat_le, ℕ, zero, suc, Bool, true, false, List, [], ◌∷◌, ◌++◌, length, get_or, take, drop, map, None, refl, sym, ◌∙◌, subst, append_assoc, arith}
use Rattle.std.specs.List.{list_all}
use Rattle.std.proofs.lemmas.Bool.{both_ways, lt-leb, ne_eqb, and_parts, or_from, not_from_true, false_from_ne_true}
use Rattle.std.proofs.lemmas.Grind.{flat_map-append}
use Rattle.log_entry.specs.declared.layouts.TheConstants.{EMPTY, SEAL}
use Rattle.log_image.specs.Image.{Shape}
use Rattle.log_image.specs.Entries.{Meaning, direct_meaning, meaning, names, all_names}
use Rattle.log_image.specs.Blocks.{entry_words}
use Rattle.log_image.specs.Chains.{all_different}
use Rattle.log_image.specs.Format.{all_zero, is_log_entry, is_snapshot_entry, is_seal_last}
use Rattle.opening_rules.specs.Checks.{check, first}
use Rattle.opening_rules.specs.SlotChecks.{share_checks, log_slot_checks, snapshot_slot_checks}
use Rattle.opening_rules.specs.declared.refusals.BadImage.TheVariants.{BadEntry}
use Rattle.opening_rules.proofs.Firsts.{skip, pass_over}
use Rattle.opening_rules.proofs.Naming.{no_share}

-- an entry among others names no block that one before it names
no_share_here : (before after : List Meaning) (entry : Meaning) → all_different (all_names (before ++ entry ∷ after)) ≡ true → first (share_checks (all_names before) (names entry)) ≡ None
no_share_here before after entry once =
    no_share (all_names before) (names entry) (all_names after) (subst (λ (l : List ℕ). all_different l ≡ true) (flat_map-append names before (entry ∷ after)) once)

-- the first of the entries that follow is one of those before
one_more : (before after : List Meaning) (entry : Meaning) → all_different (all_names (before ++ entry ∷ after)) ≡ true → all_different (all_names ((before ++ entry ∷ []) ++ after)) ≡ true
one_more before after entry once = subst (λ (l : List Meaning). all_different (all_names l) ≡ true) (sym (append_assoc before (entry ∷ []) after)) once

module _ (words : List ℕ) (shape : Shape) (block : ℕ) where
  -- after a seal the next slot is empty
  stops : (position slot : ℕ) (entries : List Meaning) (slots : List ℕ) → (get_or slots 0 0 == EMPTY) ≡ true → first (log_slot_checks words shape block position entries true slot slots) ≡ None
  stops position slot entries [] empty = refl
  stops position slot entries (word ∷ rest) empty = rw empty refl

  later_slot : (slot : ℕ) → 3 ≤ slot → (slot + 1 == 3) ≡ false
  later_slot slot least = ne_eqb (slot + 1) 3 (λ same. omega (arith, same, least))

  below_limit : (position count : ℕ) → position + suc count < 2 ^ 40 → nat_le (2 ^ 40) (position + 1) ≡ false
  below_limit position count below = lt-leb (2 ^ 40) (position + 1) (omega (arith, below))

  -- the slots of a log block from one on, after a position and some entries; others follow
  pub log_slots_pass : (position slot : ℕ) (entries others : List Meaning) (slots : List ℕ) → 3 ≤ slot → ((slot == 3) ≡ true → (get_or slots 0 0 == SEAL) ≡ false) →
      list_all (is_log_entry words shape) (entry_words slots) ≡ true → is_seal_last slots ≡ true → position + length (entry_words slots) < 2 ^ 40 →
      all_different (all_names (entries ++ (map (meaning words shape) (entry_words slots) ++ others))) ≡ true → first (log_slot_checks words shape block position entries false slot slots) ≡ None
  log_slots_pass position slot entries others [] least no_seal good last below once = refl
  log_slots_pass position slot entries others (word ∷ rest) least no_seal good last below once = at (word == EMPTY) (word == SEAL) refl refl
      (log_slots_pass (position + 1) (slot + 1) (entries ++ meaning words shape word ∷ []) others rest (omega (arith, least)) (λ is. absurd (both_ways (slot + 1 == 3) (later_slot slot least) is)))
    where
      at : (empty seal : Bool) → (word == EMPTY) ≡ empty → (word == SEAL) ≡ seal →
          (list_all (is_log_entry words shape) (entry_words rest) ≡ true → is_seal_last rest ≡ true → position + 1 + length (entry_words rest) < 2 ^ 40 →
          all_different (all_names ((entries ++ meaning words shape word ∷ []) ++ (map (meaning words shape) (entry_words rest) ++ others))) ≡ true →
          first (log_slot_checks words shape block (position + 1) (entries ++ meaning words shape word ∷ []) false (slot + 1) rest) ≡ None) →
          first (log_slot_checks words shape block position entries false slot (word ∷ rest)) ≡ None
      at true seal is also go_on = rw is refl
      at false true is also go_on =
          let seal_last : (get_or rest 0 0 == EMPTY) ≡ true = rw (is, also) at last in
          let not_first : (slot == 3) ≡ false = false_from_ne_true (slot == 3) (λ third. both_ways (word == SEAL) (no_seal third) also) in
          let passed : first (check (slot == 3) (BadEntry block slot word) ∷ log_slot_checks words shape block position entries true (slot + 1) rest) ≡ None =
          skip (slot == 3) (BadEntry block slot word) (log_slot_checks words shape block position entries true (slot + 1) rest) not_first ∙ stops position (slot + 1) entries rest seal_last in
          rw (is, also) passed
      at false false is also go_on =
          let here = meaning words shape word in
          let later = map (meaning words shape) (entry_words rest) ++ others in
          let more = log_slot_checks words shape block (position + 1) (entries ++ here ∷ []) false (slot + 1) rest in
          let good_is : (is_log_entry words shape word && list_all (is_log_entry words shape) (entry_words rest)) ≡ true = rw (is, also) at good in
          let last_is : is_seal_last rest ≡ true = rw (is, also) at last in
          let below_is : position + suc (length (entry_words rest)) < 2 ^ 40 = rw (is, also) at below in
          let once_is : all_different (all_names (entries ++ here ∷ later)) ≡ true = rw (is, also) at once in
          let parts = and_parts (is_log_entry words shape word) (list_all (is_log_entry words shape) (entry_words rest)) good_is in
          let allowed : (not (is_log_entry words shape word) || nat_le (2 ^ 40) (position + 1)) ≡ false =
          or_from (not (is_log_entry words shape word)) (nat_le (2 ^ 40) (position + 1)) (not_from_true (is_log_entry words shape word) parts.0) (below_limit position (length (entry_words rest)) below_is) in
          let onward : first more ≡ None = go_on parts.1 last_is (omega (arith, below_is)) (one_more entries later here once_is) in
          let passed : first (check (not (is_log_entry words shape word) || nat_le (2 ^ 40) (position + 1)) (BadEntry block slot word) ∷ (share_checks (all_names entries) (names here) ++ more)) ≡ None =
          skip (not (is_log_entry words shape word) || nat_le (2 ^ 40) (position + 1)) (BadEntry block slot word) (share_checks (all_names entries) (names here) ++ more) allowed
          ∙ pass_over (share_checks (all_names entries) (names here)) more (no_share_here entries later here once_is) ∙ onward in
          rw (is, also) passed

-- the slots of a snapshot block from one on, with so many entries, after some entries; others follow
pub snapshot_slots_pass : (shape : Shape) (block slot : ℕ) (entries others : List Meaning) (count : ℕ) (slots : List ℕ) → list_all (is_snapshot_entry shape) (take count slots) ≡ true → all_zero (drop count slots) ≡ true →
    all_different (all_names (entries ++ (map direct_meaning (take count slots) ++ others))) ≡ true → first (snapshot_slot_checks shape block entries count slot slots) ≡ None
snapshot_slots_pass shape block slot entries others zero [] good zeros once = refl
snapshot_slots_pass shape block slot entries others (suc count) [] good zeros once = refl
snapshot_slots_pass shape block slot entries others zero (word ∷ rest) good zeros once =
    let parts = and_parts (word == 0) (all_zero rest) zeros in
    skip (not (word == 0)) (BadEntry block slot word) (snapshot_slot_checks shape block entries zero (slot + 1) rest) (not_from_true (word == 0) parts.0)
    ∙ snapshot_slots_pass shape block (slot + 1) entries others zero rest refl parts.1 once
snapshot_slots_pass shape block slot entries others (suc count) (word ∷ rest) good zeros once =
    let here = direct_meaning word in
    let later = map direct_meaning (take count rest) ++ others in
    let more = snapshot_slot_checks shape block (entries ++ here ∷ []) count (slot + 1) rest in
    let parts = and_parts (is_snapshot_entry shape word) (list_all (is_snapshot_entry shape) (take count rest)) good in
    skip (not (is_snapshot_entry shape word)) (BadEntry block slot word) (share_checks (all_names entries) (names here) ++ more) (not_from_true (is_snapshot_entry shape word) parts.0)
    ∙ pass_over (share_checks (all_names entries) (names here)) more (no_share_here entries later here once)
    ∙ snapshot_slots_pass shape block (slot + 1) (entries ++ here ∷ []) others count rest parts.1 zeros (one_more entries later here once)
