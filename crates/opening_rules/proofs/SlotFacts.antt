-- What the slots of a block are of which no condition holds.
use Rattle.std.proofs.Common.{◌≡◌, ◌<◌, ◌+◌, ◌^◌, ◌==◌, ◌||◌, not, nat_le, ℕ, zero, suc, Bool, true, false, List, [], ◌∷◌, ◌++◌, length, get_or, take, drop, map, None, if◌then◌else◌, refl, sym, ap, ◌∙◌, subst, append-nil, append_assoc, arith}
use Rattle.std.specs.List.{list_all}
use Rattle.std.proofs.lemmas.Bool.Decides.{nat_tests}
use Rattle.std.proofs.lemmas.Grind.{flat_map-append}
use Rattle.log_entry.specs.declared.layouts.TheConstants.{EMPTY, SEAL}
use Rattle.log_image.specs.Image.{Shape}
use Rattle.log_image.specs.Entries.{Meaning, direct_meaning, meaning, names, all_names}
use Rattle.log_image.specs.Blocks.{entry_words}
use Rattle.log_image.specs.Chains.{all_different}
use Rattle.log_image.specs.Format.{all_zero, is_log_entry, is_snapshot_entry, is_seal_last}
use Rattle.opening_rules.specs.Checks.{check, first}
use Rattle.opening_rules.specs.SlotChecks.{share_checks, log_slot_checks, snapshot_slot_checks}
use Rattle.opening_rules.specs.declared.refusals.BadImage.TheVariants.{BadEntry}
use Rattle.opening_rules.proofs.Firsts.{clean_here, clean_left, clean_right}
use Rattle.opening_rules.proofs.Naming.{shares_once}

-- the slots of a log block after a position and after some entries
pub record LogSlots (words : List ℕ) (shape : Shape) (position : ℕ) (entries : List Meaning) (slots : List ℕ) : Type 0 where
  pub good : list_all (is_log_entry words shape) (entry_words slots) ≡ true
  pub seal_last : is_seal_last slots ≡ true
  pub below : position + length (entry_words slots) < 2 ^ 40
  pub once : all_different (all_names (entries ++ map (meaning words shape) (entry_words slots))) ≡ true

pub names_more : (entries : List Meaning) (entry : Meaning) → all_names entries ++ names entry ≡ all_names (entries ++ entry ∷ [])
names_more entries entry = sym (flat_map-append names entries (entry ∷ []) ∙ ap (λ (l : List ℕ). all_names entries ++ l) (append-nil (names entry)))

no_entry : (good far : Bool) → (not good || far) ≡ false → (good ≡ true) × (far ≡ false)
no_entry true far is = (refl, is)
no_entry false far is = cc

under : (position : ℕ) → nat_le (2 ^ 40) (position + 1) ≡ false → position + 1 < 2 ^ 40
under position is = grind (arith, nat_tests)

module _ (words : List ℕ) (shape : Shape) (block : ℕ) where
  -- after a seal
  none_after_seal : (position slot : ℕ) (entries : List Meaning) (slots : List ℕ) → first (log_slot_checks words shape block position entries true slot slots) ≡ None → get_or slots 0 0 ≡ EMPTY
  none_after_seal position slot entries [] clean = refl
  none_after_seal position slot entries (word ∷ rest) clean = at (word == EMPTY) refl
    where
      is_it : (a : ℕ) → (a == EMPTY) ≡ true → a ≡ EMPTY
      is_it a is = grind (arith, nat_tests)

      at : (empty : Bool) → (word == EMPTY) ≡ empty → word ≡ EMPTY
      at true is = is_it word is
      at false is =
          let clean : first (check true (BadEntry block slot word)
          ∷ (if word == SEAL then log_slot_checks words shape block position entries true (slot + 1) rest
          else share_checks (all_names entries) (names (meaning words shape word)) ++ log_slot_checks words shape block (position + 1) (entries ++ meaning words shape word ∷ []) false (slot + 1) rest)) ≡ None = rw is at clean in
          cc

  pub log_slots : (position slot : ℕ) (entries : List Meaning) (slots : List ℕ) → first (log_slot_checks words shape block position entries false slot slots) ≡ None → position < 2 ^ 40 → all_different (all_names entries) ≡ true → LogSlots words shape position entries slots
  log_slots position slot entries [] clean under_limit once = record {
    good = refl;
    seal_last = refl;
    below = omega (arith, under_limit);
    once = rw append-nil once;
  }
  log_slots position slot entries (word ∷ rest) clean under_limit once = at (word == EMPTY) (word == SEAL) refl refl
      (log_slots (position + 1) (slot + 1) (entries ++ meaning words shape word ∷ []) rest)
    where
      at : (empty seal : Bool) → (word == EMPTY) ≡ empty → (word == SEAL) ≡ seal →
          (first (log_slot_checks words shape block (position + 1) (entries ++ meaning words shape word ∷ []) false (slot + 1) rest) ≡ None → position + 1 < 2 ^ 40 →
          all_different (all_names (entries ++ meaning words shape word ∷ [])) ≡ true → LogSlots words shape (position + 1) (entries ++ meaning words shape word ∷ []) rest) →
          LogSlots words shape position entries (word ∷ rest)
      at true seal is also go_on = record {
        good = rw is refl;
        seal_last = rw is refl;
        below = rw is (omega (arith, under_limit));
        once = rw (is, append-nil) once;
      }
      at false true is also go_on =
          let clean : first (check (slot == 3) (BadEntry block slot word) ∷ log_slot_checks words shape block position entries true (slot + 1) rest) ≡ None = rw (is, also) at clean in
          let here : ((slot == 3) ≡ false) × (first (log_slot_checks words shape block position entries true (slot + 1) rest) ≡ None) = clean_here (slot == 3) (BadEntry block slot word) (log_slot_checks words shape block position entries true (slot + 1) rest) clean in
          record {
            good = rw (is, also) refl;
            seal_last = rw (is, also, none_after_seal position (slot + 1) entries rest here.1) refl;
            below = rw (is, also) (omega (arith, under_limit));
            once = rw (is, also, append-nil) once;
          }
      at false false is also go_on =
          let more = log_slot_checks words shape block (position + 1) (entries ++ meaning words shape word ∷ []) false (slot + 1) rest in
          let clean : first (check (not (is_log_entry words shape word) || nat_le (2 ^ 40) (position + 1)) (BadEntry block slot word) ∷ (share_checks (all_names entries) (names (meaning words shape word)) ++ more)) ≡ None = rw (is, also) at clean in
          let here = clean_here (not (is_log_entry words shape word) || nat_le (2 ^ 40) (position + 1)) (BadEntry block slot word) (share_checks (all_names entries) (names (meaning words shape word)) ++ more) clean in
          let both : (is_log_entry words shape word ≡ true) × (nat_le (2 ^ 40) (position + 1) ≡ false) = no_entry (is_log_entry words shape word) (nat_le (2 ^ 40) (position + 1)) here.0 in
          let shares : first (share_checks (all_names entries) (names (meaning words shape word))) ≡ None = clean_left (share_checks (all_names entries) (names (meaning words shape word))) more here.1 in
          let onward : first more ≡ None = clean_right (share_checks (all_names entries) (names (meaning words shape word))) more here.1 in
          let now_once : all_different (all_names (entries ++ meaning words shape word ∷ [])) ≡ true =
          subst (λ (l : List ℕ). all_different l ≡ true) (names_more entries (meaning words shape word)) (shares_once (all_names entries) (names (meaning words shape word)) shares once) in
          let rest_is : LogSlots words shape (position + 1) (entries ++ meaning words shape word ∷ []) rest = go_on onward (under position both.1) now_once in
          record {
            good = rw (is, also, both.0) rest_is.good;
            seal_last = rw (is, also) rest_is.seal_last;
            below = rw (is, also) (omega (arith, rest_is.below));
            once = rw (is, also) (subst (λ (l : List Meaning). all_different (all_names l) ≡ true) (append_assoc entries (meaning words shape word ∷ []) (map (meaning words shape) (entry_words rest))) rest_is.once);
          }

-- the slots of a snapshot block with so many entries
pub record SnapshotSlots (shape : Shape) (entries : List Meaning) (count : ℕ) (slots : List ℕ) : Type 0 where
  pub good : list_all (is_snapshot_entry shape) (take count slots) ≡ true
  pub zeros : all_zero (drop count slots) ≡ true
  pub once : all_different (all_names (entries ++ map direct_meaning (take count slots))) ≡ true

not_not : (a : Bool) → not a ≡ false → a ≡ true
not_not true is = refl
not_not false is = cc

pub snapshot_slots : (shape : Shape) (block slot : ℕ) (entries : List Meaning) (count : ℕ) (slots : List ℕ) → first (snapshot_slot_checks shape block entries count slot slots) ≡ None → all_different (all_names entries) ≡ true → SnapshotSlots shape entries count slots
snapshot_slots shape block slot entries zero [] clean once = record { good = refl; zeros = refl; once = rw append-nil once }
snapshot_slots shape block slot entries (suc count) [] clean once = record { good = refl; zeros = refl; once = rw append-nil once }
snapshot_slots shape block slot entries zero (word ∷ rest) clean once =
    let here : (not (word == 0) ≡ false) × (first (snapshot_slot_checks shape block entries zero (slot + 1) rest) ≡ None) = clean_here (not (word == 0)) (BadEntry block slot word) (snapshot_slot_checks shape block entries zero (slot + 1) rest) clean in
    let rest_is : SnapshotSlots shape entries zero rest = snapshot_slots shape block (slot + 1) entries zero rest here.1 once in
    record { good = refl; zeros = rw (not_not (word == 0) here.0) rest_is.zeros; once = rw append-nil once }
snapshot_slots shape block slot entries (suc count) (word ∷ rest) clean once =
    let more = snapshot_slot_checks shape block (entries ++ direct_meaning word ∷ []) count (slot + 1) rest in
    let here = clean_here (not (is_snapshot_entry shape word)) (BadEntry block slot word) (share_checks (all_names entries) (names (direct_meaning word)) ++ more) clean in
    let shares : first (share_checks (all_names entries) (names (direct_meaning word))) ≡ None = clean_left (share_checks (all_names entries) (names (direct_meaning word))) more here.1 in
    let now_once : all_different (all_names (entries ++ direct_meaning word ∷ [])) ≡ true =
    subst (λ (l : List ℕ). all_different l ≡ true) (names_more entries (direct_meaning word)) (shares_once (all_names entries) (names (direct_meaning word)) shares once) in
    let rest_is : SnapshotSlots shape (entries ++ direct_meaning word ∷ []) count rest = snapshot_slots shape block (slot + 1) (entries ++ direct_meaning word ∷ []) count rest (clean_right (share_checks (all_names entries) (names (direct_meaning word))) more here.1) now_once in
    record {
      good = rw (not_not (is_snapshot_entry shape word) here.0) rest_is.good;
      zeros = rest_is.zeros;
      once = subst (λ (l : List Meaning). all_different (all_names l) ≡ true) (append_assoc entries (direct_meaning word ∷ []) (map direct_meaning (take count rest))) rest_is.once;
    }
