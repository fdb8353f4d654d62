-- The conditions on the slots of a block of the chain, in their order: each slot's, and right after them those on the blocks
-- that its entry names.
use Rattle.std.specs.Prelude.{ℕ, zero, suc, ◌+◌, ◌^◌, ◌==◌, Bool, true, false, not, ◌||◌, nat_le, if◌then◌else◌, List, [], ◌∷◌, ◌++◌}
use Rattle.log_entry.specs.declared.layouts.TheConstants.{EMPTY, SEAL}
use Rattle.log_image.specs.Image.{Shape}
use Rattle.log_image.specs.Entries.{Meaning, direct_meaning, meaning, names, all_names}
use Rattle.log_image.specs.Chains.{is_listed}
use Rattle.log_image.specs.Format.{is_log_entry, is_snapshot_entry}
use Rattle.opening_rules.specs.Checks.{Check, check}
use Rattle.opening_rules.specs.declared.refusals.BadImage.TheVariants.{BadEntry, BadShare}

-- a block stands among these
abbrev pub is_named_in : ℕ → List ℕ → Bool
is_named_in block blocks = is_listed blocks block

-- each of some blocks in order, where it was named before: by these, or by one of its own before it
abbrev pub share_checks : List ℕ → List ℕ → List Check
share_checks named [] = []
share_checks named (block ∷ blocks) = check (is_named_in block named) (BadShare block) ∷ share_checks (named ++ block ∷ []) blocks

-- a used slot that may not stand in a log block, whose entry would be the one after a position: a seal in slot 3, a word that
-- is no entry, or an entry at a position that no file may have
abbrev pub is_bad_slot : List ℕ → Shape → ℕ → ℕ → ℕ → Bool
is_bad_slot words shape position slot word = if word == SEAL then slot == 3 else not (is_log_entry words shape word) || nat_le (2 ^ 40) (position + 1)

-- the slots of a log block from one on, up to the first empty one: after a position, after these entries, and after a seal or not
abbrev pub log_slot_checks : List ℕ → Shape → ℕ → ℕ → List Meaning → Bool → ℕ → List ℕ → List Check
log_slot_checks words shape block position entries after_seal slot [] = []
log_slot_checks words shape block position entries after_seal slot (word ∷ rest) =
    if word == EMPTY then []
    else check (after_seal || is_bad_slot words shape position slot word) (BadEntry block slot word)
    ∷ (if word == SEAL then log_slot_checks words shape block position entries true (slot + 1) rest
    else share_checks (all_names entries) (names (meaning words shape word))
    ++ log_slot_checks words shape block (position + 1) (entries ++ meaning words shape word ∷ []) false (slot + 1) rest)

-- the slots of a snapshot block from one on: so many entries after these, and then zeros
abbrev pub snapshot_slot_checks : Shape → ℕ → List Meaning → ℕ → ℕ → List ℕ → List Check
snapshot_slot_checks shape block entries left slot [] = []
snapshot_slot_checks shape block entries zero slot (word ∷ rest) =
    check (not (word == 0)) (BadEntry block slot word) ∷ snapshot_slot_checks shape block entries zero (slot + 1) rest
snapshot_slot_checks shape block entries (suc left) slot (word ∷ rest) =
    check (not (is_snapshot_entry shape word)) (BadEntry block slot word)
    ∷ (share_checks (all_names entries) (names (direct_meaning word))
    ++ snapshot_slot_checks shape block (entries ++ direct_meaning word ∷ []) left (slot + 1) rest)
