-- What reading the slots of a chain block answers.
use Rattle.std.specs.Prelude.{ℕ, ◌≡◌, ◌==◌, Bool, not, ◌||◌, if◌then◌else◌, List, [], ◌∷◌, ◌++◌, length, map, Result, Ok, Err, None, Some}
use Rattle.block_table.specs.FileMap.{FileMap}
use Rattle.log_entry.specs.declared.layouts.TheConstants.{SEAL}
use Rattle.log_image.specs.Image.{Shape}
use Rattle.log_image.specs.Entries.{Meaning, direct_meaning, meaning, names, all_names}
use Rattle.log_image.specs.Format.{is_snapshot_entry}
use Rattle.log_image.specs.Maps.{size_after}
use Rattle.log_image.specs.Blocks.{entry_words, is_closed}
use Rattle.chain_reader.specs.Tables.{HasMap}
use Rattle.opening_rules.specs.Checks.{Check, check, first}
use Rattle.opening_rules.specs.SlotChecks.{share_checks, is_bad_slot}
use Rattle.opening_rules.specs.declared.refusals.BadImage.{BadImage}
use Rattle.opening_rules.specs.declared.refusals.BadImage.TheVariants.{BadEntry}
use Rattle.recovery.specs.declared.slots.LogSlots.{LogSlots}
use Rattle.recovery.specs.Names.{HasNamed}

-- after these entries of a chain of these blocks: the table has their map and this size, and the bitmap has the blocks that they name
pub record HasEntries (shape : Shape) (table : FileMap) (taken chain : List ℕ) (size : ℕ) (entries : List Meaning) : Type 0 where
  pub map : HasMap table entries
  pub sized : table.size ≡ size
  pub named : HasNamed shape taken chain (all_names entries)

-- the refusal of the first of these conditions that holds; or none holds, and the table and the bitmap have these entries and this size
abbrev pub ReadsEntries : Result Unit BadImage → Shape → FileMap → List ℕ → List ℕ → List Check → ℕ → List Meaning → Type 0
ReadsEntries (Ok done) shape table taken chain checks size entries = (first checks ≡ None) × HasEntries shape table taken chain size entries
ReadsEntries (Err why) shape table taken chain checks size entries = first checks ≡ Some why

-- the entries of a used slot: one, or none where it is a seal
abbrev pub entries_in : List ℕ → Shape → ℕ → List Meaning
entries_in words shape word = if word == SEAL then [] else meaning words shape word ∷ []

-- the conditions on one used slot of a log block, after a position, after these entries, and after a seal or not
abbrev pub used_slot_checks : List ℕ → Shape → ℕ → ℕ → List Meaning → Bool → ℕ → ℕ → List Check
used_slot_checks words shape block position entries after_seal slot word =
    check (after_seal || is_bad_slot words shape position slot word) (BadEntry block slot word)
    ∷ (if word == SEAL then [] else share_checks (all_names entries) (names (meaning words shape word)))

-- what the entries of the slots of a log block mean
abbrev pub meanings_of : List ℕ → Shape → List ℕ → List Meaning
meanings_of words shape slots = map (meaning words shape) (entry_words slots)

-- of the slots of a log block: the refusal of the first of these conditions that holds; or none holds, they are closed and as many
-- as the answer says, and the table and the bitmap have their entries too
abbrev pub ReadsLogSlots : Result LogSlots BadImage → List ℕ → Shape → FileMap → List ℕ → List ℕ → List Check → ℕ → List Meaning → List ℕ → Type 0
ReadsLogSlots (Ok read) words shape table taken chain checks size entries slots =
    (first checks ≡ None)
    × (read.closed ≡ is_closed slots)
    × (read.entries ≡ length (entry_words slots))
    × HasEntries shape table taken chain (size_after shape size (meanings_of words shape slots)) (entries ++ meanings_of words shape slots)
ReadsLogSlots (Err why) words shape table taken chain checks size entries slots = first checks ≡ Some why

-- the entries of a slot of a snapshot block that is to hold an entry or not
abbrev pub entries_if : Bool → ℕ → List Meaning
entries_if used word = if used then direct_meaning word ∷ [] else []

-- the conditions on such a slot, after these entries
abbrev pub one_slot_checks : Shape → ℕ → List Meaning → Bool → ℕ → ℕ → List Check
one_slot_checks shape block entries used slot word =
    if used then check (not (is_snapshot_entry shape word)) (BadEntry block slot word) ∷ share_checks (all_names entries) (names (direct_meaning word))
    else check (not (word == 0)) (BadEntry block slot word) ∷ []
