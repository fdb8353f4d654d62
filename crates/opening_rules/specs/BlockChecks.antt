-- Where opening stands in a chain, and the conditions on the block there, in their order.
use Rattle.std.specs.Prelude.{ℕ, ◌+◌, ◌-◌, ◌==◌, Bool, true, false, not, ◌&&◌, ◌||◌, nat_lt, if◌then◌else◌, List, [], ◌∷◌, ◌++◌, length, slice_index}
use Rattle.log_entry.specs.Shape.{limit_of}
use Rattle.log_entry.specs.declared.layouts.TheConstants.{LOG}
use Rattle.log_image.specs.Image.{Shape, words_in, is_in_log}
use Rattle.log_image.specs.Entries.{Meaning}
use Rattle.log_image.specs.Maps.{size_after}
use Rattle.log_image.specs.Positions.{block_entries}
use Rattle.log_image.specs.Format.{is_kind_word}
use Rattle.log_image.specs.Blocks.{link_of, kind_of, is_snapshot, base_of, entry_count, file_size, slots_of, entry_words, leads_on}
use Rattle.opening_rules.specs.Checks.{Check, check}
use Rattle.opening_rules.specs.SlotChecks.{is_named_in, log_slot_checks, snapshot_slot_checks}
use Rattle.opening_rules.specs.declared.refusals.BadImage.TheVariants.{BadBase, BadLink}

-- the blocks passed; whether a log block is among them; the position, the file's size in bytes and the entries that they come to
pub record Place : Type 0 where
  pub before : List ℕ
  pub in_logs : Bool
  pub position : ℕ
  pub size : ℕ
  pub entries : List Meaning

-- before the first block
abbrev pub start : Place
start = record { before = []; in_logs = false; position = 0; size = 0; entries = [] }

-- no block was passed
abbrev pub is_first : List ℕ → Bool
is_first [] = true
is_first (block ∷ blocks) = false

-- a block that is neither a log block nor a snapshot block in its place: no snapshot block follows a log block
abbrev pub is_bad_kind : Place → List ℕ → Bool
is_bad_kind place block = not (kind_of block == LOG || (is_snapshot block && not place.in_logs))

-- another base than the one due: a snapshot block that is the first may have any
abbrev pub is_bad_base : Place → List ℕ → Bool
is_bad_base place block = not ((is_snapshot block && is_first place.before) || base_of block == place.position)

-- a second word that is not due
abbrev pub is_bad_second : Place → List ℕ → Bool
is_bad_second place block = is_bad_kind place block || not (is_kind_word block) || is_bad_base place block

-- a third word that is not due: in a snapshot block too many entries, a size that no file may have, or another size than the
-- first snapshot block's; in a log block any number but 0
abbrev pub is_bad_third : Shape → Place → List ℕ → Bool
is_bad_third shape place block =
    if is_snapshot block then
    nat_lt (words_in shape - 3) (entry_count block) || nat_lt (limit_of shape.block_bytes) (file_size block)
    || not (is_first place.before || file_size block == place.size)
    else not (slice_index block 2 == 0)

-- a link that is followed, to no block of the log or spare area, or to a block of the chain
abbrev pub is_bad_link : Shape → List ℕ → List ℕ → Bool
is_bad_link shape passed block = leads_on block && (not (is_in_log shape (link_of block)) || is_named_in (link_of block) passed)

-- the conditions on the slots of the block of this number and these words
abbrev pub slot_checks : List ℕ → Shape → Place → ℕ → List ℕ → List Check
slot_checks words shape place number block =
    if is_snapshot block then snapshot_slot_checks shape number place.entries (entry_count block) 3 (slots_of block)
    else log_slot_checks words shape number place.position place.entries false 3 (slots_of block)

-- the conditions on the block of this number and these words: on its second and its third word, its slots, its link
abbrev pub block_checks : List ℕ → Shape → Place → ℕ → List ℕ → List Check
block_checks words shape place number block =
    check (is_bad_second place block) (BadBase number (slice_index block 1))
    ∷ check (is_bad_third shape place block) (BadBase number (slice_index block 2))
    ∷ (slot_checks words shape place number block
    ++ check (is_bad_link shape (place.before ++ number ∷ []) block) (BadLink number (link_of block)) ∷ [])

-- after the block of this number and these words
abbrev pub place_after : List ℕ → Shape → Place → ℕ → List ℕ → Place
place_after words shape place number block = record {
  before = place.before ++ number ∷ [];
  in_logs = not (is_snapshot block);
  position = if is_snapshot block then base_of block else place.position + length (entry_words (slots_of block));
  size = if is_snapshot block then file_size block else size_after shape place.size (block_entries words shape block);
  entries = place.entries ++ block_entries words shape block;
}
