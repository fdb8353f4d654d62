-- What the parts of reading a block of the chain answer.
use Rattle.std.specs.Prelude.{ℕ, ◌≡◌, ◌||◌, ◌++◌, ◌∷◌, [], true, false, List, Option, Some, None, Result, Ok, Err, slice_index}
use Rattle.block_table.specs.FileMap.{FileMap}
use Rattle.log_image.specs.Image.{Shape, is_in_log, block_words}
use Rattle.log_image.specs.Blocks.{link_of, is_snapshot, slots_of, is_closed, leads_on}
use Rattle.opening_rules.specs.Checks.{check, first}
use Rattle.opening_rules.specs.SlotChecks.{is_named_in}
use Rattle.opening_rules.specs.BlockChecks.{Place, is_bad_second, is_bad_third, is_bad_link, slot_checks, block_checks, place_after}
use Rattle.opening_rules.specs.declared.refusals.BadImage.{BadImage}
use Rattle.opening_rules.specs.declared.refusals.BadImage.TheVariants.{BadBase, BadLink}
use Rattle.std.specs.Global.{Vec}
use Rattle.recovery.specs.declared.reading.Reading.{Reading}
use Rattle.recovery.specs.declared.blocks.Ended.{Ended}
use Rattle.recovery.specs.Readings.{ReadsUpTo}
use Rattle.recovery.specs.Slots.{HasEntries}

-- of the second and the third word of the block of this number and these words: the first that is not due; or both are
abbrev pub ChecksWords : Result Unit BadImage → Shape → Place → ℕ → List ℕ → Type 0
ChecksWords (Ok done) shape place number block = (is_bad_second place block ≡ false) × (is_bad_third shape place block ≡ false)
ChecksWords (Err why) shape place number block =
    first (check (is_bad_second place block) (BadBase number (slice_index block 1)) ∷ check (is_bad_third shape place block) (BadBase number (slice_index block 2)) ∷ []) ≡ Some why

-- of its slots: the refusal of the first condition that holds; or none holds, and the table and the bitmap have what the place after
-- the block has
abbrev pub ReadsSlots : Result Ended BadImage → List ℕ → Shape → FileMap → List ℕ → List ℕ → Place → ℕ → List ℕ → Type 0
ReadsSlots (Ok ended) words shape table taken chain place number block =
    (first (slot_checks words shape place number block) ≡ None)
    × (ended.closed ≡ (is_snapshot block || is_closed (slots_of block)))
    × (ended.position ≡ (place_after words shape place number block).position)
    × HasEntries shape table taken chain (place_after words shape place number block).size (place_after words shape place number block).entries
ReadsSlots (Err why) words shape table taken chain place number block = first (slot_checks words shape place number block) ≡ Some why

-- of its link, where these are the blocks passed: it is refused; or not followed; or it leads to another block of the log or spare area
abbrev pub FollowsLink : Result (Option ℕ) BadImage → Shape → List ℕ → ℕ → List ℕ → Type 0
FollowsLink (Ok None) shape passed number block = (is_bad_link shape passed block ≡ false) × (leads_on block ≡ false)
FollowsLink (Ok (Some next)) shape passed number block =
    (is_bad_link shape passed block ≡ false) × (leads_on block ≡ true) × (link_of block ≡ next) × (is_in_log shape next ≡ true) × (is_named_in next passed ≡ false)
FollowsLink (Err why) shape passed number block = first (check (is_bad_link shape passed block) (BadLink number (link_of block)) ∷ []) ≡ Some why

-- of the block of this number: the refusal of the first condition that holds; or none holds, its link leads so, and with the block
-- among the reading's the reading is what the place after it comes to
abbrev pub ChecksBlock : Result (Option ℕ) BadImage → List ℕ → Shape → Place → ℕ → Reading → Type 0
ChecksBlock (Err why) words shape place number reading = first (block_checks words shape place number (block_words words shape number)) ≡ Some why
ChecksBlock (Ok next) words shape place number reading =
    (first (block_checks words shape place number (block_words words shape number)) ≡ None)
    × FollowsLink (Ok next) shape (place.before ++ number ∷ []) number (block_words words shape number)
    × ((chain : Vec ℕ) → chain.items ≡ place.before ++ number ∷ [] → ReadsUpTo shape (record reading { chain = chain }) (place_after words shape place number (block_words words shape number)))
