-- The parts of a block of the chain, read one after the other.
use Rattle.std.proofs.Common.{◌≡◌, ◌<◌, ◌+◌, ◌-◌, ◌==◌, ◌&&◌, ◌||◌, not, nat_lt, max, ℕ, Bool, true, false, List, [], ◌∷◌, ◌++◌, length, map, take, if◌then◌else◌, slice_index, refl, sym, ap, ◌∙◌, subst, arith, Ok, Err, Some}
use Rattle.std.proofs.lemmas.Bool.{ltb-true, and_parts, ne_eqb, eqb-true, or_parts, not-false}
use Rattle.block_table.specs.FileMap.{FileMap}
use Rattle.log_entry.specs.Fields.{field}
use Rattle.log_entry.specs.Shape.{limit_of}
use Rattle.log_entry.specs.declared.layouts.TheConstants.{BLOCK_UNNAMED}
use Rattle.log_image.specs.Image.{Shape, total, words_in, is_in_log}
use Rattle.log_image.specs.Entries.{Meaning, direct_meaning}
use Rattle.log_image.specs.Maps.{size_after}
use Rattle.log_image.specs.Blocks.{is_snapshot, base_of, entry_count, file_size, slots_of, entry_words, is_closed, link_of, leads_on}
use Rattle.opening_rules.specs.Checks.{check, first}
use Rattle.opening_rules.specs.SlotChecks.{is_named_in, log_slot_checks, snapshot_slot_checks}
use Rattle.opening_rules.specs.BlockChecks.{Place, is_first, is_bad_kind, is_bad_base, is_bad_second, is_bad_third, is_bad_link, slot_checks}
use Rattle.opening_rules.specs.declared.refusals.BadImage.{BadImage}
use Rattle.opening_rules.specs.declared.refusals.BadImage.TheVariants.{BadBase, BadLink}
use Rattle.opening_rules.proofs.Firsts.{skip, hit}
use Rattle.recovery.specs.declared.slots.LogSlots.{LogSlots}
use Rattle.recovery.specs.Slots.{HasEntries, ReadsEntries, ReadsLogSlots, meanings_of}
use Rattle.recovery.specs.BlockAnswers.{ReadsSlots, FollowsLink}

-- a list of blocks is empty where it has none
pub first_by : (blocks : List ℕ) → (length blocks == 0) ≡ is_first blocks
first_by [] = refl
first_by (block ∷ blocks) = ne_eqb (length (block ∷ blocks)) 0 (λ e. absurd (omega (arith, e)))

-- the base of a log block whose second word is due
pub base_due : (place : Place) (block : List ℕ) → is_snapshot block ≡ false → is_bad_second place block ≡ false → base_of block ≡ place.position
base_due place block log due =
    let base : is_bad_base place block ≡ false = (or_parts (is_bad_kind place block || not (field BLOCK_UNNAMED (slice_index block 1) == 0)) (is_bad_base place block) due).1 in
    eqb-true (base_of block) place.position (by (is_snapshot block) (is_first place.before) (base_of block == place.position) log base)
  where
    by : (snapshot begins same : Bool) → snapshot ≡ false → not ((snapshot && begins) || same) ≡ false → same ≡ true
    by true begins same is good = cc
    by false begins true is good = refl
    by false begins false is good = cc

-- the size after a snapshot block whose third word is due
pub size_due : (shape : Shape) (place : Place) (block : List ℕ) → is_snapshot block ≡ true → is_bad_third shape place block ≡ false → (is_first place.before ≡ true → place.size ≡ 0) → max place.size (file_size block) ≡ file_size block
size_due shape place block snapshot due begun =
    let size : (nat_lt (words_in shape - 3) (entry_count block) || nat_lt (limit_of shape.block_bytes) (file_size block) || not (is_first place.before || file_size block == place.size)) ≡ false =
    subst (λ (b : Bool). (if b then nat_lt (words_in shape - 3) (entry_count block) || nat_lt (limit_of shape.block_bytes) (file_size block) || not (is_first place.before || file_size block == place.size) else not (slice_index block 2 == 0)) ≡ false) snapshot due in
    by (is_first place.before) (file_size block == place.size) refl refl
    (not-false (is_first place.before || file_size block == place.size) (or_parts (nat_lt (words_in shape - 3) (entry_count block) || nat_lt (limit_of shape.block_bytes) (file_size block)) (not (is_first place.before || file_size block == place.size)) size).1)
  where
    by : (begins same : Bool) → is_first place.before ≡ begins → (file_size block == place.size) ≡ same → (begins || same) ≡ true → max place.size (file_size block) ≡ file_size block
    by true same first_is same_is good = omega (arith, begun first_is)
    by false true first_is same_is good = omega (arith, eqb-true (file_size block) place.size same_is)
    by false false first_is same_is good = cc

-- the slots of a snapshot block are read
pub snapshot_block : (words : List ℕ) (shape : Shape) (place : Place) (number : ℕ) (block : List ℕ) (table next : FileMap) (taken chain : List ℕ) → is_snapshot block ≡ true → is_bad_third shape place block ≡ false → (is_first place.before ≡ true → place.size ≡ 0) →
    ReadsEntries (Ok tt) shape table taken chain (snapshot_slot_checks shape number place.entries (entry_count block) 3 (slots_of block)) place.size (place.entries ++ map direct_meaning (take (entry_count block) (slots_of block))) →
    next ≡ record table { size = max table.size (file_size block) } → ReadsSlots (Ok (record { closed = true; position = base_of block })) words shape next taken chain place number block
snapshot_block words shape place number block table next taken chain snapshot due begun reads grown = (
  ap (λ (b : Bool). first (if b then snapshot_slot_checks shape number place.entries (entry_count block) 3 (slots_of block) else log_slot_checks words shape number place.position place.entries false 3 (slots_of block))) snapshot ∙ reads.0,
  ap (λ (b : Bool). b || is_closed (slots_of block)) (sym snapshot),
  ap (λ (b : Bool). if b then base_of block else place.position + length (entry_words (slots_of block))) (sym snapshot),
  subst (λ (b : Bool). HasEntries shape next taken chain (if b then file_size block else size_after shape place.size (if b then entries else meanings_of words shape (slots_of block))) (place.entries ++ (if b then entries else meanings_of words shape (slots_of block)))) (sym snapshot)
      (subst (λ (t : FileMap). HasEntries shape t taken chain (file_size block) (place.entries ++ entries)) (sym grown)
      (record { map = record { each = reads.1.map.each }; sized = ap (λ (n : ℕ). max n (file_size block)) reads.1.sized ∙ size_due shape place block snapshot due begun; named = reads.1.named })),
)
  where
    entries : List Meaning
    entries = map direct_meaning (take (entry_count block) (slots_of block))

pub snapshot_refused : (words : List ℕ) (shape : Shape) (place : Place) (number : ℕ) (block : List ℕ) (why : BadImage) → is_snapshot block ≡ true →
    first (snapshot_slot_checks shape number place.entries (entry_count block) 3 (slots_of block)) ≡ Some why → first (slot_checks words shape place number block) ≡ Some why
snapshot_refused words shape place number block why snapshot found =
    ap (λ (b : Bool). first (if b then snapshot_slot_checks shape number place.entries (entry_count block) 3 (slots_of block) else log_slot_checks words shape number place.position place.entries false 3 (slots_of block))) snapshot ∙ found

log_checks : (words : List ℕ) (shape : Shape) (place : Place) (number : ℕ) (block : List ℕ) (base : ℕ) → is_snapshot block ≡ false → base ≡ place.position →
    first (slot_checks words shape place number block) ≡ first (log_slot_checks words shape number base place.entries false 3 (slots_of block))
log_checks words shape place number block base log due =
    ap (λ (b : Bool). first (if b then snapshot_slot_checks shape number place.entries (entry_count block) 3 (slots_of block) else log_slot_checks words shape number place.position place.entries false 3 (slots_of block))) log
    ∙ ap (λ (n : ℕ). first (log_slot_checks words shape number n place.entries false 3 (slots_of block))) (sym due)

-- the slots of a log block are read
pub log_block : (words : List ℕ) (shape : Shape) (place : Place) (number : ℕ) (block : List ℕ) (table : FileMap) (taken chain : List ℕ) (base : ℕ) (read : LogSlots) → is_snapshot block ≡ false → base ≡ place.position →
    ReadsLogSlots (Ok read) words shape table taken chain (log_slot_checks words shape number base place.entries false 3 (slots_of block)) place.size place.entries (slots_of block) →
    ReadsSlots (Ok (record { closed = read.closed; position = base + read.entries })) words shape table taken chain place number block
log_block words shape place number block table taken chain base read log due reads = (
  log_checks words shape place number block base log due ∙ reads.0,
  reads.1 ∙ ap (λ (b : Bool). b || is_closed (slots_of block)) (sym log),
  ap (λ (n : ℕ). n + read.entries) due ∙ ap (λ (n : ℕ). place.position + n) reads.2 ∙ ap (λ (b : Bool). if b then base_of block else place.position + length (entry_words (slots_of block))) (sym log),
  subst (λ (b : Bool). HasEntries shape table taken chain (if b then file_size block else size_after shape place.size (if b then entries else meanings_of words shape (slots_of block))) (place.entries ++ (if b then entries else meanings_of words shape (slots_of block)))) (sym log) reads.3,
)
  where
    entries : List Meaning
    entries = map direct_meaning (take (entry_count block) (slots_of block))

pub log_refused : (words : List ℕ) (shape : Shape) (place : Place) (number : ℕ) (block : List ℕ) (base : ℕ) (why : BadImage) → is_snapshot block ≡ false → base ≡ place.position →
    first (log_slot_checks words shape number base place.entries false 3 (slots_of block)) ≡ Some why → first (slot_checks words shape place number block) ≡ Some why
log_refused words shape place number block base why log due found = log_checks words shape place number block base log due ∙ found

-- a second word that is not due
pub second_found : (shape : Shape) (place : Place) (number : ℕ) (block : List ℕ) → is_bad_second place block ≡ true →
    first (check (is_bad_second place block) (BadBase number (slice_index block 1)) ∷ check (is_bad_third shape place block) (BadBase number (slice_index block 2)) ∷ []) ≡ Some (BadBase number (slice_index block 1))
second_found shape place number block bad = hit (is_bad_second place block) (BadBase number (slice_index block 1)) (check (is_bad_third shape place block) (BadBase number (slice_index block 2)) ∷ []) bad

-- a third word that is not due
pub third_found : (shape : Shape) (place : Place) (number : ℕ) (block : List ℕ) → is_bad_second place block ≡ false → is_bad_third shape place block ≡ true →
    first (check (is_bad_second place block) (BadBase number (slice_index block 1)) ∷ check (is_bad_third shape place block) (BadBase number (slice_index block 2)) ∷ []) ≡ Some (BadBase number (slice_index block 2))
third_found shape place number block due bad =
    skip (is_bad_second place block) (BadBase number (slice_index block 1)) (check (is_bad_third shape place block) (BadBase number (slice_index block 2)) ∷ []) due
    ∙ hit (is_bad_third shape place block) (BadBase number (slice_index block 2)) [] bad

-- a link that is followed
pub link_followed : (shape : Shape) (passed : List ℕ) (number : ℕ) (block : List ℕ) → leads_on block ≡ true → (not (is_in_log shape (link_of block)) || is_named_in (link_of block) passed) ≡ false →
    FollowsLink (Ok (Some (link_of block))) shape passed number block
link_followed shape passed number block leads good =
    let parts = or_parts (not (is_in_log shape (link_of block))) (is_named_in (link_of block) passed) good in
    (ap (λ (b : Bool). leads_on block && b) good ∙ none (leads_on block), leads, refl, not-false (is_in_log shape (link_of block)) parts.0, parts.1)
  where
    none : (b : Bool) → (b && false) ≡ false
    none true = refl
    none false = refl

pub link_refused : (shape : Shape) (passed : List ℕ) (number : ℕ) (block : List ℕ) → leads_on block ≡ true → (not (is_in_log shape (link_of block)) || is_named_in (link_of block) passed) ≡ true →
    FollowsLink (Err (BadLink number (link_of block))) shape passed number block
link_refused shape passed number block leads bad =
    hit (is_bad_link shape passed block) (BadLink number (link_of block)) [] (ap (λ (b : Bool). b && (not (is_in_log shape (link_of block)) || is_named_in (link_of block) passed)) leads ∙ bad)

-- a block of the log or spare area is inside the image
pub log_below : (shape : Shape) (block : ℕ) → is_in_log shape block ≡ true → block < total shape
log_below shape block far = ltb-true block (total shape) (and_parts (nat_lt shape.data_blocks block) (nat_lt block (total shape)) far).1

-- what reading a snapshot's slots says, by the numbers that are read of the block
pub snapshot_as : (shape : Shape) (place : Place) (number : ℕ) (block : List ℕ) (table : FileMap) (taken chain : List ℕ) (count : ℕ) (slots : List ℕ) → count ≡ entry_count block → slots ≡ slots_of block →
    ReadsEntries (Ok tt) shape table taken chain (snapshot_slot_checks shape number place.entries count 3 slots) place.size (place.entries ++ map direct_meaning (take count slots)) →
    ReadsEntries (Ok tt) shape table taken chain (snapshot_slot_checks shape number place.entries (entry_count block) 3 (slots_of block)) place.size (place.entries ++ map direct_meaning (take (entry_count block) (slots_of block)))
snapshot_as shape place number block table taken chain count slots same also reads =
    subst (λ (l : List ℕ). ReadsEntries (Ok tt) shape table taken chain (snapshot_slot_checks shape number place.entries (entry_count block) 3 l) place.size (place.entries ++ map direct_meaning (take (entry_count block) l))) also
    (subst (λ (n : ℕ). ReadsEntries (Ok tt) shape table taken chain (snapshot_slot_checks shape number place.entries n 3 slots) place.size (place.entries ++ map direct_meaning (take n slots))) same reads)
