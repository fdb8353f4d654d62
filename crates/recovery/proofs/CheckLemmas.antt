-- A block of the chain, from what its parts answer.
use Rattle.std.proofs.Common.{◌≡◌, ◌<◌, ◌^◌, ◌==◌, ◌&&◌, ◌||◌, not, ℕ, Bool, true, false, List, [], ◌∷◌, ◌++◌, slice_index, refl, sym, ap, ◌∙◌, subst, Option, Result, Ok, Err, Some, None}
use Rattle.std.specs.Global.{Vec}
use Rattle.std.specs.List.{list_all}
use Rattle.std.proofs.lemmas.Bool.{and_from}
use Rattle.std.proofs.lemmas.List.Folds.{list_any-append, list_all-append}
use Rattle.log_image.specs.Image.{Shape, total, is_in_log, block_words}
use Rattle.log_image.specs.Entries.{all_names}
use Rattle.log_image.specs.Blocks.{is_snapshot, link_of}
use Rattle.opening_rules.specs.Checks.{Check, check, first}
use Rattle.opening_rules.specs.SlotChecks.{is_named_in}
use Rattle.opening_rules.specs.BlockChecks.{Place, is_first, is_bad_second, is_bad_third, is_bad_link, slot_checks, block_checks, place_after}
use Rattle.opening_rules.specs.declared.refusals.BadImage.{BadImage}
use Rattle.opening_rules.specs.declared.refusals.BadImage.TheVariants.{BadBase, BadLink}
use Rattle.opening_rules.proofs.Firsts.{skip, pass_over, found_in}
use Rattle.recovery.specs.declared.reading.Reading.{Reading}
use Rattle.log_image.specs.Taken.{HasBits}
use Rattle.recovery.specs.Readings.{ReadsUpTo}
use Rattle.recovery.specs.Slots.{HasEntries}
use Rattle.recovery.specs.BlockAnswers.{ChecksWords, FollowsLink, ChecksBlock}
use Rattle.recovery.specs.ReadBlocks.{ReadsBlock}
use Rattle.recovery.proofs.BitsLemmas.{bit_if}
use Rattle.recovery.proofs.BlockLemmas.{log_below}

-- the blocks passed, and one more before those that are named
bits_moved : (shape : Shape) (taken before named : List ℕ) (block : ℕ) → HasBits shape taken ((before ++ named) ++ block ∷ []) → HasBits shape taken ((before ++ block ∷ []) ++ named)
bits_moved shape taken before named block has = record {
  room = has.room;
  bits = λ other below. has.bits other below ∙ ap (λ (b : Bool). bit_if (other == 0 || b)) (moved other);
}
  where
    moved : (other : ℕ) → is_named_in other ((before ++ named) ++ block ∷ []) ≡ is_named_in other ((before ++ block ∷ []) ++ named)
    moved other =
        list_any-append (λ (one : ℕ). one == other) (before ++ named) (block ∷ [])
        ∙ ap (λ (b : Bool). b || is_named_in other (block ∷ [])) (list_any-append (λ (one : ℕ). one == other) before named)
        ∙ swap (is_named_in other before) (is_named_in other named) (is_named_in other (block ∷ []))
        ∙ sym (list_any-append (λ (one : ℕ). one == other) (before ++ block ∷ []) named
        ∙ ap (λ (b : Bool). b || is_named_in other named) (list_any-append (λ (one : ℕ). one == other) before (block ∷ [])))
      where
        swap : (a b c : Bool) → ((a || b) || c) ≡ ((a || c) || b)
        swap true b c = refl
        swap false true true = refl
        swap false true false = refl
        swap false false true = refl
        swap false false false = refl

-- before the slots of a block, whose bit is set
pub begins : (shape : Shape) (reading : Reading) (place : Place) (block : ℕ) (taken : List ℕ) → ReadsUpTo shape reading place → is_in_log shape block ≡ true →
    ((blocks : List ℕ) → block < total shape → HasBits shape reading.taken.items blocks → HasBits shape taken (blocks ++ block ∷ [])) →
    HasEntries shape reading.table taken (place.before ++ block ∷ []) place.size place.entries
begins shape reading place block taken agrees far sets = record {
  map = agrees.map;
  sized = agrees.size;
  named = record {
    bits = bits_moved shape taken place.before (all_names place.entries) block (sets (place.before ++ all_names place.entries) (log_below shape block far) agrees.bits);
    in_log = list_all-append (is_in_log shape) place.before (block ∷ []) ∙ and_from (list_all (is_in_log shape) place.before) (is_in_log shape block && true) agrees.in_log (rw far refl);
    in_data = agrees.in_data;
  };
}

-- the second or the third word is refused
pub words_refused : (words : List ℕ) (shape : Shape) (place : Place) (number : ℕ) (block : List ℕ) (why : BadImage) → ChecksWords (Err why) shape place number block → first (block_checks words shape place number block) ≡ Some why
words_refused words shape place number block why found =
    found_in (check (is_bad_second place block) (BadBase number (slice_index block 1)) ∷ check (is_bad_third shape place block) (BadBase number (slice_index block 2)) ∷ []) (slot_checks words shape place number block ++ check (is_bad_link shape (place.before ++ number ∷ []) block) (BadLink number (link_of block)) ∷ []) why found

-- both are due
after_words : (words : List ℕ) (shape : Shape) (place : Place) (number : ℕ) (block : List ℕ) → ChecksWords (Ok tt) shape place number block →
    first (block_checks words shape place number block) ≡ first (slot_checks words shape place number block ++ check (is_bad_link shape (place.before ++ number ∷ []) block) (BadLink number (link_of block)) ∷ [])
after_words words shape place number block due =
    skip (is_bad_second place block) (BadBase number (slice_index block 1)) (check (is_bad_third shape place block) (BadBase number (slice_index block 2)) ∷ rest) due.0
    ∙ skip (is_bad_third shape place block) (BadBase number (slice_index block 2)) rest due.1
  where
    rest : List Check
    rest = slot_checks words shape place number block ++ check (is_bad_link shape (place.before ++ number ∷ []) block) (BadLink number (link_of block)) ∷ []

-- a slot is refused
pub slots_refused : (words : List ℕ) (shape : Shape) (place : Place) (number : ℕ) (block : List ℕ) (why : BadImage) → ChecksWords (Ok tt) shape place number block → first (slot_checks words shape place number block) ≡ Some why →
    first (block_checks words shape place number block) ≡ Some why
slots_refused words shape place number block why due found =
    after_words words shape place number block due ∙ found_in (slot_checks words shape place number block) (check (is_bad_link shape (place.before ++ number ∷ []) block) (BadLink number (link_of block)) ∷ []) why found

-- no slot is
after_slots : (words : List ℕ) (shape : Shape) (place : Place) (number : ℕ) (block : List ℕ) → ChecksWords (Ok tt) shape place number block → first (slot_checks words shape place number block) ≡ None →
    first (block_checks words shape place number block) ≡ first (check (is_bad_link shape (place.before ++ number ∷ []) block) (BadLink number (link_of block)) ∷ [])
after_slots words shape place number block due clean =
    after_words words shape place number block due ∙ pass_over (slot_checks words shape place number block) (check (is_bad_link shape (place.before ++ number ∷ []) block) (BadLink number (link_of block)) ∷ []) clean

-- the same conditions by the words of the block in the image
pub refused_as : (words : List ℕ) (shape : Shape) (place : Place) (number : ℕ) (block : List ℕ) (why : BadImage) (reading : Reading) → block ≡ block_words words shape number → first (block_checks words shape place number block) ≡ Some why →
    ChecksBlock (Err why) words shape place number reading
refused_as words shape place number block why reading same found = subst (λ (l : List ℕ). first (block_checks words shape place number l) ≡ Some why) same found

-- what the reading has after the block
pub record Reached (words : List ℕ) (shape : Shape) (place : Place) (number : ℕ) (block : List ℕ) (reading : Reading) : Type 0 where
  pub in_logs : reading.in_logs ≡ not (is_snapshot block)
  pub position : reading.position ≡ (place_after words shape place number block).position
  pub below : reading.position < 2 ^ 40
  pub has : HasEntries shape reading.table reading.taken.items (place.before ++ number ∷ []) (place_after words shape place number block).size (place_after words shape place number block).entries

not_first : (blocks : List ℕ) (block : ℕ) → is_first (blocks ++ block ∷ []) ≡ false
not_first [] block = refl
not_first (other ∷ blocks) block = refl

agrees_after : (words : List ℕ) (shape : Shape) (place : Place) (number : ℕ) (block : List ℕ) (reading : Reading) → Reached words shape place number block reading →
    (chain : Vec ℕ) → chain.items ≡ place.before ++ number ∷ [] → ReadsUpTo shape (record reading { chain = chain }) (place_after words shape place number block)
agrees_after words shape place number block reading is chain same = record {
  chain = same;
  in_logs = is.in_logs;
  position = is.position;
  size = is.has.sized;
  map = is.has.map;
  bits = is.has.named.bits;
  in_log = is.has.named.in_log;
  in_data = is.has.named.in_data;
  below = subst (λ (n : ℕ). n < 2 ^ 40) is.position is.below;
  begun = λ begins. absurd (differ (is_first (place.before ++ number ∷ [])) (not_first place.before number) begins);
}
  where
    differ : (b : Bool) → b ≡ false → b ≡ true → ⊥
    differ true e f = cc
    differ false e f = cc

-- what the block's link answers is what the block answers
pub link_checked : (result : Result (Option ℕ) BadImage) (words : List ℕ) (shape : Shape) (place : Place) (number : ℕ) (block : List ℕ) (reading : Reading) → block ≡ block_words words shape number →
    ChecksWords (Ok tt) shape place number block → first (slot_checks words shape place number block) ≡ None → Reached words shape place number block reading → FollowsLink result shape (place.before ++ number ∷ []) number block →
    ChecksBlock result words shape place number reading
link_checked (Err why) words shape place number block reading same due clean is follows = refused_as words shape place number block why reading same (after_slots words shape place number block due clean ∙ follows)
link_checked (Ok None) words shape place number block reading same due clean is follows =
    subst (λ (l : List ℕ). (first (block_checks words shape place number l) ≡ None) × FollowsLink (Ok None) shape (place.before ++ number ∷ []) number l
    × ((chain : Vec ℕ) → chain.items ≡ place.before ++ number ∷ [] → ReadsUpTo shape (record reading { chain = chain }) (place_after words shape place number l))) same
    (after_slots words shape place number block due clean ∙ skip (is_bad_link shape (place.before ++ number ∷ []) block) (BadLink number (link_of block)) [] follows.0, follows, agrees_after words shape place number block reading is)
link_checked (Ok (Some next)) words shape place number block reading same due clean is follows =
    subst (λ (l : List ℕ). (first (block_checks words shape place number l) ≡ None) × FollowsLink (Ok (Some next)) shape (place.before ++ number ∷ []) number l
    × ((chain : Vec ℕ) → chain.items ≡ place.before ++ number ∷ [] → ReadsUpTo shape (record reading { chain = chain }) (place_after words shape place number l))) same
    (after_slots words shape place number block due clean ∙ skip (is_bad_link shape (place.before ++ number ∷ []) block) (BadLink number (link_of block)) [] follows.0, follows, agrees_after words shape place number block reading is)

-- with its number among the reading's, the block is read
pub block_read : (next : Option ℕ) (words : List ℕ) (shape : Shape) (place : Place) (number : ℕ) (reading : Reading) (chain : Vec ℕ) → chain.items ≡ place.before ++ number ∷ [] → ChecksBlock (Ok next) words shape place number reading →
    ReadsBlock (Ok next) words shape place number (record reading { chain = chain })
block_read None words shape place number reading chain same checks = (checks.0, checks.1.1, checks.2 chain same)
block_read (Some next) words shape place number reading chain same checks = (checks.0, checks.1.1, checks.1.2, checks.1.3, checks.1.4, checks.2 chain same)

-- what setting a bit says, by the list of a vector
pub sets_as : (shape : Shape) (block : ℕ) (slice items taken : List ℕ) → slice ≡ items →
    ((blocks : List ℕ) → block < total shape → HasBits shape slice blocks → HasBits shape taken (blocks ++ block ∷ [])) →
    (blocks : List ℕ) → block < total shape → HasBits shape items blocks → HasBits shape taken (blocks ++ block ∷ [])
sets_as shape block slice items taken same sets blocks below has = sets blocks below (subst (λ (l : List ℕ). HasBits shape l blocks) (sym same) has)
