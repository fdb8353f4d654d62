-- What a block of the chain is of which no condition holds.
use Rattle.std.proofs.Common.{◌≡◌, ◌<◌, ◌+◌, ◌-◌, ◌^◌, ◌==◌, ◌&&◌, ◌||◌, not, nat_le, nat_lt, ℕ, Bool, true, false, List, [], ◌∷◌, ◌++◌, length, get_or, take, drop, map, None, refl, arith}
use Rattle.std.specs.List.{list_all}
use Rattle.std.proofs.lemmas.Bool.Decides.{nat_tests}
use Rattle.std.proofs.Math.Nat.{mod-lt}
use Rattle.log_entry.specs.Shape.{limit_of}
use Rattle.log_entry.specs.declared.layouts.TheConstants.{EMPTY, SEAL, LOG, SNAPSHOT}
use Rattle.log_image.specs.Image.{Shape, words_in, is_in_log}
use Rattle.log_image.specs.Entries.{Meaning, direct_meaning, meaning, all_names}
use Rattle.log_image.specs.Blocks.{link_of, kind_of, is_snapshot, base_of, entry_count, file_size, slots_of, entry_words, leads_on}
use Rattle.log_image.specs.Chains.{all_different}
use Rattle.log_image.specs.Format.{all_zero, is_log_entry, is_snapshot_entry, is_seal_last, is_seal_placed, is_log_block, is_snapshot_block, is_kind_word}
use Rattle.opening_rules.specs.Checks.{check, first}
use Rattle.opening_rules.specs.SlotChecks.{is_named_in, log_slot_checks, snapshot_slot_checks}
use Rattle.opening_rules.specs.BlockChecks.{Place, is_first, is_bad_kind, is_bad_base, is_bad_second, is_bad_third, is_bad_link, slot_checks, block_checks}
use Rattle.opening_rules.specs.declared.refusals.BadImage.TheVariants.{BadBase, BadEntry, BadLink}
use Rattle.opening_rules.proofs.Firsts.{clean_here, clean_left, clean_right}
use Rattle.opening_rules.proofs.SlotFacts.{LogSlots, log_slots, SnapshotSlots, snapshot_slots}

-- none of the conditions of a block holds, part by part
pub record CleanParts (words : List ℕ) (shape : Shape) (place : Place) (number : ℕ) (block : List ℕ) : Type 0 where
  pub second : is_bad_second place block ≡ false
  pub third : is_bad_third shape place block ≡ false
  pub slots : first (slot_checks words shape place number block) ≡ None
  pub link : is_bad_link shape (place.before ++ number ∷ []) block ≡ false

pub clean_parts : (words : List ℕ) (shape : Shape) (place : Place) (number : ℕ) (block : List ℕ) → first (block_checks words shape place number block) ≡ None → CleanParts words shape place number block
clean_parts words shape place number block clean =
    let links = check (is_bad_link shape (place.before ++ number ∷ []) block) (BadLink number (link_of block)) ∷ [] in
    let slots = slot_checks words shape place number block in
    let one = clean_here (is_bad_second place block) (BadBase number (get_or block 1 0)) (check (is_bad_third shape place block) (BadBase number (get_or block 2 0)) ∷ (slots ++ links)) clean in
    let two = clean_here (is_bad_third shape place block) (BadBase number (get_or block 2 0)) (slots ++ links) one.1 in
    record {
      second = one.0;
      third = two.0;
      slots = clean_left slots links two.1;
      link = (clean_here (is_bad_link shape (place.before ++ number ∷ []) block) (BadLink number (link_of block)) [] (clean_right slots links two.1)).0;
    }

-- where a link is followed
link_good : (leads inside among : Bool) → (leads && (not inside || among)) ≡ false → leads ≡ true → (inside ≡ true) × (among ≡ false)
link_good true true false is leads = (refl, refl)
link_good true true true is leads = cc
link_good true false among is leads = cc
link_good false inside among is leads = cc

pub good_link : (words : List ℕ) (shape : Shape) (place : Place) (number : ℕ) (block : List ℕ) → CleanParts words shape place number block → leads_on block ≡ true →
    (is_in_log shape (link_of block) ≡ true) × (is_named_in (link_of block) (place.before ++ number ∷ []) ≡ false)
good_link words shape place number block parts leads = link_good (leads_on block) (is_in_log shape (link_of block)) (is_named_in (link_of block) (place.before ++ number ∷ [])) parts.link leads

-- the parts of a second word that is due
second_parts : (kind unnamed base : Bool) → (kind || not unnamed || base) ≡ false → (kind ≡ false) × (unnamed ≡ true) × (base ≡ false)
second_parts false true false is = (refl, refl, refl)
second_parts false true true is = cc
second_parts false false base is = cc
second_parts true unnamed base is = cc

pub good_word : (words : List ℕ) (shape : Shape) (place : Place) (number : ℕ) (block : List ℕ) → CleanParts words shape place number block → is_kind_word block ≡ true
good_word words shape place number block parts = (second_parts (is_bad_kind place block) (is_kind_word block) (is_bad_base place block) parts.second).1

kind_log : (log snapshot in_logs : Bool) → not (log || (snapshot && not in_logs)) ≡ false → snapshot ≡ false → log ≡ true
kind_log true snapshot in_logs is other = refl
kind_log false false in_logs is other = cc
kind_log false true in_logs is other = cc

kind_snapshot : (log snapshot in_logs : Bool) → not (log || (snapshot && not in_logs)) ≡ false → log ≡ false → in_logs ≡ false
kind_snapshot true snapshot in_logs is other = cc
kind_snapshot false true false is other = refl
kind_snapshot false true true is other = cc
kind_snapshot false false in_logs is other = cc

base_due : (free same : Bool) → not (free || same) ≡ false → free ≡ false → same ≡ true
base_due true same is other = cc
base_due false true is other = refl
base_due false false is other = cc

equal : (a b : ℕ) → (a == b) ≡ true → a ≡ b
equal a b is = grind (arith, nat_tests)

no_first : (snapshot start : Bool) → snapshot ≡ false → (snapshot && start) ≡ false
no_first false start is = refl
no_first true start is = cc

not_the_first : (snapshot start : Bool) → start ≡ false → (snapshot && start) ≡ false
not_the_first true false is = refl
not_the_first false start is = refl
not_the_first true true is = cc

not_not : (a : Bool) → not a ≡ false → a ≡ true
not_not true is = refl
not_not false is = cc

-- a log block that was passed
pub record LogBlock (words : List ℕ) (shape : Shape) (place : Place) (block : List ℕ) : Type 0 where
  pub kind : kind_of block ≡ LOG
  pub base : base_of block ≡ place.position
  pub good : is_log_block words shape block ≡ true
  pub below : place.position + length (entry_words (slots_of block)) < 2 ^ 40
  pub once : all_different (all_names (place.entries ++ map (meaning words shape) (entry_words (slots_of block)))) ≡ true

-- the first slot of a log block is no seal
no_seal_first : (words : List ℕ) (shape : Shape) (block position : ℕ) (entries : List Meaning) (slots : List ℕ) → first (log_slot_checks words shape block position entries false 3 slots) ≡ None → not (get_or slots 0 0 == SEAL) ≡ true
no_seal_first words shape block position entries [] clean = refl
no_seal_first words shape block position entries (word ∷ rest) clean = at (word == EMPTY) (word == SEAL) refl refl
  where
    neither : (a : ℕ) → (a == EMPTY) ≡ true → not (a == SEAL) ≡ true
    neither a is = grind (arith, nat_tests)

    at : (empty seal : Bool) → (word == EMPTY) ≡ empty → (word == SEAL) ≡ seal → not (word == SEAL) ≡ true
    at true seal is also = neither word is
    at false false is also = rw also refl
    at false true is also =
        let clean : first (check true (BadEntry block 3 word) ∷ log_slot_checks words shape block position entries true 4 rest) ≡ None = rw (is, also) at clean in
        cc

all_three : (a b c : Bool) → a ≡ true → b ≡ true → c ≡ true → (a && b && c) ≡ true
all_three a b c x y z = rw (x, y, z) refl

pub log_block : (words : List ℕ) (shape : Shape) (place : Place) (number : ℕ) (block : List ℕ) → CleanParts words shape place number block → is_snapshot block ≡ false →
    place.position < 2 ^ 40 → all_different (all_names place.entries) ≡ true → LogBlock words shape place block
log_block words shape place number block parts is below once =
    let second = second_parts (is_bad_kind place block) (is_kind_word block) (is_bad_base place block) parts.second in
    let clean : first (log_slot_checks words shape number place.position place.entries false 3 (slots_of block)) ≡ None = rw is at parts.slots in
    let third : not (get_or block 2 0 == 0) ≡ false = rw is at parts.third in
    let slots : LogSlots words shape place.position place.entries (slots_of block) = log_slots words shape number place.position 3 place.entries (slots_of block) clean below once in
    record {
      kind = equal (kind_of block) LOG (kind_log (kind_of block == LOG) (is_snapshot block) place.in_logs second.0 is);
      base = equal (base_of block) place.position (base_due (is_snapshot block && is_first place.before) (base_of block == place.position) second.2 (no_first (is_snapshot block) (is_first place.before) is));
      good = all_three (get_or block 2 0 == 0) (list_all (is_log_entry words shape) (entry_words (slots_of block))) (is_seal_placed (slots_of block))
          (not_not (get_or block 2 0 == 0) third) slots.good
          (seal (not (get_or (slots_of block) 0 0 == SEAL)) (is_seal_last (slots_of block)) (no_seal_first words shape number place.position place.entries (slots_of block) clean) slots.seal_last);
      below = slots.below;
      once = slots.once;
    }
  where
    seal : (a b : Bool) → a ≡ true → b ≡ true → (a && b) ≡ true
    seal a b one two = rw (one, two) refl

-- a snapshot block that was passed
pub record SnapshotBlock (shape : Shape) (place : Place) (block : List ℕ) : Type 0 where
  pub before_logs : place.in_logs ≡ false
  pub base : is_first place.before ≡ false → base_of block ≡ place.position
  pub size : is_first place.before ≡ false → file_size block ≡ place.size
  pub good : is_snapshot_block shape block ≡ true
  pub below : base_of block < 2 ^ 40
  pub once : all_different (all_names (place.entries ++ map direct_meaning (take (entry_count block) (slots_of block)))) ≡ true

third_parts : (few small same : Bool) → (few || small || not same) ≡ false → (few ≡ false) × (small ≡ false) × (same ≡ true)
third_parts false false true is = (refl, refl, refl)
third_parts false false false is = cc
third_parts false true same is = cc
third_parts true small same is = cc

at_most : (a b : ℕ) → nat_lt a b ≡ false → nat_le b a ≡ true
at_most a b is = grind (arith, nat_tests)

all_four : (a b c d : Bool) → a ≡ true → b ≡ true → c ≡ true → d ≡ true → (a && b && c && d) ≡ true
all_four a b c d x y z w = rw (x, y, z, w) refl

second_of : (start same : Bool) → (start || same) ≡ true → start ≡ false → same ≡ true
second_of true same is other = cc
second_of false same is other = is

pub snapshot_block : (words : List ℕ) (shape : Shape) (place : Place) (number : ℕ) (block : List ℕ) → CleanParts words shape place number block → is_snapshot block ≡ true →
    all_different (all_names place.entries) ≡ true → SnapshotBlock shape place block
snapshot_block words shape place number block parts is once =
    let second = second_parts (is_bad_kind place block) (is_kind_word block) (is_bad_base place block) parts.second in
    let clean : first (snapshot_slot_checks shape number place.entries (entry_count block) 3 (slots_of block)) ≡ None = rw is at parts.slots in
    let third : (nat_lt (words_in shape - 3) (entry_count block) || nat_lt (limit_of shape.block_bytes) (file_size block) || not (is_first place.before || file_size block == place.size)) ≡ false = rw is at parts.third in
    let of_third = third_parts (nat_lt (words_in shape - 3) (entry_count block)) (nat_lt (limit_of shape.block_bytes) (file_size block)) (is_first place.before || file_size block == place.size) third in
    let slots : SnapshotSlots shape place.entries (entry_count block) (slots_of block) = snapshot_slots shape number 3 place.entries (entry_count block) (slots_of block) clean once in
    record {
      before_logs = kind_snapshot (kind_of block == LOG) (is_snapshot block) place.in_logs second.0 (other_kind (kind_of block) is);
      base = λ later. equal (base_of block) place.position (base_due (is_snapshot block && is_first place.before) (base_of block == place.position) second.2 (not_the_first (is_snapshot block) (is_first place.before) later));
      size = λ later. equal (file_size block) place.size (second_of (is_first place.before) (file_size block == place.size) of_third.2 later);
      good = all_four (nat_le (entry_count block) (words_in shape - 3)) (nat_le (file_size block) (limit_of shape.block_bytes)) (list_all (is_snapshot_entry shape) (take (entry_count block) (slots_of block))) (all_zero (drop (entry_count block) (slots_of block)))
          (at_most (words_in shape - 3) (entry_count block) of_third.0) (at_most (limit_of shape.block_bytes) (file_size block) of_third.1) slots.good slots.zeros;
      below = mod-lt _ (omega arith);
      once = slots.once;
    }
  where
    other_kind : (kind : ℕ) → (kind == SNAPSHOT) ≡ true → (kind == LOG) ≡ false
    other_kind kind is = grind (arith, nat_tests)
