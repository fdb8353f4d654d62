-- Of a block that the format allows, and that is due in its place, no condition holds.
use Rattle.std.proofs.Common.{◌≡◌, ◌<◌, ◌+◌, ◌-◌, ◌^◌, ◌==◌, ◌&&◌, ◌||◌, not, nat_le, nat_lt, ℕ, true, false, List, [], ◌∷◌, ◌++◌, length, get_or, drop, map, None, sym, ◌∙◌, subst, append_assoc, arith}
use Rattle.std.specs.List.{list_all}
use Rattle.std.proofs.lemmas.Bool.{leb-true, le-ltb, eq-eqb, and_parts, and_from, and_left, and_right, or_from, or_left, or_right, not-true, not_from_true, not_from_false}
use Rattle.std.proofs.lemmas.Bool.Decides.{nat_tests}
use Rattle.log_entry.specs.Shape.{limit_of}
use Rattle.log_entry.specs.declared.layouts.TheConstants.{SEAL, LOG, SNAPSHOT}
use Rattle.log_image.specs.Image.{Shape, words_in, is_in_log}
use Rattle.log_image.specs.Entries.{Meaning, direct_meaning, meaning, all_names}
use Rattle.log_image.specs.Blocks.{link_of, kind_of, is_snapshot, base_of, entry_count, file_size, slots_of, kept_words, entry_words, leads_on}
use Rattle.log_image.specs.Chains.{all_different}
use Rattle.log_image.specs.Format.{all_zero, is_log_entry, is_snapshot_entry, is_seal_last, is_seal_placed, is_log_block, is_snapshot_block, is_kind_word}
use Rattle.opening_rules.specs.Checks.{check, first}
use Rattle.opening_rules.specs.SlotChecks.{is_named_in, log_slot_checks, snapshot_slot_checks}
use Rattle.opening_rules.specs.BlockChecks.{Place, is_first, is_bad_kind, is_bad_base, is_bad_second, is_bad_third, is_bad_link, slot_checks, block_checks}
use Rattle.opening_rules.specs.declared.refusals.BadImage.TheVariants.{BadBase, BadLink}
use Rattle.opening_rules.proofs.Firsts.{skip, pass_over}
use Rattle.opening_rules.proofs.Naming.{none_before}
use Rattle.opening_rules.proofs.BlockFacts.{CleanParts}
use Rattle.opening_rules.proofs.GoodSlots.{log_slots_pass, snapshot_slots_pass}

-- where no condition of a part holds, none of the block does
parts_pass : (words : List ℕ) (shape : Shape) (place : Place) (number : ℕ) (block : List ℕ) → CleanParts words shape place number block → first (block_checks words shape place number block) ≡ None
parts_pass words shape place number block parts =
    let links = check (is_bad_link shape (place.before ++ number ∷ []) block) (BadLink number (link_of block)) ∷ [] in
    let slots = slot_checks words shape place number block in
    skip (is_bad_second place block) (BadBase number (get_or block 1 0)) (check (is_bad_third shape place block) (BadBase number (get_or block 2 0)) ∷ (slots ++ links)) parts.second
    ∙ skip (is_bad_third shape place block) (BadBase number (get_or block 2 0)) (slots ++ links) parts.third
    ∙ pass_over slots links parts.slots
    ∙ skip (is_bad_link shape (place.before ++ number ∷ []) block) (BadLink number (link_of block)) [] parts.link

-- a second word that is due
second_passes : (place : Place) (block : List ℕ) → is_bad_kind place block ≡ false → is_kind_word block ≡ true → is_bad_base place block ≡ false → is_bad_second place block ≡ false
second_passes place block kind named base =
    or_from (is_bad_kind place block || not (is_kind_word block)) (is_bad_base place block)
    (or_from (is_bad_kind place block) (not (is_kind_word block)) kind (not_from_true (is_kind_word block) named)) base

pub no_snapshot_kind : (kind : ℕ) → kind ≡ LOG → (kind == SNAPSHOT) ≡ false
no_snapshot_kind kind is = grind (arith, nat_tests)

-- a log block at a place of its base; others' entries follow
pub log_block_passes : (words : List ℕ) (shape : Shape) (place : Place) (number : ℕ) (block : List ℕ) (others : List Meaning) → kind_of block ≡ LOG → is_kind_word block ≡ true → base_of block ≡ place.position → is_log_block words shape block ≡ true →
    place.position + length (entry_words (slots_of block)) < 2 ^ 40 → all_different (all_names (place.entries ++ (map (meaning words shape) (entry_words (slots_of block)) ++ others))) ≡ true →
    is_bad_link shape (place.before ++ number ∷ []) block ≡ false → first (block_checks words shape place number block) ≡ None
log_block_passes words shape place number block others kind named base good below once link =
    let other : is_snapshot block ≡ false = no_snapshot_kind (kind_of block) kind in
    let parts = and_parts (get_or block 2 0 == 0 && list_all (is_log_entry words shape) (entry_words (slots_of block))) (is_seal_placed (slots_of block)) good in
    let front = and_parts (get_or block 2 0 == 0) (list_all (is_log_entry words shape) (entry_words (slots_of block))) parts.0 in
    let seal = and_parts (not (get_or (slots_of block) 0 0 == SEAL)) (is_seal_last (slots_of block)) parts.1 in
    let slots : first (log_slot_checks words shape number place.position place.entries false 3 (slots_of block)) ≡ None =
    log_slots_pass words shape number place.position 3 place.entries others (slots_of block) (omega arith) (λ third. not-true (get_or (slots_of block) 0 0 == SEAL) seal.0) front.1 seal.1 below once in
    parts_pass words shape place number block (record {
      second = second_passes place block
          (not_from_true (kind_of block == LOG || (is_snapshot block && not place.in_logs)) (or_left (kind_of block == LOG) (is_snapshot block && not place.in_logs) (eq-eqb (kind_of block) LOG kind)))
          named
          (not_from_true ((is_snapshot block && is_first place.before) || base_of block == place.position) (or_right (is_snapshot block && is_first place.before) (base_of block == place.position) (eq-eqb (base_of block) place.position base)));
      third = simp (other, front.0);
      slots = rw other slots;
      link = link;
    })

-- a snapshot block before each log block, with the base and the size that are due unless it is the first; others' entries follow
pub snapshot_block_passes : (words : List ℕ) (shape : Shape) (place : Place) (number : ℕ) (block : List ℕ) (others : List Meaning) → is_snapshot block ≡ true → place.in_logs ≡ false → is_kind_word block ≡ true →
    (is_first place.before || base_of block == place.position) ≡ true → (is_first place.before || file_size block == place.size) ≡ true → is_snapshot_block shape block ≡ true →
    all_different (all_names (place.entries ++ (map direct_meaning (kept_words block) ++ others))) ≡ true →
    is_bad_link shape (place.before ++ number ∷ []) block ≡ false → first (block_checks words shape place number block) ≡ None
snapshot_block_passes words shape place number block others is in_logs named base size good once link =
    let fits = nat_le (entry_count block) (words_in shape - 3) in
    let small = nat_le (file_size block) (limit_of shape.block_bytes) in
    let entries = list_all (is_snapshot_entry shape) (kept_words block) in
    let zeros = all_zero (drop (entry_count block) (slots_of block)) in
    let last = and_parts (fits && small && entries) zeros good in
    let middle = and_parts (fits && small) entries last.0 in
    let front = and_parts fits small middle.0 in
    let slots : first (snapshot_slot_checks shape number place.entries (entry_count block) 3 (slots_of block)) ≡ None =
    snapshot_slots_pass shape number 3 place.entries others (entry_count block) (slots_of block) middle.1 last.1 once in
    parts_pass words shape place number block (record {
      second = second_passes place block
          (not_from_true (kind_of block == LOG || (is_snapshot block && not place.in_logs))
          (or_right (kind_of block == LOG) (is_snapshot block && not place.in_logs) (and_from (is_snapshot block) (not place.in_logs) is (not_from_false place.in_logs in_logs))))
          named
          (rw is (not_from_true (is_first place.before || base_of block == place.position) base));
      third = rw is (or_from (nat_lt (words_in shape - 3) (entry_count block) || nat_lt (limit_of shape.block_bytes) (file_size block)) (not (is_first place.before || file_size block == place.size))
          (or_from (nat_lt (words_in shape - 3) (entry_count block)) (nat_lt (limit_of shape.block_bytes) (file_size block))
          (le-ltb (words_in shape - 3) (entry_count block) (leb-true (entry_count block) (words_in shape - 3) front.0))
          (le-ltb (limit_of shape.block_bytes) (file_size block) (leb-true (file_size block) (limit_of shape.block_bytes) front.1)))
          (not_from_true (is_first place.before || file_size block == place.size) size));
      slots = rw is slots;
      link = link;
    })

-- the link of a block that leads on to none
pub end_link : (shape : Shape) (passed block : List ℕ) → leads_on block ≡ false → is_bad_link shape passed block ≡ false
end_link shape passed block leads = and_left (leads_on block) (not (is_in_log shape (link_of block)) || is_named_in (link_of block) passed) leads

-- the link of a block to the one that follows it among different blocks
pub next_link : (shape : Shape) (before rest : List ℕ) (number next : ℕ) (block : List ℕ) → link_of block ≡ next → is_in_log shape next ≡ true → all_different (before ++ number ∷ next ∷ rest) ≡ true →
    is_bad_link shape (before ++ number ∷ []) block ≡ false
next_link shape before rest number next block link inside different =
    let new : is_named_in next (before ++ number ∷ []) ≡ false = none_before (before ++ number ∷ []) rest next (subst (λ (l : List ℕ). all_different l ≡ true) (sym (append_assoc before (number ∷ []) (next ∷ rest))) different) in
    let good : (not (is_in_log shape next) || is_named_in next (before ++ number ∷ [])) ≡ false = or_from (not (is_in_log shape next)) (is_named_in next (before ++ number ∷ [])) (not_from_true (is_in_log shape next) inside) new in
    and_right (leads_on block) (not (is_in_log shape (link_of block)) || is_named_in (link_of block) (before ++ number ∷ []))
    (subst (λ (b : ℕ). (not (is_in_log shape b) || is_named_in b (before ++ number ∷ [])) ≡ false) (sym link) good)
