-- A chain that goes on: the blocks before its tail and those that its entries name are the same, the tail may have more entries, and blocks may follow it.
use Rattle.std.proofs.Common.{◌≡◌, ◌+◌, ◌<◌, ◌==◌, ◌^◌, max, ℕ, true, false, List, [], ◌∷◌, ◌++◌, length, get_or, map, refl, sym, ap, ◌∙◌, subst, arith, length-append, append_assoc}
use Rattle.std.specs.List.{list_all, flat_map}
use Rattle.std.proofs.lemmas.List.{map-append}
use Rattle.std.proofs.lemmas.Grind.{flat_map-append}
use Rattle.log_entry.specs.Fields.{field}
use Rattle.log_entry.specs.declared.layouts.TheConstants.{BLOCK_KIND, SNAPSHOT, BLOCK_UNNAMED}
use Rattle.log_image.specs.Image.{Shape, is_in_log, block_words}
use Rattle.log_image.specs.Header.{head_block}
use Rattle.log_image.specs.Entries.{Meaning, direct_meaning, meaning, all_names}
use Rattle.log_image.specs.Blocks.{is_snapshot, slots_of}
use Rattle.log_image.specs.Chains.{all_different, snapshots_of, logs_of, LeadsAlong, first_base, first_size, snapshot_base, snapshot_size, HaveOneBase, AreLogsFrom, IsChain}
use Rattle.log_image.specs.Positions.{snapshot_entries, log_words, log_entries, entries_of, position_of, size_at_end}
use Rattle.log_image.specs.Maps.{size_after, entry_end}
use Rattle.log_image.specs.Format.{is_log_entry, is_log_block, is_seal_placed, is_snapshot_block, is_kind_word, HasFormat}
use Rattle.log_image.proofs.HoldingLemmas.{both_left}
use Rattle.log_image.proofs.ClearedChains.{both}
use Rattle.log_image.specs.SameWords.{SameBlocks}
use Rattle.image_steps.specs.Steps.{fits_log}
use Rattle.log_image.proofs.ListLemmas.{all_join, all_front, all_back, each_front, each_back}
use Rattle.log_image.proofs.ChainSteps.{log_entry_words, snapshots_front, logs_front, snapshots_kept, logs_kept, same_snapshots, same_logs, linked_kept, bases_kept, first_base_kept, first_size_kept, words_kept, logs_go_on}
use Rattle.log_image.proofs.EntrySteps.{meanings_kept, entries_kept, names_join, third_of, entries_in, good_block, logs_good, kept_in, kept_same, tests_kept, direct_entries}

-- the blocks before the tail, and those that the entries name, are the same; the tail has these entries more, and these log
-- blocks, of no entry yet, follow it
pub record Extends (shape : Shape) (old new front : List ℕ) (tail : ℕ) (more added : List ℕ) : Type 0 where
  pub head : head_block new ≡ head_block old
  pub front_same : SameBlocks shape old new front
  pub names_same : SameBlocks shape old new (all_names (entries_of old shape (front ++ tail ∷ [])))
  pub word : get_or (block_words new shape tail) 1 0 ≡ get_or (block_words old shape tail) 1 0
  pub third : get_or (block_words new shape tail) 2 0 ≡ get_or (block_words old shape tail) 2 0
  pub is_log : is_snapshot (block_words old shape tail) ≡ false
  pub placed : is_seal_placed (slots_of (block_words new shape tail)) ≡ true
  pub tail_words : log_entry_words new shape tail ≡ log_entry_words old shape tail ++ added
  pub onward : LeadsAlong new shape tail more
  pub more_logs : AreLogsFrom new shape (position_of old shape (front ++ tail ∷ []) + length added) more
  pub more_empty : flat_map (log_entry_words new shape) more ≡ []
  pub more_areas : list_all (is_in_log shape) more ≡ true
  pub more_kinds : list_all (λ (b : ℕ). is_kind_word (block_words new shape b)) more ≡ true
  pub more_good : list_all (λ (b : ℕ). is_log_block new shape (block_words new shape b)) more ≡ true
  pub different : all_different (front ++ tail ∷ more) ≡ true
  pub added_fit : list_all (fits_log shape) added ≡ true
  pub named_once : all_different (all_names (entries_of old shape (front ++ tail ∷ []) ++ map direct_meaning added)) ≡ true
  pub below_limit : position_of old shape (front ++ tail ∷ []) + length added < 2 ^ 40

-- what was known of the old image
pub record Began (shape : Shape) (old front : List ℕ) (tail : ℕ) : Type 0 where
  pub is_chain : IsChain old shape (front ++ tail ∷ [])
  pub format : HasFormat old shape (front ++ tail ∷ [])

-- what follows for the new one
pub record Extended (shape : Shape) (old new front : List ℕ) (tail : ℕ) (more added : List ℕ) : Type 0 where
  pub is_chain : IsChain new shape (front ++ tail ∷ more)
  pub format : HasFormat new shape (front ++ tail ∷ more)
  pub entries : entries_of new shape (front ++ tail ∷ more) ≡ entries_of old shape (front ++ tail ∷ []) ++ map direct_meaning added
  pub position : position_of new shape (front ++ tail ∷ more) ≡ position_of old shape (front ++ tail ∷ []) + length added
  pub size : size_at_end new shape (front ++ tail ∷ more) ≡ size_after shape (size_at_end old shape (front ++ tail ∷ [])) (map direct_meaning added)

-- the size after entries that are put together
pub size_join : (shape : Shape) (size : ℕ) (first second : List Meaning) → size_after shape size (first ++ second) ≡ size_after shape (size_after shape size first) second
size_join shape size [] second = refl
size_join shape size (entry ∷ first) second = size_join shape (max size (entry_end shape entry)) first second

new_log : (shape : Shape) (old new front : List ℕ) (tail : ℕ) (more added : List ℕ) → Extends shape old new front tail more added → is_snapshot (block_words new shape tail) ≡ false
new_log shape old new front tail more added is = ap (λ (w : ℕ). field BLOCK_KIND w == SNAPSHOT) is.word ∙ is.is_log

snapshots_new : (shape : Shape) (old new front : List ℕ) (tail : ℕ) (more added : List ℕ) → Extends shape old new front tail more added → snapshots_of new shape (front ++ tail ∷ more) ≡ snapshots_of old shape front
snapshots_new shape old new front tail more added is = snapshots_front new shape front tail more (new_log shape old new front tail more added is) ∙ snapshots_kept shape old new front is.front_same

logs_new : (shape : Shape) (old new front : List ℕ) (tail : ℕ) (more added : List ℕ) → Extends shape old new front tail more added → logs_of new shape (front ++ tail ∷ more) ≡ logs_of old shape front ++ tail ∷ more
logs_new shape old new front tail more added is = logs_front new shape front tail more (new_log shape old new front tail more added is) ∙ ap (λ (l : List ℕ). l ++ tail ∷ more) (logs_kept shape old new front is.front_same)

base_new : (shape : Shape) (old new front : List ℕ) (tail : ℕ) (more added : List ℕ) → Extends shape old new front tail more added → snapshot_base new shape (front ++ tail ∷ more) ≡ snapshot_base old shape (front ++ tail ∷ [])
base_new shape old new front tail more added is =
    ap (λ (l : List ℕ). first_base new shape l) (snapshots_new shape old new front tail more added is)
    ∙ first_base_kept shape old new (snapshots_of old shape front) (same_snapshots shape old new front is.front_same)
    ∙ sym (ap (λ (l : List ℕ). first_base old shape l) (snapshots_front old shape front tail [] is.is_log))

size_new : (shape : Shape) (old new front : List ℕ) (tail : ℕ) (more added : List ℕ) → Extends shape old new front tail more added → snapshot_size new shape (front ++ tail ∷ more) ≡ snapshot_size old shape (front ++ tail ∷ [])
size_new shape old new front tail more added is =
    ap (λ (l : List ℕ). first_size new shape l) (snapshots_new shape old new front tail more added is)
    ∙ first_size_kept shape old new (snapshots_of old shape front) (same_snapshots shape old new front is.front_same)
    ∙ sym (ap (λ (l : List ℕ). first_size old shape l) (snapshots_front old shape front tail [] is.is_log))

-- the entries' words before the tail's
words_old : (shape : Shape) (old front : List ℕ) (tail : ℕ) → is_snapshot (block_words old shape tail) ≡ false → log_words old shape (front ++ tail ∷ []) ≡ flat_map (log_entry_words old shape) (logs_of old shape front) ++ log_entry_words old shape tail
words_old shape old front tail log =
    ap (λ (l : List ℕ). flat_map (log_entry_words old shape) l) (logs_front old shape front tail [] log)
    ∙ flat_map-append (log_entry_words old shape) (logs_of old shape front) (tail ∷ [])
    ∙ ap (λ (l : List ℕ). flat_map (log_entry_words old shape) (logs_of old shape front) ++ l) (nothing_after (log_entry_words old shape tail))
  where
    nothing_after : (words : List ℕ) → words ++ [] ≡ words
    nothing_after [] = refl
    nothing_after (word ∷ words) = ap (λ (l : List ℕ). word ∷ l) (nothing_after words)

words_new : (shape : Shape) (old new front : List ℕ) (tail : ℕ) (more added : List ℕ) → Extends shape old new front tail more added → log_words new shape (front ++ tail ∷ more) ≡ log_words old shape (front ++ tail ∷ []) ++ added
words_new shape old new front tail more added is =
    ap (λ (l : List ℕ). flat_map (log_entry_words new shape) l) (logs_new shape old new front tail more added is)
    ∙ flat_map-append (log_entry_words new shape) (logs_of old shape front) (tail ∷ more)
    ∙ ap (λ (l : List ℕ). l ++ (log_entry_words new shape tail ++ flat_map (log_entry_words new shape) more)) (words_kept shape old new (logs_of old shape front) (same_logs shape old new front is.front_same))
    ∙ ap (λ (l : List ℕ). flat_map (log_entry_words old shape) (logs_of old shape front) ++ l) (ap (λ (l : List ℕ). log_entry_words new shape tail ++ l) is.more_empty ∙ nothing_after (log_entry_words new shape tail) ∙ is.tail_words)
    ∙ sym (append_assoc (flat_map (log_entry_words old shape) (logs_of old shape front)) (log_entry_words old shape tail) added)
    ∙ sym (ap (λ (l : List ℕ). l ++ added) (words_old shape old front tail is.is_log))
  where
    nothing_after : (words : List ℕ) → words ++ [] ≡ words
    nothing_after [] = refl
    nothing_after (word ∷ words) = ap (λ (l : List ℕ). word ∷ l) (nothing_after words)

-- the blocks that the entries of the log name are the same
log_names : (shape : Shape) (old new front : List ℕ) (tail : ℕ) (more added : List ℕ) → Extends shape old new front tail more added → SameBlocks shape old new (all_names (log_entries old shape (front ++ tail ∷ [])))
log_names shape old new front tail more added is =
    each_back (λ (b : ℕ). block_words new shape b ≡ block_words old shape b) (all_names (snapshot_entries old shape (front ++ tail ∷ []))) (all_names (log_entries old shape (front ++ tail ∷ [])))
    (subst (λ (l : List ℕ). SameBlocks shape old new l) (flat_map-append (λ (m : Meaning). m.holder ++ m.blocks) (snapshot_entries old shape (front ++ tail ∷ [])) (log_entries old shape (front ++ tail ∷ []))) is.names_same)

log_new : (shape : Shape) (old new front : List ℕ) (tail : ℕ) (more added : List ℕ) → Extends shape old new front tail more added → log_entries new shape (front ++ tail ∷ more) ≡ log_entries old shape (front ++ tail ∷ []) ++ map direct_meaning added
log_new shape old new front tail more added is =
    ap (λ (l : List ℕ). map (meaning new shape) l) (words_new shape old new front tail more added is)
    ∙ map-append (meaning new shape) (log_words old shape (front ++ tail ∷ [])) added
    ∙ ap (λ (l : List Meaning). l ++ map (meaning new shape) added) (meanings_kept shape old new (log_words old shape (front ++ tail ∷ [])) (log_names shape old new front tail more added is))
    ∙ ap (λ (l : List Meaning). log_entries old shape (front ++ tail ∷ []) ++ l) (direct_entries shape new added is.added_fit).1

entries_new : (shape : Shape) (old new front : List ℕ) (tail : ℕ) (more added : List ℕ) → Extends shape old new front tail more added → entries_of new shape (front ++ tail ∷ more) ≡ entries_of old shape (front ++ tail ∷ []) ++ map direct_meaning added
entries_new shape old new front tail more added is =
    ap (λ (l : List Meaning). l ++ log_entries new shape (front ++ tail ∷ more)) kept
    ∙ ap (λ (l : List Meaning). snapshot_entries old shape (front ++ tail ∷ []) ++ l) (log_new shape old new front tail more added is)
    ∙ sym (append_assoc (snapshot_entries old shape (front ++ tail ∷ [])) (log_entries old shape (front ++ tail ∷ [])) (map direct_meaning added))
  where
    kept : snapshot_entries new shape (front ++ tail ∷ more) ≡ snapshot_entries old shape (front ++ tail ∷ [])
    kept =
        ap (λ (l : List ℕ). flat_map (kept_in new shape) l) (snapshots_new shape old new front tail more added is)
        ∙ kept_same shape old new (snapshots_of old shape front) (same_snapshots shape old new front is.front_same)
        ∙ sym (ap (λ (l : List ℕ). flat_map (kept_in old shape) l) (snapshots_front old shape front tail [] is.is_log))

position_new : (shape : Shape) (old new front : List ℕ) (tail : ℕ) (more added : List ℕ) → Extends shape old new front tail more added → position_of new shape (front ++ tail ∷ more) ≡ position_of old shape (front ++ tail ∷ []) + length added
position_new shape old new front tail more added is =
    ap (λ (n : ℕ). n + length (log_words new shape (front ++ tail ∷ more))) (base_new shape old new front tail more added is)
    ∙ ap (λ (l : List ℕ). snapshot_base old shape (front ++ tail ∷ []) + length l) (words_new shape old new front tail more added is)
    ∙ omega (arith, length-append (log_words old shape (front ++ tail ∷ [])) added)

size_at_new : (shape : Shape) (old new front : List ℕ) (tail : ℕ) (more added : List ℕ) → Extends shape old new front tail more added → size_at_end new shape (front ++ tail ∷ more) ≡ size_after shape (size_at_end old shape (front ++ tail ∷ [])) (map direct_meaning added)
size_at_new shape old new front tail more added is =
    ap (λ (n : ℕ). size_after shape n (log_entries new shape (front ++ tail ∷ more))) (size_new shape old new front tail more added is)
    ∙ ap (λ (l : List Meaning). size_after shape (snapshot_size old shape (front ++ tail ∷ [])) l) (log_new shape old new front tail more added is)
    ∙ size_join shape (snapshot_size old shape (front ++ tail ∷ [])) (log_entries old shape (front ++ tail ∷ [])) (map direct_meaning added)

chain_new : (shape : Shape) (old new front : List ℕ) (tail : ℕ) (more added : List ℕ) → Began shape old front tail → Extends shape old new front tail more added → IsChain new shape (front ++ tail ∷ more)
chain_new shape old new front tail more added began is = record {
  linked = linked_kept shape old new front tail more is.head is.front_same began.is_chain.linked is.onward;
  different = is.different;
  snapshots =
      subst (λ (l : List ℕ). HaveOneBase new shape (snapshot_base new shape (front ++ tail ∷ more)) (snapshot_size new shape (front ++ tail ∷ more)) l) (sym (snapshots_new shape old new front tail more added is))
      (subst (λ (n : ℕ). HaveOneBase new shape n (snapshot_size new shape (front ++ tail ∷ more)) (snapshots_of old shape front)) (sym (base_new shape old new front tail more added is))
      (subst (λ (n : ℕ). HaveOneBase new shape (snapshot_base old shape (front ++ tail ∷ [])) n (snapshots_of old shape front)) (sym (size_new shape old new front tail more added is))
      (bases_kept shape old new (snapshot_base old shape (front ++ tail ∷ [])) (snapshot_size old shape (front ++ tail ∷ [])) (snapshots_of old shape front) (same_snapshots shape old new front is.front_same)
      (subst (λ (l : List ℕ). HaveOneBase old shape (snapshot_base old shape (front ++ tail ∷ [])) (snapshot_size old shape (front ++ tail ∷ [])) l) (snapshots_front old shape front tail [] is.is_log) began.is_chain.snapshots))));
  logs =
      subst (λ (l : List ℕ). AreLogsFrom new shape (snapshot_base new shape (front ++ tail ∷ more)) l) (sym (logs_new shape old new front tail more added is))
      (subst (λ (n : ℕ). AreLogsFrom new shape n (logs_of old shape front ++ tail ∷ more)) (sym (base_new shape old new front tail more added is))
      (logs_go_on shape old new (snapshot_base old shape (front ++ tail ∷ [])) (logs_of old shape front) tail more (same_logs shape old new front is.front_same) is.word
      (subst (λ (l : List ℕ). AreLogsFrom old shape (snapshot_base old shape (front ++ tail ∷ [])) l) (logs_front old shape front tail [] is.is_log) began.is_chain.logs)
      (subst (λ (n : ℕ). AreLogsFrom new shape n more)
      (omega (
        arith,
        ap length (words_old shape old front tail is.is_log),
        length-append (flat_map (log_entry_words old shape) (logs_of old shape front)) (log_entry_words old shape tail),
        ap length is.tail_words,
        length-append (log_entry_words old shape tail) added,
      )) is.more_logs)));
}

format_new : (shape : Shape) (old new front : List ℕ) (tail : ℕ) (more added : List ℕ) → Began shape old front tail → Extends shape old new front tail more added → HasFormat new shape (front ++ tail ∷ more)
format_new shape old new front tail more added began is = record {
  areas = all_join (is_in_log shape) front (tail ∷ more) (all_front (is_in_log shape) front (tail ∷ []) began.format.areas)
      (both (is_in_log shape tail) (list_all (is_in_log shape) more) (both_left (is_in_log shape tail) true (all_back (is_in_log shape) front (tail ∷ []) began.format.areas)) is.more_areas);
  kinds = all_join (λ (b : ℕ). is_kind_word (block_words new shape b)) front (tail ∷ more)
      (tests_kept is_kind_word shape old new front is.front_same ∙ all_front (λ (b : ℕ). is_kind_word (block_words old shape b)) front (tail ∷ []) began.format.kinds)
      (both (is_kind_word (block_words new shape tail)) (list_all (λ (b : ℕ). is_kind_word (block_words new shape b)) more)
      (ap (λ (w : ℕ). field BLOCK_UNNAMED w == 0) is.word ∙ both_left (is_kind_word (block_words old shape tail)) true (all_back (λ (b : ℕ). is_kind_word (block_words old shape b)) front (tail ∷ []) began.format.kinds)) is.more_kinds);
  snapshots = ap (λ (l : List ℕ). list_all (λ (b : ℕ). is_snapshot_block shape (block_words new shape b)) l) (snapshots_new shape old new front tail more added is)
      ∙ tests_kept (is_snapshot_block shape) shape old new (snapshots_of old shape front) (same_snapshots shape old new front is.front_same)
      ∙ sym (ap (λ (l : List ℕ). list_all (λ (b : ℕ). is_snapshot_block shape (block_words old shape b)) l) (snapshots_front old shape front tail [] is.is_log))
      ∙ began.format.snapshots;
  logs = ap (λ (l : List ℕ). list_all (λ (b : ℕ). is_log_block new shape (block_words new shape b)) l) (logs_new shape old new front tail more added is)
      ∙ all_join (λ (b : ℕ). is_log_block new shape (block_words new shape b)) (logs_of old shape front) (tail ∷ more)
      (logs_good shape old new (logs_of old shape front) (same_logs shape old new front is.front_same) before (all_front (λ (b : ℕ). is_log_block old shape (block_words old shape b)) (logs_of old shape front) (tail ∷ []) logs_old))
      (both (is_log_block new shape (block_words new shape tail)) (list_all (λ (b : ℕ). is_log_block new shape (block_words new shape b)) more) tail_good is.more_good);
  named_once = ap (λ (l : List Meaning). all_different (all_names l)) (entries_new shape old new front tail more added is) ∙ is.named_once;
  below_limit = subst (λ (n : ℕ). n < 2 ^ 40) (sym (position_new shape old new front tail more added is)) is.below_limit;
}
  where
    logs_old : list_all (λ (b : ℕ). is_log_block old shape (block_words old shape b)) (logs_of old shape front ++ tail ∷ []) ≡ true
    logs_old = sym (ap (λ (l : List ℕ). list_all (λ (b : ℕ). is_log_block old shape (block_words old shape b)) l) (logs_front old shape front tail [] is.is_log)) ∙ began.format.logs

    tail_old : is_log_block old shape (block_words old shape tail) ≡ true
    tail_old = both_left (is_log_block old shape (block_words old shape tail)) true (all_back (λ (b : ℕ). is_log_block old shape (block_words old shape b)) (logs_of old shape front) (tail ∷ []) logs_old)

    parts : SameBlocks shape old new (all_names (map (meaning old shape) (flat_map (log_entry_words old shape) (logs_of old shape front))) ++ all_names (map (meaning old shape) (log_entry_words old shape tail)))
    parts =
        subst (λ (l : List ℕ). SameBlocks shape old new l)
        (ap (λ (l : List ℕ). all_names (map (meaning old shape) l)) (words_old shape old front tail is.is_log)
        ∙ names_join shape old (flat_map (log_entry_words old shape) (logs_of old shape front)) (log_entry_words old shape tail))
        (log_names shape old new front tail more added is)

    before : SameBlocks shape old new (all_names (map (meaning old shape) (flat_map (log_entry_words old shape) (logs_of old shape front))))
    before = each_front (λ (b : ℕ). block_words new shape b ≡ block_words old shape b) (all_names (map (meaning old shape) (flat_map (log_entry_words old shape) (logs_of old shape front)))) (all_names (map (meaning old shape) (log_entry_words old shape tail))) parts

    in_tail : SameBlocks shape old new (all_names (map (meaning old shape) (log_entry_words old shape tail)))
    in_tail = each_back (λ (b : ℕ). block_words new shape b ≡ block_words old shape b) (all_names (map (meaning old shape) (flat_map (log_entry_words old shape) (logs_of old shape front)))) (all_names (map (meaning old shape) (log_entry_words old shape tail))) parts

    tail_good : is_log_block new shape (block_words new shape tail) ≡ true
    tail_good = good_block new shape (block_words new shape tail)
        (ap (λ (w : ℕ). w == 0) is.third ∙ third_of old shape (block_words old shape tail) tail_old)
        (subst (λ (l : List ℕ). list_all (is_log_entry new shape) l ≡ true) (sym is.tail_words)
        (all_join (is_log_entry new shape) (log_entry_words old shape tail) added
        (entries_kept shape old new (log_entry_words old shape tail) in_tail (entries_in old shape (block_words old shape tail) tail_old))
        (direct_entries shape new added is.added_fit).0))
        is.placed

-- the chain goes on in the new image, with the entries added
pub extended : (shape : Shape) (old new front : List ℕ) (tail : ℕ) (more added : List ℕ) → Began shape old front tail → Extends shape old new front tail more added → Extended shape old new front tail more added
extended shape old new front tail more added began is = record {
  is_chain = chain_new shape old new front tail more added began is;
  format = format_new shape old new front tail more added began is;
  entries = entries_new shape old new front tail more added is;
  position = position_new shape old new front tail more added is;
  size = size_at_new shape old new front tail more added is;
}
