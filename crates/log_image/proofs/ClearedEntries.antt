-- The entries, the format and the file are the same in words in which each block of a chain reads the same.
use Rattle.std.proofs.Common.{◌≡◌, ◌<◌, ◌+◌, ◌-◌, ◌^◌, ◌==◌, ◌&&◌, ◌||◌, nat_le, nat_lt, ◌⊎◌, inl, inr, ℕ, zero, suc, Bool, true, false, List, [], ◌∷◌, ◌++◌, length, get_or, take, drop, map, Option, Some, None, if◌then◌else◌, refl, sym, ap, ◌∙◌, subst}
use Rattle.std.specs.List.{list_all, flat_map, slice_get}
use Rattle.std.specs.Option.{option_or}
use Rattle.std.proofs.lemmas.List.Folds.{list_all-append}
use Rattle.log_entry.specs.Fields.{field}
use Rattle.log_entry.specs.Shape.{longest_of, limit_of}
use Rattle.log_entry.specs.WordBytes.{word_bytes}
use Rattle.log_entry.specs.Words.{entry_unnamed}
use Rattle.log_entry.specs.declared.layouts.TheConstants.{ENTRY_KIND, DIRECT, INDIRECT_BLOCK, BLOCK_UNNAMED, SNAPSHOT_COUNT, SNAPSHOT_SIZE, DIRECT_LEFTOVER}
use Rattle.log_image.specs.Image.{Shape, words_in, is_in_data, block_words}
use Rattle.log_image.specs.Entries.{Meaning, direct_meaning, indirect_meaning, meaning, all_names}
use Rattle.log_image.specs.Maps.{block_in, map_of, size_after}
use Rattle.log_image.specs.Blocks.{is_snapshot, entry_count, file_size, slots_of, entry_words, kept_words}
use Rattle.log_image.specs.Chains.{all_different, snapshots_of, logs_of, snapshot_base, snapshot_size}
use Rattle.log_image.specs.Positions.{snapshot_entries, log_words, log_entries, entries_of, position_of, size_at_end}
use Rattle.log_image.specs.Format.{all_zero, fits, is_direct, is_indirect, is_indirect_block, has_runs, is_log_entry, is_log_block, is_seal_placed, is_snapshot_entry, is_snapshot_block, is_kind_word, HasFormat}
use Rattle.log_image.specs.Stands.{HoldsFile, StandsIn}
use Rattle.log_image.proofs.HoldingLemmas.{both_left, both_right}
use Rattle.log_image.proofs.ClearedChains.{SameImage, both, all_kept, same_snapshots, same_logs, same_snapshot_base, same_snapshot_size, same_chain}

-- an entry's word has runs in one image where it has them in the other
same_runs : (shape : Shape) (old new : List ℕ) → SameImage shape old new → (word : ℕ) → has_runs new shape word ≡ has_runs old shape word
same_runs shape old new same word = go (is_in_data shape (field INDIRECT_BLOCK word)) refl
  where
    go : (inside : Bool) → is_in_data shape (field INDIRECT_BLOCK word) ≡ inside → has_runs new shape word ≡ has_runs old shape word
    go true is = ap (λ (l : List ℕ). is_in_data shape (field INDIRECT_BLOCK word) && is_indirect_block shape l) (same.holds (field INDIRECT_BLOCK word) is)
    go false is = neither (is_in_data shape (field INDIRECT_BLOCK word)) (is_indirect_block shape (block_words new shape (field INDIRECT_BLOCK word))) (is_indirect_block shape (block_words old shape (field INDIRECT_BLOCK word))) is
      where
        neither : (a b c : Bool) → a ≡ false → (a && b) ≡ (a && c)
        neither true b c no_a = cc
        neither false b c no_a = refl

same_unless : (direct : Bool) (first second other : Meaning) → (direct ≡ false → second ≡ other) → (if direct then first else second) ≡ (if direct then first else other)
same_unless true first second other same = refl
same_unless false first second other same = same refl

second_holds : (kind unnamed indirect runs : Bool) → kind ≡ false → ((kind && unnamed) || (indirect && runs)) ≡ true → runs ≡ true
second_holds true unnamed indirect runs is holds = cc
second_holds false unnamed true runs is holds = holds
second_holds false unnamed false runs is holds = cc

same_meaning : (shape : Shape) (old new : List ℕ) → SameImage shape old new → (word : ℕ) → (is_direct word || (is_indirect word && has_runs old shape word)) ≡ true → meaning new shape word ≡ meaning old shape word
same_meaning shape old new same word good =
    same_unless (field ENTRY_KIND word == DIRECT) (direct_meaning word) (indirect_meaning (field INDIRECT_BLOCK word) (block_words new shape (field INDIRECT_BLOCK word))) (indirect_meaning (field INDIRECT_BLOCK word) (block_words old shape (field INDIRECT_BLOCK word)))
    (λ other. ap (λ (l : List ℕ). indirect_meaning (field INDIRECT_BLOCK word) l)
    (same.holds (field INDIRECT_BLOCK word)
    (both_left (is_in_data shape (field INDIRECT_BLOCK word)) (is_indirect_block shape (block_words old shape (field INDIRECT_BLOCK word)))
    (second_holds (field ENTRY_KIND word == DIRECT) (entry_unnamed word == 0) (is_indirect word) (has_runs old shape word) other good))))

accepted : (shape : Shape) (words : List ℕ) (word : ℕ) → is_log_entry words shape word ≡ true → (is_direct word || (is_indirect word && has_runs words shape word)) ≡ true
accepted shape words word good = both_left (is_direct word || (is_indirect word && has_runs words shape word)) (fits shape (longest_of shape.block_bytes) (meaning words shape word)) good

fitting : (shape : Shape) (words : List ℕ) (word : ℕ) → is_log_entry words shape word ≡ true → fits shape (longest_of shape.block_bytes) (meaning words shape word) ≡ true
fitting shape words word good = both_right (is_direct word || (is_indirect word && has_runs words shape word)) (fits shape (longest_of shape.block_bytes) (meaning words shape word)) good

same_entry : (shape : Shape) (old new : List ℕ) → SameImage shape old new → (word : ℕ) → is_log_entry old shape word ≡ true → is_log_entry new shape word ≡ true
same_entry shape old new same word good =
    both (is_direct word || (is_indirect word && has_runs new shape word)) (fits shape (longest_of shape.block_bytes) (meaning new shape word))
    (subst (λ (b : Bool). (is_direct word || (is_indirect word && b)) ≡ true) (sym (same_runs shape old new same word)) (accepted shape old word good))
    (subst (λ (m : Meaning). fits shape (longest_of shape.block_bytes) m ≡ true) (sym (same_meaning shape old new same word (accepted shape old word good))) (fitting shape old word good))

same_meanings : (shape : Shape) (old new : List ℕ) → SameImage shape old new → (words : List ℕ) → list_all (is_log_entry old shape) words ≡ true → map (meaning new shape) words ≡ map (meaning old shape) words
same_meanings shape old new same [] good = refl
same_meanings shape old new same (word ∷ words) good =
    let first : meaning new shape word ≡ meaning old shape word = same_meaning shape old new same word (accepted shape old word (both_left (is_log_entry old shape word) (list_all (is_log_entry old shape) words) good)) in
    ap (λ (m : Meaning). m ∷ map (meaning new shape) words) first
    ∙ ap (λ (l : List Meaning). meaning old shape word ∷ l) (same_meanings shape old new same words (both_right (is_log_entry old shape word) (list_all (is_log_entry old shape) words) good))

-- the entries of a log block that is as it may be
good_entries : (shape : Shape) (words block : List ℕ) → is_log_block words shape block ≡ true → list_all (is_log_entry words shape) (entry_words (slots_of block)) ≡ true
good_entries shape words block good =
    both_right (get_or block 2 0 == 0) (list_all (is_log_entry words shape) (entry_words (slots_of block)))
    (both_left (get_or block 2 0 == 0 && list_all (is_log_entry words shape) (entry_words (slots_of block))) (is_seal_placed (slots_of block)) good)

all_good : (shape : Shape) (words blocks : List ℕ) → list_all (λ (b : ℕ). is_log_block words shape (block_words words shape b)) blocks ≡ true → list_all (is_log_entry words shape) (flat_map (λ (b : ℕ). entry_words (slots_of (block_words words shape b))) blocks) ≡ true
all_good shape words [] good = refl
all_good shape words (block ∷ blocks) good =
    list_all-append (is_log_entry words shape) (entry_words (slots_of (block_words words shape block))) (flat_map (λ (b : ℕ). entry_words (slots_of (block_words words shape b))) blocks)
    ∙ both (list_all (is_log_entry words shape) (entry_words (slots_of (block_words words shape block)))) (list_all (is_log_entry words shape) (flat_map (λ (b : ℕ). entry_words (slots_of (block_words words shape b))) blocks))
    (good_entries shape words (block_words words shape block) (both_left (is_log_block words shape (block_words words shape block)) (list_all (λ (b : ℕ). is_log_block words shape (block_words words shape b)) blocks) good))
    (all_good shape words blocks (both_right (is_log_block words shape (block_words words shape block)) (list_all (λ (b : ℕ). is_log_block words shape (block_words words shape b)) blocks) good))

same_words_in : (shape : Shape) (old new : List ℕ) → SameImage shape old new → (blocks : List ℕ) → flat_map (λ (b : ℕ). entry_words (slots_of (block_words new shape b))) blocks ≡ flat_map (λ (b : ℕ). entry_words (slots_of (block_words old shape b))) blocks
same_words_in shape old new same [] = refl
same_words_in shape old new same (block ∷ blocks) = rw ((same.reads block).entries, same_words_in shape old new same blocks) refl

same_log_words : (shape : Shape) (old new : List ℕ) → SameImage shape old new → (chain : List ℕ) → log_words new shape chain ≡ log_words old shape chain
same_log_words shape old new same chain =
    ap (λ (l : List ℕ). flat_map (λ (b : ℕ). entry_words (slots_of (block_words new shape b))) l) (same_logs shape old new same chain)
    ∙ same_words_in shape old new same (logs_of old shape chain)

same_log_entries : (shape : Shape) (old new : List ℕ) → SameImage shape old new → (chain : List ℕ) → HasFormat old shape chain → log_entries new shape chain ≡ log_entries old shape chain
same_log_entries shape old new same chain format =
    ap (λ (l : List ℕ). map (meaning new shape) l) (same_log_words shape old new same chain)
    ∙ same_meanings shape old new same (log_words old shape chain) (all_good shape old (logs_of old shape chain) format.logs)

-- the entries of a snapshot block
abbrev kept_in : Shape → List ℕ → ℕ → List Meaning
kept_in shape words block = map direct_meaning (kept_words (block_words words shape block))

same_kept : (shape : Shape) (old new : List ℕ) → SameImage shape old new → (block : ℕ) → is_snapshot (block_words old shape block) ≡ true → kept_in shape new block ≡ kept_in shape old block
same_kept shape old new same block is =
    ap (λ (w : ℕ). map direct_meaning (take (field SNAPSHOT_COUNT w) (slots_of (block_words new shape block)))) (same.reads block).third
    ∙ ap (λ (l : List ℕ). map direct_meaning (take (entry_count (block_words old shape block)) l)) ((same.reads block).kept is)

same_snapshot_kept : (shape : Shape) (old new : List ℕ) → SameImage shape old new → (chain : List ℕ) → flat_map (kept_in shape new) (snapshots_of old shape chain) ≡ flat_map (kept_in shape old) (snapshots_of old shape chain)
same_snapshot_kept shape old new same [] = refl
same_snapshot_kept shape old new same (block ∷ blocks) = go (is_snapshot (block_words old shape block)) refl (same_snapshot_kept shape old new same blocks)
  where
    go : (snapshot : Bool) → is_snapshot (block_words old shape block) ≡ snapshot → flat_map (kept_in shape new) (snapshots_of old shape blocks) ≡ flat_map (kept_in shape old) (snapshots_of old shape blocks) →
        flat_map (kept_in shape new) (if snapshot then block ∷ snapshots_of old shape blocks else []) ≡ flat_map (kept_in shape old) (if snapshot then block ∷ snapshots_of old shape blocks else [])
    go true is rest = ap (λ (l : List Meaning). l ++ flat_map (kept_in shape new) (snapshots_of old shape blocks)) (same_kept shape old new same block is) ∙ ap (λ (l : List Meaning). kept_in shape old block ++ l) rest
    go false is rest = refl

same_snapshot_entries : (shape : Shape) (old new : List ℕ) → SameImage shape old new → (chain : List ℕ) → snapshot_entries new shape chain ≡ snapshot_entries old shape chain
same_snapshot_entries shape old new same chain =
    ap (λ (l : List ℕ). flat_map (kept_in shape new) l) (same_snapshots shape old new same chain) ∙ same_snapshot_kept shape old new same chain

pub same_entries_of : (shape : Shape) (old new : List ℕ) → SameImage shape old new → (chain : List ℕ) → HasFormat old shape chain → entries_of new shape chain ≡ entries_of old shape chain
same_entries_of shape old new same chain format =
    ap (λ (l : List Meaning). l ++ log_entries new shape chain) (same_snapshot_entries shape old new same chain)
    ∙ ap (λ (l : List Meaning). snapshot_entries old shape chain ++ l) (same_log_entries shape old new same chain format)

same_position : (shape : Shape) (old new : List ℕ) → SameImage shape old new → (chain : List ℕ) → position_of new shape chain ≡ position_of old shape chain
same_position shape old new same chain =
    ap (λ (n : ℕ). n + length (log_words new shape chain)) (same_snapshot_base shape old new same chain)
    ∙ ap (λ (l : List ℕ). snapshot_base old shape chain + length l) (same_log_words shape old new same chain)

same_size_at_end : (shape : Shape) (old new : List ℕ) → SameImage shape old new → (chain : List ℕ) → HasFormat old shape chain → size_at_end new shape chain ≡ size_at_end old shape chain
same_size_at_end shape old new same chain format =
    ap (λ (n : ℕ). size_after shape n (log_entries new shape chain)) (same_snapshot_size shape old new same chain)
    ∙ ap (λ (l : List Meaning). size_after shape (snapshot_size old shape chain) l) (same_log_entries shape old new same chain format)

-- a snapshot block's test by its third word and its slots
abbrev snapshot_test : Shape → ℕ → List ℕ → Bool
snapshot_test shape third slots =
    nat_le (field SNAPSHOT_COUNT third) (words_in shape - 3) && nat_le (field SNAPSHOT_SIZE third) (limit_of shape.block_bytes)
    && list_all (is_snapshot_entry shape) (take (field SNAPSHOT_COUNT third) slots) && all_zero (drop (field SNAPSHOT_COUNT third) slots)

same_test : (shape : Shape) (old new : List ℕ) → SameImage shape old new → (block : ℕ) → is_snapshot (block_words old shape block) ≡ true → is_snapshot_block shape (block_words new shape block) ≡ is_snapshot_block shape (block_words old shape block)
same_test shape old new same block is =
    ap (λ (w : ℕ). snapshot_test shape w (slots_of (block_words new shape block))) (same.reads block).third
    ∙ ap (λ (l : List ℕ). snapshot_test shape (get_or (block_words old shape block) 2 0) l) ((same.reads block).kept is)

same_tests : (shape : Shape) (old new : List ℕ) → SameImage shape old new → (chain : List ℕ) → list_all (λ (b : ℕ). is_snapshot_block shape (block_words new shape b)) (snapshots_of old shape chain) ≡ list_all (λ (b : ℕ). is_snapshot_block shape (block_words old shape b)) (snapshots_of old shape chain)
same_tests shape old new same [] = refl
same_tests shape old new same (block ∷ blocks) = go (is_snapshot (block_words old shape block)) refl (same_tests shape old new same blocks)
  where
    go : (snapshot : Bool) → is_snapshot (block_words old shape block) ≡ snapshot →
        list_all (λ (b : ℕ). is_snapshot_block shape (block_words new shape b)) (snapshots_of old shape blocks) ≡ list_all (λ (b : ℕ). is_snapshot_block shape (block_words old shape b)) (snapshots_of old shape blocks) →
        list_all (λ (b : ℕ). is_snapshot_block shape (block_words new shape b)) (if snapshot then block ∷ snapshots_of old shape blocks else []) ≡ list_all (λ (b : ℕ). is_snapshot_block shape (block_words old shape b)) (if snapshot then block ∷ snapshots_of old shape blocks else [])
    go true is rest =
        ap (λ (t : Bool). t && list_all (λ (b : ℕ). is_snapshot_block shape (block_words new shape b)) (snapshots_of old shape blocks)) (same_test shape old new same block is)
        ∙ ap (λ (t : Bool). is_snapshot_block shape (block_words old shape block) && t) rest
    go false is rest = refl

same_log_block : (shape : Shape) (old new : List ℕ) → SameImage shape old new → (block : ℕ) → is_log_block old shape (block_words old shape block) ≡ true → is_log_block new shape (block_words new shape block) ≡ true
same_log_block shape old new same block good =
    both (get_or (block_words new shape block) 2 0 == 0 && list_all (is_log_entry new shape) (entry_words (slots_of (block_words new shape block)))) (is_seal_placed (slots_of (block_words new shape block)))
    (both (get_or (block_words new shape block) 2 0 == 0) (list_all (is_log_entry new shape) (entry_words (slots_of (block_words new shape block))))
    (ap (λ (w : ℕ). w == 0) (same.reads block).third ∙ both_left (get_or (block_words old shape block) 2 0 == 0) (list_all (is_log_entry old shape) (entry_words (slots_of (block_words old shape block)))) front)
    (subst (λ (l : List ℕ). list_all (is_log_entry new shape) l ≡ true) (sym (same.reads block).entries)
    (all_kept (is_log_entry old shape) (is_log_entry new shape) (entry_words (slots_of (block_words old shape block))) (same_entry shape old new same) (good_entries shape old (block_words old shape block) good))))
    ((same.reads block).placed ∙ both_right (get_or (block_words old shape block) 2 0 == 0 && list_all (is_log_entry old shape) (entry_words (slots_of (block_words old shape block)))) (is_seal_placed (slots_of (block_words old shape block))) good)
  where
    front : (get_or (block_words old shape block) 2 0 == 0 && list_all (is_log_entry old shape) (entry_words (slots_of (block_words old shape block)))) ≡ true
    front = both_left (get_or (block_words old shape block) 2 0 == 0 && list_all (is_log_entry old shape) (entry_words (slots_of (block_words old shape block)))) (is_seal_placed (slots_of (block_words old shape block))) good

pub same_format : (shape : Shape) (old new : List ℕ) → SameImage shape old new → (chain : List ℕ) → HasFormat old shape chain → HasFormat new shape chain
same_format shape old new same chain format = record {
  areas = format.areas;
  kinds = all_kept (λ (b : ℕ). is_kind_word (block_words old shape b)) (λ (b : ℕ). is_kind_word (block_words new shape b)) chain (λ block is. ap (λ (w : ℕ). field BLOCK_UNNAMED w == 0) (same.reads block).word ∙ is) format.kinds;
  snapshots = ap (λ (l : List ℕ). list_all (λ (b : ℕ). is_snapshot_block shape (block_words new shape b)) l) (same_snapshots shape old new same chain) ∙ same_tests shape old new same chain ∙ format.snapshots;
  logs = ap (λ (l : List ℕ). list_all (λ (b : ℕ). is_log_block new shape (block_words new shape b)) l) (same_logs shape old new same chain)
      ∙ all_kept (λ (b : ℕ). is_log_block old shape (block_words old shape b)) (λ (b : ℕ). is_log_block new shape (block_words new shape b)) (logs_of old shape chain) (same_log_block shape old new same) format.logs;
  named_once = ap (λ (l : List Meaning). all_different (all_names l)) (same_entries_of shape old new same chain format) ∙ format.named_once;
  below_limit = subst (λ (n : ℕ). n < 2 ^ 40) (sym (same_position shape old new same chain)) format.below_limit;
}

each_in : (p : ℕ → Bool) (numbers : List ℕ) (place number : ℕ) → list_all p numbers ≡ true → slice_get numbers place ≡ Some number → p number ≡ true
each_in p [] place number all found = cc
each_in p (first ∷ numbers) zero number all found = let same : first ≡ number = cc in subst (λ (n : ℕ). p n ≡ true) same (both_left (p first) (list_all p numbers) all)
each_in p (first ∷ numbers) (suc place) number all found = each_in p numbers place number (both_right (p first) (list_all p numbers) all) found

one_of : {X : Type 0} (first second : Option X) (x : X) → option_or first second ≡ Some x → (first ≡ Some x) ⊎ (second ≡ Some x)
one_of None second x found = inr found
one_of (Some y) second x found = inl found

-- the physical blocks of an entry are in the data area
abbrev in_data : Shape → Meaning → Bool
in_data shape entry = list_all (is_in_data shape) entry.blocks

block_in_data : (shape : Shape) (entry : Meaning) (virt block : ℕ) → in_data shape entry ≡ true → block_in entry virt ≡ Some block → is_in_data shape block ≡ true
block_in_data shape entry virt block inside found = go (nat_le entry.virt virt) found
  where
    go : (named : Bool) → (if named then slice_get entry.blocks (virt - entry.virt) else None) ≡ Some block → is_in_data shape block ≡ true
    go true is = each_in (is_in_data shape) entry.blocks (virt - entry.virt) block inside is
    go false is = cc

mapped_in_data : (shape : Shape) (entries : List Meaning) (virt block : ℕ) → list_all (in_data shape) entries ≡ true → map_of entries virt ≡ Some block → is_in_data shape block ≡ true
mapped_in_data shape [] virt block all found = cc
mapped_in_data shape (entry ∷ entries) virt block all found =
    elim (one_of (map_of entries virt) (block_in entry virt) block found) [
      | inl is ↦ mapped_in_data shape entries virt block (both_right (in_data shape entry) (list_all (in_data shape) entries) all) is
      | inr is ↦ block_in_data shape entry virt block (both_left (in_data shape entry) (list_all (in_data shape) entries) all) is
    ]

fits_in_data : (shape : Shape) (longest : ℕ) (entry : Meaning) → fits shape longest entry ≡ true → in_data shape entry ≡ true
fits_in_data shape longest entry good =
    both_right (nat_le 1 (length entry.blocks) && nat_le (length entry.blocks) longest && nat_le (entry.virt + length entry.blocks) 65536) (in_data shape entry)
    (both_left (nat_le 1 (length entry.blocks) && nat_le (length entry.blocks) longest && nat_le (entry.virt + length entry.blocks) 65536 && in_data shape entry) (nat_lt entry.leftover shape.block_bytes) good)

log_in_data : (shape : Shape) (image words : List ℕ) → list_all (is_log_entry image shape) words ≡ true → list_all (in_data shape) (map (meaning image shape) words) ≡ true
log_in_data shape image [] good = refl
log_in_data shape image (word ∷ words) good =
    both (in_data shape (meaning image shape word)) (list_all (in_data shape) (map (meaning image shape) words))
    (fits_in_data shape (longest_of shape.block_bytes) (meaning image shape word) (fitting shape image word (both_left (is_log_entry image shape word) (list_all (is_log_entry image shape) words) good)))
    (log_in_data shape image words (both_right (is_log_entry image shape word) (list_all (is_log_entry image shape) words) good))

direct_in_data : (shape : Shape) (words : List ℕ) → list_all (is_snapshot_entry shape) words ≡ true → list_all (in_data shape) (map direct_meaning words) ≡ true
direct_in_data shape [] good = refl
direct_in_data shape (word ∷ words) good =
    both (in_data shape (direct_meaning word)) (list_all (in_data shape) (map direct_meaning words))
    (fits_in_data shape 256 (direct_meaning word) (both_right (is_direct word && field DIRECT_LEFTOVER word == 0) (fits shape 256 (direct_meaning word)) (both_left (is_snapshot_entry shape word) (list_all (is_snapshot_entry shape) words) good)))
    (direct_in_data shape words (both_right (is_snapshot_entry shape word) (list_all (is_snapshot_entry shape) words) good))

kept_in_data : (shape : Shape) (words blocks : List ℕ) → list_all (λ (b : ℕ). is_snapshot_block shape (block_words words shape b)) blocks ≡ true → list_all (in_data shape) (flat_map (kept_in shape words) blocks) ≡ true
kept_in_data shape words [] good = refl
kept_in_data shape words (block ∷ blocks) good =
    list_all-append (in_data shape) (kept_in shape words block) (flat_map (kept_in shape words) blocks)
    ∙ both (list_all (in_data shape) (kept_in shape words block)) (list_all (in_data shape) (flat_map (kept_in shape words) blocks))
    (direct_in_data shape (kept_words (block_words words shape block))
    (both_right (nat_le (entry_count (block_words words shape block)) (words_in shape - 3) && nat_le (file_size (block_words words shape block)) (limit_of shape.block_bytes))
    (list_all (is_snapshot_entry shape) (kept_words (block_words words shape block)))
    (both_left (nat_le (entry_count (block_words words shape block)) (words_in shape - 3) && nat_le (file_size (block_words words shape block)) (limit_of shape.block_bytes)
    && list_all (is_snapshot_entry shape) (kept_words (block_words words shape block)))
    (all_zero (drop (entry_count (block_words words shape block)) (slots_of (block_words words shape block))))
    (both_left (is_snapshot_block shape (block_words words shape block)) (list_all (λ (b : ℕ). is_snapshot_block shape (block_words words shape b)) blocks) good))))
    (kept_in_data shape words blocks (both_right (is_snapshot_block shape (block_words words shape block)) (list_all (λ (b : ℕ). is_snapshot_block shape (block_words words shape b)) blocks) good))

-- the map of a chain gives blocks of the data area
pub map_in_data : (shape : Shape) (words chain : List ℕ) → HasFormat words shape chain → (virt block : ℕ) → map_of (entries_of words shape chain) virt ≡ Some block → is_in_data shape block ≡ true
map_in_data shape words chain format virt block found =
    mapped_in_data shape (entries_of words shape chain) virt block
    (list_all-append (in_data shape) (snapshot_entries words shape chain) (log_entries words shape chain)
    ∙ both (list_all (in_data shape) (snapshot_entries words shape chain)) (list_all (in_data shape) (log_entries words shape chain))
    (kept_in_data shape words (snapshots_of words shape chain) format.snapshots)
    (log_in_data shape words (log_words words shape chain) (all_good shape words (logs_of words shape chain) format.logs)))
    found

same_holding : (shape : Shape) (old new : List ℕ) → SameImage shape old new → (chain file : List ℕ) → HasFormat old shape chain → HoldsFile old shape (entries_of old shape chain) file → HoldsFile new shape (entries_of old shape chain) file
same_holding shape old new same chain file format holds = record {
  mapped = λ virt block is at inside.
      ap (λ (l : List ℕ). get_or (word_bytes l) at 0) (same.holds block (map_in_data shape old chain format virt block is)) ∙ holds.mapped virt block is at inside;
  unmapped = holds.unmapped;
}

pub same_standing : (shape : Shape) (old new : List ℕ) → SameImage shape old new → (chain file : List ℕ) (position : ℕ) → StandsIn old shape chain file position → StandsIn new shape chain file position
same_standing shape old new same chain file position stands = record {
  is_chain = same_chain shape old new same chain stands.is_chain;
  format = same_format shape old new same chain stands.format;
  ends_at = same_position shape old new same chain ∙ stands.ends_at;
  ends_with = same_size_at_end shape old new same chain stands.format ∙ stands.ends_with;
  holds = subst (λ (l : List Meaning). HoldsFile new shape l file) (sym (same_entries_of shape old new same chain stands.format)) (same_holding shape old new same chain file stands.format stands.holds);
}
