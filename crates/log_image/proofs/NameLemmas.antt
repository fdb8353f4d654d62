-- Which blocks a chain and its entries name.
use Rattle.std.proofs.Common.{◌≡◌, ◌≢◌, ◌<◌, ◌≤◌, ◌+◌, ◌-◌, ◌==◌, ◌&&◌, ◌||◌, not, drop, nat_le, nat_lt, ℕ, zero, suc, Bool, true, false, List, [], ◌∷◌, ◌++◌, length, map, refl, sym, ap, ◌∙◌, subst, arith}
use Rattle.std.specs.List.{list_all, flat_map, AllByRecursion, range_with_len}
use Rattle.std.proofs.lemmas.Bool.{eq-eqb, ne_eqb, eqb-true, leb-true, ltb-true}
use Rattle.std.proofs.lemmas.List.Folds.{list_any-append}
use Rattle.std.proofs.lemmas.Grind.{flat_map-append}
use Rattle.log_entry.specs.Fields.{field}
use Rattle.log_entry.specs.Shape.{longest_of, limit_of}
use Rattle.log_entry.specs.Words.{entry_unnamed}
use Rattle.log_entry.specs.declared.layouts.TheConstants.{ENTRY_KIND, DIRECT, INDIRECT_BLOCK, DIRECT_LEFTOVER}
use Rattle.log_image.specs.Image.{Shape, words_in, total, is_in_data, is_in_log, block_words}
use Rattle.log_image.specs.Entries.{Meaning, direct_meaning, indirect_meaning, meaning, names, all_names}
use Rattle.log_image.specs.Blocks.{entry_count, file_size, slots_of, kept_words}
use Rattle.log_image.specs.Chains.{is_listed, all_different, snapshots_of, logs_of}
use Rattle.log_image.specs.Positions.{snapshot_entries, log_words, log_entries, entries_of}
use Rattle.log_image.specs.Format.{all_zero, fits, is_direct, is_indirect, is_indirect_block, has_runs, is_log_entry, is_log_block, is_snapshot_entry, is_snapshot_block, HasFormat}
use Rattle.log_image.proofs.HoldingLemmas.{both_left, both_right}
use Rattle.log_image.proofs.ClearedChains.{both}
use Rattle.log_image.proofs.ListLemmas.{all_join}
use Rattle.log_image.proofs.ChainSteps.{log_entry_words}
use Rattle.log_image.proofs.EntrySteps.{entries_in, kept_in}

pub or_left : (a b : Bool) → a ≡ true → (a || b) ≡ true
or_left a b is = rw is refl

pub or_right : (a b : Bool) → b ≡ true → (a || b) ≡ true
or_right true b is = refl
or_right false b is = is

-- what holds of each number in a list holds along it
pub each_in : (P : ℕ → Type 0) (numbers : List ℕ) → ((number : ℕ) → is_listed numbers number ≡ true → P number) → AllByRecursion P numbers
each_in P [] given = tt
each_in P (number ∷ numbers) given = (
  given number (or_left (number == number) (is_listed numbers number) (eq-eqb number number refl)),
  each_in P numbers (λ other inside. given other (or_right (number == other) (is_listed numbers other) inside)),
)

-- a test that each number of a list passes
pub test_in : (p : ℕ → Bool) (numbers : List ℕ) (number : ℕ) → list_all p numbers ≡ true → is_listed numbers number ≡ true → p number ≡ true
test_in p [] number all inside = cc
test_in p (first ∷ numbers) number all inside = go (first == number) refl (λ later. test_in p numbers number (both_right (p first) (list_all p numbers) all) later)
  where
    go : (same : Bool) → (first == number) ≡ same → (is_listed numbers number ≡ true → p number ≡ true) → p number ≡ true
    go true is rest = subst (λ (n : ℕ). p n ≡ true) (eqb-true first number is) (both_left (p first) (list_all p numbers) all)
    go false is rest = rest (rw is at inside)

-- the blocks of an entry that fits are of the data area
pub fits_blocks : (shape : Shape) (longest : ℕ) (entry : Meaning) → fits shape longest entry ≡ true → list_all (is_in_data shape) entry.blocks ≡ true
fits_blocks shape longest entry good =
    both_right (nat_le 1 (length entry.blocks) && nat_le (length entry.blocks) longest && nat_le (entry.virt + length entry.blocks) 65536) (list_all (is_in_data shape) entry.blocks)
    (both_left (nat_le 1 (length entry.blocks) && nat_le (length entry.blocks) longest && nat_le (entry.virt + length entry.blocks) 65536 && list_all (is_in_data shape) entry.blocks) (nat_lt entry.leftover shape.block_bytes) good)

second_holds : (kind unnamed indirect runs : Bool) → kind ≡ false → ((kind && unnamed) || (indirect && runs)) ≡ true → runs ≡ true
second_holds true unnamed indirect runs is holds = cc
second_holds false unnamed true runs is holds = holds
second_holds false unnamed false runs is holds = cc

-- the names of an entry of a log block
entry_names : (image : List ℕ) (shape : Shape) (word : ℕ) → is_log_entry image shape word ≡ true → list_all (is_in_data shape) (names (meaning image shape word)) ≡ true
entry_names image shape word good = go (field ENTRY_KIND word == DIRECT) refl (fits_blocks shape (longest_of shape.block_bytes) (meaning image shape word) fitting)
  where
    accepted : (is_direct word || (is_indirect word && has_runs image shape word)) ≡ true
    accepted = both_left (is_direct word || (is_indirect word && has_runs image shape word)) (fits shape (longest_of shape.block_bytes) (meaning image shape word)) good

    fitting : fits shape (longest_of shape.block_bytes) (meaning image shape word) ≡ true
    fitting = both_right (is_direct word || (is_indirect word && has_runs image shape word)) (fits shape (longest_of shape.block_bytes) (meaning image shape word)) good

    go : (direct : Bool) → (field ENTRY_KIND word == DIRECT) ≡ direct → list_all (is_in_data shape) (meaning image shape word).blocks ≡ true → list_all (is_in_data shape) (names (meaning image shape word)) ≡ true
    go true is inside = rw is (rw is at inside)
    go false is inside =
        let holder : is_in_data shape (field INDIRECT_BLOCK word) ≡ true =
        both_left (is_in_data shape (field INDIRECT_BLOCK word)) (is_indirect_block shape (block_words image shape (field INDIRECT_BLOCK word)))
        (second_holds (field ENTRY_KIND word == DIRECT) (entry_unnamed word == 0) (is_indirect word) (has_runs image shape word) is accepted) in
        rw is (both (is_in_data shape (field INDIRECT_BLOCK word)) (list_all (is_in_data shape) (indirect_meaning (field INDIRECT_BLOCK word) (block_words image shape (field INDIRECT_BLOCK word))).blocks) holder (rw is at inside))

log_names : (image : List ℕ) (shape : Shape) (words : List ℕ) → list_all (is_log_entry image shape) words ≡ true → list_all (is_in_data shape) (all_names (map (meaning image shape) words)) ≡ true
log_names image shape [] good = refl
log_names image shape (word ∷ words) good =
    all_join (is_in_data shape) (names (meaning image shape word)) (all_names (map (meaning image shape) words))
    (entry_names image shape word (both_left (is_log_entry image shape word) (list_all (is_log_entry image shape) words) good))
    (log_names image shape words (both_right (is_log_entry image shape word) (list_all (is_log_entry image shape) words) good))

direct_names : (shape : Shape) (words : List ℕ) → list_all (is_snapshot_entry shape) words ≡ true → list_all (is_in_data shape) (all_names (map direct_meaning words)) ≡ true
direct_names shape [] good = refl
direct_names shape (word ∷ words) good =
    all_join (is_in_data shape) (names (direct_meaning word)) (all_names (map direct_meaning words))
    (fits_blocks shape 256 (direct_meaning word) (both_right (is_direct word && field DIRECT_LEFTOVER word == 0) (fits shape 256 (direct_meaning word)) (both_left (is_snapshot_entry shape word) (list_all (is_snapshot_entry shape) words) good)))
    (direct_names shape words (both_right (is_snapshot_entry shape word) (list_all (is_snapshot_entry shape) words) good))

-- the words of the log's entries are as they may be
pub all_good : (image : List ℕ) (shape : Shape) (blocks : List ℕ) → list_all (λ (b : ℕ). is_log_block image shape (block_words image shape b)) blocks ≡ true → list_all (is_log_entry image shape) (flat_map (log_entry_words image shape) blocks) ≡ true
all_good image shape [] good = refl
all_good image shape (block ∷ blocks) good =
    all_join (is_log_entry image shape) (log_entry_words image shape block) (flat_map (log_entry_words image shape) blocks)
    (entries_in image shape (block_words image shape block) (both_left (is_log_block image shape (block_words image shape block)) (list_all (λ (b : ℕ). is_log_block image shape (block_words image shape b)) blocks) good))
    (all_good image shape blocks (both_right (is_log_block image shape (block_words image shape block)) (list_all (λ (b : ℕ). is_log_block image shape (block_words image shape b)) blocks) good))

snapshot_names : (image : List ℕ) (shape : Shape) (blocks : List ℕ) → list_all (λ (b : ℕ). is_snapshot_block shape (block_words image shape b)) blocks ≡ true → list_all (is_in_data shape) (all_names (flat_map (kept_in image shape) blocks)) ≡ true
snapshot_names image shape [] good = refl
snapshot_names image shape (block ∷ blocks) good =
    subst (λ (l : List ℕ). list_all (is_in_data shape) l ≡ true) (sym (flat_map-append names (kept_in image shape block) (flat_map (kept_in image shape) blocks)))
    (all_join (is_in_data shape) (all_names (kept_in image shape block)) (all_names (flat_map (kept_in image shape) blocks))
    (direct_names shape (kept_words (block_words image shape block))
    (both_right (nat_le (entry_count (block_words image shape block)) (words_in shape - 3) && nat_le (file_size (block_words image shape block)) (limit_of shape.block_bytes))
    (list_all (is_snapshot_entry shape) (kept_words (block_words image shape block)))
    (both_left (nat_le (entry_count (block_words image shape block)) (words_in shape - 3) && nat_le (file_size (block_words image shape block)) (limit_of shape.block_bytes)
    && list_all (is_snapshot_entry shape) (kept_words (block_words image shape block)))
    (all_zero (drop (entry_count (block_words image shape block)) (slots_of (block_words image shape block))))
    (both_left (is_snapshot_block shape (block_words image shape block)) (list_all (λ (b : ℕ). is_snapshot_block shape (block_words image shape b)) blocks) good))))
    (snapshot_names image shape blocks (both_right (is_snapshot_block shape (block_words image shape block)) (list_all (λ (b : ℕ). is_snapshot_block shape (block_words image shape b)) blocks) good)))

-- all blocks that the entries of a chain name are of the data area
pub names_in_data : (image : List ℕ) (shape : Shape) (chain : List ℕ) → HasFormat image shape chain → list_all (is_in_data shape) (all_names (entries_of image shape chain)) ≡ true
names_in_data image shape chain format =
    subst (λ (l : List ℕ). list_all (is_in_data shape) l ≡ true) (sym (flat_map-append names (snapshot_entries image shape chain) (log_entries image shape chain)))
    (all_join (is_in_data shape) (all_names (snapshot_entries image shape chain)) (all_names (log_entries image shape chain))
    (snapshot_names image shape (snapshots_of image shape chain) format.snapshots)
    (log_names image shape (log_words image shape chain) (all_good image shape (logs_of image shape chain) format.logs)))

-- a block is not both of the data area and of the log or spare area
pub not_data : (shape : Shape) (block other : ℕ) → is_in_data shape block ≡ true → is_in_log shape other ≡ true → block ≢ other
not_data shape block other stored log same =
    let low : block ≤ shape.data_blocks = leb-true block shape.data_blocks (both_right (nat_le 1 block) (nat_le block shape.data_blocks) stored) in
    let high : shape.data_blocks < other = ltb-true shape.data_blocks other (both_left (nat_lt shape.data_blocks other) (nat_lt other (total shape)) log) in
    omega (arith, low, high, same)

-- lists of different numbers that have no number in common
pub different_join : (first second : List ℕ) → all_different first ≡ true → all_different second ≡ true → ((number : ℕ) → is_listed first number ≡ true → is_listed second number ≡ false) → all_different (first ++ second) ≡ true
different_join [] second one other apart = other
different_join (number ∷ first) second one other apart =
    both (not (is_listed (first ++ second) number)) (all_different (first ++ second))
    (ap (λ (b : Bool). not b) (list_any-append (λ (n : ℕ). n == number) first second) ∙ neither (is_listed first number) (is_listed second number) (both_left (not (is_listed first number)) (all_different first) one) (apart number (or_left (number == number) (is_listed first number) (eq-eqb number number refl))))
    (different_join first second (both_right (not (is_listed first number)) (all_different first) one) other (λ n inside. apart n (or_right (number == n) (is_listed first n) inside)))
  where
    neither : (a b : Bool) → not a ≡ true → b ≡ false → not (a || b) ≡ true
    neither true b no_a no_b = cc
    neither false b no_a no_b = ap (λ (c : Bool). not c) no_b

-- a number before a range is not in it, and a range has different numbers
before_range : (first count number : ℕ) → number < first → is_listed (range_with_len first count) number ≡ false
before_range first zero number before = refl
before_range first (suc count) number before = rw (ne_eqb first number (omega (arith, before))) (before_range (first + 1) count number (omega (arith, before)))

pub range_different : (first count : ℕ) → all_different (range_with_len first count) ≡ true
range_different first zero = refl
range_different first (suc count) = both (not (is_listed (range_with_len (first + 1) count) first)) (all_different (range_with_len (first + 1) count)) (ap (λ (b : Bool). not b) (before_range (first + 1) count first (omega arith))) (range_different (first + 1) count)
