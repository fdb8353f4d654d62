-- What the words of entries say, by the numbers that are read of them.
use Rattle.std.proofs.Common.{◌≡◌, ◌<◌, ◌≤◌, ◌+◌, ◌==◌, ◌&&◌, ◌||◌, nat_le, nat_lt, ℕ, zero, suc, Bool, true, false, List, [], ◌∷◌, ◌++◌, length, if◌then◌else◌, get_or, take, drop, append-nil, refl, sym, ap, ◌∙◌, subst, arith}
use Rattle.std.specs.List.{list_all, flat_map, range_with_len}
use Rattle.std.proofs.lemmas.Bool.{leb-true, and_parts}
use Rattle.std.proofs.lemmas.Bool.Decides.{nat_tests}
use Rattle.std.proofs.lemmas.List.{take_more, take-append-drop, length-append}
use Rattle.std.proofs.lemmas.List.Concat.{flat_map-append}
use Rattle.std.proofs.lemmas.List.Folds.{list_all-append}
use Rattle.std.proofs.lemmas.List.FromFn.{length-range_with_len}
use Rattle.log_entry.specs.Fields.{field}
use Rattle.log_entry.specs.Shape.{longest_of}
use Rattle.log_entry.specs.Words.{entry_unnamed}
use Rattle.log_entry.specs.declared.layouts.TheConstants.{ENTRY_KIND, DIRECT, INDIRECT, DIRECT_UNNAMED, INDIRECT_UNNAMED, KIND_UNNAMED, INDIRECT_BLOCK, RUN_BLOCK, RUN_COUNT, RUN_UNNAMED}
use Rattle.log_image.specs.Image.{Shape, is_in_data, block_words}
use Rattle.log_image.specs.Entries.{Meaning, run_blocks, direct_meaning, indirect_meaning, meaning}
use Rattle.log_image.specs.Format.{fits, is_run, is_indirect_block, is_log_entry}
use Rattle.recovery.specs.Limits.{are_limits}
use Rattle.chain_reader.proofs.RunsLemmas.{all_at}

-- whether blocks in a row are of the data area
pub row_in_data : (shape : Shape) (block count : ℕ) → 1 ≤ count → (nat_le 1 block && nat_le (block + count) (shape.data_blocks + 1)) ≡ list_all (is_in_data shape) (range_with_len block count)
row_in_data shape block zero some = absurd (omega (arith, some))
row_in_data shape block (suc zero) some = one block shape.data_blocks
  where
    one : (block last : ℕ) → (nat_le 1 block && nat_le (block + suc zero) (last + 1)) ≡ ((nat_le 1 block && nat_le block last) && true)
    one block last = grind (arith, nat_tests)
row_in_data shape block (suc (suc count)) some =
    more block count shape.data_blocks ∙ ap (λ (b : Bool). is_in_data shape block && b) (row_in_data shape (block + 1) (suc count) (omega arith))
  where
    more : (block count last : ℕ) → (nat_le 1 block && nat_le (block + suc (suc count)) (last + 1)) ≡ ((nat_le 1 block && nat_le block last) && (nat_le 1 (block + 1) && nat_le ((block + 1) + suc count) (last + 1)))
    more block count last = grind (arith, nat_tests)

-- the blocks of one run more
pub runs_more : (runs : List ℕ) (place : ℕ) → place < length runs → flat_map run_blocks (take (place + 1) runs) ≡ flat_map run_blocks (take place runs) ++ run_blocks (get_or runs place 0)
runs_more runs place inside =
    ap (flat_map run_blocks) (take_more runs place 0 inside)
    ∙ flat_map-append run_blocks (take place runs) (get_or runs place 0 ∷ [])
    ∙ ap (λ (blocks : List ℕ). flat_map run_blocks (take place runs) ++ blocks) (append-nil (run_blocks (get_or runs place 0)))

-- their number
pub count_more : (runs : List ℕ) (place count : ℕ) → count ≡ length (flat_map run_blocks (take place runs)) → place < length runs →
    count + field RUN_COUNT (get_or runs place 0) ≡ length (flat_map run_blocks (take (place + 1) runs))
count_more runs place count is inside =
    ap (λ (n : ℕ). n + field RUN_COUNT (get_or runs place 0)) is
    ∙ ap (λ (n : ℕ). length (flat_map run_blocks (take place runs)) + n) (sym (length-range_with_len (field RUN_BLOCK (get_or runs place 0)) (field RUN_COUNT (get_or runs place 0))))
    ∙ sym (length-append (flat_map run_blocks (take place runs)) (run_blocks (get_or runs place 0)))
    ∙ ap (λ (blocks : List ℕ). length blocks) (sym (runs_more runs place inside))

-- the blocks of the runs before a place, and of one more, are of the data area
pub data_more : (shape : Shape) (runs : List ℕ) (place : ℕ) (here : Bool) → list_all (is_in_data shape) (flat_map run_blocks (take place runs)) ≡ true → place < length runs →
    here ≡ list_all (is_in_data shape) (run_blocks (get_or runs place 0)) → here ≡ list_all (is_in_data shape) (flat_map run_blocks (take (place + 1) runs))
data_more shape runs place here before inside is =
    is ∙ sym (ap (list_all (is_in_data shape)) (runs_more runs place inside)
    ∙ list_all-append (is_in_data shape) (flat_map run_blocks (take place runs)) (run_blocks (get_or runs place 0))
    ∙ ap (λ (b : Bool). b && list_all (is_in_data shape) (run_blocks (get_or runs place 0))) before)

-- a run is of at least one block
pub run_some : (runs : List ℕ) (place : ℕ) → list_all is_run runs ≡ true → place < length runs → 1 ≤ field RUN_COUNT (get_or runs place 0)
run_some runs place all inside =
    leb-true 1 (field RUN_COUNT (get_or runs place 0)) (and_parts (nat_le 1 (field RUN_COUNT (get_or runs place 0))) (field RUN_UNNAMED (get_or runs place 0) == 0) (all_at is_run runs place all inside)).0

-- some of the blocks of a beginning of runs are not of the data area, and so not all
pub data_not : (shape : Shape) (runs : List ℕ) (count : ℕ) → false ≡ list_all (is_in_data shape) (flat_map run_blocks (take count runs)) → false ≡ list_all (is_in_data shape) (flat_map run_blocks runs)
data_not shape runs count not_all =
    sym (ap (λ (l : List ℕ). list_all (is_in_data shape) (flat_map run_blocks l)) (sym (take-append-drop count runs))
    ∙ ap (list_all (is_in_data shape)) (flat_map-append run_blocks (take count runs) (drop count runs))
    ∙ list_all-append (is_in_data shape) (flat_map run_blocks (take count runs)) (flat_map run_blocks (drop count runs))
    ∙ ap (λ (b : Bool). b && list_all (is_in_data shape) (flat_map run_blocks (drop count runs))) (sym not_all))

-- an entry within these limits fits where its blocks are of the data area
pub fits_in : (shape : Shape) (longest count : ℕ) (entry : Meaning) (inside : Bool) → length entry.blocks ≡ count → are_limits shape.block_bytes longest entry.virt count entry.leftover ≡ true →
    inside ≡ list_all (is_in_data shape) entry.blocks → inside ≡ fits shape longest entry
fits_in shape longest count entry inside is limits same =
    same ∙ swap (nat_le 1 (length entry.blocks)) (nat_le (length entry.blocks) longest) (nat_le (entry.virt + length entry.blocks) 65536) (nat_lt entry.leftover shape.block_bytes) (list_all (is_in_data shape) entry.blocks)
    (subst (λ (n : ℕ). are_limits shape.block_bytes longest entry.virt n entry.leftover ≡ true) (sym is) limits)
  where
    swap : (a b d e all : Bool) → (a && b && d && e) ≡ true → all ≡ (a && b && d && all && e)
    swap true true true true true good = refl
    swap true true true true false good = refl
    swap false b d e all good = cc
    swap true false d e all good = cc
    swap true true false e all good = cc
    swap true true true false all good = cc

-- and one that is not within them does not fit
pub fits_not : (shape : Shape) (longest count : ℕ) (entry : Meaning) → length entry.blocks ≡ count → are_limits shape.block_bytes longest entry.virt count entry.leftover ≡ false →
    false ≡ fits shape longest entry
fits_not shape longest count entry is limits =
    swap (nat_le 1 (length entry.blocks)) (nat_le (length entry.blocks) longest) (nat_le (entry.virt + length entry.blocks) 65536) (nat_lt entry.leftover shape.block_bytes) (list_all (is_in_data shape) entry.blocks)
    (subst (λ (n : ℕ). are_limits shape.block_bytes longest entry.virt n entry.leftover ≡ false) (sym is) limits)
  where
    swap : (a b d e all : Bool) → (a && b && d && e) ≡ false → false ≡ (a && b && d && all && e)
    swap false b d e all bad = refl
    swap true false d e all bad = refl
    swap true true false e all bad = refl
    swap true true true false true bad = refl
    swap true true true false false bad = refl
    swap true true true true all bad = cc

-- the rule of a log block's entry that is not direct
pub indirect_rule : (kind unnamed indirect none inside runs fit answer : Bool) → kind ≡ false → indirect ≡ true → none ≡ true → inside ≡ true → runs ≡ true → answer ≡ fit →
    answer ≡ (((kind && unnamed) || ((indirect && none) && (inside && runs))) && fit)
indirect_rule kind unnamed indirect none inside runs fit answer a b d e f same = rw (a, b, d, e, f) same

pub indirect_entry : (words : List ℕ) (shape : Shape) (word : ℕ) (answer : Bool) → (field ENTRY_KIND word == DIRECT) ≡ false → (field ENTRY_KIND word == INDIRECT) ≡ true → (field INDIRECT_UNNAMED word == 0) ≡ true →
    is_in_data shape (field INDIRECT_BLOCK word) ≡ true → is_indirect_block shape (block_words words shape (field INDIRECT_BLOCK word)) ≡ true →
    answer ≡ fits shape (longest_of shape.block_bytes) (indirect_meaning (field INDIRECT_BLOCK word) (block_words words shape (field INDIRECT_BLOCK word))) → answer ≡ is_log_entry words shape word
indirect_entry words shape word answer direct indirect none inside runs same =
    let unnamed : (entry_unnamed word == 0) ≡ true = ap (λ (b : Bool). (if b then field DIRECT_UNNAMED word else if field ENTRY_KIND word == INDIRECT then field INDIRECT_UNNAMED word else field KIND_UNNAMED word) == 0) direct
    ∙ ap (λ (b : Bool). (if b then field INDIRECT_UNNAMED word else field KIND_UNNAMED word) == 0) indirect ∙ none in
    indirect_rule (field ENTRY_KIND word == DIRECT) (entry_unnamed word == 0) (field ENTRY_KIND word == INDIRECT) (entry_unnamed word == 0) (is_in_data shape (field INDIRECT_BLOCK word))
    (is_indirect_block shape (block_words words shape (field INDIRECT_BLOCK word))) (fits shape (longest_of shape.block_bytes) (meaning words shape word)) answer direct indirect unnamed inside runs
    (same ∙ ap (λ (b : Bool). fits shape (longest_of shape.block_bytes) (if b then direct_meaning word else indirect_meaning (field INDIRECT_BLOCK word) (block_words words shape (field INDIRECT_BLOCK word)))) (sym direct))

-- the blocks of each of some runs are of the data area
pub data_at : (shape : Shape) (runs : List ℕ) (place : ℕ) → list_all (is_in_data shape) (flat_map run_blocks runs) ≡ true → place < length runs → list_all (is_in_data shape) (run_blocks (get_or runs place 0)) ≡ true
data_at shape [] place all inside = absurd (omega (arith, inside))
data_at shape (run ∷ runs) zero all inside =
    (and_parts (list_all (is_in_data shape) (run_blocks run)) (list_all (is_in_data shape) (flat_map run_blocks runs)) (sym (list_all-append (is_in_data shape) (run_blocks run) (flat_map run_blocks runs)) ∙ all)).0
data_at shape (run ∷ runs) (suc place) all inside =
    data_at shape runs place (and_parts (list_all (is_in_data shape) (run_blocks run)) (list_all (is_in_data shape) (flat_map run_blocks runs)) (sym (list_all-append (is_in_data shape) (run_blocks run) (flat_map run_blocks runs)) ∙ all)).1 (omega (arith, inside))
