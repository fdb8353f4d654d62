-- The runs of an indirect entry, taken in one after the other.
use Rattle.std.proofs.Common.{◌≡◌, ◌<◌, ◌≤◌, ◌+◌, ◌==◌, ◌&&◌, nat_le, nat_lt, ℕ, zero, suc, Bool, true, List, [], ◌∷◌, ◌++◌, length, get_or, take, drop, append-nil, sym, ap, ◌∙◌, subst, arith}
use Rattle.std.specs.List.{list_all, flat_map, range_with_len}
use Rattle.std.proofs.lemmas.Bool.{leb-true, ltb-true}
use Rattle.std.proofs.lemmas.List.{take_more, take-append-drop, length-append}
use Rattle.std.proofs.Math.ListN.{drop_of_length-le}
use Rattle.std.proofs.lemmas.List.Concat.{flat_map-append}
use Rattle.std.proofs.lemmas.List.Folds.{length-flat_map-take, list_all-append}
use Rattle.std.proofs.lemmas.List.FromFn.{length-range_with_len}
use Rattle.block_table.specs.FileMap.{FileMap}
use Rattle.log_entry.specs.Fields.{field}
use Rattle.log_entry.specs.declared.layouts.TheConstants.{RUNS_VIRT, RUNS_COUNT, RUNS_RUNS, RUNS_LEFTOVER, RUNS_UNNAMED, RUN_BLOCK, RUN_COUNT, RUN_UNNAMED}
use Rattle.log_image.specs.Image.{Shape, words_in, is_in_data}
use Rattle.log_image.specs.Entries.{Meaning, run_words, run_blocks, indirect_blocks, indirect_meaning}
use Rattle.log_image.specs.Format.{fits, is_run, is_indirect_block, all_zero}
use Rattle.log_image.proofs.HoldingLemmas.{both_left, both_right}
use Rattle.chain_reader.specs.Tables.{HasMap}
use Rattle.chain_reader.proofs.FitsLemmas.{Fitting, fitting, row_inside, RunNumbers}
use Rattle.chain_reader.proofs.MapLemmas.{IsMapped, more_run, no_run}

-- what the first runs of an indirect entry say
abbrev pub first_runs : ℕ → List ℕ → ℕ → Meaning
first_runs holder block count = record {
  holder = holder ∷ [];
  virt = field RUNS_VIRT (get_or block 0 0);
  blocks = flat_map run_blocks (take count (run_words block));
  leftover = field RUNS_LEFTOVER (get_or block 0 0);
}

-- a test of each element holds of the one at a place
pub all_at : (test : ℕ → Bool) (numbers : List ℕ) (place : ℕ) → list_all test numbers ≡ true → place < length numbers → test (get_or numbers place 0) ≡ true
all_at test [] place all inside = absurd (omega (arith, inside))
all_at test (number ∷ numbers) zero all inside = both_left (test number) (list_all test numbers) all
all_at test (number ∷ numbers) (suc place) all inside = all_at test numbers place (both_right (test number) (list_all test numbers) all) (omega (arith, inside))

-- a test of each element of some lists holds of each element of one of them
pub all_in : (test : ℕ → Bool) (lists : ℕ → List ℕ) (numbers : List ℕ) (place : ℕ) → list_all test (flat_map lists numbers) ≡ true → place < length numbers → list_all test (lists (get_or numbers place 0)) ≡ true
all_in test lists [] place all inside = absurd (omega (arith, inside))
all_in test lists (number ∷ numbers) zero all inside =
    both_left (list_all test (lists number)) (list_all test (flat_map lists numbers)) (sym (list_all-append test (lists number) (flat_map lists numbers)) ∙ all)
all_in test lists (number ∷ numbers) (suc place) all inside =
    all_in test lists numbers place (both_right (list_all test (lists number)) (list_all test (flat_map lists numbers)) (sym (list_all-append test (lists number) (flat_map lists numbers)) ∙ all)) (omega (arith, inside))

-- what the rules say of an indirect block
pub record RunsFit (shape : Shape) (block : List ℕ) : Type 0 where
  pub few : field RUNS_RUNS (get_or block 0 0) < words_in shape
  pub are : list_all is_run (run_words block) ≡ true

pub runs_fit : (shape : Shape) (block : List ℕ) → is_indirect_block shape block ≡ true → RunsFit shape block
runs_fit shape block good =
    let head : ℕ = get_or block 0 0 in
    let a : Bool = field RUNS_UNNAMED head == 0 && nat_le 1 (field RUNS_RUNS head) in
    let b : Bool = nat_lt (field RUNS_RUNS head) (words_in shape) in
    let d : Bool = list_all is_run (run_words block) in
    let e : Bool = length (indirect_blocks block) == field RUNS_COUNT head in
    let f : Bool = all_zero (drop (1 + field RUNS_RUNS head) block) in
    let first : (a && b && d && e) ≡ true = both_left (a && b && d && e) f good in
    let second : (a && b && d) ≡ true = both_left (a && b && d) e first in
    record {
      few = ltb-true (field RUNS_RUNS head) (words_in shape) (both_right a b (both_left (a && b) d second));
      are = both_right (a && b) d second;
    }

-- the run at a place: its numbers, where the runs before it end
pub record RunAt (holder : ℕ) (block : List ℕ) (place : ℕ) : Type 0 where
  pub numbers : RunNumbers (field RUNS_VIRT (get_or block 0 0) + length (flat_map run_blocks (take place (run_words block)))) (field RUN_BLOCK (get_or (run_words block) place 0)) (field RUN_COUNT (get_or (run_words block) place 0))
  pub cut : field RUN_COUNT (get_or (run_words block) place 0) ≤ 256

pub run_at : (shape : Shape) (holder : ℕ) (block : List ℕ) (place : ℕ) → shape.data_blocks < 65535 → is_indirect_block shape block ≡ true → fits shape 256 (indirect_meaning holder block) ≡ true →
    place < length (run_words block) → RunAt holder block place
run_at shape holder block place small good fit inside =
    let run : ℕ = get_or (run_words block) place 0 in
    let is : Fitting shape 256 (indirect_meaning holder block) = fitting shape 256 (indirect_meaning holder block) fit in
    let some : 1 ≤ field RUN_COUNT run = leb-true 1 (field RUN_COUNT run) (both_left (nat_le 1 (field RUN_COUNT run)) (field RUN_UNNAMED run == 0) (all_at is_run (run_words block) place (runs_fit shape block good).are inside)) in
    let blocks : (1 ≤ field RUN_BLOCK run) × (field RUN_BLOCK run + field RUN_COUNT run ≤ shape.data_blocks + 1) =
    row_inside shape (field RUN_BLOCK run) (field RUN_COUNT run) (all_in (is_in_data shape) run_blocks (run_words block) place is.in_data inside) some in
    let long : length (run_blocks run) ≡ field RUN_COUNT run = length-range_with_len (field RUN_BLOCK run) (field RUN_COUNT run) in
    let part : length (flat_map run_blocks (take place (run_words block))) + length (run_blocks run) ≤ length (indirect_blocks block) = length-flat_map-take run_blocks (run_words block) place 0 inside in
    let front : ℕ = length (flat_map run_blocks (take place (run_words block))) in
    record {
      numbers = within (field RUNS_VIRT (get_or block 0 0)) front (field RUN_BLOCK run) (field RUN_COUNT run) (length (run_blocks run)) (length (indirect_blocks block)) shape.data_blocks small some blocks.0 blocks.1 long part is.in_file;
      cut = shorter front (field RUN_COUNT run) (length (run_blocks run)) (length (indirect_blocks block)) long part is.few;
    }
  where
    within : (virt front block count long all last : ℕ) → last < 65535 → 1 ≤ count → 1 ≤ block → block + count ≤ last + 1 → long ≡ count → front + long ≤ all → virt + all ≤ 65536 → RunNumbers (virt + front) block count
    within virt front block count long all last small some taken below same part in_file = record {
      some = some;
      taken = taken;
      in_file = omega (arith, same, part, in_file);
      in_image = omega (arith, below, small);
    }

    shorter : (front count long all : ℕ) → long ≡ count → front + long ≤ all → all ≤ 256 → count ≤ 256
    shorter front count long all same part few = omega (arith, same, part, few)

-- the blocks of one run more
pub one_more : (block : List ℕ) (place : ℕ) → place < length (run_words block) →
    flat_map run_blocks (take (place + 1) (run_words block)) ≡ flat_map run_blocks (take place (run_words block)) ++ run_blocks (get_or (run_words block) place 0)
one_more block place inside =
    ap (flat_map run_blocks) (take_more (run_words block) place 0 inside)
    ∙ flat_map-append run_blocks (take place (run_words block)) (get_or (run_words block) place 0 ∷ [])
    ∙ ap (λ (l : List ℕ). flat_map run_blocks (take place (run_words block)) ++ l) (append-nil (run_blocks (get_or (run_words block) place 0)))

-- the runs before a place, read into a table
pub record RunsRead (old new : FileMap) (holder : ℕ) (block : List ℕ) (virt place : ℕ) : Type 0 where
  pub at : virt ≡ field RUNS_VIRT (get_or block 0 0) + length (flat_map run_blocks (take place (run_words block)))
  pub map : (entries : List Meaning) → HasMap old entries → HasMap new (entries ++ first_runs holder block place ∷ [])

pub run_read : (old now new : FileMap) (holder : ℕ) (block : List ℕ) (virt place first count : ℕ) → RunsRead old now holder block virt place → place < length (run_words block) →
    first ≡ field RUN_BLOCK (get_or (run_words block) place 0) → count ≡ field RUN_COUNT (get_or (run_words block) place 0) → IsMapped now new virt first count → RunsRead old new holder block (virt + count) (place + 1)
run_read old now new holder block virt place first count read inside same_first same_count mapped = record {
  at = ap (λ (n : ℕ). n + count) read.at
      ∙ further (field RUNS_VIRT (get_or block 0 0)) (flat_map run_blocks (take place (run_words block)))
      ∙ ap (λ (l : List ℕ). field RUNS_VIRT (get_or block 0 0) + length l) (sym longer);
  map = λ entries has. subst (λ (l : List ℕ). HasMap new (entries ++ (record { holder = holder ∷ []; virt = field RUNS_VIRT (get_or block 0 0); blocks = l; leftover = field RUNS_LEFTOVER (get_or block 0 0) }) ∷ [])) (sym longer)
      (more_run now new (holder ∷ []) (field RUNS_VIRT (get_or block 0 0)) (field RUNS_LEFTOVER (get_or block 0 0)) first count virt (flat_map run_blocks (take place (run_words block))) read.at mapped entries (read.map entries has));
}
  where
    longer : flat_map run_blocks (take (place + 1) (run_words block)) ≡ flat_map run_blocks (take place (run_words block)) ++ range_with_len first count
    longer = one_more block place inside
        ∙ ap (λ (n : ℕ). flat_map run_blocks (take place (run_words block)) ++ range_with_len n (field RUN_COUNT (get_or (run_words block) place 0))) (sym same_first)
        ∙ ap (λ (n : ℕ). flat_map run_blocks (take place (run_words block)) ++ range_with_len first n) (sym same_count)

    further : (virt : ℕ) (blocks : List ℕ) → virt + length blocks + count ≡ virt + length (blocks ++ range_with_len first count)
    further virt blocks = simp (length-append, length-range_with_len) (omega arith)

pub take_whole : (numbers : List ℕ) (count : ℕ) → length numbers ≤ count → take count numbers ≡ numbers
take_whole numbers count past =
    let none : drop count numbers ≡ [] = drop_of_length-le numbers past in
    sym (append-nil (take count numbers)) ∙ (ap (λ (l : List ℕ). take count numbers ++ l) (sym none) ∙ take-append-drop count numbers)

-- all runs
pub runs_read : (old new : FileMap) (holder : ℕ) (block : List ℕ) (virt place : ℕ) → RunsRead old new holder block virt place → length (run_words block) ≤ place →
    (virt ≡ field RUNS_VIRT (get_or block 0 0) + length (indirect_blocks block)) × ((entries : List Meaning) → HasMap old entries → HasMap new (entries ++ indirect_meaning holder block ∷ []))
runs_read old new holder block virt place read past =
    let all : take place (run_words block) ≡ run_words block = take_whole (run_words block) place past in (
      read.at ∙ ap (λ (l : List ℕ). field RUNS_VIRT (get_or block 0 0) + length (flat_map run_blocks l)) all,
      λ entries has. subst (λ (l : List ℕ). HasMap new (entries ++ (record { holder = holder ∷ []; virt = field RUNS_VIRT (get_or block 0 0); blocks = flat_map run_blocks l; leftover = field RUNS_LEFTOVER (get_or block 0 0) }) ∷ [])) all (read.map entries has),
    )

-- the same, by the words of the runs and the numbers that are read of one
pub record NextRun (virt first count : ℕ) : Type 0 where
  pub numbers : RunNumbers virt first count
  pub cut : count ≤ 256

pub next_run : (shape : Shape) (old now : FileMap) (holder : ℕ) (block items : List ℕ) (virt place first count : ℕ) → items ≡ run_words block → shape.data_blocks < 65535 → is_indirect_block shape block ≡ true →
    fits shape 256 (indirect_meaning holder block) ≡ true → RunsRead old now holder block virt place → place < length items → first ≡ field RUN_BLOCK (get_or items place 0) → count ≡ field RUN_COUNT (get_or items place 0) → NextRun virt first count
next_run shape old now holder block items virt place first count same small good fit read inside same_first same_count =
    let is : RunAt holder block place = run_at shape holder block place small good fit (subst (λ (l : List ℕ). place < length l) same inside) in
    let block_is : first ≡ field RUN_BLOCK (get_or (run_words block) place 0) = same_first ∙ ap (λ (l : List ℕ). field RUN_BLOCK (get_or l place 0)) same in
    let count_is : count ≡ field RUN_COUNT (get_or (run_words block) place 0) = same_count ∙ ap (λ (l : List ℕ). field RUN_COUNT (get_or l place 0)) same in
    let blocks : List ℕ = flat_map run_blocks (take place (run_words block)) in
    subst (λ (n : ℕ). NextRun n first count) (sym read.at)
    (subst (λ (n : ℕ). NextRun (field RUNS_VIRT (get_or block 0 0) + length blocks) n count) (sym block_is)
    (subst (λ (n : ℕ). NextRun (field RUNS_VIRT (get_or block 0 0) + length blocks) (field RUN_BLOCK (get_or (run_words block) place 0)) n) (sym count_is)
    (record { numbers = is.numbers; cut = is.cut })))

pub read_next : (old now new : FileMap) (holder : ℕ) (block items : List ℕ) (virt place first count : ℕ) → items ≡ run_words block → RunsRead old now holder block virt place → place < length items →
    first ≡ field RUN_BLOCK (get_or items place 0) → count ≡ field RUN_COUNT (get_or items place 0) → IsMapped now new virt first count → RunsRead old new holder block (virt + count) (place + 1)
read_next old now new holder block items virt place first count same read inside same_first same_count mapped =
    run_read old now new holder block virt place first count read (subst (λ (l : List ℕ). place < length l) same inside)
    (same_first ∙ ap (λ (l : List ℕ). field RUN_BLOCK (get_or l place 0)) same) (same_count ∙ ap (λ (l : List ℕ). field RUN_COUNT (get_or l place 0)) same) mapped

-- before the first run
pub none_read : (table : FileMap) (holder : ℕ) (block : List ℕ) (virt : ℕ) → virt ≡ field RUNS_VIRT (get_or block 0 0) → RunsRead table table holder block virt 0
none_read table holder block virt same = record {
  at = same ∙ omega arith;
  map = λ entries has. no_run table (holder ∷ []) (field RUNS_VIRT (get_or block 0 0)) (field RUNS_LEFTOVER (get_or block 0 0)) entries has;
}
