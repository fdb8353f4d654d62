-- The words of an indirect block, by the runs of its blocks, and the word of its entry.
use Rattle.std.proofs.Common.{◌≡◌, ◌<◌, ◌≤◌, ◌+◌, ◌-◌, ◌^◌, ◌==◌, ◌&&◌, nat_le, nat_lt, ℕ, zero, suc, Bool, true, false, List, [], ◌∷◌, ◌++◌, length, length-append, map, take, drop, replicate, slice_index, if◌then◌else◌, refl, sym, ap, ◌∙◌, arith}
use Rattle.std.specs.List.{flat_map, list_all, AllByRecursion}
use Rattle.std.proofs.Math.Seq.{take-append_seam, drop-append_seam}
use Rattle.std.proofs.lemmas.Bool.{le-leb, lt-ltb, eq-eqb}
use Rattle.std.proofs.lemmas.List.{length-map, length-replicate}
use Rattle.log_entry.specs.Fields.{field}
use Rattle.log_entry.specs.Words.{entry_word, indirect_word, run_word}
use Rattle.log_entry.specs.Shape.{longest_of}
use Rattle.log_entry.specs.declared.entries.Entry.TheVariants.{Indirect}
use Rattle.log_core.specs.Entries.{meaning_by}
use Rattle.log_core.specs.May.{is_log_entry_by}
use Rattle.log_entry.specs.declared.layouts.TheConstants.{ENTRY_KIND, INDIRECT, INDIRECT_BLOCK, INDIRECT_UNNAMED, RUNS_VIRT, RUNS_COUNT, RUNS_RUNS, RUNS_LEFTOVER, RUNS_UNNAMED, RUN_BLOCK, RUN_COUNT, RUN_UNNAMED}
use Rattle.log_entry.specs.declared.words.RunWord.{RunWord}
use Rattle.log_image.specs.Image.{Shape, words_in, is_in_data}
use Rattle.log_image.specs.Entries.{Meaning, run_blocks, run_words, indirect_blocks, indirect_meaning}
use Rattle.log_image.specs.Format.{all_zero, fits, is_run, is_direct, is_indirect, is_indirect_block}
use Rattle.log_core.proofs.writes.RunLists.{blocks_of_run, blocks_of, IsSmallRun}

-- the words of an indirect block of so many words: its first word, those of the runs, and then 0
abbrev pub indirect_content : ℕ → ℕ → ℕ → List RunWord → List ℕ
indirect_content words virt leftover runs =
    indirect_word (record { virt = virt; count = length (blocks_of runs); runs = length runs; leftover = leftover }) ∷ (map run_word runs ++ replicate (words - (1 + length runs)) 0)

module _ (run : RunWord) (small_block : run.block < 2 ^ 16) (small_count : run.count < 2 ^ 16) where
  block_field : field RUN_BLOCK (run_word run) ≡ run.block
  block_field = omega (arith, small_block, small_count)

  count_field : field RUN_COUNT (run_word run) ≡ run.count
  count_field = omega (arith, small_block, small_count)

  unnamed_field : field RUN_UNNAMED (run_word run) ≡ 0
  unnamed_field = omega (arith, small_block, small_count)

  pub run_small : run_word run < 2 ^ 64
  run_small = omega (arith, small_block, small_count)

  run_blocks_are : run_blocks (run_word run) ≡ blocks_of_run run
  run_blocks_are = rw (block_field, count_field) refl

  run_is : 1 ≤ run.count → is_run (run_word run) ≡ true
  run_is some = rw (count_field, unnamed_field, le-leb 1 run.count some) refl

runs_say : (most : ℕ) (runs : List RunWord) → most < 2 ^ 16 → AllByRecursion (IsSmallRun most) runs → flat_map run_blocks (map run_word runs) ≡ blocks_of runs
runs_say most [] low all = refl
runs_say most (run ∷ runs) low all = ap (λ (l : List ℕ). l ++ flat_map run_blocks (map run_word runs)) (run_blocks_are run all.0.block (let few = all.0.few in omega (arith, low, few)))
    ∙ ap (λ (l : List ℕ). blocks_of_run run ++ l) (runs_say most runs low all.1)

runs_are : (most : ℕ) (runs : List RunWord) → most < 2 ^ 16 → AllByRecursion (IsSmallRun most) runs → list_all is_run (map run_word runs) ≡ true
runs_are most [] low all = refl
runs_are most (run ∷ runs) low all = rw (run_is run all.0.block (let few = all.0.few in omega (arith, low, few)) all.0.some) (runs_are most runs low all.1)

zeros : (count : ℕ) → all_zero (replicate count 0) ≡ true
zeros zero = refl
zeros (suc count) = zeros count

six_hold : (a b c d e f : Bool) → a ≡ true → b ≡ true → c ≡ true → d ≡ true → e ≡ true → f ≡ true → (a && b && c && d && e && f) ≡ true
six_hold a b c d e f one two three four five six = rw (one, two, three, four, five, six) refl

module _ (words virt leftover most : ℕ) (runs : List RunWord) (small_virt : virt < 2 ^ 16) (small_count : length (blocks_of runs) < 2 ^ 16) (small_leftover : leftover < 4096)
    (few : length runs < 2 ^ 16) (low : most < 2 ^ 16) (all : AllByRecursion (IsSmallRun most) runs) where
  abbrev content : List ℕ
  content = indirect_content words virt leftover runs

  abbrev first : ℕ
  first = slice_index content 0

  abbrev rest : List ℕ
  rest = replicate (words - (1 + length runs)) 0

  virt_field : field RUNS_VIRT first ≡ virt
  virt_field = omega (arith, small_virt, small_count, few, small_leftover)

  total_field : field RUNS_COUNT first ≡ length (blocks_of runs)
  total_field = omega (arith, small_virt, small_count, few, small_leftover)

  runs_field : field RUNS_RUNS first ≡ length runs
  runs_field = omega (arith, small_virt, small_count, few, small_leftover)

  leftover_field : field RUNS_LEFTOVER first ≡ leftover
  leftover_field = omega (arith, small_virt, small_count, few, small_leftover)

  none_field : field RUNS_UNNAMED first ≡ 0
  none_field = omega (arith, small_virt, small_count, few, small_leftover)

  pub first_small : first < 2 ^ 64
  first_small = omega (arith, small_virt, small_count, few, small_leftover)

  long : length (map run_word runs) ≡ length runs
  long = length-map runs run_word

  words_are : run_words content ≡ map run_word runs
  words_are = ap (λ (n : ℕ). take n (map run_word runs ++ rest)) (runs_field ∙ sym long) ∙ take-append_seam (map run_word runs) rest

  blocks_are : indirect_blocks content ≡ blocks_of runs
  blocks_are = ap (λ (l : List ℕ). flat_map run_blocks l) words_are ∙ runs_say most runs low all

  behind : drop (1 + field RUNS_RUNS first) content ≡ rest
  behind = ap (λ (n : ℕ). drop n content) (let same : 1 + field RUNS_RUNS first ≡ suc (length (map run_word runs)) = (let e = runs_field ∙ sym long in omega (arith, e)) in same) ∙ drop-append_seam (map run_word runs) rest

  -- it means exactly those blocks
  pub indirect_says : (holder : ℕ) → indirect_meaning holder content ≡ record { holder = holder ∷ []; virt = virt; blocks = blocks_of runs; leftover = leftover }
  indirect_says holder = rw (virt_field, blocks_are, leftover_field) refl

  -- and it is an indirect block, with room for its runs
  pub indirect_is : (image : Shape) → words_in image ≡ words → 1 ≤ length runs → length runs < words → is_indirect_block image content ≡ true
  indirect_is image same some room =
      (let is = runs_field in
      six_hold (field RUNS_UNNAMED first == 0) (nat_le 1 (field RUNS_RUNS first)) (nat_lt (field RUNS_RUNS first) (words_in image)) (list_all is_run (run_words content))
      (length (indirect_blocks content) == field RUNS_COUNT first) (all_zero (drop (1 + field RUNS_RUNS first) content))
      (eq-eqb (field RUNS_UNNAMED first) 0 none_field)
      (le-leb 1 (field RUNS_RUNS first) (omega (arith, is, some)))
      (lt-ltb (field RUNS_RUNS first) (words_in image) (omega (arith, is, same, room)))
      (ap (λ (l : List ℕ). list_all is_run l) words_are ∙ runs_are most runs low all)
      (eq-eqb (length (indirect_blocks content)) (field RUNS_COUNT first) (ap (λ (l : List ℕ). length l) blocks_are ∙ sym total_field))
      (ap all_zero behind ∙ zeros (words - (1 + length runs))))

  pub indirect_long : 1 + length runs ≤ words → length content ≡ words
  indirect_long room = (let all_runs = length-append (map run_word runs) rest in let many = long in let zeros_long = length-replicate {A = ℕ} (words - (1 + length runs)) 0 in omega (arith, all_runs, many, zeros_long, room))

-- the word of an indirect entry
module _ (holder : ℕ) (small : holder < 2 ^ 16) where
  abbrev pub holder_word : ℕ
  holder_word = entry_word (Indirect holder)

  holder_kind : field ENTRY_KIND holder_word ≡ INDIRECT
  holder_kind = omega (arith, small)

  holder_field : field INDIRECT_BLOCK holder_word ≡ holder
  holder_field = omega (arith, small)

  holder_unnamed : field INDIRECT_UNNAMED holder_word ≡ 0
  holder_unnamed = omega (arith, small)

  pub holder_small : holder_word < 2 ^ 64
  holder_small = omega (arith, small)

  holder_is : is_indirect holder_word ≡ true
  holder_is = rw (holder_kind, holder_unnamed) refl

  -- it means what the words of its block say
  pub holder_means : (held : ℕ → List ℕ) → meaning_by held holder_word ≡ indirect_meaning holder (held holder)
  holder_means held = rw (holder_kind) (ap (λ (b : ℕ). indirect_meaning b (held b)) holder_field)

  -- and a log block may have it where that is an indirect block of the data area, and fits
  pub holder_form : (held : ℕ → List ℕ) (image : Shape) → is_in_data image holder ≡ true → is_indirect_block image (held holder) ≡ true →
      fits image (longest_of image.block_bytes) (indirect_meaning holder (held holder)) ≡ true → is_log_entry_by held image holder_word ≡ true
  holder_form held image in_data runs fitting = either (is_direct holder_word) (is_indirect holder_word) (is_in_data image (field INDIRECT_BLOCK holder_word)) (is_indirect_block image (held (field INDIRECT_BLOCK holder_word)))
      (fits image (longest_of image.block_bytes) (meaning_by held holder_word)) holder_is (ap (λ (b : ℕ). is_in_data image b) holder_field ∙ in_data) (ap (λ (b : ℕ). is_indirect_block image (held b)) holder_field ∙ runs)
      (ap (λ (m : Meaning). fits image (longest_of image.block_bytes) m) (holder_means held) ∙ fitting)
    where
      either : (direct a b c d : Bool) → a ≡ true → b ≡ true → c ≡ true → d ≡ true → ((if direct then true else a && b && c) && d) ≡ true
      either true a b c d one two three four = four
      either false a b c d one two three four = rw (one, two, three, four) refl
