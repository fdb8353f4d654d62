-- The runs of an indirect block whose words are kept behind its entry's own.
use Rattle.std.proofs.Common.{◌≡◌, ◌<◌, ◌≤◌, ◌+◌, ◌-◌, min, ℕ, true, List, [], ◌∷◌, ◌++◌, length, map, take, drop, get_or, slice_index_or, slice_index, refl, sym, ap, ◌∙◌, subst, arith}
use Rattle.std.specs.List.{flat_map, range_with_len}
use Rattle.std.proofs.lemmas.List.{length-drop, length-take, length-map, get_or-take, get_or-drop, length-append}
use Rattle.std.proofs.lemmas.List.FromFn.{length-range_with_len}
use Rattle.log_entry.specs.Fields.{field}
use Rattle.log_entry.specs.declared.layouts.TheConstants.{RUNS_VIRT, RUNS_RUNS, RUNS_LEFTOVER, RUN_BLOCK, RUN_COUNT}
use Rattle.log_image.specs.Image.{words_in, is_in_data}
use Rattle.log_image.specs.Entries.{run_words, run_blocks, indirect_blocks, indirect_meaning}
use Rattle.log_image.specs.Format.{fits, is_indirect_block}
use Rattle.pmem_words.specs.declared.keeps.KeptWord.{KeptWord}
use Rattle.pmem_words.specs.Maps.{with_run}
use Rattle.pmem_words.specs.Seats.{Seat, image_blocks}
use Rattle.log_core.specs.Works.{seat_shape, with_entry}
use Rattle.chain_reader.proofs.FitsLemmas.{RunNumbers, Fitting, fitting, row_inside}
use Rattle.chain_reader.proofs.RunsLemmas.{all_in, first_runs, run_at, runs_fit, one_more, take_whole, RunAt}
use Rattle.log_blocks.specs.Taking.{kept_words}
use Rattle.log_blocks.proofs.EntryMaps.{longer_is, none_is}

abbrev pub no_word : KeptWord
no_word = record { block = 0; slot = 0; word = 0 }

at_map : (xs : List KeptWord) (k : ℕ) → slice_index (map (λ (kept : KeptWord). kept.word) xs) k ≡ (slice_index_or xs k no_word).word
at_map [] k = refl
at_map (x ∷ xs) Rattle.std.proofs.Common.zero = refl
at_map (x ∷ xs) (Rattle.std.proofs.Common.suc k) = at_map xs k

-- a word of the block is the kept word one place further
pub word_at_place : (s : Seat) (k : ℕ) → slice_index (kept_words s) k ≡ (slice_index_or s.walk.kept (1 + k) no_word).word
word_at_place s k = at_map (drop 1 s.walk.kept) k ∙ ap (λ (kept : KeptWord). kept.word) (get_or-drop 1 s.walk.kept k no_word)

pub length_words : (s : Seat) → length (kept_words s) ≡ length s.walk.kept - 1
length_words s = length-map (drop 1 s.walk.kept) (λ (kept : KeptWord). kept.word) ∙ length-drop 1 s.walk.kept

module _ (s : Seat) (block : ℕ) (whole : length (kept_words s) ≡ words_in (seat_shape s)) (runs : is_indirect_block (seat_shape s) (kept_words s) ≡ true)
    (fit : fits (seat_shape s) 256 (indirect_meaning block (kept_words s)) ≡ true) where
  abbrev content : List ℕ
  content = kept_words s

  abbrev kept_at_place : ℕ → ℕ
  kept_at_place k = (slice_index_or s.walk.kept k no_word).word

  abbrev count_of_runs : ℕ
  count_of_runs = field RUNS_RUNS (kept_at_place 1)

  first_word : slice_index content 0 ≡ kept_at_place 1
  first_word = word_at_place s 0

  few : count_of_runs < length content
  few = (let most = (runs_fit (seat_shape s) content runs).few in
      let is : field RUNS_RUNS (slice_index content 0) ≡ count_of_runs = ap (field RUNS_RUNS) first_word in omega (arith, most, is, whole))

  -- so there are their words
  pub inside : count_of_runs + 2 ≤ length s.walk.kept
  inside = (let less = few in let long = length_words s in omega (arith, less, long))

  pub long_runs : length (run_words content) ≡ count_of_runs
  long_runs = (let is : field RUNS_RUNS (slice_index content 0) ≡ count_of_runs = ap (field RUNS_RUNS) first_word in
      let less = few in
      let rest = length-drop 1 content in
      let most = length-take (field RUNS_RUNS (slice_index content 0)) (drop 1 content) in
      omega (arith, is, less, rest, most))

  run_word : (place : ℕ) → place < count_of_runs → get_or (run_words content) place 0 ≡ kept_at_place (2 + place)
  run_word place low =
      (let is : field RUNS_RUNS (slice_index content 0) ≡ count_of_runs = ap (field RUNS_RUNS) first_word in
      get_or-take (field RUNS_RUNS (slice_index content 0)) (drop 1 content) place 0 (omega (arith, is, low))
      ∙ (get_or-drop 1 content place 0 ∙ (word_at_place s (1 + place) ∙ ap kept_at_place (let same : 1 + (1 + place) ≡ 2 + place = omega arith in same))))

  -- where the runs before a place end
  abbrev pub past_at : ℕ → ℕ
  past_at place = field RUNS_VIRT (kept_at_place 1) + length (flat_map run_blocks (take place (run_words content)))

  -- a run may be mapped there
  pub record RunFits (past first count : ℕ) : Type 0 where
    pub numbers : RunNumbers past first count
    pub cut : count ≤ 256

  pub run_fits : (place past first count : ℕ) → place < count_of_runs → past ≡ past_at place → first ≡ field RUN_BLOCK (kept_at_place (2 + place)) → count ≡ field RUN_COUNT (kept_at_place (2 + place)) → RunFits past first count
  run_fits place past first count low same_past same_first same_count =
      (let is : RunAt block content place = run_at (seat_shape s) block content place (omega arith) runs fit (subst (λ (n : ℕ). place < n) (sym long_runs) low) in
      let blocks : List ℕ = flat_map run_blocks (take place (run_words content)) in
      let here : past ≡ field RUNS_VIRT (slice_index content 0) + length blocks = same_past ∙ ap (λ (w : ℕ). field RUNS_VIRT w + length blocks) (sym first_word) in
      let first_is : first ≡ field RUN_BLOCK (get_or (run_words content) place 0) = same_first ∙ ap (field RUN_BLOCK) (sym (run_word place low)) in
      let count_is : count ≡ field RUN_COUNT (get_or (run_words content) place 0) = same_count ∙ ap (field RUN_COUNT) (sym (run_word place low)) in
      subst (λ (n : ℕ). RunFits n first count) (sym here)
      (subst (λ (n : ℕ). RunFits (field RUNS_VIRT (slice_index content 0) + length blocks) n count) (sym first_is)
      (subst (λ (n : ℕ). RunFits (field RUNS_VIRT (slice_index content 0) + length blocks) (field RUN_BLOCK (get_or (run_words content) place 0)) n) (sym count_is)
      (record { numbers = is.numbers; cut = is.cut }))))

  -- and it is of the image
  pub run_inside : (place first count : ℕ) → place < count_of_runs → first ≡ field RUN_BLOCK (kept_at_place (2 + place)) → count ≡ field RUN_COUNT (kept_at_place (2 + place)) → first + count ≤ image_blocks s.geometry
  run_inside place first count low same_first same_count =
      (let is : Fitting (seat_shape s) 256 (indirect_meaning block content) = fitting (seat_shape s) 256 (indirect_meaning block content) fit in
      let within : place < length (run_words content) = subst (λ (n : ℕ). place < n) (sym long_runs) low in
      let run : ℕ = get_or (run_words content) place 0 in
      let first_is : first ≡ field RUN_BLOCK run = same_first ∙ ap (field RUN_BLOCK) (sym (run_word place low)) in
      let count_is : count ≡ field RUN_COUNT run = same_count ∙ ap (field RUN_COUNT) (sym (run_word place low)) in
      let numbers = run_fits place (past_at place) first count low refl same_first same_count in
      let some = numbers.numbers.some in
      let most = (row_inside (seat_shape s) (field RUN_BLOCK run) (field RUN_COUNT run) (all_in (is_in_data (seat_shape s)) run_blocks (run_words content) place is.in_data within) (omega (arith, some, count_is))).1 in
      omega (arith, most, first_is, count_is))

  -- and the runs are one more then
  pub longer : (place first count : ℕ) → place < count_of_runs → first ≡ field RUN_BLOCK (kept_at_place (2 + place)) → count ≡ field RUN_COUNT (kept_at_place (2 + place)) →
      flat_map run_blocks (take (place + 1) (run_words content)) ≡ flat_map run_blocks (take place (run_words content)) ++ range_with_len first count
  longer place first count low same_first same_count =
      one_more content place (subst (λ (n : ℕ). place < n) (sym long_runs) low)
      ∙ ap (λ (word : ℕ). flat_map run_blocks (take place (run_words content)) ++ range_with_len (field RUN_BLOCK word) (field RUN_COUNT word)) (run_word place low)
      ∙ ap (λ (n : ℕ). flat_map run_blocks (take place (run_words content)) ++ range_with_len n (field RUN_COUNT (kept_at_place (2 + place)))) (sym same_first)
      ∙ ap (λ (n : ℕ). flat_map run_blocks (take place (run_words content)) ++ range_with_len first n) (sym same_count)

  pub past_more : (place past first count : ℕ) → place < count_of_runs → past ≡ past_at place → first ≡ field RUN_BLOCK (kept_at_place (2 + place)) → count ≡ field RUN_COUNT (kept_at_place (2 + place)) →
      past + count ≡ past_at (place + 1)
  past_more place past first count low same_past same_first same_count =
      (let more = ap (λ (l : List ℕ). length l) (longer place first count low same_first same_count) in
      let both = length-append (flat_map run_blocks (take place (run_words content))) (range_with_len first count) in
      let long = length-range_with_len first count in
      omega (arith, more, both, long, same_past))

  pub map_more : (place past first count : ℕ) → place < count_of_runs → past ≡ past_at place → first ≡ field RUN_BLOCK (kept_at_place (2 + place)) → count ≡ field RUN_COUNT (kept_at_place (2 + place)) →
      with_run past first count (with_entry (first_runs block content place) s.walk.map) ≡ with_entry (first_runs block content (place + 1)) s.walk.map
  map_more place past first count low same_past same_first same_count =
      longer_is (block ∷ []) (field RUNS_VIRT (slice_index content 0)) (field RUNS_LEFTOVER (slice_index content 0)) past first count (flat_map run_blocks (take place (run_words content))) s.walk.map
      (same_past ∙ ap (λ (w : ℕ). field RUNS_VIRT w + length (flat_map run_blocks (take place (run_words content)))) (sym first_word))
      ∙ ap (λ (l : List ℕ). with_entry (record { holder = block ∷ []; virt = field RUNS_VIRT (slice_index content 0); blocks = l; leftover = field RUNS_LEFTOVER (slice_index content 0) }) s.walk.map)
      (sym (longer place first count low same_first same_count))

  -- at first none, and at last all
  pub map_none : s.walk.map ≡ with_entry (first_runs block content 0) s.walk.map
  map_none = sym (none_is (block ∷ []) (field RUNS_VIRT (slice_index content 0)) (field RUNS_LEFTOVER (slice_index content 0)) s.walk.map)

  pub all_runs : (place : ℕ) → count_of_runs ≤ place → take place (run_words content) ≡ run_words content
  all_runs place late = take_whole (run_words content) place (let long = long_runs in omega (arith, long, late))

  pub map_all : (place : ℕ) → count_of_runs ≤ place → with_entry (first_runs block content place) s.walk.map ≡ with_entry (indirect_meaning block content) s.walk.map
  map_all place late = ap (λ (l : List ℕ). with_entry (record { holder = block ∷ []; virt = field RUNS_VIRT (slice_index content 0); blocks = flat_map run_blocks l; leftover = field RUNS_LEFTOVER (slice_index content 0) }) s.walk.map)
      (all_runs place late)

  pub past_all : (place past : ℕ) → count_of_runs ≤ place → past ≡ past_at place → past ≡ field RUNS_VIRT (kept_at_place 1) + length (indirect_blocks content)
  past_all place past late same = same ∙ ap (λ (l : List ℕ). field RUNS_VIRT (kept_at_place 1) + length (flat_map run_blocks l)) (all_runs place late)

  pub virt_is : field RUNS_VIRT (slice_index content 0) ≡ field RUNS_VIRT (kept_at_place 1)
  virt_is = ap (field RUNS_VIRT) first_word

  pub leftover_is : field RUNS_LEFTOVER (slice_index content 0) ≡ field RUNS_LEFTOVER (kept_at_place 1)
  leftover_is = ap (field RUNS_LEFTOVER) first_word

  pub in_file : field RUNS_VIRT (kept_at_place 1) + length (indirect_blocks content) ≤ 65536
  in_file = (let is : Fitting (seat_shape s) 256 (indirect_meaning block content) = fitting (seat_shape s) 256 (indirect_meaning block content) fit in
      let most = is.in_file in let virt = virt_is in omega (arith, most, virt))
