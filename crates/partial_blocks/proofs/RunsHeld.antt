-- The words of the runs of blocks, set one block after another, are those of an indirect block.
use Rattle.std.proofs.Common.{◌≡◌, ◌≢◌, ◌⊎◌, inl, inr, ℕ, zero, suc, ◌+◌, ◌-◌, ◌<◌, ◌≤◌, ◌==◌, Bool, true, false, List, [], ◌∷◌, ◌++◌, length, map, slice_index, slice_set, if◌then◌else◌, refl, sym, ap, ◌∙◌, arith, length-append, append_assoc}
use Rattle.std.proofs.lemmas.Bool.{cases_eq}
use Rattle.std.proofs.lemmas.List.{get_or-set_same, get_or-set_other, length-set, length-map, map-append, get_or_past}
use Rattle.std.proofs.Math.Seq.{get_or-append_seam}
use Rattle.log_entry.specs.Words.{run_word, indirect_word}
use Rattle.log_entry.specs.declared.words.RunWord.{RunWord}
use Rattle.log_image.proofs.HoldingLemmas.{zeros_after}
use Rattle.pmem_words.specs.Seats.{Seat}
use Rattle.log_core.specs.Works.{owned_block}
use Rattle.log_core.proofs.writes.RunLists.{blocks_of, extended, pushed, runs_of, runs_more, blocks_back}
use Rattle.log_core.proofs.writes.IndirectBlocks.{indirect_content}
use Rattle.partial_blocks.specs.Runs.{longer_if, is_next, run_at, runs_at, firsts}

-- the last of some words, and the others
last_word : (words : List ℕ) (word i : ℕ) → i ≡ length words → slice_index (words ++ word ∷ []) i ≡ word
last_word words word i is = ap (λ (k : ℕ). slice_index (words ++ word ∷ []) k) is ∙ get_or-append_seam words word [] 0

other_word : (words : List ℕ) (word i : ℕ) → i ≢ length words → slice_index (words ++ word ∷ []) i ≡ slice_index words i
other_word [] word zero other = absurd (other refl)
other_word [] word (suc i) other = refl
other_word (w ∷ words) word zero other = refl
other_word (w ∷ words) word (suc i) other = other_word words word i (λ same. other (ap suc same))

-- one block more after a last run
pushed_last : (front : List RunWord) (run : RunWord) (block : ℕ) → pushed (front ++ run ∷ []) block ≡ front ++ extended (run.block + run.count == block) run block
pushed_last [] run block = refl
pushed_last (first ∷ []) run block = refl
pushed_last (first ∷ next ∷ front) run block = ap (λ (runs : List RunWord). first ∷ runs) (pushed_last (next ∷ front) run block)

module _ (s : Seat) where
  -- there are at least one and at most as many as blocks, and the last one is no longer
  pub runs_range : (place : ℕ) → (1 ≤ runs_at place s) × (runs_at place s ≤ place + 1)
  runs_range zero = (omega arith, omega arith)
  runs_range (suc place) = by (is_next (run_at place s) (owned_block s (suc place))) (runs_range place)
    where
      by : (b : Bool) → (1 ≤ runs_at place s) × (runs_at place s ≤ place + 1) → (1 ≤ (if b then runs_at place s else runs_at place s + 1)) × ((if b then runs_at place s else runs_at place s + 1) ≤ suc place + 1)
      by true range = (range.0, (let few = range.1 in omega (arith, few)))
      by false range = (omega arith, (let few = range.1 in omega (arith, few)))

  pub run_range : (limit place : ℕ) → ((k : ℕ) → k ≤ place → owned_block s k < limit) → ((run_at place s).block < limit) × ((run_at place s).count ≤ place + 1)
  run_range limit zero low = (low 0 (omega arith), omega arith)
  run_range limit (suc place) low = by (is_next (run_at place s) (owned_block s (suc place))) (run_range limit place (λ k before. low k (omega (arith, before))))
    where
      by : (b : Bool) → ((run_at place s).block < limit) × ((run_at place s).count ≤ place + 1) →
          ((longer_if b (run_at place s) (owned_block s (suc place))).block < limit) × ((longer_if b (run_at place s) (owned_block s (suc place))).count ≤ suc place + 1)
      by true range = (range.0, (let short = range.1 in omega (arith, short)))
      by false range = (low (suc place) (omega arith), omega arith)

  -- the first blocks, up to a place
  pub firsts_long : (place : ℕ) → length (firsts s place) ≡ place + 1
  firsts_long zero = refl
  firsts_long (suc place) = length-append (firsts s place) (owned_block s (suc place) ∷ []) ∙ (let long = firsts_long place in omega (arith, long))

  pub firsts_at : (place k : ℕ) → k ≤ place → slice_index (firsts s place) k ≡ owned_block s k
  firsts_at zero k low = (let none : k ≡ 0 = omega (arith, low) in ap (λ (j : ℕ). slice_index (firsts s zero) j) none ∙ ap (λ (j : ℕ). owned_block s j) (sym none))
  firsts_at (suc place) k low = by (cases_eq k (suc place)) (λ before. firsts_at place k before)
    where
      by : (k ≡ suc place) ⊎ (k ≢ suc place) → (k ≤ place → slice_index (firsts s place) k ≡ owned_block s k) → slice_index (firsts s (suc place)) k ≡ owned_block s k
      by (inl here) rest = last_word (firsts s place) (owned_block s (suc place)) k (let long = firsts_long place in omega (arith, here, long)) ∙ ap (λ (j : ℕ). owned_block s j) (sym here)
      by (inr other) rest = other_word (firsts s place) (owned_block s (suc place)) k (let long = firsts_long place in λ same. other (omega (arith, same, long))) ∙ rest (omega (arith, low, other))

  -- their runs: the last one, and those before it
  pub record AreSplit (place : ℕ) (front : List RunWord) : Type 0 where
    pub runs : runs_of (firsts s place) ≡ front ++ run_at place s ∷ []
    pub many : runs_at place s ≡ length front + 1

  module _ (place : ℕ) (front : List RunWord) (split : AreSplit place front) where
    abbrev run : RunWord
    run = run_at place s

    abbrev block : ℕ
    block = owned_block s (suc place)

    pushed_so : (b : Bool) → is_next run block ≡ b → runs_of (firsts s (suc place)) ≡ front ++ extended b run block
    pushed_so b is = runs_more (firsts s place) block ∙ (ap (λ (runs : List RunWord). pushed runs block) split.runs ∙ (pushed_last front run block ∙ ap (λ (next : Bool). front ++ extended next run block) is))

    runs_so : (b : Bool) → is_next run block ≡ b → runs_at (suc place) s ≡ (if b then runs_at place s else runs_at place s + 1)
    runs_so b is = ap (λ (next : Bool). if next then runs_at place s else runs_at place s + 1) is

    run_so : (b : Bool) → is_next run block ≡ b → run_at (suc place) s ≡ longer_if b run block
    run_so b is = ap (λ (next : Bool). longer_if next run block) is

    -- the next block makes the last run longer, or begins one
    split_longer : is_next run block ≡ true → AreSplit (suc place) front
    split_longer is = record {
      runs = pushed_so true is ∙ ap (λ (r : RunWord). front ++ r ∷ []) (sym (run_so true is));
      many = runs_so true is ∙ split.many;
    }

    split_another : is_next run block ≡ false → AreSplit (suc place) (front ++ run ∷ [])
    split_another is = record {
      runs = pushed_so false is ∙ (sym (append_assoc front (run ∷ []) (record { block = block; count = 1 } ∷ [])) ∙ ap (λ (r : RunWord). (front ++ run ∷ []) ++ r ∷ []) (sym (run_so false is)));
      many = runs_so false is ∙ (let many = split.many in let long = length-append front (run ∷ []) in omega (arith, many, long));
    }

  -- and their words, from the word behind a place on
  module _ (words : List ℕ) (from : ℕ) where
    abbrev pub runs_words : ℕ → List ℕ
    runs_words zero = slice_set words (from + 1) (run_word (run_at 0 s))
    runs_words (suc place) = slice_set (runs_words place) (from + runs_at (suc place) s) (run_word (run_at (suc place) s))

    pub runs_words_long : (place : ℕ) → length (runs_words place) ≡ length words
    runs_words_long zero = length-set words (from + 1) (run_word (run_at 0 s))
    runs_words_long (suc place) = length-set (runs_words place) (from + runs_at (suc place) s) (run_word (run_at (suc place) s)) ∙ runs_words_long place

    -- the words before them are as they were
    pub runs_words_before : (place k : ℕ) → k ≤ from → slice_index (runs_words place) k ≡ slice_index words k
    runs_words_before zero k low = get_or-set_other words (from + 1) k (run_word (run_at 0 s)) 0 (λ same. omega (arith, same, low))
    runs_words_before (suc place) k low =
        get_or-set_other (runs_words place) (from + runs_at (suc place) s) k (run_word (run_at (suc place) s)) 0 (λ same. (let some = (runs_range (suc place)).0 in omega (arith, same, low, some)))
        ∙ runs_words_before place k low

    module _ (q : ℕ) (fits : from + q ≤ length words) where
      -- those of all runs are set, where there was none
      abbrev AreSet : ℕ → List RunWord → Type 0
      AreSet place front = (i : ℕ) → 1 + i < q → slice_index (runs_words place) (from + 1 + i) ≡ slice_index (map run_word front ++ run_word (run_at place s) ∷ []) i

      pub record AreHeld (place : ℕ) : Type 0 where
        pub front : List RunWord
        pub split : AreSplit place front
        pub set : AreSet place front

      set_more : (place : ℕ) (front : List RunWord) → runs_at (suc place) s ≡ length front + 1 →
          ((i : ℕ) → i ≢ length (map run_word front) → 1 + i < q → slice_index (runs_words place) (from + 1 + i) ≡ slice_index (map run_word front) i) → AreSet (suc place) front
      set_more place front many rest i inside = by (cases_eq i (length (map run_word front)))
        where
          same : from + runs_at (suc place) s ≡ from + 1 + length (map run_word front)
          same = (let long = length-map front run_word in omega (arith, many, long))

          by : (i ≡ length (map run_word front)) ⊎ (i ≢ length (map run_word front)) → slice_index (runs_words (suc place)) (from + 1 + i) ≡ slice_index (map run_word front ++ run_word (run_at (suc place) s) ∷ []) i
          by (inl last) = ap (λ (k : ℕ). slice_index (runs_words (suc place)) k) (let is = same in let at : from + 1 + i ≡ from + runs_at (suc place) s = omega (arith, is, last) in at)
              ∙ (get_or-set_same (runs_words place) (from + runs_at (suc place) s) (run_word (run_at (suc place) s)) 0 (let is = same in let long = runs_words_long place in omega (arith, is, last, long, inside, fits))
              ∙ sym (last_word (map run_word front) (run_word (run_at (suc place) s)) i last))
          by (inr other) = get_or-set_other (runs_words place) (from + runs_at (suc place) s) (from + 1 + i) (run_word (run_at (suc place) s)) 0 (λ at. other (let is = same in omega (arith, at, is)))
              ∙ (rest i other inside ∙ sym (other_word (map run_word front) (run_word (run_at (suc place) s)) i other))

      module _ (none : (k : ℕ) → from < k → k < from + q → slice_index words k ≡ 0) where
        first_held : AreHeld 0
        first_held = record { front = []; split = record { runs = refl; many = refl }; set = λ i inside. by i inside (cases_eq i 0) }
          where
            word : ℕ
            word = run_word (run_at 0 s)

            by : (i : ℕ) → 1 + i < q → (i ≡ 0) ⊎ (i ≢ 0) → slice_index (slice_set words (from + 1) (run_word (run_at 0 s))) (from + 1 + i) ≡ slice_index ([] ++ run_word (run_at 0 s) ∷ []) i
            by i inside (inl is) = ap (λ (k : ℕ). slice_index (slice_set words (from + 1) word) k) (let at : from + 1 + i ≡ from + 1 = omega (arith, is) in at)
                ∙ (get_or-set_same words (from + 1) word 0 (omega (arith, inside, is, fits)) ∙ sym (last_word [] word i is))
            by i inside (inr other) = get_or-set_other words (from + 1) (from + 1 + i) word 0 (λ at. other (omega (arith, at)))
                ∙ (none (from + 1 + i) (omega arith) (omega (arith, inside)) ∙ sym (other_word [] word i other ∙ get_or_past [] i 0 (omega arith)))

        held_by : (place : ℕ) (b : Bool) → is_next (run_at place s) (owned_block s (suc place)) ≡ b → AreHeld place → AreHeld (suc place)
        held_by place true is held = record {
          front = held.front;
          split = split_longer place held.front held.split is;
          set = set_more place held.front (split_longer place held.front held.split is).many
              (λ i other inside. held.set i inside ∙ other_word (map run_word held.front) (run_word (run_at place s)) i other);
        }
        held_by place false is held = record {
          front = held.front ++ run_at place s ∷ [];
          split = split_another place held.front held.split is;
          set = set_more place (held.front ++ run_at place s ∷ []) (split_another place held.front held.split is).many
              (λ i other inside. held.set i inside ∙ ap (λ (l : List ℕ). slice_index l i) (sym (map-append run_word held.front (run_at place s ∷ []))));
        }

        pub are_held : (place : ℕ) → AreHeld place
        are_held zero = first_held
        are_held (suc place) = held_by place (is_next (run_at place s) (owned_block s (suc place))) refl (are_held place)

      -- with the first word these are the words of an indirect block
      module _ (place count virt leftover : ℕ) (held : AreHeld place) (all : count ≡ place + 1) where
        abbrev pub runs : List RunWord
        runs = runs_of (firsts s place)

        abbrev first : ℕ
        first = indirect_word (record { virt = virt; count = count; runs = runs_at place s; leftover = leftover })

        run_words : map run_word runs ≡ map run_word held.front ++ run_word (run_at place s) ∷ []
        run_words = ap (λ (l : List RunWord). map run_word l) held.split.runs ∙ map-append run_word held.front (run_at place s ∷ [])

        first_is : first ≡ indirect_word (record { virt = virt; count = length (blocks_of runs); runs = length runs; leftover = leftover })
        first_is = ap (λ (n : ℕ). indirect_word (record { virt = virt; count = n; runs = runs_at place s; leftover = leftover })) (all ∙ (sym (firsts_long place) ∙ ap (λ (l : List ℕ). length l) (sym (blocks_back (firsts s place)))))
            ∙ ap (λ (n : ℕ). indirect_word (record { virt = virt; count = length (blocks_of runs); runs = n; leftover = leftover }))
            (held.split.many ∙ sym (ap (λ (l : List RunWord). length l) held.split.runs ∙ length-append held.front (run_at place s ∷ [])))

        pub indirect_words : (index : ℕ) → index < q → slice_index (slice_set (runs_words place) (from + 0) first) (from + index) ≡ slice_index (indirect_content q virt leftover runs) index
        indirect_words zero low = get_or-set_same (runs_words place) (from + 0) first 0 (let long = runs_words_long place in omega (arith, long, low, fits)) ∙ first_is
        indirect_words (suc i) low =
            get_or-set_other (runs_words place) (from + 0) (from + suc i) first 0 (λ same. omega (arith, same))
            ∙ (ap (λ (k : ℕ). slice_index (runs_words place) k) (let at : from + suc i ≡ from + 1 + i = omega arith in at)
            ∙ (held.set i (omega (arith, low))
            ∙ (ap (λ (l : List ℕ). slice_index l i) (sym run_words) ∙ sym (zeros_after (map run_word runs) (q - (1 + length runs)) i))))
