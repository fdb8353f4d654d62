-- Blocks as runs: each next block makes the last run longer, or begins one.
use Rattle.std.proofs.Common.{◌≡◌, ◌<◌, ◌≤◌, ◌+◌, ◌^◌, ◌==◌, ℕ, zero, suc, Bool, true, false, List, [], ◌∷◌, ◌++◌, length, length-append, refl, sym, ap, ◌∙◌, arith, append_assoc}
use Rattle.std.specs.List.{range_with_len, flat_map, AllByRecursion}
use Rattle.std.proofs.lemmas.Bool.{eqb-true}
use Rattle.std.proofs.lemmas.List.FromFn.{length-range_with_len}
use Rattle.log_entry.specs.declared.words.RunWord.{RunWord}
use Rattle.log_image.specs.Chains.{is_listed}
use Rattle.log_core.proofs.BlockLists.{in_range}
use Rattle.log_core.proofs.Each.{each_weaker}
use Rattle.log_core.proofs.clauses.Apart.{has_left, has_right}

abbrev pub blocks_of_run : RunWord → List ℕ
blocks_of_run run = range_with_len run.block run.count

-- the blocks of runs, in order
abbrev pub blocks_of : List RunWord → List ℕ
blocks_of runs = flat_map blocks_of_run runs

abbrev pub extended : Bool → RunWord → ℕ → List RunWord
extended true run block = record { block = run.block; count = run.count + 1 } ∷ []
extended false run block = run ∷ record { block = block; count = 1 } ∷ []

-- runs with one block more
abbrev pub pushed : List RunWord → ℕ → List RunWord
pushed [] block = record { block = block; count = 1 } ∷ []
pushed (run ∷ []) block = extended (run.block + run.count == block) run block
pushed (run ∷ next ∷ runs) block = run ∷ pushed (next ∷ runs) block

abbrev pub runs_from : List RunWord → List ℕ → List RunWord
runs_from runs [] = runs
runs_from runs (block ∷ blocks) = runs_from (pushed runs block) blocks

-- the runs of blocks, in order
abbrev pub runs_of : List ℕ → List RunWord
runs_of blocks = runs_from [] blocks

-- one number more
range_more : (first count : ℕ) → range_with_len first (count + 1) ≡ range_with_len first count ++ (first + count) ∷ []
range_more first zero = ap (λ (n : ℕ). n ∷ []) (let same : first ≡ first + 0 = omega arith in same)
range_more first (suc count) = ap (λ (n : ℕ). range_with_len first n) (let same : suc count + 1 ≡ suc (count + 1) = omega arith in same)
    ∙ ap (λ (l : List ℕ). first ∷ l) (range_more (first + 1) count ∙ ap (λ (n : ℕ). range_with_len (first + 1) count ++ n ∷ []) (let same : first + 1 + count ≡ first + suc count = omega arith in same))

pub blocks_pushed : (runs : List RunWord) (block : ℕ) → blocks_of (pushed runs block) ≡ blocks_of runs ++ block ∷ []
blocks_pushed [] block = refl
blocks_pushed (run ∷ []) block = go (run.block + run.count == block) refl
  where
    go : (next : Bool) → (run.block + run.count == block) ≡ next → blocks_of (extended next run block) ≡ (blocks_of_run run ++ []) ++ block ∷ []
    go true is = ap (λ (l : List ℕ). l ++ []) (range_more run.block run.count ∙ ap (λ (n : ℕ). blocks_of_run run ++ n ∷ []) (eqb-true (run.block + run.count) block is)) ∙ all
      where
        none : (l : List ℕ) → l ++ [] ≡ l
        none [] = refl
        none (x ∷ l) = ap (λ (k : List ℕ). x ∷ k) (none l)

        all : (blocks_of_run run ++ block ∷ []) ++ [] ≡ (blocks_of_run run ++ []) ++ block ∷ []
        all = none (blocks_of_run run ++ block ∷ []) ∙ ap (λ (l : List ℕ). l ++ block ∷ []) (sym (none (blocks_of_run run)))
    go false is = sym (append_assoc (blocks_of_run run) [] (block ∷ []))
blocks_pushed (run ∷ next ∷ runs) block = ap (λ (l : List ℕ). blocks_of_run run ++ l) (blocks_pushed (next ∷ runs) block) ∙ sym (append_assoc (blocks_of_run run) (blocks_of (next ∷ runs)) (block ∷ []))

blocks_from : (runs : List RunWord) (blocks : List ℕ) → blocks_of (runs_from runs blocks) ≡ blocks_of runs ++ blocks
blocks_from runs [] = none (blocks_of runs)
  where
    none : (l : List ℕ) → l ≡ l ++ []
    none [] = refl
    none (x ∷ l) = ap (λ (k : List ℕ). x ∷ k) (none l)
blocks_from runs (block ∷ blocks) = blocks_from (pushed runs block) blocks ∙ (ap (λ (l : List ℕ). l ++ blocks) (blocks_pushed runs block) ∙ append_assoc (blocks_of runs) (block ∷ []) blocks)

-- the runs of blocks have those blocks
pub blocks_back : (blocks : List ℕ) → blocks_of (runs_of blocks) ≡ blocks
blocks_back blocks = blocks_from [] blocks

-- with one block more they are these
pub runs_more : (blocks : List ℕ) (block : ℕ) → runs_of (blocks ++ block ∷ []) ≡ pushed (runs_of blocks) block
runs_more blocks block = from [] blocks
  where
    from : (runs : List RunWord) (blocks : List ℕ) → runs_from runs (blocks ++ block ∷ []) ≡ pushed (runs_from runs blocks) block
    from runs [] = refl
    from runs (first ∷ blocks) = from (pushed runs first) blocks

-- runs of at least one block each
abbrev pub AreRuns : List RunWord → Type 0
AreRuns runs = AllByRecursion (λ (run : RunWord). 1 ≤ run.count) runs

pub are_pushed : (runs : List RunWord) (block : ℕ) → AreRuns runs → AreRuns (pushed runs block)
are_pushed [] block all = (omega arith, tt)
are_pushed (run ∷ []) block all = go (run.block + run.count == block)
  where
    go : (next : Bool) → AreRuns (extended next run block)
    go true = (omega arith, tt)
    go false = (all.0, (omega arith, tt))
are_pushed (run ∷ next ∷ runs) block all = (all.0, are_pushed (next ∷ runs) block all.1)

pub are_runs : (blocks : List ℕ) → AreRuns (runs_of blocks)
are_runs blocks = from [] blocks tt
  where
    from : (runs : List RunWord) (blocks : List ℕ) → AreRuns runs → AreRuns (runs_from runs blocks)
    from runs [] all = all
    from runs (block ∷ blocks) all = from (pushed runs block) blocks (are_pushed runs block all)

-- a run of at least one block and at most so many, whose first has 16 bits
pub record IsSmallRun (most : ℕ) (run : RunWord) : Type 0 where
  pub block : run.block < 2 ^ 16
  pub some : 1 ≤ run.count
  pub few : run.count ≤ most

-- runs are no more than their blocks, and of no other numbers
pub length_blocks : (run : RunWord) (runs : List RunWord) → length (blocks_of (run ∷ runs)) ≡ run.count + length (blocks_of runs)
length_blocks run runs = length-append (blocks_of_run run) (blocks_of runs) ∙ ap (λ (n : ℕ). n + length (blocks_of runs)) (length-range_with_len run.block run.count)

pub few_runs : (runs : List RunWord) → AreRuns runs → length runs ≤ length (blocks_of runs)
few_runs [] all = omega arith
few_runs (run ∷ runs) all = (let rest = few_runs runs all.1 in let long = length_blocks run runs in let some = all.0 in omega (arith, rest, long, some))

pub some_runs : (runs : List RunWord) → 1 ≤ length (blocks_of runs) → 1 ≤ length runs
some_runs [] some = absurd (omega (arith, some))
some_runs (run ∷ runs) some = omega arith

pub small_runs : (runs : List RunWord) → AreRuns runs → ((block : ℕ) → is_listed (blocks_of runs) block ≡ true → block < 2 ^ 16) → AllByRecursion (IsSmallRun (length (blocks_of runs))) runs
small_runs [] all small = tt
small_runs (run ∷ runs) all small = (
  record {
    block = small run.block (has_left (blocks_of_run run) (blocks_of runs) run.block (in_range run.block run.count run.block (omega arith) (let some = all.0 in omega (arith, some))));
    some = all.0;
    few = (let long = length_blocks run runs in omega (arith, long));
  },
  each_weaker (IsSmallRun (length (blocks_of runs))) (IsSmallRun (length (blocks_of (run ∷ runs)))) runs
      (λ other is. record { block = is.block; some = is.some; few = (let low = is.few in let long = length_blocks run runs in omega (arith, low, long)) })
      (small_runs runs all.1 (λ block listed. small block (has_right (blocks_of_run run) (blocks_of runs) block listed))),
)
