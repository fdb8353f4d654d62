-- Blocks of runs, as those that an entry names.
use Rattle.std.proofs.Common.{◌≡◌, ◌+◌, ◌-◌, ◌==◌, ◌&&◌, ◌||◌, nat_le, nat_lt, ℕ, zero, suc, Bool, true, false, List, [], ◌∷◌, map, take, drop, slice_index, refl, sym, ◌∙◌, ap, arith}
use Rattle.std.specs.List.{flat_map, range_with_len, slice_range}
use Rattle.std.proofs.lemmas.Bool.{eqb-true, eqb-false, eq-eqb, ne_eqb, leb-true, leb-false, ltb-true, ltb-false}
use Rattle.std.proofs.lemmas.List.Folds.{list_any-append}
use Rattle.log_entry.specs.Fields.{field}
use Rattle.log_entry.specs.declared.layouts.TheConstants.{DIRECT_BLOCK, DIRECT_COUNT, RUNS_RUNS, RUN_BLOCK, RUN_COUNT}
use Rattle.log_image.specs.Entries.{names, direct_meaning, indirect_meaning, run_words, run_blocks}
use Rattle.log_image.specs.Chains.{is_listed}
use Rattle.pmem_words.specs.declared.keeps.KeptWord.{KeptWord}
use Rattle.pmem_words.specs.Runs.{is_in_run, is_in_runs}

-- a run of one block
pub one_run : (block other : ℕ) → is_in_run block 1 other ≡ (other == block)
one_run block other = by (nat_le block other) (nat_lt (other - block) 1) refl refl
  where
    by : (low few : Bool) → nat_le block other ≡ low → nat_lt (other - block) 1 ≡ few → (low && few) ≡ (other == block)
    by true true e d = (let low = leb-true block other e in let few = ltb-true (other - block) 1 d in sym (eq-eqb other block (omega (arith, low, few))))
    by true false e d = (let low = leb-true block other e in let many = ltb-false (other - block) 1 d in sym (ne_eqb other block (λ same. omega (arith, same, many))))
    by false few e d = (let above = leb-false block other e in sym (ne_eqb other block (λ same. omega (arith, same, above))))

pub one_block : (block : ℕ) → is_in_runs block 1 [] ≡ (λ (other : ℕ). other == block)
one_block block = λ i other. one_run block other i

-- the numbers of a range are those of a run
run_more : (first count other : ℕ) → is_in_run first (suc count) other ≡ ((first == other) || is_in_run (first + 1) count other)
run_more first count other = by (nat_le first other) (nat_lt (other - first) (suc count)) (first == other) (nat_le (first + 1) other) (nat_lt (other - (first + 1)) count) refl refl refl refl refl
  where
    by : (low few same above less : Bool) → nat_le first other ≡ low → nat_lt (other - first) (suc count) ≡ few → (first == other) ≡ same → nat_le (first + 1) other ≡ above → nat_lt (other - (first + 1)) count ≡ less →
        (low && few) ≡ (same || (above && less))
    by true true true above less a b c d e = refl
    by true true false true true a b c d e = refl
    by true true false true false a b c d e = (let k = ltb-true (other - first) (suc count) b in let l = ltb-false (other - (first + 1)) count e in let m = leb-true (first + 1) other d in absurd (omega (arith, k, l, m)))
    by true true false false less a b c d e = (let k = leb-true first other a in let l = eqb-false first other c in let m = leb-false (first + 1) other d in absurd (omega (arith, k, l, m)))
    by true false true above less a b c d e = (let k = ltb-false (other - first) (suc count) b in let l = eqb-true first other c in absurd (omega (arith, k, l)))
    by true false false true true a b c d e = (let k = ltb-false (other - first) (suc count) b in let l = ltb-true (other - (first + 1)) count e in let m = leb-true (first + 1) other d in absurd (omega (arith, k, l, m)))
    by true false false true false a b c d e = refl
    by true false false false less a b c d e = refl
    by false few true above less a b c d e = (let k = leb-false first other a in let l = eqb-true first other c in absurd (omega (arith, k, l)))
    by false few false true less a b c d e = (let k = leb-false first other a in let l = leb-true (first + 1) other d in absurd (omega (arith, k, l)))
    by false few false false less a b c d e = refl

none_of : (first other : ℕ) → is_in_run first 0 other ≡ false
none_of first other = by (nat_le first other) (nat_lt (other - first) 0) refl
  where
    by : (low few : Bool) → nat_lt (other - first) 0 ≡ few → (low && few) ≡ false
    by low true e = (let few = ltb-true (other - first) 0 e in absurd (omega (arith, few)))
    by true false e = refl
    by false false e = refl

pub range_run : (first count other : ℕ) → is_in_run first count other ≡ is_listed (range_with_len first count) other
range_run first zero other = none_of first other
range_run first (suc count) other = run_more first count other ∙ ap (λ (b : Bool). (first == other) || b) (range_run (first + 1) count other)

pub direct_blocks : (entry : ℕ) → is_in_runs (field DIRECT_BLOCK entry) (field DIRECT_COUNT entry + 1) [] ≡ (λ (other : ℕ). is_listed (names (direct_meaning entry)) other)
direct_blocks entry = λ i other. range_run (field DIRECT_BLOCK entry) (field DIRECT_COUNT entry + 1) other i

-- the blocks of kept runs, and one more
or_other : (a b : Bool) → (a || b) ≡ (b || a)
or_other true true = refl
or_other true false = refl
or_other false true = refl
or_other false false = refl

or_assoc : (a b c : Bool) → (a || (b || c)) ≡ ((a || b) || c)
or_assoc true b c = refl
or_assoc false b c = refl

runs_listed : (first count : ℕ) (runs : List KeptWord) (other : ℕ) →
    is_in_runs first count runs other ≡ (is_listed (flat_map run_blocks (map (λ (kept : KeptWord). kept.word) runs)) other || is_in_run first count other)
runs_listed first count [] other = refl
runs_listed first count (run ∷ runs) other =
    ap (λ (b : Bool). is_in_run (field RUN_BLOCK run.word) (field RUN_COUNT run.word) other || b) (runs_listed first count runs other)
    ∙ (or_assoc (is_in_run (field RUN_BLOCK run.word) (field RUN_COUNT run.word) other) (is_listed (flat_map run_blocks (map (λ (kept : KeptWord). kept.word) runs)) other) (is_in_run first count other)
    ∙ ap (λ (b : Bool). b || is_in_run first count other)
    (ap (λ (b : Bool). b || is_listed (flat_map run_blocks (map (λ (kept : KeptWord). kept.word) runs)) other) (range_run (field RUN_BLOCK run.word) (field RUN_COUNT run.word) other)
    ∙ sym (list_any-append (λ (block : ℕ). block == other) (run_blocks run.word) (flat_map run_blocks (map (λ (kept : KeptWord). kept.word) runs)))))

eq_other : (a b : ℕ) → (a == b) ≡ (b == a)
eq_other a b = by (a == b) refl
  where
    by : (e : Bool) → (a == b) ≡ e → (a == b) ≡ (b == a)
    by true e = e ∙ sym (eq-eqb b a (sym (eqb-true a b e)))
    by false e = e ∙ sym (ne_eqb b a (λ same. eqb-false a b e (sym same)))

pub indirect_blocks_by : (block : ℕ) (content : List ℕ) (runs : List KeptWord) → map (λ (kept : KeptWord). kept.word) runs ≡ run_words content →
    is_in_runs block 1 runs ≡ (λ (other : ℕ). is_listed (names (indirect_meaning block content)) other)
indirect_blocks_by block content runs same = λ i other. each other i
  where
    each : (other : ℕ) → is_in_runs block 1 runs other ≡ ((block == other) || is_listed (flat_map run_blocks (run_words content)) other)
    each other = runs_listed block 1 runs other
        ∙ (ap (λ (words : List ℕ). is_listed (flat_map run_blocks words) other || is_in_run block 1 other) same
        ∙ (ap (λ (b : Bool). is_listed (flat_map run_blocks (run_words content)) other || b) (one_run block other ∙ eq_other other block)
        ∙ or_other (is_listed (flat_map run_blocks (run_words content)) other) (block == other)))

-- the run words are kept behind the entry's word and the block's first
map_take : (n : ℕ) (kept : List KeptWord) → map (λ (k : KeptWord). k.word) (take n kept) ≡ take n (map (λ (k : KeptWord). k.word) kept)
map_take zero kept = refl
map_take (suc n) [] = refl
map_take (suc n) (k ∷ kept) = ap (λ (l : List ℕ). k.word ∷ l) (map_take n kept)

map_drop : (kept : List KeptWord) → map (λ (k : KeptWord). k.word) (drop 2 kept) ≡ drop 1 (map (λ (k : KeptWord). k.word) (drop 1 kept))
map_drop [] = refl
map_drop (first ∷ []) = refl
map_drop (first ∷ k ∷ kept) = refl

pub kept_runs : (kept : List KeptWord) (n : ℕ) → n ≡ field RUNS_RUNS (slice_index (map (λ (k : KeptWord). k.word) (drop 1 kept)) 0) →
    map (λ (k : KeptWord). k.word) (slice_range kept 2 (2 + n)) ≡ run_words (map (λ (k : KeptWord). k.word) (drop 1 kept))
kept_runs kept n is = ap (λ (m : ℕ). map (λ (k : KeptWord). k.word) (take m (drop 2 kept))) (let same : 2 + n - 2 ≡ n = omega arith in same) ∙ map_take n (drop 2 kept) ∙ (ap (λ (l : List ℕ). take n l) (map_drop kept) ∙ ap (λ (m : ℕ). take m (drop 1 (map (λ (k : KeptWord). k.word) (drop 1 kept)))) is)
