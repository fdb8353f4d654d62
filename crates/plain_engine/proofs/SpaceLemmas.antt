-- When a run of clear data blocks is found.
use Rattle.std.proofs.Common.{◌≡◌, ◌<◌, ◌≤◌, ◌+◌, ◌-◌, ◌*◌, ◌/◌, ◌%◌, ◌==◌, ◌&&◌, ◌⊎◌, inl, inr, ℕ, zero, suc, Bool, true, false, List, [], ◌∷◌, length, get_or, not, Some, None, if◌then◌else◌, refl, sym, ap, ◌∙◌, subst, arith}
use Rattle.std.specs.Prelude.{filter}
use Rattle.std.specs.List.{range_with_len}
use Rattle.std.proofs.lemmas.Bool.{cases_lt, eq-eqb, ne_eqb}
use Rattle.std.proofs.Math.Nat.{mul-add-div}
use Rattle.std.proofs.lemmas.Nat.{div-add-mod'}
use Rattle.log_entry.specs.Legal.{touched_blocks}
use Rattle.log_entry.specs.declared.shapes.Area.TheVariants.{Data, Log}
use Rattle.log_image.specs.Image.{Shape}
use Rattle.log_image.specs.Tails.{Tail, tail_of}
use Rattle.log_image.specs.Taken.{is_taken, HasTaken}
use Rattle.log_image.proofs.HoldingLemmas.{both_right}
use Rattle.plain_engine.specs.Clear.{IsFirstClear, IsLeastRun}
use Rattle.plain_engine.specs.Space.{clear_blocks, least_data, least_log, begins_run, lacks_data, is_link, lacks_log, lacking}
use Rattle.plain_engine.proofs.EngineLemmas.{clear_untaken, set_taken}

-- a range touches as many blocks as the range from its place in its first block on
pub touched_from_place : (block offset count : ℕ) → 0 < block → 0 < count → (offset % block + (count - 1)) / block + 1 ≡ touched_blocks block offset count
touched_from_place block offset count some few =
    let split : offset + count - 1 ≡ block * (offset / block) + (offset % block + (count - 1)) = omega (arith, div-add-mod' offset block) in
    let quotient : (offset + count - 1) / block ≡ offset / block + (offset % block + (count - 1)) / block = rw split (mul-add-div some (offset / block) (offset % block + (count - 1))) in
    omega (arith, quotient)

-- numbers of a range that pass a test
abbrev passing : (ℕ → Bool) → ℕ → ℕ → List ℕ
passing p first count = filter p (range_with_len first count)

-- where the first passes, they begin with it
first_passes : (p : ℕ → Bool) (first count : ℕ) → p first ≡ true → passing p first (suc count) ≡ first ∷ passing p (first + 1) count
first_passes p first count is = rw is refl

first_fails : (p : ℕ → Bool) (first count : ℕ) → p first ≡ false → passing p first (suc count) ≡ passing p (first + 1) count
first_fails p first count is = rw is refl

-- they begin after what fails
skip_failing : (p : ℕ → Bool) (first count start : ℕ) → first ≤ start → start ≤ first + count → ((b : ℕ) → first ≤ b → b < start → p b ≡ false) → passing p first count ≡ passing p start (first + count - start)
skip_failing p first zero start low high fails = (let same : start ≡ first = omega (arith, low, high) in let none : first + 0 - start ≡ 0 = omega (arith, low) in rw none refl)
skip_failing p first (suc count) start low high fails = go (cases_lt first start) (λ before. skip_failing p (first + 1) count start before (omega (arith, high)) (λ b above below. fails b (omega (arith, above)) below))
  where
    go : (first < start) ⊎ (start ≤ first) → (first + 1 ≤ start → passing p (first + 1) count ≡ passing p start (first + 1 + count - start)) → passing p first (suc count) ≡ passing p start (first + suc count - start)
    go (inl before) rest = first_fails p first count (fails first (omega arith) before) ∙ rest (omega (arith, before)) ∙ ap (λ (n : ℕ). passing p start n) (omega arith)
    go (inr past) rest =
        let same : start ≡ first = omega (arith, low, past) in
        let long : first + suc count - start ≡ suc count = omega (arith, same) in
        rw long (subst (λ (n : ℕ). passing p first (suc count) ≡ passing p n (suc count)) (sym same) refl)

-- numbers that all pass begin a run
run_begins : (p : ℕ → Bool) (first count many : ℕ) → many ≤ count → ((k : ℕ) → first ≤ k → k < first + many → p k ≡ true) → begins_run first many (passing p first count) ≡ true
run_begins p first count zero low passes = refl
run_begins p first zero (suc many) low passes = absurd (omega (arith, low))
run_begins p first (suc count) (suc many) low passes =
    ap (λ (l : List ℕ). begins_run first (suc many) l) (first_passes p first count (passes first (omega arith) (omega arith)))
    ∙ rw (eq-eqb first first refl) (run_begins p (first + 1) count many (omega (arith, low)) (λ k above below. passes k (omega (arith, above)) (omega (arith, below))))

-- and only they do
later_only : (p : ℕ → Bool) (first count wanted many : ℕ) → wanted < first → begins_run wanted (suc many) (passing p first count) ≡ false
later_only p first zero wanted many before = refl
later_only p first (suc count) wanted many before = go (p first) refl (later_only p (first + 1) count wanted many (omega (arith, before)))
  where
    go : (here : Bool) → p first ≡ here → begins_run wanted (suc many) (passing p (first + 1) count) ≡ false → begins_run wanted (suc many) (passing p first (suc count)) ≡ false
    go true is rest = ap (λ (l : List ℕ). begins_run wanted (suc many) l) (first_passes p first count is) ∙ rw (ne_eqb first wanted (λ e. omega (arith, e, before))) refl
    go false is rest = ap (λ (l : List ℕ). begins_run wanted (suc many) l) (first_fails p first count is) ∙ rest

pub run_passes : (p : ℕ → Bool) (first count many : ℕ) → begins_run first many (passing p first count) ≡ true → (many ≤ count) × ((k : ℕ) → first ≤ k → k < first + many → p k ≡ true)
run_passes p first count zero is = (omega arith, λ k above below. absurd (omega (arith, above, below)))
run_passes p first zero (suc many) is = absurd (let wrong : false ≡ true = is in cc)
run_passes p first (suc count) (suc many) is = go (p first) refl (λ later. run_passes p (first + 1) count many later)
  where
    go : (here : Bool) → p first ≡ here → (begins_run (first + 1) many (passing p (first + 1) count) ≡ true → (many ≤ count) × ((k : ℕ) → first + 1 ≤ k → k < first + 1 + many → p k ≡ true)) → (suc many ≤ suc count) × ((k : ℕ) → first ≤ k → k < first + suc many → p k ≡ true)
    go true passes rest =
        let begun : (first == first && begins_run (first + 1) many (passing p (first + 1) count)) ≡ true = sym (ap (λ (l : List ℕ). begins_run first (suc many) l) (first_passes p first count passes)) ∙ is in
        let tail : (many ≤ count) × ((k : ℕ) → first + 1 ≤ k → k < first + 1 + many → p k ≡ true) = rest (both_right (first == first) (begins_run (first + 1) many (passing p (first + 1) count)) begun) in
        (omega (arith, tail.0), λ k above below. each k above below (cases_lt first k) tail.1)
      where
        each : (k : ℕ) → first ≤ k → k < first + suc many → (first < k) ⊎ (k ≤ first) → ((k : ℕ) → first + 1 ≤ k → k < first + 1 + many → p k ≡ true) → p k ≡ true
        each k above below (inl later) all = all k (omega (arith, later)) (omega (arith, below))
        each k above below (inr same) all = (let one : first ≡ k = omega (arith, above, same) in subst (λ (n : ℕ). p n ≡ true) one passes)
    go false fails rest =
        let wrong : false ≡ true = sym (ap (λ (l : List ℕ). begins_run first (suc many) l) (first_fails p first count fails) ∙ later_only p (first + 1) count first many (omega arith)) ∙ is in
        absurd (cc)

-- all numbers of a range fail, or there is a first that passes
first_or_none : (p : ℕ → Bool) (first count : ℕ) → ((b : ℕ) → first ≤ b → b < first + count → p b ≡ false) ⊎ ((b : ℕ) × (first ≤ b) × (b < first + count) × (p b ≡ true) × ((k : ℕ) → first ≤ k → k < b → p k ≡ false))
first_or_none p first zero = inl (λ b above below. absurd (omega (arith, above, below)))
first_or_none p first (suc count) = go (p first) refl (first_or_none p (first + 1) count)
  where
    go : (here : Bool) → p first ≡ here → ((b : ℕ) → first + 1 ≤ b → b < first + 1 + count → p b ≡ false) ⊎ ((b : ℕ) × (first + 1 ≤ b) × (b < first + 1 + count) × (p b ≡ true) × ((k : ℕ) → first + 1 ≤ k → k < b → p k ≡ false)) →
        ((b : ℕ) → first ≤ b → b < first + suc count → p b ≡ false) ⊎ ((b : ℕ) × (first ≤ b) × (b < first + suc count) × (p b ≡ true) × ((k : ℕ) → first ≤ k → k < b → p k ≡ false))
    go true is rest = inr (first, omega arith, omega arith, is, λ k above below. absurd (omega (arith, above, below)))
    go false is (inl none) = inl (λ b above below. each b above below (cases_lt first b))
      where
        each : (b : ℕ) → first ≤ b → b < first + suc count → (first < b) ⊎ (b ≤ first) → p b ≡ false
        each b above below (inl later) = none b (omega (arith, later)) (omega (arith, below))
        each b above below (inr same) = (let one : first ≡ b = omega (arith, above, same) in subst (λ (n : ℕ). p n ≡ false) one is)
    go false is (inr found) = inr (found.0, omega (arith, found.1), omega (arith, found.2), found.3, λ k above below. each k above below (cases_lt first k))
      where
        each : (k : ℕ) → first ≤ k → k < found.0 → (first < k) ⊎ (k ≤ first) → p k ≡ false
        each k above below (inl later) = found.4 k (omega (arith, later)) below
        each k above below (inr same) = (let one : first ≡ k = omega (arith, above, same) in subst (λ (n : ℕ). p n ≡ false) one is)

-- the list of clear blocks from the first clear one on
from_first : (p : ℕ → Bool) (start count block : ℕ) → start ≤ block → block < start + count → p block ≡ true → ((k : ℕ) → start ≤ k → k < block → p k ≡ false) →
    (passing p start count ≡ passing p block (start + count - block)) × (get_or (passing p start count) 0 0 ≡ block)
from_first p start count block low high passes before =
    let skip : passing p start count ≡ passing p block (start + count - block) = skip_failing p start count block low (omega (arith, high)) before in
    let long : start + count - block ≡ suc (start + count - block - 1) = omega (arith, low, high) in
    (skip, ap (λ (l : List ℕ). get_or l 0 0) (skip ∙ ap (λ (n : ℕ). passing p block n) long ∙ first_passes p block (start + count - block - 1) passes))

-- what is known of the bits and of the cursor
pub record Cursor (words : List ℕ) (shape : Shape) (chain taken : List ℕ) (first_clear : ℕ) : Type 0 where
  pub has : HasTaken words shape chain taken
  pub low : (block : ℕ) → 1 ≤ block → block < first_clear → is_taken words shape chain block ≡ true

-- the blocks before a least run are taken
before_run : (words : List ℕ) (shape : Shape) (chain taken : List ℕ) (first_clear count block : ℕ) → Cursor words shape chain taken first_clear → IsFirstClear taken first_clear (1 + shape.data_blocks) block → (k : ℕ) → 1 ≤ k → k < block → is_taken words shape chain k ≡ true
before_run words shape chain taken first_clear count block is first k some below = go (cases_lt k first_clear)
  where
    go : (k < first_clear) ⊎ (first_clear ≤ k) → is_taken words shape chain k ≡ true
    go (inl low) = is.low k some low
    go (inr high) = set_taken words shape chain taken k is.has (omega (arith, below, first.inside)) (first.before k high below)

pub run_enough : (words : List ℕ) (shape : Shape) (chain taken : List ℕ) (first_clear count block : ℕ) → 1 ≤ block → Cursor words shape chain taken first_clear → IsLeastRun taken first_clear (1 + shape.data_blocks) count block → lacks_data words shape chain count ≡ false
run_enough words shape chain taken first_clear count block some is least =
    let clear_at : (k : ℕ) → block ≤ k → k < block + count → not (is_taken words shape chain k) ≡ true =
    λ k above below. ap (λ (b : Bool). not b) (clear_untaken words shape chain taken k is.has (omega (arith, below, least.room)) (least.run k above below)) in
    let first : not (is_taken words shape chain block) ≡ true = ap (λ (b : Bool). not b) (clear_untaken words shape chain taken block is.has (omega (arith, least.first.inside)) least.first.clear) in
    let both : (clear_blocks words shape chain 1 shape.data_blocks ≡ passing (λ (b : ℕ). not (is_taken words shape chain b)) block (1 + shape.data_blocks - block)) × (get_or (clear_blocks words shape chain 1 shape.data_blocks) 0 0 ≡ block) =
    from_first (λ (b : ℕ). not (is_taken words shape chain b)) 1 shape.data_blocks block some least.first.inside first
    (λ k low below. ap (λ (b : Bool). not b) (before_run words shape chain taken first_clear count block is least.first k low below)) in
    ap (λ (n : ℕ). not (begins_run n count (clear_blocks words shape chain 1 shape.data_blocks))) both.1
    ∙ ap (λ (l : List ℕ). not (begins_run block count l)) both.0
    ∙ ap (λ (b : Bool). not b) (run_begins (λ (b : ℕ). not (is_taken words shape chain b)) block (1 + shape.data_blocks - block) count (omega (arith, least.room)) clear_at)

-- the run begins at the least clear data block, and the first clear block of the log area is the least one
pub run_is_least : (words : List ℕ) (shape : Shape) (chain taken : List ℕ) (first_clear count block : ℕ) → 1 ≤ block → Cursor words shape chain taken first_clear → IsLeastRun taken first_clear (1 + shape.data_blocks) count block → least_data words shape chain ≡ block
run_is_least words shape chain taken first_clear count block some is least =
    (from_first (λ (b : ℕ). not (is_taken words shape chain b)) 1 shape.data_blocks block some least.first.inside
    (ap (λ (b : Bool). not b) (clear_untaken words shape chain taken block is.has (omega (arith, least.first.inside)) least.first.clear))
    (λ k low below. ap (λ (b : Bool). not b) (before_run words shape chain taken first_clear count block is least.first k low below))).1

pub next_is_least : (words : List ℕ) (shape : Shape) (chain taken : List ℕ) (next : ℕ) → HasTaken words shape chain taken → IsFirstClear taken (1 + shape.data_blocks) (1 + shape.data_blocks + shape.log_blocks) next → least_log words shape chain ≡ next
next_is_least words shape chain taken next has first =
    (from_first (λ (b : ℕ). not (is_taken words shape chain b)) (1 + shape.data_blocks) shape.log_blocks next first.after first.inside
    (ap (λ (b : Bool). not b) (clear_untaken words shape chain taken next has (omega (arith, first.inside)) first.clear))
    (λ k low below. ap (λ (b : Bool). not b) (set_taken words shape chain taken k has (omega (arith, below, first.inside)) (first.before k low below)))).1

pub no_run_lacks : (words : List ℕ) (shape : Shape) (chain taken : List ℕ) (first_clear count : ℕ) → 1 ≤ count → Cursor words shape chain taken first_clear → ((block : ℕ) → IsLeastRun taken first_clear (1 + shape.data_blocks) count block → ⊥) → lacks_data words shape chain count ≡ true
no_run_lacks words shape chain taken first_clear count some is none = go (begins_run (get_or (clear_blocks words shape chain 1 shape.data_blocks) 0 0) count (clear_blocks words shape chain 1 shape.data_blocks)) refl (first_or_none (λ (b : ℕ). not (is_taken words shape chain b)) 1 shape.data_blocks)
  where
    p : ℕ → Bool
    p b = not (is_taken words shape chain b)

    flip : (b : Bool) → not b ≡ false → b ≡ true
    flip true is = refl
    flip false is = cc

    flop : (b : Bool) → not b ≡ true → b ≡ false
    flop true is = cc
    flop false is = refl

    starts : (n : ℕ) → 1 ≤ n → begins_run 0 n [] ≡ false
    starts zero low = absurd (omega (arith, low))
    starts (suc n) low = refl

    go : (found : Bool) → begins_run (get_or (clear_blocks words shape chain 1 shape.data_blocks) 0 0) count (clear_blocks words shape chain 1 shape.data_blocks) ≡ found →
        ((b : ℕ) → 1 ≤ b → b < 1 + shape.data_blocks → not (is_taken words shape chain b) ≡ false) ⊎ ((b : ℕ) × (1 ≤ b) × (b < 1 + shape.data_blocks) × (not (is_taken words shape chain b) ≡ true) × ((k : ℕ) → 1 ≤ k → k < b → not (is_taken words shape chain k) ≡ false)) → lacks_data words shape chain count ≡ true
    go false begun where_first = ap (λ (b : Bool). not b) begun
    go true begun (inl all) =
        let nought : 1 + shape.data_blocks - (1 + shape.data_blocks) ≡ 0 = omega arith in
        let empty : clear_blocks words shape chain 1 shape.data_blocks ≡ [] = skip_failing (λ (b : ℕ). not (is_taken words shape chain b)) 1 shape.data_blocks (1 + shape.data_blocks) (omega arith) (omega arith) all ∙ ap (λ (n : ℕ). passing (λ (b : ℕ). not (is_taken words shape chain b)) (1 + shape.data_blocks) n) nought in
        let wrong : false ≡ true = sym (starts count some) ∙ sym (ap (λ (l : List ℕ). begins_run (get_or l 0 0) count l) empty) ∙ begun in
        absurd (cc)
    go true begun (inr first) =
        let both : (clear_blocks words shape chain 1 shape.data_blocks ≡ passing (λ (b : ℕ). not (is_taken words shape chain b)) first.0 (1 + shape.data_blocks - first.0)) × (get_or (clear_blocks words shape chain 1 shape.data_blocks) 0 0 ≡ first.0) =
        from_first (λ (b : ℕ). not (is_taken words shape chain b)) 1 shape.data_blocks first.0 first.1 first.2 first.3 first.4 in
        let there : begins_run first.0 count (passing (λ (b : ℕ). not (is_taken words shape chain b)) first.0 (1 + shape.data_blocks - first.0)) ≡ true =
        sym (ap (λ (l : List ℕ). begins_run first.0 count l) both.0) ∙ sym (ap (λ (n : ℕ). begins_run n count (clear_blocks words shape chain 1 shape.data_blocks)) both.1) ∙ begun in
        let run : (count ≤ 1 + shape.data_blocks - first.0) × ((k : ℕ) → first.0 ≤ k → k < first.0 + count → not (is_taken words shape chain k) ≡ true) = run_passes (λ (b : ℕ). not (is_taken words shape chain b)) first.0 (1 + shape.data_blocks - first.0) count there in
        absurd (none first.0 (record {
          first = record {
            after = low_enough first.0 first.1 first.3 (cases_lt first.0 first_clear);
            inside = first.2;
            clear = is.has.bits first.0 (omega (arith, first.2)) ∙ ap (λ (b : Bool). if b then 1 else 0) (flop (is_taken words shape chain first.0) first.3);
            before = λ k high below zero_bit. zero_not (is.has.bits k (omega (arith, below, first.2)) ∙ ap (λ (b : Bool). if b then 1 else 0) (taken_before k below (cases_lt 0 k))) zero_bit;
          };
          room = omega (arith, run.0, first.2);
          run = λ k above below. is.has.bits k (omega (arith, below, run.0, first.2)) ∙ ap (λ (b : Bool). if b then 1 else 0) (flop (is_taken words shape chain k) (run.1 k above below));
        }))
      where
        zero_not : {n : ℕ} → n ≡ 1 → n ≡ 0 → ⊥
        zero_not one zero_is = omega (arith, one, zero_is)

        taken_before : (k : ℕ) → k < first.0 → (0 < k) ⊎ (k ≤ 0) → is_taken words shape chain k ≡ true
        taken_before k below (inl low) = flip (is_taken words shape chain k) (first.4 k low below)
        taken_before k below (inr low) = (let nought : 0 ≡ k = omega (arith, low) in subst (λ (n : ℕ). is_taken words shape chain n ≡ true) nought refl)

        low_enough : (b : ℕ) → 1 ≤ b → not (is_taken words shape chain b) ≡ true → (b < first_clear) ⊎ (first_clear ≤ b) → first_clear ≤ b
        low_enough b low passes (inr fine) = fine
        low_enough b low passes (inl wrong) = absurd (differ (is_taken words shape chain b) (is.low b low wrong) (flop (is_taken words shape chain b) passes))
          where
            differ : (b : Bool) → b ≡ true → b ≡ false → ⊥
            differ b yes_b no_b = cc

-- what is lacking is the same where the chain names the same and has the same tail
filter_same : (p q : ℕ → Bool) (xs : List ℕ) → ((x : ℕ) → p x ≡ q x) → filter p xs ≡ filter q xs
filter_same p q [] same = refl
filter_same p q (x ∷ xs) same = rw (same x, filter_same p q xs same) refl

pub lacks_log_same : (words new : List ℕ) (shape : Shape) (chain : List ℕ) → ((block : ℕ) → is_taken new shape chain block ≡ is_taken words shape chain block) → tail_of new shape chain ≡ tail_of words shape chain → lacks_log new shape chain ≡ lacks_log words shape chain
lacks_log_same words new shape chain taken tail_there =
    ap (λ (h : Tail). is_link h && length (clear_blocks new shape chain (1 + shape.data_blocks) shape.log_blocks) == 0) tail_there
    ∙ ap (λ (l : List ℕ). is_link (tail_of words shape chain) && length l == 0) (filter_same (λ (b : ℕ). not (is_taken new shape chain b)) (λ (b : ℕ). not (is_taken words shape chain b)) (range_with_len (1 + shape.data_blocks) shape.log_blocks) (λ b. ap (λ (t : Bool). not t) (taken b)))

pub least_log_same : (words new : List ℕ) (shape : Shape) (chain : List ℕ) → ((block : ℕ) → is_taken new shape chain block ≡ is_taken words shape chain block) → least_log new shape chain ≡ least_log words shape chain
least_log_same words new shape chain taken =
    ap (λ (l : List ℕ). get_or l 0 0) (filter_same (λ (b : ℕ). not (is_taken new shape chain b)) (λ (b : ℕ). not (is_taken words shape chain b)) (range_with_len (1 + shape.data_blocks) shape.log_blocks) (λ b. ap (λ (t : Bool). not t) (taken b)))

-- the three answers
pub lacking_data : (words : List ℕ) (shape : Shape) (chain : List ℕ) (count : ℕ) → lacks_data words shape chain count ≡ true → Some Data ≡ lacking words shape chain count
lacking_data words shape chain count is = rw is refl

pub lacking_log : (words : List ℕ) (shape : Shape) (chain : List ℕ) (count : ℕ) → lacks_data words shape chain count ≡ false → lacks_log words shape chain ≡ true → Some Log ≡ lacking words shape chain count
lacking_log words shape chain count is also = rw (is, also) refl

pub lacking_none : (words : List ℕ) (shape : Shape) (chain : List ℕ) (count : ℕ) → lacks_data words shape chain count ≡ false → lacks_log words shape chain ≡ false → None ≡ lacking words shape chain count
lacking_none words shape chain count is also = rw (is, also) refl
