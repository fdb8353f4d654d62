-- Blocks that are named, some after others.
use Rattle.std.proofs.Common.{◌≡◌, ◌<◌, ◌≤◌, ◌+◌, ◌-◌, ◌==◌, ◌&&◌, ◌||◌, nat_le, nat_lt, ℕ, zero, suc, Bool, true, false, List, [], ◌∷◌, ◌++◌, if◌then◌else◌, refl, sym, ap, ◌∙◌, subst, arith, append_assoc, append-nil, length, get_or, take, drop, Result, Ok, Err, Some, None}
use Rattle.std.specs.List.{flat_map, list_all, range_with_len}
use Rattle.std.proofs.lemmas.Bool.{eq-eqb, and_parts, and_from, ltb-true, leb-true, ne_eqb}
use Rattle.std.proofs.lemmas.List.{take-append-drop}
use Rattle.std.proofs.lemmas.List.Concat.{flat_map-append}
use Rattle.std.proofs.lemmas.List.Folds.{list_any-append, list_all-append}
use Rattle.log_entry.specs.Shape.{longest_of}
use Rattle.log_entry.specs.Fields.{field}
use Rattle.log_entry.specs.declared.layouts.TheConstants.{ENTRY_KIND, DIRECT, INDIRECT_BLOCK, RUNS_RUNS, RUN_BLOCK, RUN_COUNT}
use Rattle.log_image.specs.Entries.{names, run_words, run_blocks, indirect_blocks, direct_meaning, indirect_meaning, meaning}
use Rattle.log_image.specs.Format.{fits, is_run, is_direct, is_indirect, has_runs, is_indirect_block, is_log_entry}
use Rattle.log_image.specs.Image.{Shape, total, words_in, is_in_log, is_in_data, block_words}
use Rattle.log_image.specs.Taken.{bit_of, HasBits}
use Rattle.opening_rules.specs.Checks.{Check, check, first}
use Rattle.opening_rules.specs.SlotChecks.{is_named_in, share_checks}
use Rattle.opening_rules.specs.declared.refusals.BadImage.{BadImage}
use Rattle.opening_rules.specs.declared.refusals.BadImage.TheVariants.{BadShare}
use Rattle.recovery.specs.Names.{HasNamed, TakesNames}
use Rattle.chain_reader.proofs.FitsLemmas.{fitting, row_inside, not_direct, fits_more}
use Rattle.chain_reader.proofs.RunsLemmas.{RunsFit, runs_fit}
use Rattle.recovery.proofs.RulesLemmas.{runs_more, run_some, data_at}
use Rattle.opening_rules.proofs.Firsts.{skip, hit, pass_over, found_in}

-- a block of the data area is inside the image
pub data_below : (shape : Shape) (block : ℕ) → is_in_data shape block ≡ true → (1 ≤ block) × (block < total shape)
data_below shape block good =
    let parts = and_parts (nat_le 1 block) (nat_le block shape.data_blocks) good in
    (leb-true 1 block parts.0, omega (arith, leb-true block shape.data_blocks parts.1))

-- no block of the log or spare area is one of the data area
log_differs : (shape : Shape) (block other : ℕ) → is_in_data shape block ≡ true → is_in_log shape other ≡ true → (other == block) ≡ false
log_differs shape block other good far =
    let in_data = and_parts (nat_le 1 block) (nat_le block shape.data_blocks) good in
    let in_log = and_parts (nat_lt shape.data_blocks other) (nat_lt other (total shape)) far in
    ne_eqb other block (λ e. absurd (omega (arith, e, leb-true block shape.data_blocks in_data.1, ltb-true shape.data_blocks other in_log.0)))

not_in_log : (shape : Shape) (block : ℕ) (chain : List ℕ) → is_in_data shape block ≡ true → list_all (is_in_log shape) chain ≡ true → is_named_in block chain ≡ false
not_in_log shape block [] good all = refl
not_in_log shape block (other ∷ chain) good all =
    let parts = and_parts (is_in_log shape other) (list_all (is_in_log shape) chain) all in
    rw (log_differs shape block other good parts.0) (not_in_log shape block chain good parts.1)

-- whether a block of the data area was named, as its bit says it
pub bit_says : (shape : Shape) (taken chain named : List ℕ) (block : ℕ) → is_in_data shape block ≡ true → HasNamed shape taken chain named → (bit_of taken block == 1) ≡ is_named_in block named
bit_says shape taken chain named block good has =
    let inside = data_below shape block good in
    let nonzero : (block == 0) ≡ false = ne_eqb block 0 (λ e. absurd (omega (arith, e, inside.0))) in
    let among : is_named_in block (chain ++ named) ≡ is_named_in block named =
    list_any-append (λ (other : ℕ). other == block) chain named ∙ ap (λ (b : Bool). b || is_named_in block named) (not_in_log shape block chain good has.in_log) in
    ap (λ (n : ℕ). n == 1) (has.bits.bits block inside.1) ∙ rw (nonzero, among) (by (is_named_in block named))
  where
    by : (b : Bool) → ((if b then 1 else 0) == 1) ≡ b
    by true = refl
    by false = refl

-- a block was named before
pub one_shared : (named : List ℕ) (block : ℕ) → is_named_in block named ≡ true → first (share_checks named (block ∷ [])) ≡ Some (BadShare block)
one_shared named block shared = hit (is_named_in block named) (BadShare block) [] shared

-- or was not, and is named now
pub one_named : (shape : Shape) (old new chain named : List ℕ) (block : ℕ) → is_in_data shape block ≡ true → HasNamed shape old chain named → is_named_in block named ≡ false →
    HasBits shape new ((chain ++ named) ++ block ∷ []) → (first (share_checks named (block ∷ [])) ≡ None) × HasNamed shape new chain (named ++ block ∷ [])
one_named shape old new chain named block good has free more = (
  skip (is_named_in block named) (BadShare block) [] free,
  record {
    bits = subst (λ (blocks : List ℕ). HasBits shape new blocks) (append_assoc chain named (block ∷ [])) more;
    in_log = has.in_log;
    in_data = list_all-append (is_in_data shape) named (block ∷ []) ∙ and_from (list_all (is_in_data shape) named) (is_in_data shape block && true) has.in_data (rw good refl);
  },
)

-- the checks on some blocks and then on others
pub shares_of_both : (named front back : List ℕ) → share_checks named (front ++ back) ≡ share_checks named front ++ share_checks (named ++ front) back
shares_of_both named [] back = ap (λ (before : List ℕ). share_checks before back) (sym (append-nil named))
shares_of_both named (block ∷ front) back =
    ap (λ (checks : List Check). check (is_named_in block named) (BadShare block) ∷ checks)
    (shares_of_both (named ++ block ∷ []) front back ∙ ap (λ (before : List ℕ). share_checks (named ++ block ∷ []) front ++ share_checks before back) (append_assoc named (block ∷ []) front))

-- some blocks are named, and then others
pub both_taken : (result : Result Unit BadImage) (shape : Shape) (taken chain named front back : List ℕ) → first (share_checks named front) ≡ None →
    TakesNames result shape taken chain (named ++ front) back → TakesNames result shape taken chain named (front ++ back)
both_taken (Ok done) shape taken chain named front back clean takes = (
  ap first (shares_of_both named front back) ∙ pass_over (share_checks named front) (share_checks (named ++ front) back) clean ∙ takes.0,
  subst (λ (blocks : List ℕ). HasNamed shape taken chain blocks) (append_assoc named front back) takes.1,
)
both_taken (Err why) shape taken chain named front back clean takes =
    ap first (shares_of_both named front back) ∙ pass_over (share_checks named front) (share_checks (named ++ front) back) clean ∙ takes

-- the first of some blocks that was named before is the first of more
pub front_shared : (why : BadImage) (named front back : List ℕ) → first (share_checks named front) ≡ Some why → first (share_checks named (front ++ back)) ≡ Some why
front_shared why named front back found = ap first (shares_of_both named front back) ∙ found_in (share_checks named front) (share_checks (named ++ front) back) why found

-- blocks in a row, and more of them
pub row_of_both : (first front back : ℕ) → range_with_len first (front + back) ≡ range_with_len first front ++ range_with_len (first + front) back
row_of_both first zero back = let e : zero + back ≡ back = omega arith in let f : first + zero ≡ first = omega arith in rw (e, f) refl
row_of_both first (suc front) back =
    let e : suc front + back ≡ suc (front + back) = omega arith in
    let f : first + suc front ≡ (first + 1) + front = omega arith in
    rw (e, f) (ap (λ (blocks : List ℕ). first ∷ blocks) (row_of_both (first + 1) front back))

-- a fact of each of some blocks in a row
pub row_each : (p : ℕ → Bool) (first count place : ℕ) → list_all p (range_with_len first count) ≡ true → place < count → p (first + place) ≡ true
row_each p first zero place all inside = absurd (omega (arith, inside))
row_each p first (suc count) zero all inside =
    let e : first + zero ≡ first = omega arith in rw e (and_parts (p first) (list_all p (range_with_len (first + 1) count)) all).0
row_each p first (suc count) (suc place) all inside =
    let e : first + suc place ≡ (first + 1) + place = omega arith in
    rw e (row_each p (first + 1) count place (and_parts (p first) (list_all p (range_with_len (first + 1) count)) all).1 (omega (arith, inside)))

-- the blocks of a row before a place are taken
abbrev pub RowTaken : List ℕ → List ℕ → ℕ → ℕ → ℕ → Type 0
RowTaken old taken first count place = (shape : Shape) (chain named : List ℕ) → list_all (is_in_data shape) (range_with_len first count) ≡ true → HasNamed shape old chain named →
    TakesNames (Ok tt) shape taken chain named (range_with_len first place)

pub none_taken : (shape : Shape) (taken chain named : List ℕ) → HasNamed shape taken chain named → TakesNames (Ok tt) shape taken chain named []
none_taken shape taken chain named has = (refl, subst (λ (blocks : List ℕ). HasNamed shape taken chain blocks) (sym (append-nil named)) has)

-- one more block of a row
pub row_more : (result : Result Unit BadImage) (shape : Shape) (old taken new chain named : List ℕ) (first count place : ℕ) → RowTaken old taken first count place → place < count →
    list_all (is_in_data shape) (range_with_len first count) ≡ true → HasNamed shape old chain named →
    ((chain named : List ℕ) → is_in_data shape (first + place) ≡ true → HasNamed shape taken chain named → TakesNames result shape new chain named ((first + place) ∷ [])) →
    TakesNames result shape new chain named (range_with_len first (place + 1))
row_more result shape old taken new chain named first count place far inside good has takes =
    let before = far shape chain named good has in
    subst (λ (blocks : List ℕ). TakesNames result shape new chain named blocks) (sym (row_of_both first place 1))
    (both_taken result shape new chain named (range_with_len first place) ((first + place) ∷ []) before.0
    (takes chain (named ++ range_with_len first place) (row_each (is_in_data shape) first count place good inside) before.1))

-- a block of a row was named before
pub row_shared : (why : BadImage) (named : List ℕ) (from count place : ℕ) → place < count → first (share_checks named (range_with_len from (place + 1))) ≡ Some why →
    first (share_checks named (range_with_len from count)) ≡ Some why
row_shared why named from count place inside found =
    let e : count ≡ (place + 1) + (count - (place + 1)) = omega arith in
    let split : range_with_len from count ≡ range_with_len from (place + 1) ++ range_with_len (from + (place + 1)) (count - (place + 1)) =
    ap (λ (n : ℕ). range_with_len from n) e ∙ row_of_both from (place + 1) (count - (place + 1)) in
    ap (λ (blocks : List ℕ). first (share_checks named blocks)) split ∙ front_shared why named (range_with_len from (place + 1)) _ found

-- the blocks of the runs before a place are taken
abbrev pub RunsTaken : Shape → List ℕ → List ℕ → List ℕ → ℕ → Type 0
RunsTaken shape old taken runs place = (chain named : List ℕ) → HasNamed shape old chain named → TakesNames (Ok tt) shape taken chain named (flat_map run_blocks (take place runs))

-- the blocks of one run more
pub run_taken : (result : Result Unit BadImage) (shape : Shape) (old taken new chain named runs : List ℕ) (place : ℕ) → RunsTaken shape old taken runs place → place < length runs → HasNamed shape old chain named →
    ((chain named : List ℕ) → HasNamed shape taken chain named → TakesNames result shape new chain named (run_blocks (get_or runs place 0))) →
    TakesNames result shape new chain named (flat_map run_blocks (take (place + 1) runs))
run_taken result shape old taken new chain named runs place far inside has takes =
    let before = far chain named has in
    subst (λ (blocks : List ℕ). TakesNames result shape new chain named blocks) (sym (runs_more runs place inside))
    (both_taken result shape new chain named (flat_map run_blocks (take place runs)) (run_blocks (get_or runs place 0)) before.0
    (takes chain (named ++ flat_map run_blocks (take place runs)) before.1))

-- a block of a beginning of runs was named before
pub runs_shared : (why : BadImage) (named runs : List ℕ) (count : ℕ) → first (share_checks named (flat_map run_blocks (take count runs))) ≡ Some why → first (share_checks named (flat_map run_blocks runs)) ≡ Some why
runs_shared why named runs count found =
    ap (λ (l : List ℕ). first (share_checks named (flat_map run_blocks l))) (sym (take-append-drop count runs))
    ∙ ap (λ (blocks : List ℕ). first (share_checks named blocks)) (flat_map-append run_blocks (take count runs) (drop count runs))
    ∙ front_shared why named (flat_map run_blocks (take count runs)) (flat_map run_blocks (drop count runs)) found

-- a run whose blocks are of the data area
pub run_inside : (shape : Shape) (runs : List ℕ) (place : ℕ) → shape.data_blocks < 65535 → list_all is_run runs ≡ true → list_all (is_in_data shape) (flat_map run_blocks runs) ≡ true → place < length runs →
    field RUN_BLOCK (get_or runs place 0) + field RUN_COUNT (get_or runs place 0) ≤ 65536
run_inside shape runs place small are good inside =
    let row = row_inside shape (field RUN_BLOCK (get_or runs place 0)) (field RUN_COUNT (get_or runs place 0)) (data_at shape runs place good inside) (run_some runs place are inside) in
    omega (arith, row.1, small)

-- what the rule of a log entry says of the block with its runs
pub record HasHolder (words : List ℕ) (shape : Shape) (word : ℕ) : Type 0 where
  pub inside : is_in_data shape (field INDIRECT_BLOCK word) ≡ true
  pub few : field RUNS_RUNS (get_or (block_words words shape (field INDIRECT_BLOCK word)) 0 0) < words_in shape
  pub are : list_all is_run (run_words (block_words words shape (field INDIRECT_BLOCK word))) ≡ true
  pub in_data : list_all (is_in_data shape) (indirect_blocks (block_words words shape (field INDIRECT_BLOCK word))) ≡ true

pub has_holder : (words : List ℕ) (shape : Shape) (word : ℕ) → is_log_entry words shape word ≡ true → (field ENTRY_KIND word ≡ DIRECT → ⊥) → HasHolder words shape word
has_holder words shape word good other =
    let parts = not_direct words shape word good (ne_eqb (field ENTRY_KIND word) DIRECT other) in
    let block : List ℕ = block_words words shape (field INDIRECT_BLOCK word) in
    let runs = and_parts (is_in_data shape (field INDIRECT_BLOCK word)) (is_indirect_block shape block) parts.0 in
    let are : RunsFit shape block = runs_fit shape block runs.1 in
    record {
      inside = runs.0;
      few = are.few;
      are = are.are;
      in_data = (fitting shape 256 (indirect_meaning (field INDIRECT_BLOCK word) block) parts.1).in_data;
    }

-- a log entry of the direct kind fits
pub log_fits : (words : List ℕ) (shape : Shape) (word : ℕ) → is_log_entry words shape word ≡ true → field ENTRY_KIND word ≡ DIRECT → fits shape 256 (direct_meaning word) ≡ true
log_fits words shape word good kind =
    let few : longest_of shape.block_bytes ≤ 256 = omega arith in
    let fit = and_parts (is_direct word || (is_indirect word && has_runs words shape word)) (fits shape (longest_of shape.block_bytes) (meaning words shape word)) good in
    subst (λ (b : Bool). fits shape 256 (if b then direct_meaning word else indirect_meaning (field INDIRECT_BLOCK word) (block_words words shape (field INDIRECT_BLOCK word))) ≡ true) (eq-eqb (field ENTRY_KIND word) DIRECT kind)
    (fits_more shape (longest_of shape.block_bytes) 256 (meaning words shape word) few fit.1)

-- what a call says of one run, by the numbers that are read of it
pub run_row : (result : Result Unit BadImage) (shape : Shape) (taken new runs : List ℕ) (place from count : ℕ) → from ≡ field RUN_BLOCK (get_or runs place 0) → count ≡ field RUN_COUNT (get_or runs place 0) →
    list_all (is_in_data shape) (flat_map run_blocks runs) ≡ true → place < length runs →
    ((chain named : List ℕ) → list_all (is_in_data shape) (range_with_len from count) ≡ true → HasNamed shape taken chain named → TakesNames result shape new chain named (range_with_len from count)) →
    (chain named : List ℕ) → HasNamed shape taken chain named → TakesNames result shape new chain named (run_blocks (get_or runs place 0))
run_row result shape taken new runs place from count same_from same_count good inside takes chain named has =
    let row : range_with_len from count ≡ run_blocks (get_or runs place 0) = ap (λ (n : ℕ). range_with_len n count) same_from ∙ ap (λ (n : ℕ). range_with_len (field RUN_BLOCK (get_or runs place 0)) n) same_count in
    subst (λ (blocks : List ℕ). TakesNames result shape new chain named blocks) row
    (takes chain named (subst (λ (blocks : List ℕ). list_all (is_in_data shape) blocks ≡ true) (sym row) (data_at shape runs place good inside)) has)

-- the blocks that an indirect entry names
indirect_names : (words : List ℕ) (shape : Shape) (word holder : ℕ) → (field ENTRY_KIND word ≡ DIRECT → ⊥) → holder ≡ field INDIRECT_BLOCK word →
    (holder ∷ []) ++ indirect_blocks (block_words words shape holder) ≡ names (meaning words shape word)
indirect_names words shape word holder other same =
    ap (λ (n : ℕ). (n ∷ []) ++ indirect_blocks (block_words words shape n)) same
    ∙ ap (λ (b : Bool). names (if b then direct_meaning word else indirect_meaning (field INDIRECT_BLOCK word) (block_words words shape (field INDIRECT_BLOCK word)))) (sym (ne_eqb (field ENTRY_KIND word) DIRECT other))

-- the block with the runs was named before
pub indirect_shared : (why : BadImage) (words : List ℕ) (shape : Shape) (word holder : ℕ) (named : List ℕ) → (field ENTRY_KIND word ≡ DIRECT → ⊥) → holder ≡ field INDIRECT_BLOCK word →
    first (share_checks named (holder ∷ [])) ≡ Some why → first (share_checks named (names (meaning words shape word))) ≡ Some why
indirect_shared why words shape word holder named other same found =
    subst (λ (blocks : List ℕ). first (share_checks named blocks) ≡ Some why) (indirect_names words shape word holder other same)
    (front_shared why named (holder ∷ []) (indirect_blocks (block_words words shape holder)) found)

-- or is taken, and then the blocks of the runs
pub indirect_taken : (result : Result Unit BadImage) (words : List ℕ) (shape : Shape) (word holder : ℕ) (runs taken new chain named : List ℕ) → (field ENTRY_KIND word ≡ DIRECT → ⊥) → holder ≡ field INDIRECT_BLOCK word →
    runs ≡ run_words (block_words words shape holder) → TakesNames (Ok tt) shape taken chain named (holder ∷ []) →
    ((chain named : List ℕ) → HasNamed shape taken chain named → TakesNames result shape new chain named (flat_map run_blocks runs)) → TakesNames result shape new chain named (names (meaning words shape word))
indirect_taken result words shape word holder runs taken new chain named other same are before takes =
    subst (λ (blocks : List ℕ). TakesNames result shape new chain named blocks) (indirect_names words shape word holder other same)
    (both_taken result shape new chain named (holder ∷ []) (indirect_blocks (block_words words shape holder)) before.0
    (subst (λ (l : List ℕ). TakesNames result shape new chain (named ++ holder ∷ []) (flat_map run_blocks l)) are (takes chain (named ++ holder ∷ []) before.1)))

-- no block of the data area is one of the log or spare area
not_in_data : (shape : Shape) (block : ℕ) (named : List ℕ) → is_in_log shape block ≡ true → list_all (is_in_data shape) named ≡ true → is_named_in block named ≡ false
not_in_data shape block [] far all = refl
not_in_data shape block (other ∷ named) far all =
    let parts = and_parts (is_in_data shape other) (list_all (is_in_data shape) named) all in
    let differs : (other == block) ≡ false = ne_eqb other block (λ e. other_area shape other block e parts.0 far) in
    rw differs (not_in_data shape block named far parts.1)
  where
    other_area : (shape : Shape) (other block : ℕ) → other ≡ block → is_in_data shape other ≡ true → is_in_log shape block ≡ true → ⊥
    other_area shape other block e good far =
        let in_data = and_parts (nat_le 1 other) (nat_le other shape.data_blocks) good in
        let in_log = and_parts (nat_lt shape.data_blocks block) (nat_lt block (total shape)) far in
        omega (arith, e, leb-true other shape.data_blocks in_data.1, ltb-true shape.data_blocks block in_log.0)

-- whether a block of the log or spare area was passed, as its bit says it
pub log_bit_says : (shape : Shape) (taken passed named : List ℕ) (block : ℕ) → is_in_log shape block ≡ true → HasNamed shape taken passed named → (bit_of taken block == 1) ≡ is_named_in block passed
log_bit_says shape taken passed named block far has =
    let inside = and_parts (nat_lt shape.data_blocks block) (nat_lt block (total shape)) far in
    let nonzero : (block == 0) ≡ false = ne_eqb block 0 (λ e. absurd (omega (arith, e, ltb-true shape.data_blocks block inside.0))) in
    let among : is_named_in block (passed ++ named) ≡ is_named_in block passed =
    list_any-append (λ (other : ℕ). other == block) passed named ∙ ap (λ (b : Bool). is_named_in block passed || b) (not_in_data shape block named far has.in_data) ∙ alone (is_named_in block passed) in
    ap (λ (n : ℕ). n == 1) (has.bits.bits block (ltb-true block (total shape) inside.1)) ∙ rw (nonzero, among) (by (is_named_in block passed))
  where
    alone : (b : Bool) → (b || false) ≡ b
    alone true = refl
    alone false = refl

    by : (b : Bool) → ((if b then 1 else 0) == 1) ≡ b
    by true = refl
    by false = refl
