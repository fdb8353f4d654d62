-- What a chain says at each of its blocks, and what its first blocks say.
use Rattle.std.proofs.Common.{◌≡◌, ◌<◌, ◌≤◌, ◌+◌, ◌==◌, ◌||◌, not, nat_lt, max, ℕ, Bool, true, false, List, [], ◌∷◌, ◌++◌, length, map, append-nil, append_assoc, if◌then◌else◌, refl, sym, ap, ◌∙◌, subst, eqb, arith}
use Rattle.std.specs.List.{AllByRecursion, list_all, list_any, flat_map, IsDistinct}
use Rattle.std.proofs.lemmas.Bool.{eqb-true, ltb-true}
use Rattle.std.proofs.lemmas.Bool.Decides.{nat_tests}
use Rattle.std.proofs.lemmas.List.{length-append, map-append}
use Rattle.std.proofs.lemmas.List.Concat.{flat_map-append}
use Rattle.std.proofs.lemmas.List.Folds.{list_all-append}
use Rattle.std.proofs.lemmas.Map.Steps.{length-le_from_distinct_below}
use Rattle.log_entry.specs.declared.layouts.TheConstants.{LOG, SNAPSHOT}
use Rattle.log_image.specs.Image.{Shape, total, is_in_log, block_words}
use Rattle.log_image.specs.Entries.{Meaning, direct_meaning, meaning}
use Rattle.log_image.specs.Maps.{size_after}
use Rattle.log_image.specs.Blocks.{kind_of, is_snapshot, base_of, file_size, slots_of, entry_words, kept_words}
use Rattle.log_image.specs.Chains.{all_different, snapshots_of, logs_of, first_size, snapshot_base, snapshot_size, HaveOneBase, AreLogsFrom, IsChain}
use Rattle.log_image.specs.Positions.{snapshot_entries, log_entries, entries_of, position_of, size_at_end, block_entries}
use Rattle.log_image.specs.Format.{is_snapshot_block, is_log_block, HasFormat}
use Rattle.log_image.proofs.HoldingLemmas.{both_left, both_right}
use Rattle.chain_reader.specs.ChainBlocks.{is_sound, size_past}
use Rattle.chain_reader.proofs.MapLemmas.{size_after_append}

-- an element of a list of which something holds of each
each_mid : (P : ℕ → Type 0) (front back : List ℕ) (block : ℕ) → AllByRecursion P (front ++ block ∷ back) → P block
each_mid P [] back block all = all.0
each_mid P (first ∷ front) back block all = each_mid P front back block all.1

all_mid : (test : ℕ → Bool) (front back : List ℕ) (block : ℕ) → list_all test (front ++ block ∷ back) ≡ true → test block ≡ true
all_mid test front back block all =
    both_left (test block) (list_all test back) (both_right (list_all test front) (list_all test (block ∷ back)) (sym (list_all-append test front (block ∷ back)) ∙ all))

-- a log block ends the snapshot
pub logs_at_log : (words : List ℕ) (shape : Shape) (front back : List ℕ) (block : ℕ) → is_snapshot (block_words words shape block) ≡ false → logs_of words shape (front ++ block ∷ back) ≡ logs_of words shape front ++ block ∷ back
logs_at_log words shape [] back block log = rw log refl
logs_at_log words shape (first ∷ front) back block log = go (is_snapshot (block_words words shape first)) (logs_at_log words shape front back block log)
  where
    go : (snapshot : Bool) → logs_of words shape (front ++ block ∷ back) ≡ logs_of words shape front ++ block ∷ back →
        (if snapshot then logs_of words shape (front ++ block ∷ back) else first ∷ (front ++ block ∷ back)) ≡ (if snapshot then logs_of words shape front else first ∷ front) ++ block ∷ back
    go true rest = rest
    go false rest = refl

pub snapshots_at_log : (words : List ℕ) (shape : Shape) (front back : List ℕ) (block : ℕ) → is_snapshot (block_words words shape block) ≡ false → snapshots_of words shape (front ++ block ∷ back) ≡ snapshots_of words shape front
snapshots_at_log words shape [] back block log = rw log refl
snapshots_at_log words shape (first ∷ front) back block log = go (is_snapshot (block_words words shape first)) (snapshots_at_log words shape front back block log)
  where
    go : (snapshot : Bool) → snapshots_of words shape (front ++ block ∷ back) ≡ snapshots_of words shape front →
        (if snapshot then first ∷ snapshots_of words shape (front ++ block ∷ back) else []) ≡ (if snapshot then first ∷ snapshots_of words shape front else [])
    go true rest = ap (λ (l : List ℕ). first ∷ l) rest
    go false rest = refl

-- blocks before which no log block stands
pub snapshots_alone : (words : List ℕ) (shape : Shape) (front back : List ℕ) → logs_of words shape front ≡ [] → snapshots_of words shape (front ++ back) ≡ front ++ snapshots_of words shape back
snapshots_alone words shape [] back none = refl
snapshots_alone words shape (first ∷ front) back none = go (is_snapshot (block_words words shape first)) none (snapshots_alone words shape front back)
  where
    go : (snapshot : Bool) → (if snapshot then logs_of words shape front else first ∷ front) ≡ [] → (logs_of words shape front ≡ [] → snapshots_of words shape (front ++ back) ≡ front ++ snapshots_of words shape back) →
        (if snapshot then first ∷ snapshots_of words shape (front ++ back) else []) ≡ first ∷ (front ++ snapshots_of words shape back)
    go true none rest = ap (λ (l : List ℕ). first ∷ l) (rest none)
    go false none rest = cc

pub logs_alone : (words : List ℕ) (shape : Shape) (front back : List ℕ) → logs_of words shape front ≡ [] → logs_of words shape (front ++ back) ≡ logs_of words shape back
logs_alone words shape [] back none = refl
logs_alone words shape (first ∷ front) back none = go (is_snapshot (block_words words shape first)) none (logs_alone words shape front back)
  where
    go : (snapshot : Bool) → (if snapshot then logs_of words shape front else first ∷ front) ≡ [] → (logs_of words shape front ≡ [] → logs_of words shape (front ++ back) ≡ logs_of words shape back) →
        (if snapshot then logs_of words shape (front ++ back) else first ∷ (front ++ back)) ≡ logs_of words shape back
    go true none rest = rest none
    go false none rest = cc

-- after a log block there are log blocks alone
logs_on : (words : List ℕ) (shape : Shape) (front back : List ℕ) (log : ℕ) (logs : List ℕ) → logs_of words shape front ≡ log ∷ logs → logs_of words shape (front ++ back) ≡ (log ∷ logs) ++ back
logs_on words shape [] back log logs some = cc
logs_on words shape (first ∷ front) back log logs some = go (is_snapshot (block_words words shape first)) some (logs_on words shape front back log logs)
  where
    go : (snapshot : Bool) → (if snapshot then logs_of words shape front else first ∷ front) ≡ log ∷ logs → (logs_of words shape front ≡ log ∷ logs → logs_of words shape (front ++ back) ≡ (log ∷ logs) ++ back) →
        (if snapshot then logs_of words shape (front ++ back) else first ∷ (front ++ back)) ≡ (log ∷ logs) ++ back
    go true some rest = rest some
    go false some rest = ap (λ (l : List ℕ). l ++ back) some

-- a log block's kind is log
log_kind : (words : List ℕ) (shape : Shape) (base : ℕ) (front back : List ℕ) (block : ℕ) → AreLogsFrom words shape base (front ++ block ∷ back) → kind_of (block_words words shape block) ≡ LOG
log_kind words shape base [] back block are = are.0
log_kind words shape base (first ∷ front) back block are = log_kind words shape (base + length (entry_words (slots_of (block_words words shape first)))) front back block are.2

-- a log block's base, and the entries in it, give the position
log_base : (words : List ℕ) (shape : Shape) (base : ℕ) (front : List ℕ) (block : ℕ) → AreLogsFrom words shape base (front ++ block ∷ []) →
    base_of (block_words words shape block) ≡ base + length (flat_map (λ (b : ℕ). entry_words (slots_of (block_words words shape b))) front)
log_base words shape base [] block are = are.1 ∙ omega arith
log_base words shape base (first ∷ front) block are =
    log_base words shape (base + length (entry_words (slots_of (block_words words shape first)))) front block are.2
    ∙ further base (entry_words (slots_of (block_words words shape first))) (flat_map (λ (b : ℕ). entry_words (slots_of (block_words words shape b))) front)
  where
    further : (base : ℕ) (here rest : List ℕ) → base + length here + length rest ≡ base + length (here ++ rest)
    further base here rest = simp length-append (omega arith)

-- what is known of a chain that stands for a file
pub record Good (words : List ℕ) (shape : Shape) (chain : List ℕ) : Type 0 where
  pub is_chain : IsChain words shape chain
  pub format : HasFormat words shape chain

-- no log block stands before a snapshot block
pub none_before : (words : List ℕ) (shape : Shape) (chain front back : List ℕ) (block : ℕ) → Good words shape chain → chain ≡ front ++ block ∷ back → is_snapshot (block_words words shape block) ≡ true → logs_of words shape front ≡ []
none_before words shape chain front back block good parts snapshot = go (logs_of words shape front) refl
  where
    not_both : (kind : ℕ) → kind ≡ LOG → (kind == SNAPSHOT) ≡ true → ⊥
    not_both kind log is = omega (arith, log, eqb-true kind SNAPSHOT is)

    go : (logs : List ℕ) → logs_of words shape front ≡ logs → logs ≡ []
    go [] is = refl
    go (log ∷ logs) is = absurd (not_both (kind_of (block_words words shape block))
        (log_kind words shape (snapshot_base words shape chain) (log ∷ logs) back block
        (subst (λ (l : List ℕ). AreLogsFrom words shape (snapshot_base words shape chain) l) (ap (logs_of words shape) parts ∙ logs_on words shape front (block ∷ back) log logs is) good.is_chain.logs))
        snapshot)

-- each block has the words that its kind may have
pub sound_at : (words : List ℕ) (shape : Shape) (chain front back : List ℕ) (block : ℕ) → Good words shape chain → chain ≡ front ++ block ∷ back → is_sound words shape (block_words words shape block) ≡ true
sound_at words shape chain front back block good parts = go (is_snapshot (block_words words shape block)) refl
  where
    go : (snapshot : Bool) → is_snapshot (block_words words shape block) ≡ snapshot → (if snapshot then is_snapshot_block shape (block_words words shape block) else is_log_block words shape (block_words words shape block)) ≡ true
    go true is =
        let none : logs_of words shape front ≡ [] = none_before words shape chain front back block good parts is in
        let after : snapshots_of words shape (block ∷ back) ≡ block ∷ snapshots_of words shape back = rw is refl in
        all_mid (λ (b : ℕ). is_snapshot_block shape (block_words words shape b)) front (snapshots_of words shape back) block
        (subst (λ (l : List ℕ). list_all (λ (b : ℕ). is_snapshot_block shape (block_words words shape b)) l ≡ true)
        (ap (snapshots_of words shape) parts ∙ snapshots_alone words shape front (block ∷ back) none ∙ ap (λ (l : List ℕ). front ++ l) after) good.format.snapshots)
    go false is =
        all_mid (λ (b : ℕ). is_log_block words shape (block_words words shape b)) (logs_of words shape front) back block
        (subst (λ (l : List ℕ). list_all (λ (b : ℕ). is_log_block words shape (block_words words shape b)) l ≡ true)
        (ap (logs_of words shape) parts ∙ logs_at_log words shape front back block is) good.format.logs)

-- each block is in the image
pub inside_at : (words : List ℕ) (shape : Shape) (chain front back : List ℕ) (block : ℕ) → Good words shape chain → chain ≡ front ++ block ∷ back → nat_lt block (total shape) ≡ true
inside_at words shape chain front back block good parts =
    both_right (nat_lt shape.data_blocks block) (nat_lt block (total shape))
    (all_mid (is_in_log shape) front back block (subst (λ (l : List ℕ). list_all (is_in_log shape) l ≡ true) parts good.format.areas))

-- the blocks are no more than those of the image
flipped : (a b : ℕ) → (a == b) ≡ false → eqb b a ≡ false
flipped a b is = grind (arith, nat_tests)

other_than : (block other : ℕ) (rest : List ℕ) (same : Bool) → (other == block) ≡ same → not (same || list_any (λ (o : ℕ). o == block) rest) ≡ true →
    (not (list_any (λ (o : ℕ). o == block) rest) ≡ true → AllByRecursion (λ (o : ℕ). eqb block o ≡ false) rest) → AllByRecursion (λ (o : ℕ). eqb block o ≡ false) (other ∷ rest)
other_than block other rest true is none others = cc
other_than block other rest false is none others = (flipped other block is, others none)

none_same : (block : ℕ) (blocks : List ℕ) → not (list_any (λ (other : ℕ). other == block) blocks) ≡ true → AllByRecursion (λ (other : ℕ). eqb block other ≡ false) blocks
none_same block [] none = tt
none_same block (other ∷ rest) none = other_than block other rest (other == block) refl none (none_same block rest)

distinct : (blocks : List ℕ) → all_different blocks ≡ true → IsDistinct eqb blocks
unfolding IsDistinct
distinct [] different = tt
distinct (block ∷ blocks) different = (
  none_same block blocks (both_left (not (list_any (λ (other : ℕ). other == block) blocks)) (all_different blocks) different),
  distinct blocks (both_right (not (list_any (λ (other : ℕ). other == block) blocks)) (all_different blocks) different),
)

below_here : (shape : Shape) (block number : ℕ) (rest same : Bool) → eqb number block ≡ same → nat_lt block (total shape) ≡ true → (same || rest) ≡ true → (rest ≡ true → number < total shape) → number < total shape
below_here shape block number rest true is here any others = subst (λ (n : ℕ). n < total shape) (sym (eqb-true number block is)) (ltb-true block (total shape) here)
below_here shape block number rest false is here any others = others any

below_all : (shape : Shape) (blocks : List ℕ) → list_all (is_in_log shape) blocks ≡ true → (number : ℕ) → list_any (eqb number) blocks ≡ true → number < total shape
below_all shape [] inside number any = cc
below_all shape (block ∷ blocks) inside number any =
    below_here shape block number (list_any (eqb number) blocks) (eqb number block) refl
    (both_right (nat_lt shape.data_blocks block) (nat_lt block (total shape)) (both_left (is_in_log shape block) (list_all (is_in_log shape) blocks) inside)) any
    (below_all shape blocks (both_right (is_in_log shape block) (list_all (is_in_log shape) blocks) inside) number)

pub few_blocks : (words : List ℕ) (shape : Shape) (chain : List ℕ) → Good words shape chain → length chain ≤ total shape
few_blocks words shape chain good = length-le_from_distinct_below chain (total shape) (distinct chain good.is_chain.different) (below_all shape chain good.format.areas)

-- what the entries of a log block add
abbrev log_of : List ℕ → Shape → ℕ → List Meaning
log_of words shape block = map (meaning words shape) (entry_words (slots_of (block_words words shape block)))

log_entries_push : (words : List ℕ) (shape : Shape) (passed : List ℕ) (block : ℕ) → is_snapshot (block_words words shape block) ≡ false →
    log_entries words shape (passed ++ block ∷ []) ≡ log_entries words shape passed ++ log_of words shape block
log_entries_push words shape passed block log =
    ap (λ (l : List ℕ). map (meaning words shape) (flat_map (λ (b : ℕ). entry_words (slots_of (block_words words shape b))) l)) (logs_at_log words shape passed [] block log)
    ∙ ap (map (meaning words shape)) (flat_map-append (λ (b : ℕ). entry_words (slots_of (block_words words shape b))) (logs_of words shape passed) (block ∷ [])
    ∙ ap (λ (l : List ℕ). flat_map (λ (b : ℕ). entry_words (slots_of (block_words words shape b))) (logs_of words shape passed) ++ l) (append-nil (entry_words (slots_of (block_words words shape block)))))
    ∙ map-append (meaning words shape) (flat_map (λ (b : ℕ). entry_words (slots_of (block_words words shape b))) (logs_of words shape passed)) (entry_words (slots_of (block_words words shape block)))

-- the entries of a snapshot block
abbrev kept_of : List ℕ → Shape → ℕ → List Meaning
kept_of words shape block = map direct_meaning (kept_words (block_words words shape block))

snapshot_entries_push : (words : List ℕ) (shape : Shape) (passed : List ℕ) (block : ℕ) → is_snapshot (block_words words shape block) ≡ true → logs_of words shape passed ≡ [] →
    snapshot_entries words shape (passed ++ block ∷ []) ≡ snapshot_entries words shape passed ++ kept_of words shape block
snapshot_entries_push words shape passed block snapshot none =
    let after : snapshots_of words shape (block ∷ []) ≡ block ∷ [] = rw snapshot refl in
    let before : snapshots_of words shape passed ≡ passed =
    ap (snapshots_of words shape) (sym (append-nil passed)) ∙ snapshots_alone words shape passed [] none ∙ append-nil passed in
    ap (flat_map (kept_of words shape)) (snapshots_alone words shape passed (block ∷ []) none ∙ ap (λ (l : List ℕ). passed ++ l) after)
    ∙ flat_map-append (kept_of words shape) passed (block ∷ [])
    ∙ ap (λ (l : List Meaning). flat_map (kept_of words shape) passed ++ l) (append-nil (kept_of words shape block))
    ∙ ap (λ (l : List ℕ). flat_map (kept_of words shape) l ++ kept_of words shape block) (sym before)

-- one block more adds its entries
pub entries_push : (words : List ℕ) (shape : Shape) (chain passed back : List ℕ) (block : ℕ) → Good words shape chain → chain ≡ passed ++ block ∷ back →
    entries_of words shape (passed ++ block ∷ []) ≡ entries_of words shape passed ++ block_entries words shape (block_words words shape block)
entries_push words shape chain passed back block good parts = go (is_snapshot (block_words words shape block)) refl
  where
    go : (snapshot : Bool) → is_snapshot (block_words words shape block) ≡ snapshot →
        entries_of words shape (passed ++ block ∷ []) ≡ entries_of words shape passed ++ (if snapshot then kept_of words shape block else log_of words shape block)
    go true is =
        let none : logs_of words shape passed ≡ [] = none_before words shape chain passed back block good parts is in
        let no_log : logs_of words shape (passed ++ block ∷ []) ≡ [] = logs_alone words shape passed (block ∷ []) none ∙ (let one : logs_of words shape (block ∷ []) ≡ [] = rw is refl in one) in
        let says : List ℕ → List Meaning = λ (l : List ℕ). map (meaning words shape) (flat_map (λ (b : ℕ). entry_words (slots_of (block_words words shape b))) l) in
        ap (λ (l : List ℕ). snapshot_entries words shape (passed ++ block ∷ []) ++ says l) no_log
        ∙ append-nil (snapshot_entries words shape (passed ++ block ∷ []))
        ∙ snapshot_entries_push words shape passed block is none
        ∙ ap (λ (l : List Meaning). l ++ kept_of words shape block) (sym (append-nil (snapshot_entries words shape passed)) ∙ ap (λ (l : List ℕ). snapshot_entries words shape passed ++ says l) (sym none))
    go false is =
        ap (λ (l : List ℕ). flat_map (kept_of words shape) l ++ log_entries words shape (passed ++ block ∷ [])) (snapshots_at_log words shape passed [] block is)
        ∙ ap (λ (l : List Meaning). snapshot_entries words shape passed ++ l) (log_entries_push words shape passed block is)
        ∙ sym (append_assoc (snapshot_entries words shape passed) (log_entries words shape passed) (log_of words shape block))

-- the size that each snapshot block says
snapshot_says : (words : List ℕ) (shape : Shape) (chain front back : List ℕ) (block : ℕ) → Good words shape chain → chain ≡ front ++ block ∷ back → is_snapshot (block_words words shape block) ≡ true →
    file_size (block_words words shape block) ≡ snapshot_size words shape chain
snapshot_says words shape chain front back block good parts is =
    let none : logs_of words shape front ≡ [] = none_before words shape chain front back block good parts is in
    let after : snapshots_of words shape (block ∷ back) ≡ block ∷ snapshots_of words shape back = rw is refl in
    (each_mid (λ (b : ℕ). (base_of (block_words words shape b) ≡ snapshot_base words shape chain) × (file_size (block_words words shape b) ≡ snapshot_size words shape chain)) front (snapshots_of words shape back) block
    (subst (λ (l : List ℕ). HaveOneBase words shape (snapshot_base words shape chain) (snapshot_size words shape chain) l)
    (ap (snapshots_of words shape) parts ∙ snapshots_alone words shape front (block ∷ back) none ∙ ap (λ (l : List ℕ). front ++ l) after) good.is_chain.snapshots)).1

-- one block more is the size that a snapshot block says, or grows by the entries of a log block
pub size_push : (words : List ℕ) (shape : Shape) (chain passed back : List ℕ) (block : ℕ) → Good words shape chain → chain ≡ passed ++ block ∷ back →
    size_at_end words shape (passed ++ block ∷ []) ≡ size_past words shape (size_at_end words shape passed) (block_words words shape block)
size_push words shape chain passed back block good parts = go (is_snapshot (block_words words shape block)) refl
  where
    says : List ℕ → List Meaning
    says l = map (meaning words shape) (flat_map (λ (b : ℕ). entry_words (slots_of (block_words words shape b))) l)

    first_says : (passed : List ℕ) → chain ≡ passed ++ block ∷ back → is_snapshot (block_words words shape block) ≡ true → logs_of words shape passed ≡ [] →
        first_size words shape (passed ++ block ∷ []) ≡ max (first_size words shape passed) (file_size (block_words words shape block))
    first_says [] parts is none = omega arith
    first_says (first ∷ passed) parts is none =
        omega (arith, snapshot_says words shape chain (first ∷ passed) back block good parts is, snapshot_says words shape chain [] (passed ++ block ∷ back) first good parts (starts (is_snapshot (block_words words shape first)) none))
      where
        starts : (snapshot : Bool) → (if snapshot then logs_of words shape passed else first ∷ passed) ≡ [] → snapshot ≡ true
        starts true none = refl
        starts false none = cc

    go : (snapshot : Bool) → is_snapshot (block_words words shape block) ≡ snapshot →
        size_at_end words shape (passed ++ block ∷ []) ≡ (if snapshot then max (size_at_end words shape passed) (file_size (block_words words shape block)) else size_after shape (size_at_end words shape passed) (log_of words shape block))
    go true is =
        let none : logs_of words shape passed ≡ [] = none_before words shape chain passed back block good parts is in
        let one : logs_of words shape (block ∷ []) ≡ [] = rw is refl in
        let after : snapshots_of words shape (block ∷ []) ≡ block ∷ [] = rw is refl in
        let before : snapshots_of words shape passed ≡ passed = ap (snapshots_of words shape) (sym (append-nil passed)) ∙ snapshots_alone words shape passed [] none ∙ append-nil passed in
        let old : size_at_end words shape passed ≡ first_size words shape passed =
        ap (λ (l : List ℕ). size_after shape (snapshot_size words shape passed) (says l)) none ∙ ap (first_size words shape) before in
        ap (λ (l : List ℕ). size_after shape (snapshot_size words shape (passed ++ block ∷ [])) (says l)) (logs_alone words shape passed (block ∷ []) none ∙ one)
        ∙ ap (first_size words shape) (snapshots_alone words shape passed (block ∷ []) none ∙ ap (λ (l : List ℕ). passed ++ l) after)
        ∙ first_says passed parts is none
        ∙ ap (λ (n : ℕ). max n (file_size (block_words words shape block))) (sym old)
    go false is =
        ap (λ (l : List ℕ). size_after shape (first_size words shape l) (log_entries words shape (passed ++ block ∷ []))) (snapshots_at_log words shape passed [] block is)
        ∙ ap (size_after shape (snapshot_size words shape passed)) (log_entries_push words shape passed block is)
        ∙ size_after_append shape (snapshot_size words shape passed) (log_entries words shape passed) (log_of words shape block)

-- the position that a chain ends with, by its last block
pub ends_at : (words : List ℕ) (shape : Shape) (chain front : List ℕ) (block : ℕ) → Good words shape chain → chain ≡ front ++ block ∷ [] → is_snapshot (block_words words shape block) ≡ false →
    position_of words shape chain ≡ base_of (block_words words shape block) + length (entry_words (slots_of (block_words words shape block)))
ends_at words shape chain front block good parts is =
    let logs : logs_of words shape chain ≡ logs_of words shape front ++ block ∷ [] = ap (logs_of words shape) parts ∙ logs_at_log words shape front [] block is in
    let says : ℕ → List ℕ = λ (b : ℕ). entry_words (slots_of (block_words words shape b)) in
    let base : base_of (block_words words shape block) ≡ snapshot_base words shape chain + length (flat_map says (logs_of words shape front)) =
    log_base words shape (snapshot_base words shape chain) (logs_of words shape front) block (subst (λ (l : List ℕ). AreLogsFrom words shape (snapshot_base words shape chain) l) logs good.is_chain.logs) in
    let all : flat_map says (logs_of words shape chain) ≡ flat_map says (logs_of words shape front) ++ says block =
    ap (flat_map says) logs ∙ flat_map-append says (logs_of words shape front) (block ∷ []) ∙ ap (λ (l : List ℕ). flat_map says (logs_of words shape front) ++ l) (append-nil (says block)) in
    ap (λ (l : List ℕ). snapshot_base words shape chain + length l) all
    ∙ together (snapshot_base words shape chain) (base_of (block_words words shape block)) (flat_map says (logs_of words shape front)) (says block) base
  where
    together : (from base : ℕ) (before here : List ℕ) → base ≡ from + length before → from + length (before ++ here) ≡ base + length here
    together from base before here is = simp length-append (omega (arith, is))
