-- The slots of a snapshot block, read one after the other.
use Rattle.std.proofs.Common.{◌≡◌, ◌+◌, ◌-◌, ◌==◌, not, nat_lt, ℕ, zero, suc, Bool, true, false, List, [], ◌∷◌, ◌++◌, map, take, drop, refl, sym, ap, ◌∙◌, subst, arith, append_assoc, append-nil, add-one, add_assoc, Result, Ok, Err, Some, None}
use Rattle.std.proofs.lemmas.Bool.{ltb-true, ltb-false}
use Rattle.block_table.specs.FileMap.{FileMap}
use Rattle.log_image.specs.Image.{Shape}
use Rattle.log_image.specs.Entries.{Meaning, direct_meaning, names, all_names}
use Rattle.log_image.specs.Format.{is_snapshot_entry}
use Rattle.opening_rules.specs.Checks.{check, first}
use Rattle.opening_rules.specs.SlotChecks.{share_checks, snapshot_slot_checks}
use Rattle.opening_rules.specs.declared.refusals.BadImage.{BadImage}
use Rattle.opening_rules.specs.declared.refusals.BadImage.TheVariants.{BadEntry}
use Rattle.opening_rules.proofs.Firsts.{skip, pass_over, found_in}
use Rattle.recovery.specs.Slots.{HasEntries, ReadsEntries, entries_if, one_slot_checks}

-- what is left of a block's entries where so many are left
abbrev pub entries_of_first : ℕ → List ℕ → List Meaning
entries_of_first count slots = map direct_meaning (take count slots)

-- the slots before a place are read
pub record SnapshotTo (shape : Shape) (block : ℕ) (chain : List ℕ) (size : ℕ) (entries : List Meaning) (count : ℕ) (slots : List ℕ) (table : FileMap) (taken : List ℕ) (place : ℕ) : Type 0 where
  pub now : List Meaning
  pub has : HasEntries shape table taken chain size now
  pub takes : entries ++ entries_of_first count slots ≡ now ++ entries_of_first (count - place) (drop place slots)
  pub checks : first (snapshot_slot_checks shape block entries count 3 slots) ≡ first (snapshot_slot_checks shape block now (count - place) (3 + place) (drop place slots))

pub snapshot_begun : (shape : Shape) (block : ℕ) (chain : List ℕ) (size : ℕ) (entries : List Meaning) (count : ℕ) (slots : List ℕ) (table : FileMap) (taken : List ℕ) → HasEntries shape table taken chain size entries →
    SnapshotTo shape block chain size entries count slots table taken 0
snapshot_begun shape block chain size entries count slots table taken has = record {
  now = entries;
  has = has;
  takes = ap (λ (n : ℕ). entries ++ entries_of_first n slots) less;
  checks = ap (λ (n : ℕ). first (snapshot_slot_checks shape block entries n 3 slots)) less;
}
  where
    less : count ≡ count - 0
    less = omega arith

-- the conditions on the next slot and on the others
step : (shape : Shape) (block : ℕ) (now : List Meaning) (left further slot word : ℕ) (rest : List ℕ) (used : Bool) → (used ≡ true → left ≡ suc further) → (used ≡ false → (left ≡ 0) × (further ≡ 0)) →
    snapshot_slot_checks shape block now left slot (word ∷ rest) ≡ one_slot_checks shape block now used slot word ++ snapshot_slot_checks shape block (now ++ entries_if used word) further (slot + 1) rest
step shape block now left further slot word rest true some none = ap (λ (n : ℕ). snapshot_slot_checks shape block now n slot (word ∷ rest)) (some refl)
step shape block now left further slot word rest false some none =
    ap (λ (n : ℕ). snapshot_slot_checks shape block now n slot (word ∷ rest)) (none refl).0
    ∙ ap (λ (l : List Meaning). check (not (word == 0)) (BadEntry block slot word) ∷ snapshot_slot_checks shape block l 0 (slot + 1) rest) (sym (append-nil now))
    ∙ ap (λ (n : ℕ). check (not (word == 0)) (BadEntry block slot word) ∷ snapshot_slot_checks shape block (now ++ []) n (slot + 1) rest) (sym (none refl).1)

entries_step : (left further word : ℕ) (rest : List ℕ) (used : Bool) → (used ≡ true → left ≡ suc further) → (used ≡ false → (left ≡ 0) × (further ≡ 0)) → entries_of_first left (word ∷ rest) ≡ entries_if used word ++ entries_of_first further rest
entries_step left further word rest true some none = ap (λ (n : ℕ). entries_of_first n (word ∷ rest)) (some refl)
entries_step left further word rest false some none = ap (λ (n : ℕ). entries_of_first n (word ∷ rest)) (none refl).0 ∙ ap (λ (n : ℕ). entries_of_first n rest) (sym (none refl).1)

none_of : (count : ℕ) → entries_of_first count [] ≡ []
none_of zero = refl
none_of (suc count) = refl

no_checks : (shape : Shape) (block : ℕ) (now : List Meaning) (left slot : ℕ) → first (snapshot_slot_checks shape block now left slot []) ≡ None
no_checks shape block now zero slot = refl
no_checks shape block now (suc left) slot = refl

module _ (shape : Shape) (block : ℕ) (chain : List ℕ) (size : ℕ) (entries : List Meaning) (count : ℕ) (slots : List ℕ) (table : FileMap) (taken : List ℕ) (place : ℕ)
    (far : SnapshotTo shape block chain size entries count slots table taken place) where
  some_left : nat_lt place count ≡ true → count - place ≡ suc (count - (place + 1))
  some_left is = omega (arith, ltb-true place count is)

  none_left : nat_lt place count ≡ false → (count - place ≡ 0) × (count - (place + 1) ≡ 0)
  none_left is = (omega (arith, ltb-false place count is), omega (arith, ltb-false place count is))

  split : (word : ℕ) → drop place slots ≡ word ∷ drop (suc place) slots →
      first (snapshot_slot_checks shape block entries count 3 slots)
      ≡ first (one_slot_checks shape block far.now (nat_lt place count) (3 + place) word ++ snapshot_slot_checks shape block (far.now ++ entries_if (nat_lt place count) word) (count - (place + 1)) (3 + (place + 1)) (drop (place + 1) slots))
  split word front =
      far.checks
      ∙ ap (λ (l : List ℕ). first (snapshot_slot_checks shape block far.now (count - place) (3 + place) l)) (front ∙ ap (λ (n : ℕ). word ∷ drop n slots) (sym (add-one place)))
      ∙ ap first (step shape block far.now (count - place) (count - (place + 1)) (3 + place) word (drop (place + 1) slots) (nat_lt place count) some_left none_left)
      ∙ ap (λ (n : ℕ). first (one_slot_checks shape block far.now (nat_lt place count) (3 + place) word ++ snapshot_slot_checks shape block (far.now ++ entries_if (nat_lt place count) word) (count - (place + 1)) n (drop (place + 1) slots))) (add_assoc 3 place 1)

  -- one more slot
  pub snapshot_more : (next : FileMap) (bits : List ℕ) (word : ℕ) → drop place slots ≡ word ∷ drop (suc place) slots →
      ReadsEntries (Ok tt) shape next bits chain (one_slot_checks shape block far.now (nat_lt place count) (3 + place) word) size (far.now ++ entries_if (nat_lt place count) word) →
      SnapshotTo shape block chain size entries count slots next bits (place + 1)
  snapshot_more next bits word front reads = record {
    now = far.now ++ entries_if (nat_lt place count) word;
    has = reads.1;
    takes = far.takes
        ∙ ap (λ (l : List ℕ). far.now ++ entries_of_first (count - place) l) (front ∙ ap (λ (n : ℕ). word ∷ drop n slots) (sym (add-one place)))
        ∙ ap (λ (l : List Meaning). far.now ++ l) (entries_step (count - place) (count - (place + 1)) word (drop (place + 1) slots) (nat_lt place count) some_left none_left)
        ∙ sym (append_assoc far.now (entries_if (nat_lt place count) word) (entries_of_first (count - (place + 1)) (drop (place + 1) slots)));
    checks = split word front ∙ pass_over (one_slot_checks shape block far.now (nat_lt place count) (3 + place) word) _ reads.0;
  }

  pub snapshot_refused : (word : ℕ) (why : BadImage) → drop place slots ≡ word ∷ drop (suc place) slots → first (one_slot_checks shape block far.now (nat_lt place count) (3 + place) word) ≡ Some why →
      first (snapshot_slot_checks shape block entries count 3 slots) ≡ Some why
  snapshot_refused word why front found = split word front ∙ found_in (one_slot_checks shape block far.now (nat_lt place count) (3 + place) word) _ why found

  pub snapshot_read : drop place slots ≡ [] → ReadsEntries (Ok tt) shape table taken chain (snapshot_slot_checks shape block entries count 3 slots) size (entries ++ entries_of_first count slots)
  snapshot_read front = (
    far.checks ∙ ap (λ (l : List ℕ). first (snapshot_slot_checks shape block far.now (count - place) (3 + place) l)) front ∙ no_checks shape block far.now (count - place) (3 + place),
    subst (λ (l : List Meaning). HasEntries shape table taken chain size l)
        (sym (far.takes ∙ ap (λ (l : List ℕ). far.now ++ entries_of_first (count - place) l) front ∙ ap (λ (l : List Meaning). far.now ++ l) (none_of (count - place)) ∙ append-nil far.now)) far.has,
  )

-- what reading an entry says of its slot
pub entry_read : (result : Result Unit BadImage) (shape : Shape) (table : FileMap) (taken chain : List ℕ) (size : ℕ) (entries : List Meaning) (block : ℕ) (used : Bool) (slot word : ℕ) → used ≡ true → is_snapshot_entry shape word ≡ true →
    ReadsEntries result shape table taken chain (share_checks (all_names entries) (names (direct_meaning word))) size (entries ++ direct_meaning word ∷ []) →
    ReadsEntries result shape table taken chain (one_slot_checks shape block entries used slot word) size (entries ++ entries_if used word)
entry_read result shape table taken chain size entries block false slot word is good reads = cc
entry_read (Err why) shape table taken chain size entries block true slot word is good reads =
    skip (not (is_snapshot_entry shape word)) (BadEntry block slot word) (share_checks (all_names entries) (names (direct_meaning word))) (ap not good) ∙ reads
entry_read (Ok done) shape table taken chain size entries block true slot word is good reads = (
  skip (not (is_snapshot_entry shape word)) (BadEntry block slot word) (share_checks (all_names entries) (names (direct_meaning word))) (ap not good) ∙ reads.0,
  reads.1,
)
