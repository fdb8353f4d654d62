-- The slots of a chain block, read one after the other.
use Rattle.std.proofs.Common.{◌≡◌, ◌≢◌, ◌+◌, ◌==◌, ◌||◌, ℕ, suc, Bool, true, false, List, [], ◌∷◌, ◌++◌, length, map, drop, if◌then◌else◌, refl, sym, ap, ◌∙◌, subst, arith, append_assoc, append-nil, add-zero, zero-add, add-one, add_assoc, length-append, Result, Ok, Err, Some, None}
use Rattle.std.proofs.lemmas.List.{length-map}
use Rattle.std.proofs.lemmas.List.Concat.{flat_map-append}
use Rattle.block_table.specs.FileMap.{FileMap}
use Rattle.log_image.specs.Image.{Shape}
use Rattle.log_image.specs.Entries.{Meaning, names, all_names, meaning}
use Rattle.log_image.specs.Maps.{size_after}
use Rattle.log_image.specs.Blocks.{entry_words, is_closed}
use Rattle.log_entry.specs.declared.layouts.TheConstants.{EMPTY, SEAL}
use Rattle.chain_reader.proofs.MapLemmas.{size_after_append}
use Rattle.std.proofs.lemmas.Bool.{ne_eqb}
use Rattle.chain_reader.specs.Tables.{HasMap}
use Rattle.opening_rules.specs.Checks.{Check, check, first}
use Rattle.opening_rules.specs.SlotChecks.{share_checks, is_bad_slot, log_slot_checks}
use Rattle.opening_rules.specs.declared.refusals.BadImage.{BadImage}
use Rattle.opening_rules.specs.declared.refusals.BadImage.TheVariants.{BadEntry}
use Rattle.opening_rules.proofs.Firsts.{skip, hit, pass_over, found_in}
use Rattle.recovery.specs.Names.{HasNamed, TakesNames}
use Rattle.recovery.specs.Slots.{HasEntries, ReadsEntries, ReadsLogSlots, entries_in, used_slot_checks, meanings_of}

-- the blocks that entries and one more name
names_more : (entries : List Meaning) (entry : Meaning) → all_names (entries ++ entry ∷ []) ≡ all_names entries ++ names entry
names_more entries entry = flat_map-append names entries (entry ∷ []) ∙ ap (λ (blocks : List ℕ). all_names entries ++ blocks) (append-nil (names entry))

-- the blocks of an entry are taken, and then its map
pub entry_taken : (shape : Shape) (table : FileMap) (taken chain : List ℕ) (size : ℕ) (entries : List Meaning) (entry : Meaning) →
    TakesNames (Ok tt) shape taken chain (all_names entries) (names entry) → HasMap table (entries ++ entry ∷ []) → table.size ≡ size →
    ReadsEntries (Ok tt) shape table taken chain (share_checks (all_names entries) (names entry)) size (entries ++ entry ∷ [])
entry_taken shape table taken chain size entries entry takes mapped sized = (
  takes.0,
  record { map = mapped; sized = sized; named = subst (λ (blocks : List ℕ). HasNamed shape taken chain blocks) (sym (names_more entries entry)) takes.1 },
)

-- an entry of a log block, and the condition on its slot before it
pub slot_clean : (words : List ℕ) (shape : Shape) (block position : ℕ) (entries : List Meaning) (after_seal : Bool) (slot word : ℕ) → (after_seal || is_bad_slot words shape position slot word) ≡ false → (word == SEAL) ≡ false →
    first (used_slot_checks words shape block position entries after_seal slot word) ≡ first (share_checks (all_names entries) (names (meaning words shape word)))
slot_clean words shape block position entries after_seal slot word good other =
    skip (after_seal || is_bad_slot words shape position slot word) (BadEntry block slot word) (if word == SEAL then [] else share_checks (all_names entries) (names (meaning words shape word))) good
    ∙ ap (λ (b : Bool). first (if b then [] else share_checks (all_names entries) (names (meaning words shape word)))) other

-- what reading an entry says of its slot
pub slot_read : (result : Result Unit BadImage) (words : List ℕ) (shape : Shape) (block position : ℕ) (after_seal : Bool) (slot word : ℕ) (table : FileMap) (taken chain : List ℕ) (size : ℕ) (entries : List Meaning) →
    (after_seal || is_bad_slot words shape position slot word) ≡ false → (word == SEAL) ≡ false →
    ReadsEntries result shape table taken chain (share_checks (all_names entries) (names (meaning words shape word))) (size_after shape size (meaning words shape word ∷ [])) (entries ++ meaning words shape word ∷ []) →
    ReadsEntries result shape table taken chain (used_slot_checks words shape block position entries after_seal slot word) (size_after shape size (entries_in words shape word)) (entries ++ entries_in words shape word)
slot_read (Err why) words shape block position after_seal slot word table taken chain size entries good other reads = slot_clean words shape block position entries after_seal slot word good other ∙ reads
slot_read (Ok done) words shape block position after_seal slot word table taken chain size entries good other reads =
    let is : entries_in words shape word ≡ meaning words shape word ∷ [] = ap (λ (b : Bool). if b then [] else meaning words shape word ∷ []) other in (
      slot_clean words shape block position entries after_seal slot word good other ∙ reads.0,
      subst (λ (more : List Meaning). HasEntries shape table taken chain (size_after shape size more) (entries ++ more)) (sym is) reads.1,
    )

-- a slot that may not stand there
pub slot_bad : (words : List ℕ) (shape : Shape) (block position : ℕ) (entries : List Meaning) (after_seal : Bool) (slot word : ℕ) → (after_seal || is_bad_slot words shape position slot word) ≡ true →
    first (used_slot_checks words shape block position entries after_seal slot word) ≡ Some (BadEntry block slot word)
slot_bad words shape block position entries after_seal slot word bad =
    hit (after_seal || is_bad_slot words shape position slot word) (BadEntry block slot word) (if word == SEAL then [] else share_checks (all_names entries) (names (meaning words shape word))) bad

-- a seal
pub seal_read : (words : List ℕ) (shape : Shape) (block position : ℕ) (after_seal : Bool) (slot word : ℕ) (table : FileMap) (taken chain : List ℕ) (size : ℕ) (entries : List Meaning) →
    (after_seal || is_bad_slot words shape position slot word) ≡ false → (word == SEAL) ≡ true → HasEntries shape table taken chain size entries →
    ReadsEntries (Ok tt) shape table taken chain (used_slot_checks words shape block position entries after_seal slot word) (size_after shape size (entries_in words shape word)) (entries ++ entries_in words shape word)
seal_read words shape block position after_seal slot word table taken chain size entries good seal has =
    let is : entries_in words shape word ≡ [] = ap (λ (b : Bool). if b then [] else meaning words shape word ∷ []) seal in (
      skip (after_seal || is_bad_slot words shape position slot word) (BadEntry block slot word) (if word == SEAL then [] else share_checks (all_names entries) (names (meaning words shape word))) good
          ∙ ap (λ (b : Bool). first (if b then [] else share_checks (all_names entries) (names (meaning words shape word)))) seal,
      subst (λ (more : List Meaning). HasEntries shape table taken chain (size_after shape size more) (entries ++ more)) (sym is) (subst (λ (l : List Meaning). HasEntries shape table taken chain size l) (sym (append-nil entries)) has),
    )

-- what is left of a block's entries, and of its being closed, after a seal or not
abbrev pub entries_left : List ℕ → Shape → Bool → List ℕ → List Meaning
entries_left words shape after_seal slots = if after_seal then [] else meanings_of words shape slots

-- whether the block is closed, where it was or was not before these
abbrev pub closed_left : Bool → List ℕ → Bool
closed_left after_seal slots = if after_seal then true else is_closed slots

-- the slots before a place are read
pub record ReadTo (words : List ℕ) (shape : Shape) (block position : ℕ) (chain : List ℕ) (size : ℕ) (entries : List Meaning) (slots : List ℕ) (table : FileMap) (taken : List ℕ) (after_seal : Bool) (place count : ℕ) : Type 0 where
  pub now : List Meaning
  pub size_now : ℕ
  pub has : HasEntries shape table taken chain size_now now
  pub takes : entries ++ meanings_of words shape slots ≡ now ++ entries_left words shape after_seal (drop place slots)
  pub sizes : size_after shape size (meanings_of words shape slots) ≡ size_after shape size_now (entries_left words shape after_seal (drop place slots))
  pub checks : first (log_slot_checks words shape block position entries false 3 slots) ≡ first (log_slot_checks words shape block (position + count) now after_seal (3 + place) (drop place slots))
  pub closes : is_closed slots ≡ closed_left after_seal (drop place slots)
  pub counts : length (meanings_of words shape slots) ≡ count + length (entries_left words shape after_seal (drop place slots))

pub none_read : (words : List ℕ) (shape : Shape) (block position : ℕ) (chain : List ℕ) (size : ℕ) (entries : List Meaning) (slots : List ℕ) (table : FileMap) (taken : List ℕ) → HasEntries shape table taken chain size entries →
    ReadTo words shape block position chain size entries slots table taken false 0 0
none_read words shape block position chain size entries slots table taken has = record {
  now = entries;
  size_now = size;
  has = has;
  takes = refl;
  sizes = refl;
  checks = ap (λ (n : ℕ). first (log_slot_checks words shape block n entries false 3 slots)) (sym (add-zero position));
  closes = refl;
  counts = sym (zero-add (length (meanings_of words shape slots)));
}

-- no slot was used before a seal where it is passed
not_after : (holds : Bool) (words : List ℕ) (shape : Shape) (block position : ℕ) (entries : List Meaning) (slot word : ℕ) → first (used_slot_checks words shape block position entries holds slot word) ≡ None → holds ≡ false
not_after true words shape block position entries slot word clean = cc
not_after false words shape block position entries slot word clean = refl

used : (word : ℕ) → word ≢ EMPTY → (word == EMPTY) ≡ false
used word some = ne_eqb word EMPTY some

-- the entries of a used slot, and then those of the others
meanings_step : (words : List ℕ) (shape : Shape) (word : ℕ) (rest : List ℕ) → word ≢ EMPTY → meanings_of words shape (word ∷ rest) ≡ entries_in words shape word ++ entries_left words shape (word == SEAL) rest
meanings_step words shape word rest some = ap (λ (b : Bool). map (meaning words shape) (if b then [] else if word == SEAL then [] else word ∷ entry_words rest)) (used word some) ∙ by (word == SEAL)
  where
    by : (seal : Bool) → map (meaning words shape) (if seal then [] else word ∷ entry_words rest) ≡ (if seal then [] else meaning words shape word ∷ []) ++ (if seal then [] else meanings_of words shape rest)
    by true = refl
    by false = refl

closed_step : (word : ℕ) (rest : List ℕ) → word ≢ EMPTY → is_closed (word ∷ rest) ≡ closed_left (word == SEAL) rest
closed_step word rest some = ap (λ (b : Bool). if b then false else if word == SEAL then true else is_closed rest) (used word some)

-- the conditions on the slots after a used one that is passed
checks_step : (words : List ℕ) (shape : Shape) (block position : ℕ) (now : List Meaning) (after_seal : Bool) (slot word : ℕ) (rest : List ℕ) → word ≢ EMPTY →
    first (used_slot_checks words shape block position now after_seal slot word) ≡ None →
    first (log_slot_checks words shape block position now after_seal slot (word ∷ rest))
    ≡ first (log_slot_checks words shape block (position + length (entries_in words shape word)) (now ++ entries_in words shape word) (word == SEAL) (slot + 1) rest)
checks_step words shape block position now after_seal slot word rest some clean =
    ap (λ (b : Bool). first (if b then [] else check (after_seal || is_bad_slot words shape position slot word) (BadEntry block slot word) ∷ (if word == SEAL then sealed else shares ++ further))) (used word some)
    ∙ by (word == SEAL) (after_seal || is_bad_slot words shape position slot word) clean
    ∙ as_one (word == SEAL)
  where
    shares : List Check
    shares = share_checks (all_names now) (names (meaning words shape word))

    sealed : List Check
    sealed = log_slot_checks words shape block position now true (slot + 1) rest

    further : List Check
    further = log_slot_checks words shape block (position + 1) (now ++ meaning words shape word ∷ []) false (slot + 1) rest

    by : (seal holds : Bool) → first (check holds (BadEntry block slot word) ∷ (if seal then [] else shares)) ≡ None →
        first (check holds (BadEntry block slot word) ∷ (if seal then sealed else shares ++ further)) ≡ first (if seal then sealed else further)
    by true true clean = cc
    by true false clean = refl
    by false true clean = cc
    by false false clean = pass_over shares further clean

    as_one : (seal : Bool) → first (if seal then sealed else further) ≡ first (log_slot_checks words shape block (position + length (if seal then [] else meaning words shape word ∷ [])) (now ++ (if seal then [] else meaning words shape word ∷ [])) seal (slot + 1) rest)
    as_one true =
        ap (λ (n : ℕ). first (log_slot_checks words shape block n now true (slot + 1) rest)) (sym (add-zero position))
        ∙ ap (λ (l : List Meaning). first (log_slot_checks words shape block (position + 0) l true (slot + 1) rest)) (sym (append-nil now))
    as_one false = refl

-- the first condition on a used slot that holds
checks_found : (words : List ℕ) (shape : Shape) (block position : ℕ) (now : List Meaning) (after_seal : Bool) (slot word : ℕ) (rest : List ℕ) (why : BadImage) → word ≢ EMPTY →
    first (used_slot_checks words shape block position now after_seal slot word) ≡ Some why → first (log_slot_checks words shape block position now after_seal slot (word ∷ rest)) ≡ Some why
checks_found words shape block position now after_seal slot word rest why some found =
    ap (λ (b : Bool). first (if b then [] else check (after_seal || is_bad_slot words shape position slot word) (BadEntry block slot word) ∷ (if word == SEAL then sealed else shares ++ further))) (used word some)
    ∙ by (word == SEAL) (after_seal || is_bad_slot words shape position slot word) found
  where
    shares : List Check
    shares = share_checks (all_names now) (names (meaning words shape word))

    sealed : List Check
    sealed = log_slot_checks words shape block position now true (slot + 1) rest

    further : List Check
    further = log_slot_checks words shape block (position + 1) (now ++ meaning words shape word ∷ []) false (slot + 1) rest

    by : (seal holds : Bool) → first (check holds (BadEntry block slot word) ∷ (if seal then [] else shares)) ≡ Some why →
        first (check holds (BadEntry block slot word) ∷ (if seal then sealed else shares ++ further)) ≡ Some why
    by true true found = found
    by true false found = cc
    by false true found = found
    by false false found = found_in shares further why found

left_before : (words : List ℕ) (shape : Shape) (after_seal : Bool) (slots : List ℕ) → after_seal ≡ false → (entries_left words shape after_seal slots ≡ meanings_of words shape slots) × (closed_left after_seal slots ≡ is_closed slots)
left_before words shape after_seal slots is = rw is (refl, refl)

empty_left : (words : List ℕ) (shape : Shape) (after_seal : Bool) (rest : List ℕ) → (entries_left words shape after_seal (0 ∷ rest) ≡ []) × (closed_left after_seal (0 ∷ rest) ≡ after_seal)
empty_left words shape true rest = (refl, refl)
empty_left words shape false rest = (refl, refl)

none_left : (words : List ℕ) (shape : Shape) (after_seal : Bool) → (entries_left words shape after_seal [] ≡ []) × (closed_left after_seal [] ≡ true)
none_left words shape true = (refl, refl)
none_left words shape false = (refl, refl)

module _ (words : List ℕ) (shape : Shape) (block position : ℕ) (chain : List ℕ) (size : ℕ) (entries : List Meaning) (slots : List ℕ) (table : FileMap) (taken : List ℕ) (after_seal : Bool) (place count : ℕ)
    (far : ReadTo words shape block position chain size entries slots table taken after_seal place count) where
  -- one more slot
  pub slot_more : (next : FileMap) (bits : List ℕ) (word total : ℕ) → total ≡ count + length (entries_in words shape word) → drop place slots ≡ word ∷ drop (suc place) slots → word ≢ EMPTY →
      ReadsEntries (Ok tt) shape next bits chain (used_slot_checks words shape block (position + count) far.now after_seal (3 + place) word) (size_after shape far.size_now (entries_in words shape word)) (far.now ++ entries_in words shape word) →
      ReadTo words shape block position chain size entries slots next bits (word == SEAL) (place + 1) total
  slot_more next bits word total total_is front some reads = record {
    now = far.now ++ entries_in words shape word;
    size_now = size_after shape far.size_now (entries_in words shape word);
    has = reads.1;
    takes = far.takes ∙ ap (λ (l : List Meaning). far.now ++ l) left_is ∙ sym (append_assoc far.now (entries_in words shape word) (entries_left words shape (word == SEAL) (drop (place + 1) slots)));
    sizes = far.sizes ∙ ap (size_after shape far.size_now) left_is ∙ size_after_append shape far.size_now (entries_in words shape word) (entries_left words shape (word == SEAL) (drop (place + 1) slots));
    checks = far.checks
        ∙ ap (λ (l : List ℕ). first (log_slot_checks words shape block (position + count) far.now after_seal (3 + place) l)) front_is
        ∙ checks_step words shape block (position + count) far.now after_seal (3 + place) word (drop (place + 1) slots) some reads.0
        ∙ ap (λ (n : ℕ). first (log_slot_checks words shape block n (far.now ++ entries_in words shape word) (word == SEAL) ((3 + place) + 1) (drop (place + 1) slots))) sum_is
        ∙ ap (λ (n : ℕ). first (log_slot_checks words shape block (position + total) (far.now ++ entries_in words shape word) (word == SEAL) n (drop (place + 1) slots))) (add_assoc 3 place 1);
    closes = far.closes ∙ left.1 ∙ ap is_closed front_is ∙ closed_step word (drop (place + 1) slots) some;
    counts = far.counts ∙ ap (λ (l : List Meaning). count + length l) left_is
        ∙ ap (λ (n : ℕ). count + n) (length-append (entries_in words shape word) (entries_left words shape (word == SEAL) (drop (place + 1) slots)))
        ∙ added_up count (length (entries_in words shape word)) (length (entries_left words shape (word == SEAL) (drop (place + 1) slots))) total total_is;
  }
    where
      left : (entries_left words shape after_seal (drop place slots) ≡ meanings_of words shape (drop place slots)) × (closed_left after_seal (drop place slots) ≡ is_closed (drop place slots))
      left = left_before words shape after_seal (drop place slots) (not_after after_seal words shape block (position + count) far.now (3 + place) word reads.0)

      front_is : drop place slots ≡ word ∷ drop (place + 1) slots
      front_is = front ∙ ap (λ (n : ℕ). word ∷ drop n slots) (sym (add-one place))

      left_is : entries_left words shape after_seal (drop place slots) ≡ entries_in words shape word ++ entries_left words shape (word == SEAL) (drop (place + 1) slots)
      left_is = left.0 ∙ ap (meanings_of words shape) front_is ∙ meanings_step words shape word (drop (place + 1) slots) some

      sum_is : position + count + length (entries_in words shape word) ≡ position + total
      sum_is = add_assoc position count (length (entries_in words shape word)) ∙ ap (λ (n : ℕ). position + n) (sym total_is)

      added_up : (a b c n : ℕ) → n ≡ a + b → a + (b + c) ≡ n + c
      added_up a b c n is = omega (arith, is)

  -- the slots end at an empty one, or with the block
  ended : (rest : List ℕ) (closed : Bool) → drop place slots ≡ rest → entries_left words shape after_seal rest ≡ [] → closed_left after_seal rest ≡ closed → first (log_slot_checks words shape block (position + count) far.now after_seal (3 + place) rest) ≡ None →
      ReadsLogSlots (Ok (record { closed = closed; entries = count })) words shape table taken chain (log_slot_checks words shape block position entries false 3 slots) size entries slots
  ended rest closed front none is clean = (
    far.checks ∙ ap (λ (l : List ℕ). first (log_slot_checks words shape block (position + count) far.now after_seal (3 + place) l)) front ∙ clean,
    sym (far.closes ∙ ap (closed_left after_seal) front ∙ is),
    sym (sym (length-map (entry_words slots) (meaning words shape)) ∙ far.counts ∙ ap (λ (l : List Meaning). count + length l) left ∙ add-zero count),
    subst (λ (n : ℕ). HasEntries shape table taken chain n (entries ++ meanings_of words shape slots)) (sym (far.sizes ∙ ap (size_after shape far.size_now) left))
        (subst (λ (l : List Meaning). HasEntries shape table taken chain far.size_now l) (sym (far.takes ∙ ap (λ (l : List Meaning). far.now ++ l) left ∙ append-nil far.now)) far.has),
  )
    where
      left : entries_left words shape after_seal (drop place slots) ≡ []
      left = ap (entries_left words shape after_seal) front ∙ none

  pub empty_here : drop place slots ≡ 0 ∷ drop (suc place) slots →
      ReadsLogSlots (Ok (record { closed = after_seal; entries = count })) words shape table taken chain (log_slot_checks words shape block position entries false 3 slots) size entries slots
  empty_here front = ended (0 ∷ drop (suc place) slots) after_seal front (empty_left words shape after_seal (drop (suc place) slots)).0 (empty_left words shape after_seal (drop (suc place) slots)).1 refl

  pub all_read : drop place slots ≡ [] →
      ReadsLogSlots (Ok (record { closed = true; entries = count })) words shape table taken chain (log_slot_checks words shape block position entries false 3 slots) size entries slots
  all_read front = ended [] true front (none_left words shape after_seal).0 (none_left words shape after_seal).1 refl

  pub refused : (word : ℕ) (why : BadImage) → drop place slots ≡ word ∷ drop (suc place) slots → word ≢ EMPTY → first (used_slot_checks words shape block (position + count) far.now after_seal (3 + place) word) ≡ Some why →
      first (log_slot_checks words shape block position entries false 3 slots) ≡ Some why
  refused word why front some found =
      far.checks ∙ ap (λ (l : List ℕ). first (log_slot_checks words shape block (position + count) far.now after_seal (3 + place) l)) front
      ∙ checks_found words shape block (position + count) far.now after_seal (3 + place) word (drop (suc place) slots) why some found

-- the number of the entries of a used slot
pub entries_count : (words : List ℕ) (shape : Shape) (word : ℕ) → (if word == SEAL then 0 else 1) ≡ length (entries_in words shape word)
entries_count words shape word = by (word == SEAL)
  where
    by : (seal : Bool) → (if seal then 0 else 1) ≡ length (if seal then [] else meaning words shape word ∷ [])
    by true = refl
    by false = refl
