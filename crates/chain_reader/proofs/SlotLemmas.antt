-- Slots read one after the other, and entries taken in one after the other.
use Rattle.std.proofs.Common.{◌≡◌, ◌<◌, ◌≤◌, ◌+◌, ◌==◌, ◌&&◌, not, ℕ, Bool, true, false, List, [], ◌∷◌, ◌++◌, length, get_or, take, drop, map, append-nil, append_assoc, add-one, drop-cons, if◌then◌else◌, refl, sym, ap, ◌∙◌, subst, arith}
use Rattle.std.proofs.lemmas.List.{take_more, length-take, map-append}
use Rattle.std.proofs.Math.ListN.{drop_of_length-le}
use Rattle.block_table.specs.FileMap.{FileMap}
use Rattle.log_entry.specs.declared.layouts.TheConstants.{EMPTY, SEAL}
use Rattle.log_image.specs.Image.{Shape}
use Rattle.log_image.specs.Entries.{Meaning}
use Rattle.log_image.specs.Blocks.{entry_words, is_closed}
use Rattle.chain_reader.specs.Tables.{HasMap, HasSize}
use Rattle.chain_reader.proofs.RunsLemmas.{take_whole}

-- the slots before a place are entries
pub record AreEntries (slots : List ℕ) (place : ℕ) : Type 0 where
  pub same : entry_words slots ≡ take place slots ++ entry_words (drop place slots)

pub none_entered : (slots : List ℕ) → AreEntries slots 0
none_entered slots = record { same = refl }

-- what stands from a place on
from_place : (slots : List ℕ) (place : ℕ) → place < length slots → drop place slots ≡ get_or slots place 0 ∷ drop (place + 1) slots
from_place slots place inside = rw (add-one place) (drop-cons slots place 0 inside)

pub one_entered : (slots : List ℕ) (place : ℕ) → place < length slots → (not (get_or slots place 0 == EMPTY) && not (get_or slots place 0 == SEAL)) ≡ true → AreEntries slots place → AreEntries slots (place + 1)
one_entered slots place inside entry are = record {
  same = are.same
      ∙ ap (λ (l : List ℕ). take place slots ++ entry_words l) (from_place slots place inside)
      ∙ ap (λ (l : List ℕ). take place slots ++ l) (first_entry (get_or slots place 0 == EMPTY) (get_or slots place 0 == SEAL) (get_or slots place 0) (entry_words (drop (place + 1) slots)) entry)
      ∙ sym (append_assoc (take place slots) (get_or slots place 0 ∷ []) (entry_words (drop (place + 1) slots)))
      ∙ ap (λ (l : List ℕ). l ++ entry_words (drop (place + 1) slots)) (sym (take_more slots place 0 inside));
}
  where
    first_entry : (empty sealed : Bool) (slot : ℕ) (rest : List ℕ) → (not empty && not sealed) ≡ true → (if empty then [] else if sealed then [] else slot ∷ rest) ≡ slot ∷ rest
    first_entry true sealed slot rest is = cc
    first_entry false true slot rest is = cc
    first_entry false false slot rest is = refl

pub last_entered : (slots : List ℕ) (place : ℕ) → place < length slots → (not (get_or slots place 0 == EMPTY) && not (get_or slots place 0 == SEAL)) ≡ false → AreEntries slots place → entry_words slots ≡ take place slots
last_entered slots place inside entry are =
    are.same
    ∙ ap (λ (l : List ℕ). take place slots ++ entry_words l) (from_place slots place inside)
    ∙ ap (λ (l : List ℕ). take place slots ++ l) (no_entry (get_or slots place 0 == EMPTY) (get_or slots place 0 == SEAL) (get_or slots place 0) (entry_words (drop (place + 1) slots)) entry)
    ∙ append-nil (take place slots)
  where
    no_entry : (empty sealed : Bool) (slot : ℕ) (rest : List ℕ) → (not empty && not sealed) ≡ false → (if empty then [] else if sealed then [] else slot ∷ rest) ≡ []
    no_entry true sealed slot rest is = refl
    no_entry false true slot rest is = refl
    no_entry false false slot rest is = cc

pub all_entered : (slots : List ℕ) (place : ℕ) → length slots ≤ place → AreEntries slots place → entry_words slots ≡ slots
all_entered slots place past are =
    are.same ∙ ap (λ (l : List ℕ). take place slots ++ entry_words l) (drop_of_length-le slots past) ∙ append-nil (take place slots) ∙ take_whole slots place past

pub length_front : (slots : List ℕ) (place : ℕ) → place ≤ length slots → length (take place slots) ≡ place
length_front slots place inside = length-take place slots ∙ omega (arith, inside)

-- the slots before a place are neither empty nor seals
pub record AreOpen (slots : List ℕ) (place : ℕ) : Type 0 where
  pub same : is_closed slots ≡ is_closed (drop place slots)

pub open_before : (slots : List ℕ) → AreOpen slots 0
open_before slots = record { same = refl }

-- what the slot at a place says, by what it is
pub closed_at : (slots : List ℕ) (place slot : ℕ) → place < length slots → slot ≡ get_or slots place 0 → AreOpen slots place →
    is_closed slots ≡ (if slot == EMPTY then false else if slot == SEAL then true else is_closed (drop (place + 1) slots))
closed_at slots place slot inside is are =
    are.same ∙ ap is_closed (from_place slots place inside)
    ∙ ap (λ (n : ℕ). if n == EMPTY then false else if n == SEAL then true else is_closed (drop (place + 1) slots)) (sym is)

pub open_past : (slots : List ℕ) (place slot : ℕ) → place < length slots → slot ≡ get_or slots place 0 → (slot == EMPTY) ≡ false → (slot == SEAL) ≡ false → AreOpen slots place → AreOpen slots (place + 1)
open_past slots place slot inside is used entry are = record {
  same = closed_at slots place slot inside is are ∙ rw (used, entry) refl;
}

pub closed_end : (slots : List ℕ) (place : ℕ) → length slots ≤ place → AreOpen slots place → is_closed slots ≡ true
closed_end slots place past are = are.same ∙ ap is_closed (drop_of_length-le slots past)

-- the entries of the first words are taken in
pub record MapTaken (old new : FileMap) (says : ℕ → Meaning) (words : List ℕ) (place : ℕ) : Type 0 where
  pub map : (before : List Meaning) → HasMap old before → HasMap new (before ++ map says (take place words))

pub none_mapped : (table : FileMap) (says : ℕ → Meaning) (words : List ℕ) → MapTaken table table says words 0
none_mapped table says words = record { map = λ before has. subst (λ (l : List Meaning). HasMap table l) (sym (append-nil before)) has }

-- what the first words say, and one more
says_more : (says : ℕ → Meaning) (words : List ℕ) (place : ℕ) (before : List Meaning) → place < length words →
    (before ++ map says (take place words)) ++ says (get_or words place 0) ∷ [] ≡ before ++ map says (take (place + 1) words)
says_more says words place before inside =
    append_assoc before (map says (take place words)) (says (get_or words place 0) ∷ [])
    ∙ ap (λ (l : List Meaning). before ++ l) (sym (map-append says (take place words) (get_or words place 0 ∷ [])))
    ∙ ap (λ (l : List ℕ). before ++ map says l) (sym (take_more words place 0 inside))

pub one_mapped : (old now new : FileMap) (says : ℕ → Meaning) (words : List ℕ) (place word : ℕ) → place < length words → word ≡ get_or words place 0 → MapTaken old now says words place →
    ((entries : List Meaning) → HasMap now entries → HasMap new (entries ++ says word ∷ [])) → MapTaken old new says words (place + 1)
one_mapped old now new says words place word inside is taken next = record {
  map = λ before has. subst (λ (l : List Meaning). HasMap new l) (says_more says words place before inside)
      (subst (λ (n : ℕ). HasMap new ((before ++ map says (take place words)) ++ says n ∷ [])) is (next (before ++ map says (take place words)) (taken.map before has)));
}

pub all_mapped : (old new : FileMap) (says : ℕ → Meaning) (words : List ℕ) (place : ℕ) → length words ≤ place → MapTaken old new says words place →
    (before : List Meaning) → HasMap old before → HasMap new (before ++ map says words)
all_mapped old new says words place past taken before has = subst (λ (l : List ℕ). HasMap new (before ++ map says l)) (take_whole words place past) (taken.map before has)

-- the same of the size
pub record SizeTaken (old new : FileMap) (shape : Shape) (says : ℕ → Meaning) (words : List ℕ) (place : ℕ) : Type 0 where
  pub size : (from : ℕ) (before : List Meaning) → HasSize old shape from before → HasSize new shape from (before ++ map says (take place words))

pub none_sized : (table : FileMap) (shape : Shape) (says : ℕ → Meaning) (words : List ℕ) → SizeTaken table table shape says words 0
none_sized table shape says words = record { size = λ from before has. subst (λ (l : List Meaning). HasSize table shape from l) (sym (append-nil before)) has }

pub one_sized : (old now new : FileMap) (shape : Shape) (says : ℕ → Meaning) (words : List ℕ) (place word : ℕ) → place < length words → word ≡ get_or words place 0 → SizeTaken old now shape says words place →
    ((from : ℕ) (entries : List Meaning) → HasSize now shape from entries → HasSize new shape from (entries ++ says word ∷ [])) → SizeTaken old new shape says words (place + 1)
one_sized old now new shape says words place word inside is taken next = record {
  size = λ from before has. subst (λ (l : List Meaning). HasSize new shape from l) (says_more says words place before inside)
      (subst (λ (n : ℕ). HasSize new shape from ((before ++ map says (take place words)) ++ says n ∷ [])) is (next from (before ++ map says (take place words)) (taken.size from before has)));
}

pub all_sized : (old new : FileMap) (shape : Shape) (says : ℕ → Meaning) (words : List ℕ) (place : ℕ) → length words ≤ place → SizeTaken old new shape says words place →
    (from : ℕ) (before : List Meaning) → HasSize old shape from before → HasSize new shape from (before ++ map says words)
all_sized old new shape says words place past taken from before has = subst (λ (l : List ℕ). HasSize new shape from (before ++ map says l)) (take_whole words place past) (taken.size from before has)
