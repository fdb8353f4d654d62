-- Clearing what stands after the tail changes nothing that the chain says.
use Rattle.std.proofs.Common.{◌≡◌, ◌≢◌, ◌≤◌, ◌<◌, ◌+◌, ◌-◌, ◌*◌, ◌==◌, ◌&&◌, nat_lt, ℕ, suc, Bool, true, false, List, [], ◌∷◌, length, get_or, ◌⊎◌, inl, inr, if◌then◌else◌, refl, sym, ap, ◌∙◌, subst, arith}
use Rattle.std.proofs.lemmas.Bool.{ne_eqb, eqb-true, eqb-false, le-ltb, ltb-true, ltb-false}
use Rattle.std.proofs.lemmas.List.{ext_get_or, get_or-drop, length-drop}
use Rattle.std.proofs.Math.Nat.{mul-le-mul_right}
use Rattle.log_entry.specs.Fields.{field}
use Rattle.log_entry.specs.declared.layouts.TheConstants.{BLOCK_KIND, SNAPSHOT}
use Rattle.log_image.specs.Image.{Shape, words_in, block_words}
use Rattle.log_image.specs.Blocks.{link_of, is_snapshot, slots_of, entry_words, is_closed, leads_on}
use Rattle.log_image.specs.Format.{is_seal_last, is_seal_placed}
use Rattle.log_image.specs.Tails.{AtSlot, is_after, IsSameToTail}
use Rattle.log_image.proofs.ImageLemmas.{in_block}
use Rattle.log_image.proofs.BlockLemmas.{same_long, within}

-- slots that are the same up to the first empty one
abbrev pub SameToTail : List ℕ → List ℕ → Type 0
SameToTail [] [] = Unit {0}
SameToTail [] (other ∷ others) = ⊥
SameToTail (slot ∷ slots) [] = ⊥
SameToTail (slot ∷ slots) (other ∷ others) = (slot ≡ other) × ((slot == 0) ≡ false → SameToTail slots others)

-- of three cases, the last two matter where the first does not hold
in_two : {X : Type 0} (empty sealed : Bool) (first second other third also : X) → (empty ≡ false → (second ≡ other) × (third ≡ also)) →
    (if empty then first else if sealed then second else third) ≡ (if empty then first else if sealed then other else also)
in_two true sealed first second other third also same = refl
in_two false true first second other third also same = (same refl).0
in_two false false first second other third also same = (same refl).1

same_entries : (slots others : List ℕ) → SameToTail slots others → entry_words others ≡ entry_words slots
same_entries [] [] same = refl
same_entries [] (other ∷ others) same = absurd same
same_entries (slot ∷ slots) [] same = absurd same
same_entries (slot ∷ slots) (other ∷ others) same =
    subst (λ (w : ℕ). entry_words (w ∷ others) ≡ entry_words (slot ∷ slots)) same.0
    (in_two (slot == 0) (slot == 3) [] [] [] (slot ∷ entry_words others) (slot ∷ entry_words slots)
    (λ used. (refl, ap (λ (l : List ℕ). slot ∷ l) (same_entries slots others (same.1 used)))))

same_closed : (slots others : List ℕ) → SameToTail slots others → is_closed others ≡ is_closed slots
same_closed [] [] same = refl
same_closed [] (other ∷ others) same = absurd same
same_closed (slot ∷ slots) [] same = absurd same
same_closed (slot ∷ slots) (other ∷ others) same =
    subst (λ (w : ℕ). is_closed (w ∷ others) ≡ is_closed (slot ∷ slots)) same.0
    (in_two (slot == 0) (slot == 3) false true true (is_closed others) (is_closed slots) (λ used. (refl, same_closed slots others (same.1 used))))

same_first : (slots others : List ℕ) → SameToTail slots others → get_or others 0 0 ≡ get_or slots 0 0
same_first [] [] same = refl
same_first [] (other ∷ others) same = absurd same
same_first (slot ∷ slots) [] same = absurd same
same_first (slot ∷ slots) (other ∷ others) same = sym same.0

same_seal : (slots others : List ℕ) → SameToTail slots others → is_seal_last others ≡ is_seal_last slots
same_seal [] [] same = refl
same_seal [] (other ∷ others) same = absurd same
same_seal (slot ∷ slots) [] same = absurd same
same_seal (slot ∷ slots) (other ∷ others) same =
    subst (λ (w : ℕ). is_seal_last (w ∷ others) ≡ is_seal_last (slot ∷ slots)) same.0
    (in_two (slot == 0) (slot == 3) true (get_or others 0 0 == 0) (get_or slots 0 0 == 0) (is_seal_last others) (is_seal_last slots)
    (λ used. (ap (λ (w : ℕ). w == 0) (same_first slots others (same.1 used)), same_seal slots others (same.1 used))))

same_placed : (slots others : List ℕ) → SameToTail slots others → is_seal_placed others ≡ is_seal_placed slots
same_placed slots others same = rw (same_first slots others same, same_seal slots others same) refl

-- what follows of open slots whose first is used
pub record Later (slot : ℕ) (slots : List ℕ) : Type 0 where
  pub entry : (slot == 3) ≡ false
  pub opens : is_closed slots ≡ false
  pub words : entry_words (slot ∷ slots) ≡ slot ∷ entry_words slots

pub later : (slot : ℕ) (slots : List ℕ) → is_closed (slot ∷ slots) ≡ false → (slot == 0) ≡ false → Later slot slots
later slot slots opens used = go (slot == 3) refl
  where
    go : (seal : Bool) → (slot == 3) ≡ seal → Later slot slots
    go true is = absurd (not_both (slot == 0) (slot == 3) (is_closed slots) used is opens)
      where
        not_both : (empty sealed rest : Bool) → empty ≡ false → sealed ≡ true → (if empty then false else if sealed then true else rest) ≡ false → ⊥
        not_both true sealed rest a b c = cc
        not_both false true rest a b c = cc
        not_both false false rest a b c = cc
    go false is = record { entry = is; opens = rw (used, is) at opens; words = rw (used, is) refl }

-- open slots, and others that agree with them up to the first empty one
to_tail : (slots others : List ℕ) → length others ≡ length slots → is_closed slots ≡ false → ((place : ℕ) → place ≤ length (entry_words slots) → get_or others place 0 ≡ get_or slots place 0) → SameToTail slots others
to_tail [] [] long opens agree = tt
to_tail [] (other ∷ others) long opens agree = absurd (omega (arith, long))
to_tail (slot ∷ slots) [] long opens agree = absurd (omega (arith, long))
to_tail (slot ∷ slots) (other ∷ others) long opens agree = (
  sym (agree 0 (omega arith)),
  λ used. to_tail slots others (omega (arith, long)) (later slot slots opens used).opens
      (λ place before. agree (suc place) (omega (arith, before, ap (λ (l : List ℕ). length l) (later slot slots opens used).words))),
)

-- what reading sees of a block is the same in both
pub record SameReading (old new : List ℕ) : Type 0 where
  pub word : get_or new 1 0 ≡ get_or old 1 0
  pub third : get_or new 2 0 ≡ get_or old 2 0
  pub entries : entry_words (slots_of new) ≡ entry_words (slots_of old)
  pub closed : is_closed (slots_of new) ≡ is_closed (slots_of old)
  pub placed : is_seal_placed (slots_of new) ≡ is_seal_placed (slots_of old)
  pub leads : leads_on new ≡ leads_on old
  pub link : leads_on old ≡ true → link_of new ≡ link_of old
  pub kept : is_snapshot old ≡ true → slots_of new ≡ slots_of old

same_block : (block : List ℕ) → SameReading block block
same_block block = record { word = refl; third = refl; entries = refl; closed = refl; placed = refl; leads = refl; link = λ on. refl; kept = λ is. refl }

no_lead : (block : List ℕ) → is_snapshot block ≡ false → is_closed (slots_of block) ≡ false → leads_on block ≡ false
no_lead block log opens = rw (log, opens) refl

-- a block that is the same up to its tail but for its link
at_tail : (old new : List ℕ) → is_snapshot old ≡ false → is_closed (slots_of old) ≡ false → length new ≡ length old → ((index : ℕ) → 1 ≤ index → index ≤ 3 + length (entry_words (slots_of old)) → get_or new index 0 ≡ get_or old index 0) → SameReading old new
at_tail old new log opens long agree =
    let same : SameToTail (slots_of old) (slots_of new) =
    to_tail (slots_of old) (slots_of new) (length-drop 3 new ∙ ap (λ (k : ℕ). k - 3) long ∙ sym (length-drop 3 old)) opens
    (λ place before. get_or-drop 3 new place 0 ∙ agree (3 + place) (omega arith) (omega (arith, before)) ∙ sym (get_or-drop 3 old place 0)) in
    let word : get_or new 1 0 ≡ get_or old 1 0 = agree 1 (omega arith) (omega arith) in
    record {
      word = word;
      third = agree 2 (omega arith) (omega arith);
      entries = same_entries (slots_of old) (slots_of new) same;
      closed = same_closed (slots_of old) (slots_of new) same;
      placed = same_placed (slots_of old) (slots_of new) same;
      leads = no_lead new (ap (λ (w : ℕ). field BLOCK_KIND w == SNAPSHOT) word ∙ log) (same_closed (slots_of old) (slots_of new) same ∙ opens) ∙ sym (no_lead old log opens);
      link = λ on. absurd (both_ways (leads_on old) on (no_lead old log opens));
      kept = λ is. absurd (both_ways (is_snapshot old) is log);
    }
  where
    both_ways : (b : Bool) → b ≡ true → b ≡ false → ⊥
    both_ways b holds fails = cc

-- a place that clearing leaves: not the link, and not past the tail in the block
pub left_alone : (shape : Shape) (block slot place : ℕ) → place ≢ block * words_in shape → (place ≤ block * words_in shape + slot) ⊎ (block * words_in shape + words_in shape ≤ place) → is_after shape (AtSlot block slot) place ≡ false
left_alone shape block slot place other (inl before) =
    rw (ne_eqb place (block * words_in shape) other, le-ltb (block * words_in shape + slot) place before) refl
left_alone shape block slot place other (inr beyond) =
    rw (ne_eqb place (block * words_in shape) other, le-ltb place (block * words_in shape + words_in shape) beyond) (and_false (nat_lt (block * words_in shape + slot) place))
  where
    and_false : (b : Bool) → (b && false) ≡ false
    and_false true = refl
    and_false false = refl

-- words that are the same but for what stands after the first empty slot of an open log block
pub record SameToSlot (shape : Shape) (block : ℕ) (old new : List ℕ) : Type 0 where
  pub long : 4 ≤ words_in shape
  pub log : is_snapshot (block_words old shape block) ≡ false
  pub opens : is_closed (slots_of (block_words old shape block)) ≡ false
  pub same : IsSameToTail shape (AtSlot block (3 + length (entry_words (slots_of (block_words old shape block))))) old new

-- where a word is left, it is the same
word_left : (shape : Shape) (block : ℕ) (old new : List ℕ) → (is : SameToSlot shape block old new) → (other index : ℕ) → index < words_in shape →
    is_after shape (AtSlot block (3 + length (entry_words (slots_of (block_words old shape block))))) (other * words_in shape + index) ≡ false →
    get_or (block_words new shape other) index 0 ≡ get_or (block_words old shape other) index 0
word_left shape block old new is other index inside left =
    in_block new shape other index inside
    ∙ is.same.each (other * words_in shape + index) left
    ∙ sym (in_block old shape other index inside)

-- another block is the same
pub other_block : (shape : Shape) (block : ℕ) (old new : List ℕ) → SameToSlot shape block old new → (other : ℕ) → other ≢ block → block_words new shape other ≡ block_words old shape other
other_block shape block old new is other differ =
    ext_get_or 0 (block_words new shape other) (block_words old shape other) (same_long shape other old new is.same.same_length) (λ index inside.
    let small : index < words_in shape = within shape other new index inside in
    word_left shape block old new is other index small (elsewhere index small (nat_lt other block) refl))
  where
    elsewhere : (index : ℕ) → index < words_in shape → (before : Bool) → nat_lt other block ≡ before → is_after shape (AtSlot block (3 + length (entry_words (slots_of (block_words old shape block))))) (other * words_in shape + index) ≡ false
    elsewhere index small true is =
        let times : (other + 1) * words_in shape ≤ block * words_in shape = mul-le-mul_right (words_in shape) (omega (arith, ltb-true other block is)) in
        left_alone shape block (3 + length (entry_words (slots_of (block_words old shape block)))) (other * words_in shape + index) (λ e. omega (arith, times, small, e)) (inl (omega (arith, times, small)))
    elsewhere index small false is =
        let past : block < other = omega (arith, ltb-false other block is, differ) in
        let times : (block + 1) * words_in shape ≤ other * words_in shape = mul-le-mul_right (words_in shape) (omega (arith, past)) in
        left_alone shape block (3 + length (entry_words (slots_of (block_words old shape block)))) (other * words_in shape + index) (λ e. omega (arith, times, small, e)) (inr (omega (arith, times)))

-- slots end where the block does
pub open_inside : (slots : List ℕ) → is_closed slots ≡ false → length (entry_words slots) < length slots
open_inside [] opens = cc
open_inside (slot ∷ slots) opens = go (slot == 0) refl (λ later_opens. open_inside slots later_opens)
  where
    go : (empty : Bool) → (slot == 0) ≡ empty → (is_closed slots ≡ false → length (entry_words slots) < length slots) → length (entry_words (slot ∷ slots)) < length (slot ∷ slots)
    go true is rest = rw is (omega arith)
    go false is rest = (let after : Later slot slots = later slot slots opens is in rw after.words (omega (arith, rest after.opens)))

pub each_block : (shape : Shape) (block : ℕ) (old new : List ℕ) → SameToSlot shape block old new → (other : ℕ) → SameReading (block_words old shape other) (block_words new shape other)
each_block shape block old new is other = go (other == block) refl
  where
    go : (same : Bool) → (other == block) ≡ same → SameReading (block_words old shape other) (block_words new shape other)
    go false differs = subst (λ (l : List ℕ). SameReading (block_words old shape other) l) (sym (other_block shape block old new is other (eqb-false other block differs))) (same_block (block_words old shape other))
    go true same =
        subst (λ (b : ℕ). SameReading (block_words old shape b) (block_words new shape b)) (sym (eqb-true other block same))
        (at_tail (block_words old shape block) (block_words new shape block) is.log is.opens (same_long shape block old new is.same.same_length) (λ index some before.
        let room : length (entry_words (slots_of (block_words old shape block))) < length (slots_of (block_words old shape block)) = open_inside (slots_of (block_words old shape block)) is.opens in
        let size : length (slots_of (block_words old shape block)) ≡ length (block_words old shape block) - 3 = length-drop 3 (block_words old shape block) in
        word_left shape block old new is block index (within shape block old index (omega (arith, before, room, size)))
        (left_alone shape block (3 + length (entry_words (slots_of (block_words old shape block)))) (block * words_in shape + index) (λ e. omega (arith, e, some)) (inl (omega (arith, before))))))
