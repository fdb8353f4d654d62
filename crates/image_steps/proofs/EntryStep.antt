-- An entry in the slot that is the tail is a write.
use Rattle.std.proofs.Common.{◌≡◌, ◌≢◌, ◌<◌, ◌≤◌, ◌+◌, ◌-◌, ◌*◌, ◌==◌, ◌&&◌, ◌||◌, ◌^◌, not, max, nat_lt, ℕ, Bool, true, false, List, [], ◌∷◌, ◌++◌, length, get_or, set, Option, Some, None, if◌then◌else◌, refl, sym, ap, ◌∙◌, subst, arith, length-drop, length-append}
use Rattle.std.proofs.lemmas.Bool.{eq-eqb, ne_eqb, eqb-true, lt-ltb, ltb-true, ltb-false}
use Rattle.std.proofs.lemmas.Bool.Decides.{nat_tests}
use Rattle.std.proofs.lemmas.List.{get_or-set_other, get_or-drop, get_or_past}
use Rattle.std.proofs.lemmas.Grind.{flat_map-append}
use Rattle.log_entry.specs.Fields.{field}
use Rattle.log_entry.specs.Shape.{longest_of}
use Rattle.log_entry.specs.WordBytes.{word_bytes}
use Rattle.log_entry.specs.Words.{entry_unnamed}
use Rattle.log_entry.specs.declared.layouts.TheConstants.{HEAD_BLOCK, ENTRY_KIND, DIRECT, BLOCK_KIND, SNAPSHOT, DIRECT_BLOCK, DIRECT_COUNT}
use Rattle.log_image.specs.Image.{Shape, words_in, is_in_data, is_in_log, block_words, block_content}
use Rattle.log_image.specs.Header.{shape_of}
use Rattle.log_image.specs.Entries.{Meaning, direct_meaning, names, all_names}
use Rattle.log_image.specs.Blocks.{is_snapshot, link_of, slots_of, entry_words, is_closed}
use Rattle.log_image.specs.Maps.{block_in, map_of, entry_end}
use Rattle.log_image.specs.Chains.{all_different, is_listed}
use Rattle.log_image.specs.Positions.{entries_of}
use Rattle.log_image.specs.Format.{fits, is_direct, is_seal_placed, HasFormat}
use Rattle.log_image.specs.Stands.{HoldsFile, StandsIn}
use Rattle.log_image.specs.Tails.{Tail, AtSlot, AtLink, last_block, tail_in, tail_of, is_after, IsClear}
use Rattle.log_image.specs.Taken.{is_taken}
use Rattle.log_image.proofs.HoldingLemmas.{both_left, both_right}
use Rattle.log_image.proofs.ImageLemmas.{in_block, length_range}
use Rattle.log_image.specs.SameWords.{SameHeader}
use Rattle.image_steps.specs.Steps.{StandsClear, IsEntryOf, next_tail, TakesEntry, EntriesAreWrites}
use Rattle.log_image.proofs.ChainSteps.{log_entry_words}
use Rattle.image_steps.proofs.Extension.{Extends, Extended, extended}
use Rattle.log_image.proofs.BlockLemmas.{set_here}
use Rattle.log_image.proofs.Clearing.{open_inside}
use Rattle.image_steps.proofs.SlotLemmas.{IsUsed, IsOpen, words_set, placed_set, closed_set}
use Rattle.log_image.proofs.HeaderSteps.{header_shape, header_same, long_words}
use Rattle.image_steps.proofs.KeptHeaders.{keeps_header}
use Rattle.log_image.proofs.NameLemmas.{test_in, fits_blocks, different_join, range_different}
use Rattle.image_steps.proofs.TailLemmas.{split_chain, last_of, AtTail, at_tail, no_lead, name_taken, block_in_blocks, map_in_names, map_new, map_rest}
use Rattle.log_image.proofs.SetWordLemmas.{drop_set, set_header, set_front, set_data, set_named, set_names, tail_inside}
use Rattle.image_steps.proofs.StoreStep.{nothing_after}

-- what a tail that is a slot says
pub record IsSlot (words : List ℕ) (tail block slot : ℕ) : Type 0 where
  pub opens : is_closed (slots_of words) ≡ false
  pub same_block : tail ≡ block
  pub same_slot : 3 + length (entry_words (slots_of words)) ≡ slot

pub slot_tail : (words : List ℕ) (tail block slot : ℕ) → tail_in tail words ≡ AtSlot block slot → IsSlot words tail block slot
slot_tail words tail block slot is = go (is_closed (slots_of words)) refl is
  where
    go : (closed : Bool) → is_closed (slots_of words) ≡ closed → (if closed then AtLink tail else AtSlot tail (3 + length (entry_words (slots_of words)))) ≡ AtSlot block slot → IsSlot words tail block slot
    go true closes tail = cc
    go false opens tail = record { opens = opens; same_block = cc; same_slot = cc }

-- the tail, open, with its first empty slot
pub record OpenTail (shape : Shape) (old : List ℕ) (tail slot : ℕ) : Type 0 where
  pub long : 8 ≤ words_in shape
  pub area : is_in_log shape tail ≡ true
  pub whole : tail * words_in shape + words_in shape ≤ length old
  pub is_log : is_snapshot (block_words old shape tail) ≡ false
  pub opens : is_closed (slots_of (block_words old shape tail)) ≡ false
  pub same_slot : 3 + length (log_entry_words old shape tail) ≡ slot
  pub clear : IsClear old shape (AtSlot tail slot)

-- its words and slots
tail_long : (shape : Shape) (old : List ℕ) (tail slot : ℕ) → OpenTail shape old tail slot → length (block_words old shape tail) ≡ words_in shape
tail_long shape old tail slot is = length_range old (tail * words_in shape) (words_in shape) is.whole

slots_long : (shape : Shape) (old : List ℕ) (tail slot : ℕ) → OpenTail shape old tail slot → length (slots_of (block_words old shape tail)) ≡ words_in shape - 3
slots_long shape old tail slot is = length-drop 3 (block_words old shape tail) ∙ ap (λ (n : ℕ). n - 3) (tail_long shape old tail slot is)

pub slot_small : (shape : Shape) (old : List ℕ) (tail slot : ℕ) → OpenTail shape old tail slot → slot < words_in shape
slot_small shape old tail slot is = omega (arith, is.same_slot, slots_long shape old tail slot is, open_inside (slots_of (block_words old shape tail)) is.opens, is.long)

-- a place after the slot in the block
after_slot : (shape : Shape) (block slot index : ℕ) → slot < index → index < words_in shape → is_after shape (AtSlot block slot) (block * words_in shape + index) ≡ true
after_slot shape block slot index past inside = rw (ne_eqb (block * words_in shape + index) (block * words_in shape) (λ e. omega (arith, e, past)), lt-ltb (block * words_in shape + slot) (block * words_in shape + index) (omega (arith, past)), lt-ltb (block * words_in shape + index) (block * words_in shape + words_in shape) (omega (arith, inside))) refl

-- the link is 0
link_clear : (shape : Shape) (old : List ℕ) (tail slot : ℕ) → OpenTail shape old tail slot → get_or old (tail * words_in shape) 0 ≡ 0
link_clear shape old tail slot is = is.clear (tail * words_in shape) (rw (eq-eqb (tail * words_in shape) (tail * words_in shape) refl) refl)

-- the slots are open, and nothing stands after the first empty one
slots_open : (shape : Shape) (old : List ℕ) (tail slot : ℕ) → OpenTail shape old tail slot → IsOpen (slots_of (block_words old shape tail))
slots_open shape old tail slot is = record {
  open_slots = is.opens;
  clear = λ place past. get_or-drop 3 (block_words old shape tail) place 0 ∙ go (nat_lt (3 + place) (words_in shape)) place refl past;
}
  where
    go : (inside : Bool) → (place : ℕ) → nat_lt (3 + place) (words_in shape) ≡ inside → length (log_entry_words old shape tail) < place → get_or (block_words old shape tail) (3 + place) 0 ≡ 0
    go true place small past =
        in_block old shape tail (3 + place) (ltb-true (3 + place) (words_in shape) small)
        ∙ is.clear (tail * words_in shape + (3 + place)) (after_slot shape tail slot (3 + place) (omega (arith, is.same_slot, past)) (ltb-true (3 + place) (words_in shape) small))
    go false place beyond past = get_or_past (block_words old shape tail) (3 + place) 0 (omega (arith, tail_long shape old tail slot is, ltb-false (3 + place) (words_in shape) beyond))

-- the word of a direct entry is neither empty nor a seal
is_used : (word : ℕ) → is_direct word ≡ true → IsUsed word
is_used word direct =
    let kind : field ENTRY_KIND word ≡ 1 = eqb-true (field ENTRY_KIND word) 1 (both_left (field ENTRY_KIND word == DIRECT) (entry_unnamed word == 0) direct) in
    record {
      some = ne_eqb word 0 (λ e. (let wrong : field ENTRY_KIND 0 ≡ 1 = subst (λ (n : ℕ). field ENTRY_KIND n ≡ 1) e kind in omega (arith, wrong)));
      entry = ne_eqb word 3 (λ e. (let wrong : field ENTRY_KIND 3 ≡ 1 = subst (λ (n : ℕ). field ENTRY_KIND n ≡ 1) e kind in omega (arith, wrong)));
    }

-- the tail with the entry
tail_set : (shape : Shape) (old : List ℕ) (tail slot word : ℕ) → OpenTail shape old tail slot → block_words (set old (tail * words_in shape + slot) word) shape tail ≡ set (block_words old shape tail) slot word
tail_set shape old tail slot word is = set_here shape old tail slot word (slot_small shape old tail slot is) is.whole

slots_set : (shape : Shape) (old : List ℕ) (tail slot word : ℕ) → OpenTail shape old tail slot →
    slots_of (block_words (set old (tail * words_in shape + slot) word) shape tail) ≡ set (slots_of (block_words old shape tail)) (length (log_entry_words old shape tail)) word
slots_set shape old tail slot word is =
    ap (λ (l : List ℕ). slots_of l) (tail_set shape old tail slot word is)
    ∙ ap (λ (n : ℕ). slots_of (set (block_words old shape tail) n word)) (sym is.same_slot)
    ∙ drop_set (block_words old shape tail) (length (log_entry_words old shape tail)) word

-- a word of the tail before its slots is the same
front_word : (shape : Shape) (old : List ℕ) (tail slot word index : ℕ) → OpenTail shape old tail slot → index < 3 → get_or (block_words (set old (tail * words_in shape + slot) word) shape tail) index 0 ≡ get_or (block_words old shape tail) index 0
front_word shape old tail slot word index is small =
    ap (λ (l : List ℕ). get_or l index 0) (tail_set shape old tail slot word is) ∙ get_or-set_other (block_words old shape tail) slot index word 0 (λ e. omega (arith, e, small, is.same_slot))

-- the tail's link is still 0
link_still : (shape : Shape) (old : List ℕ) (tail slot word : ℕ) → OpenTail shape old tail slot → link_of (block_words (set old (tail * words_in shape + slot) word) shape tail) ≡ 0
link_still shape old tail slot word is =
    front_word shape old tail slot word 0 is (omega arith) ∙ in_block old shape tail 0 (omega (arith, is.long)) ∙ ap (λ (n : ℕ). get_or old n 0) (omega arith) ∙ link_clear shape old tail slot is

-- the tail moves on
tail_moves : (shape : Shape) (old : List ℕ) (tail slot word : ℕ) → OpenTail shape old tail slot → IsUsed word → tail_in tail (block_words (set old (tail * words_in shape + slot) word) shape tail) ≡ next_tail shape tail slot
tail_moves shape old tail slot word is used =
    ap (λ (l : List ℕ). if is_closed l then AtLink tail else AtSlot tail (3 + length (entry_words l))) (slots_set shape old tail slot word is)
    ∙ ap (λ (l : List ℕ). if is_closed (set (slots_of (block_words old shape tail)) (length (log_entry_words old shape tail)) word) then AtLink tail else AtSlot tail (3 + length l)) (words_set (slots_of (block_words old shape tail)) word (slots_open shape old tail slot is) used)
    ∙ ap (λ (b : Bool). if b then AtLink tail else AtSlot tail (3 + length (log_entry_words old shape tail ++ word ∷ []))) (closed_set (slots_of (block_words old shape tail)) word (slots_open shape old tail slot is) used ∙ last)
    ∙ ap (λ (n : ℕ). if slot + 1 == words_in shape then AtLink tail else AtSlot tail n) (omega (arith, length-append (log_entry_words old shape tail) (word ∷ []), is.same_slot))
  where
    test : (n long size at : ℕ) → 3 + n ≡ at → long ≡ size - 3 → 8 ≤ size → (n + 1 == long) ≡ (at + 1 == size)
    test n long size at slot_is long_is big = grind (arith, nat_tests)

    last : (length (log_entry_words old shape tail) + 1 == length (slots_of (block_words old shape tail))) ≡ (slot + 1 == words_in shape)
    last = test (length (log_entry_words old shape tail)) (length (slots_of (block_words old shape tail))) (words_in shape) slot is.same_slot (slots_long shape old tail slot is) is.long

-- and nothing stands after it
clear_after : (shape : Shape) (old : List ℕ) (tail slot word : ℕ) → OpenTail shape old tail slot → IsClear (set old (tail * words_in shape + slot) word) shape (next_tail shape tail slot)
clear_after shape old tail slot word is = go (slot + 1 == words_in shape)
  where
    later : (place : ℕ) → (link : Bool) → (place == tail * words_in shape) ≡ link → (link || (nat_lt (tail * words_in shape + (slot + 1)) place && nat_lt place (tail * words_in shape + words_in shape))) ≡ true →
        (place ≢ tail * words_in shape + slot) × (is_after shape (AtSlot tail slot) place ≡ true)
    later place true is_link after = (λ e. omega (arith, e, eqb-true place (tail * words_in shape) is_link, is.same_slot), rw is_link refl)
    later place false is_link after =
        let past : tail * words_in shape + (slot + 1) < place = ltb-true (tail * words_in shape + (slot + 1)) place (both_left (nat_lt (tail * words_in shape + (slot + 1)) place) (nat_lt place (tail * words_in shape + words_in shape)) after) in
        let below : nat_lt place (tail * words_in shape + words_in shape) ≡ true = both_right (nat_lt (tail * words_in shape + (slot + 1)) place) (nat_lt place (tail * words_in shape + words_in shape)) after in
        (λ e. omega (arith, e, past), rw (is_link, below, lt-ltb (tail * words_in shape + slot) place (omega (arith, past))) refl)

    go : (last : Bool) → IsClear (set old (tail * words_in shape + slot) word) shape (if last then AtLink tail else AtSlot tail (slot + 1))
    go true place after = (let never : false ≡ true = after in cc)
    go false place after =
        let both : (place ≢ tail * words_in shape + slot) × (is_after shape (AtSlot tail slot) place ≡ true) = later place (place == tail * words_in shape) refl after in
        get_or-set_other old (tail * words_in shape + slot) place word 0 both.0 ∙ is.clear place both.1

-- the blocks of the entry are named once
named_once : (shape : Shape) (old chain file new_file : List ℕ) (word : ℕ) → IsEntryOf old shape chain file new_file word → all_different (all_names (entries_of old shape chain)) ≡ true → all_different (all_names (entries_of old shape chain ++ direct_meaning word ∷ [])) ≡ true
named_once shape old chain file new_file word entry once =
    subst (λ (l : List ℕ). all_different l ≡ true) (sym (flat_map-append names (entries_of old shape chain) (direct_meaning word ∷ []) ∙ ap (λ (l : List ℕ). all_names (entries_of old shape chain) ++ l) (nothing_after (direct_meaning word).blocks)))
    (different_join (all_names (entries_of old shape chain)) (direct_meaning word).blocks once (range_different (field DIRECT_BLOCK word) (field DIRECT_COUNT word + 1)) (λ b inside. apart b inside (is_listed (direct_meaning word).blocks b) refl))
  where
    apart : (b : ℕ) → is_listed (all_names (entries_of old shape chain)) b ≡ true → (there : Bool) → is_listed (direct_meaning word).blocks b ≡ there → is_listed (direct_meaning word).blocks b ≡ false
    apart b inside false is = is
    apart b inside true is =
        let free : not (is_taken old shape chain b) ≡ true = test_in (λ (n : ℕ). not (is_taken old shape chain n)) (direct_meaning word).blocks b entry.free is in
        absurd (never (is_taken old shape chain b) free (name_taken old shape chain b inside))
      where
        never : (b : Bool) → not b ≡ true → b ≡ true → ⊥
        never b no_b is = cc

-- the new file is held
holds_new : (shape : Shape) (old chain file new_file : List ℕ) (tail slot word : ℕ) → OpenTail shape old tail slot → HasFormat old shape chain → IsEntryOf old shape chain file new_file word →
    HoldsFile old shape (entries_of old shape chain) file → HoldsFile (set old (tail * words_in shape + slot) word) shape (entries_of old shape chain ++ direct_meaning word ∷ []) new_file
holds_new shape old chain file new_file tail slot word is format entry holds = record {
  mapped = λ virt block maps at inside. mapped virt block maps at inside (block_in (direct_meaning word) virt) refl;
  unmapped = λ virt none at inside. unmapped virt none at inside (block_in (direct_meaning word) virt) refl;
}
  where
    small : slot < words_in shape
    small = slot_small shape old tail slot is

    mapped : (virt block : ℕ) → map_of (entries_of old shape chain ++ direct_meaning word ∷ []) virt ≡ Some block → (at : ℕ) → at < shape.block_bytes → (found : Option ℕ) → block_in (direct_meaning word) virt ≡ found →
        get_or (block_content (set old (tail * words_in shape + slot) word) shape block) at 0 ≡ get_or new_file (virt * shape.block_bytes + at) 0
    mapped virt block maps at inside (Some other) found =
        let one : Some other ≡ Some block = sym (map_new (entries_of old shape chain) (direct_meaning word) virt other found) ∙ maps in
        let same : other ≡ block = cc in
        let here : block_in (direct_meaning word) virt ≡ Some block = found ∙ one in
        let stored : is_in_data shape block ≡ true = test_in (is_in_data shape) (direct_meaning word).blocks block (fits_blocks shape (longest_of shape.block_bytes) (direct_meaning word) (both_right (is_direct word) (fits shape (longest_of shape.block_bytes) (direct_meaning word)) entry.fitting)) (block_in_blocks (direct_meaning word) virt block here) in
        ap (λ (l : List ℕ). get_or (word_bytes l) at 0) (set_data shape old tail slot word small is.area block stored) ∙ entry.holds virt block here at inside
    mapped virt block maps at inside None none =
        let before : map_of (entries_of old shape chain) virt ≡ Some block = sym (map_rest (entries_of old shape chain) (direct_meaning word) virt none) ∙ maps in
        ap (λ (l : List ℕ). get_or (word_bytes l) at 0) (set_named shape old chain tail slot word small is.area format block (map_in_names (entries_of old shape chain) virt block before))
        ∙ holds.mapped virt block before at inside ∙ sym (entry.others virt none at inside)

    unmapped : (virt : ℕ) → map_of (entries_of old shape chain ++ direct_meaning word ∷ []) virt ≡ None → (at : ℕ) → at < shape.block_bytes → (found : Option ℕ) → block_in (direct_meaning word) virt ≡ found → get_or new_file (virt * shape.block_bytes + at) 0 ≡ 0
    unmapped virt none at inside (Some other) found = (let wrong : Some other ≡ None = sym (map_new (entries_of old shape chain) (direct_meaning word) virt other found) ∙ none in cc)
    unmapped virt none at inside None found = entry.others virt found at inside ∙ holds.unmapped virt (sym (map_rest (entries_of old shape chain) (direct_meaning word) virt found) ∙ none) at inside

entry_extends : (shape : Shape) (old front : List ℕ) (tail : ℕ) (file new_file : List ℕ) (position slot word : ℕ) → OpenTail shape old tail slot → StandsIn old shape (front ++ tail ∷ []) file position → position + 1 < 2 ^ 40 →
    IsEntryOf old shape (front ++ tail ∷ []) file new_file word → Extends shape old (set old (tail * words_in shape + slot) word) front tail [] (word ∷ [])
entry_extends shape old front tail file new_file position slot word is stands room entry =
    let small : slot < words_in shape = slot_small shape old tail slot is in
    let used : IsUsed word = is_used word (both_left (is_direct word) (fits shape (longest_of shape.block_bytes) (direct_meaning word)) entry.fitting) in
    let header : SameHeader old (set old (tail * words_in shape + slot) word) = set_header shape old tail slot word (omega (arith, is.long)) is.area in
    record {
      head = ap (λ (w : ℕ). field HEAD_BLOCK w) (header.each 3 (omega arith));
      front_same = set_front shape old front tail slot word small stands.is_chain.different;
      names_same = set_names shape old (front ++ tail ∷ []) tail slot word small is.area stands.format;
      word = front_word shape old tail slot word 1 is (omega arith);
      third = front_word shape old tail slot word 2 is (omega arith);
      is_log = is.is_log;
      placed = subst (λ (l : List ℕ). is_seal_placed l ≡ true) (sym (slots_set shape old tail slot word is)) (placed_set (slots_of (block_words old shape tail)) word (slots_open shape old tail slot is) used);
      tail_words = ap (λ (l : List ℕ). entry_words l) (slots_set shape old tail slot word is) ∙ words_set (slots_of (block_words old shape tail)) word (slots_open shape old tail slot is) used;
      onward = no_lead (block_words (set old (tail * words_in shape + slot) word) shape tail)
          (ap (λ (w : ℕ). field BLOCK_KIND w == SNAPSHOT) (front_word shape old tail slot word 1 is (omega arith)) ∙ is.is_log) (link_still shape old tail slot word is);
      more_logs = tt;
      more_empty = refl;
      more_areas = refl;
      more_kinds = refl;
      more_good = refl;
      different = stands.is_chain.different;
      added_fit = ap (λ (b : Bool). b && true) entry.fitting;
      named_once = named_once shape old (front ++ tail ∷ []) file new_file word entry stands.format.named_once;
      below_limit = omega (arith, stands.ends_at, room);
    }

entry_at : (old front : List ℕ) (tail : ℕ) (file new_file : List ℕ) (position slot word : ℕ) → StandsClear old (front ++ tail ∷ []) file position → tail_in tail (block_words old (shape_of old) tail) ≡ AtSlot tail slot → position + 1 < 2 ^ 40 →
    IsEntryOf old (shape_of old) (front ++ tail ∷ []) file new_file word → TakesEntry old (set old (tail * words_in (shape_of old) + slot) word) (front ++ tail ∷ []) new_file position tail slot word
entry_at old front tail file new_file position slot word clear tail_there room entry =
    let shape : Shape = shape_of old in
    let new : List ℕ = set old (tail * words_in (shape_of old) + slot) word in
    let at : AtTail (shape_of old) old front tail = at_tail (shape_of old) old front tail file position clear.stands.stands in
    let open_at : IsSlot (block_words old (shape_of old) tail) tail tail slot = slot_tail (block_words old (shape_of old) tail) tail tail slot tail_there in
    let last : last_block 0 (front ++ tail ∷ []) ≡ tail = last_of 0 front tail in
    let old_tail : tail_of old (shape_of old) (front ++ tail ∷ []) ≡ AtSlot tail slot = ap (λ (b : ℕ). tail_in b (block_words old (shape_of old) b)) last ∙ tail_there in
    let is : OpenTail (shape_of old) old tail slot = record {
      long = long_words old clear.stands.header;
      area = at.area;
      whole = tail_inside old tail clear.stands.header at.area;
      is_log = at.is_log;
      opens = open_at.opens;
      same_slot = open_at.same_slot;
      clear = subst (λ (h : Tail). IsClear old (shape_of old) h) old_tail clear.clear;
    } in
    let used : IsUsed word = is_used word (both_left (is_direct word) (fits (shape_of old) (longest_of (shape_of old).block_bytes) (direct_meaning word)) entry.fitting) in
    let header : SameHeader old (set old (tail * words_in (shape_of old) + slot) word) = set_header (shape_of old) old tail slot word (omega (arith, is.long)) is.area in
    let done : Extended (shape_of old) old (set old (tail * words_in (shape_of old) + slot) word) front tail [] (word ∷ []) =
    extended (shape_of old) old (set old (tail * words_in (shape_of old) + slot) word) front tail [] (word ∷ []) at.began (entry_extends (shape_of old) old front tail file new_file position slot word is clear.stands.stands room entry) in
    let new_tail : tail_of (set old (tail * words_in (shape_of old) + slot) word) (shape_of old) (front ++ tail ∷ []) ≡ next_tail (shape_of old) tail slot =
    ap (λ (b : ℕ). tail_in b (block_words (set old (tail * words_in (shape_of old) + slot) word) (shape_of old) b)) last ∙ tail_moves (shape_of old) old tail slot word is used in
    record {
      header = keeps_header old (set old (tail * words_in (shape_of old) + slot) word) header;
      stands = record {
        stands = record {
          header = header_same old (set old (tail * words_in (shape_of old) + slot) word) header clear.stands.header;
          stands = subst (λ (s : Shape). StandsIn (set old (tail * words_in (shape_of old) + slot) word) s (front ++ tail ∷ []) new_file (position + 1)) (sym (header_shape old (set old (tail * words_in (shape_of old) + slot) word) header)) (record {
            is_chain = done.is_chain;
            format = done.format;
            ends_at = done.position ∙ ap (λ (n : ℕ). n + 1) clear.stands.stands.ends_at;
            ends_with = done.size ∙ ap (λ (n : ℕ). max n (entry_end (shape_of old) (direct_meaning word))) clear.stands.stands.ends_with ∙ sym entry.size;
            holds = subst (λ (l : List Meaning). HoldsFile (set old (tail * words_in (shape_of old) + slot) word) (shape_of old) l new_file) (sym done.entries)
                (holds_new (shape_of old) old (front ++ tail ∷ []) file new_file tail slot word is clear.stands.stands.format entry clear.stands.stands.holds);
          });
        };
        clear = subst (λ (s : Shape). IsClear (set old (tail * words_in (shape_of old) + slot) word) s (tail_of (set old (tail * words_in (shape_of old) + slot) word) s (front ++ tail ∷ []))) (sym (header_shape old (set old (tail * words_in (shape_of old) + slot) word) header))
            (subst (λ (h : Tail). IsClear (set old (tail * words_in (shape_of old) + slot) word) (shape_of old) h) (sym new_tail) (clear_after (shape_of old) old tail slot word is));
      };
      entries = done.entries;
      tail = new_tail;
    }

pub entries_are_writes : EntriesAreWrites
entries_are_writes old [] file new_file position block slot word clear tail_there room entry = absurd clear.stands.stands.is_chain.linked
entries_are_writes old (first ∷ rest) file new_file position block slot word clear tail_there room entry =
    let split : (front : List ℕ) × (first ∷ rest ≡ front ++ last_block first rest ∷ []) = split_chain first rest in
    let same : last_block first rest ≡ block = (slot_tail (block_words old (shape_of old) (last_block first rest)) (last_block first rest) block slot tail_there).same_block in
    subst (λ (l : List ℕ). TakesEntry old (set old (block * words_in (shape_of old) + slot) word) l new_file position block slot word) (sym split.1)
    (subst (λ (b : ℕ). TakesEntry old (set old (b * words_in (shape_of old) + slot) word) (split.0 ++ last_block first rest ∷ []) new_file position b slot word) same
    (entry_at old split.0 (last_block first rest) file new_file position slot word (subst (λ (l : List ℕ). StandsClear old l file position) split.1 clear)
    (tail_there ∙ ap (λ (b : ℕ). AtSlot b slot) (sym same)) room
    (subst (λ (l : List ℕ). IsEntryOf old (shape_of old) l file new_file word) split.1 entry)))
