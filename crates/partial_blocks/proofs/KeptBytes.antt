-- What a call that lost an exchange still knows of the bytes that are there.
use Rattle.std.proofs.Common.{◌≡◌, ◌≢◌, ◌⊎◌, inl, inr, ℕ, zero, suc, ◌+◌, ◌-◌, ◌*◌, ◌/◌, ◌%◌, ◌<◌, ◌≤◌, ◌==◌, ◌&&◌, ◌||◌, not, Bool, true, false, if◌then◌else◌, List, [], ◌∷◌, ◌++◌, length, take, drop, slice_index, Option, Some, None, is_some, refl, sym, ap, subst, ◌∙◌, arith, mul-le-mul_right, length-append}
use Rattle.std.specs.Option.{option_or}
use Rattle.std.proofs.lemmas.Bool.{and_parts, lt-leb}
use Rattle.std.proofs.lemmas.List.{length-take, length-drop, take-append-drop, get_or_append_left}
use Rattle.log_entry.specs.WordBytes.{word_bytes}
use Rattle.log_entry.specs.declared.shapes.Geometry.{Geometry}
use Rattle.log_image.specs.Entries.{Meaning}
use Rattle.log_image.specs.Maps.{block_in}
use Rattle.log_image.specs.Chains.{is_listed, all_different}
use Rattle.pmem_words.specs.Maps.{map_at}
use Rattle.pmem_words.specs.Seats.{Seat}
use Rattle.log_core.specs.Works.{touches, bases_left, base_words_left, with_entry, with_entry_from, words_of}
use Rattle.log_core.proofs.BaseWords.{earlier_byte, later_byte}
use Rattle.log_core.proofs.Fronts.{not_again}
use Rattle.log_core.proofs.WordBytesAt.{eight_words}
use Rattle.log_core.proofs.writes.LaidWrites.{IsBaseByte, IsOldByte, ByBase, Unmapped}
use Rattle.partial_blocks.specs.Touching.{first_touched, is_in_part, HasTouchedBases}
use Rattle.partial_blocks.specs.Holding.{content_byte, byte_place}
use Rattle.partial_blocks.specs.BasesWithin.{with_bases}
use Rattle.partial_blocks.specs.KeptBytes.{TakingKeeps, KeepsPlace, ReadingKeeps}
use Rattle.partial_blocks.proofs.BasePlaces.{listed_there}
use Rattle.partial_blocks.proofs.HeldPlaces.{old_byte, old_known}

-- of different bases, one stands at one place
unique_place : (bases : List ℕ) → all_different bases ≡ true → (i j : ℕ) → i < length bases → j < length bases → slice_index bases i ≡ slice_index bases j → i ≡ j
unique_place [] once i j low high same = absurd (omega (arith, low))
unique_place (base ∷ bases) once zero zero low high same = refl
unique_place (base ∷ bases) once zero (suc j) low high same = absurd (not_again base bases once (subst (λ (v : ℕ). is_listed bases v ≡ true) (sym same) (listed_there bases j (omega (arith, high)))))
unique_place (base ∷ bases) once (suc i) zero low high same = absurd (not_again base bases once (subst (λ (v : ℕ). is_listed bases v ≡ true) same (listed_there bases i (omega (arith, low)))))
unique_place (base ∷ bases) once (suc i) (suc j) low high same = ap suc (unique_place bases (and_parts (not (is_listed bases base)) (all_different bases) once).1 i j (omega (arith, low)) (omega (arith, high)) same)

-- so an old byte is one
pub old_unique : (offset : ℕ) (s : Seat) → HasTouchedBases offset s → (virt at first second : ℕ) → IsOldByte s virt at first → IsOldByte s virt at second → first ≡ second
old_unique offset s has virt at first second (ByBase a) (ByBase b) =
    (let same : a.base ≡ b.base = unique_place s.calling.bases has.once a.base b.base a.inside b.inside (a.virt_is ∙ sym b.virt_is) in
    a.is ∙ (ap (λ (k : ℕ). slice_index (word_bytes s.calling.base_words) (k * s.geometry.block_bytes + at)) same ∙ sym b.is))
old_unique offset s has virt at first second (Unmapped none zero_first) (Unmapped other zero_second) = zero_first ∙ sym zero_second
old_unique offset s has virt at first second (ByBase a) (Unmapped none is) = absurd (never a none)
  where
    never : IsBaseByte s virt at first → map_at s.walk.map virt ≡ None → ⊥
    never a none = (let there = has.mapped virt (subst (λ (v : ℕ). is_listed s.calling.bases v ≡ true) a.virt_is (listed_there s.calling.bases a.base a.inside)) in
        let both : is_some {T = ℕ} None ≡ true = ap (λ (found : Option ℕ). is_some found) (sym none) ∙ there in cc)
old_unique offset s has virt at first second (Unmapped none is) (ByBase b) = absurd (never b none)
  where
    never : IsBaseByte s virt at second → map_at s.walk.map virt ≡ None → ⊥
    never a none = (let there = has.mapped virt (subst (λ (v : ℕ). is_listed s.calling.bases v ≡ true) a.virt_is (listed_there s.calling.bases a.base a.inside)) in
        let both : is_some {T = ℕ} None ≡ true = ap (λ (found : Option ℕ). is_some found) (sym none) ∙ there in cc)

-- the bases that an entry leaves
left_listed : (meaning : Meaning) (bases : List ℕ) (virt : ℕ) → is_listed (bases_left meaning bases) virt ≡ true → is_listed bases virt ≡ true
left_listed meaning [] virt listed = cc
left_listed meaning (base ∷ bases) virt listed = go (touches meaning base) listed (left_listed meaning bases virt)
  where
    go : (touched : Bool) → is_listed (if not touched then base ∷ bases_left meaning bases else bases_left meaning bases) virt ≡ true → (is_listed (bases_left meaning bases) virt ≡ true → is_listed bases virt ≡ true) →
        ((base == virt) || is_listed bases virt) ≡ true
    go true some rest = Rattle.log_image.proofs.NameLemmas.or_right (base == virt) (is_listed bases virt) (rest some)
    go false some rest = by (base == virt) some
      where
        by : (b : Bool) → (b || is_listed (bases_left meaning bases) virt) ≡ true → (b || is_listed bases virt) ≡ true
        by true some = refl
        by false some = rest some

left_once : (meaning : Meaning) (bases : List ℕ) → all_different bases ≡ true → all_different (bases_left meaning bases) ≡ true
left_once meaning [] once = refl
left_once meaning (base ∷ bases) once = go (touches meaning base) (left_once meaning bases (and_parts (not (is_listed bases base)) (all_different bases) once).1)
  where
    none : (b : Bool) → is_listed (bases_left meaning bases) base ≡ b → b ≡ false
    none false is = refl
    none true is = absurd (not_again base bases once (left_listed meaning bases base is))

    go : (touched : Bool) → all_different (bases_left meaning bases) ≡ true → all_different (if not touched then base ∷ bases_left meaning bases else bases_left meaning bases) ≡ true
    go true rest = rest
    go false rest = rw (none (is_listed (bases_left meaning bases) base) refl, rest) refl

module _ (q size : ℕ) (same_size : size ≡ 8 * q) (meaning : Meaning) where
  left_whole : (bases words : List ℕ) → length words ≡ length bases * q → length (base_words_left q meaning bases words) ≡ length (bases_left meaning bases) * q
  left_whole [] words whole = omega arith
  left_whole (base ∷ bases) words whole = go (touches meaning base) (left_whole bases (drop q words) dropped)
    where
      split : length (base ∷ bases) * q ≡ length bases * q + q
      split = omega arith

      dropped : length (drop q words) ≡ length bases * q
      dropped = length-drop q words ∙ (let all = split in omega (arith, whole, all))

      go : (touched : Bool) → length (base_words_left q meaning bases (drop q words)) ≡ length (bases_left meaning bases) * q →
          length (if touched then base_words_left q meaning bases (drop q words) else take q words ++ base_words_left q meaning bases (drop q words))
          ≡ length (if not touched then base ∷ bases_left meaning bases else bases_left meaning bases) * q
      go true rest = rest
      go false rest = length-append (take q words) (base_words_left q meaning bases (drop q words))
          ∙ (let first = length-take q words in let all = split in let turn : length (base ∷ bases_left meaning bases) * q ≡ length (bases_left meaning bases) * q + q = omega arith in omega (arith, rest, first, whole, all, turn))

  -- a base that is left stood at a place, with the same bytes
  pub record StoodAt (bases words : List ℕ) (virt at byte : ℕ) : Type 0 where
    pub base : ℕ
    pub inside : base < length bases
    pub virt_is : slice_index bases base ≡ virt
    pub is : byte ≡ slice_index (word_bytes words) (base * size + at)

  -- one place later
  later : (base : ℕ) (bases words : List ℕ) (virt at byte : ℕ) → q ≤ length words → StoodAt bases (drop q words) virt at byte → StoodAt (base ∷ bases) words virt at byte
  later base bases words virt at byte long there = record {
    base = suc there.base;
    inside = (let low = there.inside in omega (arith, low));
    virt_is = there.virt_is;
    is = there.is ∙ (sym (later_byte (take q words) (drop q words) (there.base * size + at))
        ∙ (ap (λ (l : List ℕ). slice_index (word_bytes l) (8 * length (take q words) + (there.base * size + at))) (take-append-drop q words)
        ∙ ap (λ (k : ℕ). slice_index (word_bytes words) k) (let first = length-take q words in let next : suc there.base * size ≡ there.base * size + size = omega arith in
        let same : 8 * length (take q words) + (there.base * size + at) ≡ suc there.base * size + at = omega (arith, first, long, same_size, next) in same)));
  }

  stood : (bases words : List ℕ) → length words ≡ length bases * q → (base at : ℕ) → base < length (bases_left meaning bases) → at < size →
      StoodAt bases words (slice_index (bases_left meaning bases) base) at (slice_index (word_bytes (base_words_left q meaning bases words)) (base * size + at))
  stood [] words whole base at inside low = absurd (omega (arith, inside))
  stood (first ∷ bases) words whole base at inside low = go (touches meaning first) base inside (λ k below. stood bases (drop q words) dropped k at below low)
    where
      split : length (first ∷ bases) * q ≡ length bases * q + q
      split = omega arith

      long : q ≤ length words
      long = (let all = split in omega (arith, whole, all))

      dropped : length (drop q words) ≡ length bases * q
      dropped = length-drop q words ∙ (let all = split in omega (arith, whole, all))

      rest : List ℕ
      rest = base_words_left q meaning bases (drop q words)

      eight : 8 * length (take q words) ≡ size
      eight = (let taken = length-take q words in let all = long in omega (arith, taken, all, same_size))

      go : (touched : Bool) (k : ℕ) → k < length (if not touched then first ∷ bases_left meaning bases else bases_left meaning bases) →
          ((k : ℕ) → k < length (bases_left meaning bases) → StoodAt bases (drop q words) (slice_index (bases_left meaning bases) k) at (slice_index (word_bytes (base_words_left q meaning bases (drop q words))) (k * size + at))) →
          StoodAt (first ∷ bases) words (slice_index (if not touched then first ∷ bases_left meaning bases else bases_left meaning bases) k) at
          (slice_index (word_bytes (if touched then base_words_left q meaning bases (drop q words) else take q words ++ base_words_left q meaning bases (drop q words))) (k * size + at))
      go true k below each = later first bases words _ at _ long (each k below)
      go false zero below each = record {
        base = 0;
        inside = omega arith;
        virt_is = refl;
        is = (let all = eight in let here : 0 * size + at < 8 * length (take q words) = omega (arith, low, all) in
            earlier_byte (take q words) rest (0 * size + at) here
            ∙ (sym (earlier_byte (take q words) (drop q words) (0 * size + at) here) ∙ ap (λ (l : List ℕ). slice_index (word_bytes l) (0 * size + at)) (take-append-drop q words)));
      }
      go false (suc k) below each = later first bases words _ at _ long (subst (λ (byte : ℕ). StoodAt bases (drop q words) (slice_index (bases_left meaning bases) k) at byte)
          (sym (ap (λ (n : ℕ). slice_index (word_bytes (take q words ++ rest)) n) (let all = eight in let next : suc k * size ≡ k * size + size = omega arith in
          let same : suc k * size + at ≡ 8 * length (take q words) + (k * size + at) = omega (arith, all, next) in same)
          ∙ later_byte (take q words) rest (k * size + at)))
          (each k (omega (arith, below))))

-- a block that no entry maps later was mapped by none
none_from : (first : ℕ) (meaning : Meaning) (map : List (Option ℕ)) (virt : ℕ) → map_at (with_entry_from first meaning map) virt ≡ None → map_at map virt ≡ None
none_from first meaning [] virt none = refl
none_from first meaning (held ∷ map) zero none = second (block_in meaning first) held none
  where
    second : (a b : Option ℕ) → option_or a b ≡ None → b ≡ None
    second None b is = is
    second (Some x) b is = cc
none_from first meaning (held ∷ map) (suc virt) none = none_from (first + 1) meaning map virt none

none_before : (meaning : Meaning) (map : List (Option ℕ)) (virt : ℕ) → map_at (with_entry meaning map) virt ≡ None → map_at map virt ≡ None
none_before meaning map virt none = none_from 0 meaning map virt none

pub taking_keeps : TakingKeeps
taking_keeps offset s meaning has = (
  record {
    map_grows = λ virt none. none_before meaning s.walk.map virt none;
    bases = λ virt at byte low by. (let all = sym (eight_words s.geometry.block_bytes s.geometry.block_allowed) in
        let there = stood (words_of s) s.geometry.block_bytes all meaning s.calling.bases s.calling.base_words has.whole by.base at by.inside low in
        record {
          base = there.base;
          inside = there.inside;
          virt_is = there.virt_is ∙ by.virt_is;
          known = (let inside = there.inside in let whole = has.whole in
              let next : (there.base + 1) * words_of s ≤ length s.calling.bases * words_of s = mul-le-mul_right (words_of s) (omega (arith, inside)) in
              let split : (there.base + 1) * words_of s ≡ there.base * words_of s + words_of s = omega arith in
              let wide : there.base * s.geometry.block_bytes ≡ 8 * (there.base * words_of s) = ap (λ (n : ℕ). there.base * n) all ∙ omega arith in
              omega (arith, whole, next, split, wide, low, all));
          is = by.is ∙ there.is;
        });
  },
  record {
    once = left_once meaning s.calling.bases has.once;
    each = λ virt listed. has.each virt (left_listed meaning s.calling.bases virt listed);
    mapped = λ virt listed. still virt (has.mapped virt (left_listed meaning s.calling.bases virt listed));
    whole = left_whole (words_of s) s.geometry.block_bytes (sym (eight_words s.geometry.block_bytes s.geometry.block_allowed)) meaning s.calling.bases s.calling.base_words has.whole;
  },
)
  where
    still : (virt : ℕ) → is_some (map_at s.walk.map virt) ≡ true → is_some (map_at (with_entry meaning s.walk.map) virt) ≡ true
    still virt some = go (map_at (with_entry meaning s.walk.map) virt) refl
      where
        go : (found : Option ℕ) → map_at (with_entry meaning s.walk.map) virt ≡ found → is_some found ≡ true
        go (Some block) is = refl
        go None is = (let both : is_some {T = ℕ} None ≡ true = ap (λ (found : Option ℕ). is_some found) (sym (none_before meaning s.walk.map virt is)) ∙ some in cc)

pub keeps_place : KeepsPlace
keeps_place offset place s t same kept has whole in_file touched no_lack content holds = record {
  new = λ at byte low among is. byte_same at low
      ∙ (holds.new at byte (subst (λ (n : ℕ). at < n) size low) (subst (λ (l : List ℕ). byte < length l) same.bytes among) (sym (at_same at) ∙ is) ∙ ap (λ (l : List ℕ). slice_index l byte) (sym same.bytes));
  old = λ at low outside. old at low outside;
}
  where
    size : t.geometry.block_bytes ≡ s.geometry.block_bytes
    size = ap (λ (g : Geometry). g.block_bytes) same.geometry

    first : first_touched offset t ≡ first_touched offset s
    first = ap (λ (n : ℕ). offset / n) size

    at_same : (at : ℕ) → byte_place offset t place at ≡ byte_place offset s place at
    at_same at = ap (λ (n : ℕ). (offset / n + place) * n + at) size

    byte_same : (at : ℕ) → at < t.geometry.block_bytes → content_byte t place at ≡ content_byte s place at
    byte_same at low = ap (λ (w : ℕ). slice_index (word_bytes (w ∷ [])) (at % 8)) (content (at / 8) (let all = eight_words s.geometry.block_bytes s.geometry.block_allowed in let here = size in omega (arith, all, here, low)))

    virt : ℕ
    virt = first_touched offset t + place

    old_part : (at : ℕ) → at < t.geometry.block_bytes → (byte_place offset t place at < offset) ⊎ (offset + length t.calling.bytes ≤ byte_place offset t place at) → is_in_part offset t (first_touched offset t + place) ≡ true
    old_part at low (inl before) = rw (lt-leb offset ((first_touched offset t + place) * t.geometry.block_bytes) (omega (arith, before))) refl
    old_part at low (inr behind) = go (Rattle.std.proofs.Common.nat_le offset ((first_touched offset t + place) * t.geometry.block_bytes))
        (lt-leb ((first_touched offset t + place) * t.geometry.block_bytes + t.geometry.block_bytes) (offset + length t.calling.bytes) (omega (arith, behind, low)))
      where
        go : (b : Bool) → Rattle.std.proofs.Common.nat_le ((first_touched offset t + place) * t.geometry.block_bytes + t.geometry.block_bytes) (offset + length t.calling.bytes) ≡ false →
            not (b && Rattle.std.proofs.Common.nat_le ((first_touched offset t + place) * t.geometry.block_bytes + t.geometry.block_bytes) (offset + length t.calling.bytes)) ≡ true
        go true is = rw (is) refl
        go false is = refl

    earlier : (at byte : ℕ) → at < t.geometry.block_bytes → IsOldByte t (first_touched offset t + place) at byte → IsOldByte s (first_touched offset t + place) at byte
    earlier at byte low (ByBase by) = ByBase (kept.bases (first_touched offset t + place) at byte low by)
    earlier at byte low (Unmapped none is) = Unmapped (kept.map_grows (first_touched offset t + place) none) is

    old : (at : ℕ) → at < t.geometry.block_bytes → (byte_place offset t place at < offset) ⊎ (offset + length t.calling.bytes ≤ byte_place offset t place at) → IsOldByte t (first_touched offset t + place) at (content_byte t place at)
    old at low outside =
        (let now = old_known offset t (first_touched offset t + place) whole no_lack (old_part at low outside) at low in
        let before : IsOldByte s (first_touched offset t + place) at (content_byte s place at) = subst (λ (v : ℕ). IsOldByte s (v + place) at (content_byte s place at)) (sym first) (holds.old at (subst (λ (n : ℕ). at < n) size low) (there outside)) in
        subst (λ (byte : ℕ). IsOldByte t (first_touched offset t + place) at byte)
        (old_unique offset s has (first_touched offset t + place) at (old_byte t (first_touched offset t + place) at) (content_byte s place at) (earlier at (old_byte t (first_touched offset t + place) at) low now) before ∙ sym (byte_same at low)) now)
      where
        there : (byte_place offset t place at < offset) ⊎ (offset + length t.calling.bytes ≤ byte_place offset t place at) → (byte_place offset s place at < offset) ⊎ (offset + length s.calling.bytes ≤ byte_place offset s place at)
        there (inl low) = inl (let is = at_same at in omega (arith, is, low))
        there (inr high) = inr (let is = at_same at in let long = ap (λ (l : List ℕ). length l) same.bytes in omega (arith, is, long, high))

pub reading_keeps : ReadingKeeps
reading_keeps offset place s bases words holds = record {
  new = λ at byte low among is. holds.new at byte low among is;
  old = λ at low outside. more at (content_byte s place at) (holds.old at low outside);
}
  where
    more : (at byte : ℕ) → IsOldByte s (first_touched offset s + place) at byte → IsOldByte (with_bases bases words s) (first_touched offset s + place) at byte
    more at byte (ByBase by) = ByBase (record {
      base = by.base;
      inside = (let low = by.inside in let long = length-append s.calling.bases bases in omega (arith, low, long));
      virt_is = get_or_append_left s.calling.bases bases 0 by.base by.inside ∙ by.virt_is;
      known = (let low = by.known in let long = length-append s.calling.base_words words in omega (arith, low, long));
      is = by.is ∙ sym (earlier_byte s.calling.base_words words (by.base * s.geometry.block_bytes + at) by.known);
    })
    more at byte (Unmapped none is) = Unmapped none is
