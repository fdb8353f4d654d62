-- An owned block that was composed holds its virtual block.
use Rattle.std.proofs.Common.{◌≡◌, ◌≢◌, ◌⊎◌, inl, inr, ℕ, zero, suc, ◌+◌, ◌-◌, ◌*◌, ◌/◌, ◌%◌, ◌<◌, ◌≤◌, ◌&&◌, Bool, true, false, List, [], ◌∷◌, length, slice_index, Option, Some, None, is_some, is_none, refl, sym, ap, subst, ◌∙◌, arith, mul-le-mul_right}
use Rattle.std.specs.List.{slice_range}
use Rattle.std.proofs.lemmas.Bool.{cases_eq}
use Rattle.log_entry.specs.WordBytes.{word_bytes}
use Rattle.log_image.proofs.ImageLemmas.{in_range, length_range}
use Rattle.pmem_words.specs.Maps.{map_at}
use Rattle.pmem_words.specs.Seats.{Seat, Blocks}
use Rattle.log_core.specs.Works.{words_of, content_word}
use Rattle.log_core.proofs.WordBytesAt.{eight_words, byte_in_word}
use Rattle.log_core.proofs.writes.PlacedBytes.{word_has}
use Rattle.log_core.proofs.writes.LaidWrites.{IsOldByte, ByBase, Unmapped}
use Rattle.partial_blocks.specs.Touching.{first_touched, last_touched, touched_count, is_in_part, base_place, lacks}
use Rattle.partial_blocks.specs.Bytes.{byte_of, laid_byte}
use Rattle.partial_blocks.specs.Composing.{base_word, new_word, words_laid, block_set, composed_by, place_composed, places_composed, composed, HasWholeBases}
use Rattle.partial_blocks.specs.Holding.{content_byte, HoldsPlace, HoldsWrite, IsReadyToCompose, bare, ChangesOnly, ComposesPlace, ComposesWrite}
use Rattle.partial_blocks.proofs.WordBack.{laid_inside, laid_outside}
use Rattle.partial_blocks.proofs.BasePlaces.{found_place}
use Rattle.partial_blocks.proofs.WordsLaid.{words_bare, place_bare, places_bare, places_long, base_inside}
use Rattle.partial_blocks.proofs.TouchedBases.{none_lacking}
use Rattle.partial_blocks.proofs.TouchedPlaces.{whole_by, part_at_end}
use Rattle.partial_blocks.proofs.LaidBytes.{byte_of_zero, word_byte, laid_bytes}
use Rattle.partial_blocks.proofs.WordsSet.{range_bytes, set_there}
use Rattle.partial_blocks.proofs.Composed.{laid_there, place_only, places_only}

-- an old byte is one whatever the owned blocks are
pub old_moved : (s : Seat) (blocks : Blocks) (virt at byte : ℕ) → IsOldByte s virt at byte → IsOldByte (record s { blocks = blocks }) virt at byte
old_moved s blocks virt at byte (ByBase by) = ByBase (record { base = by.base; inside = by.inside; virt_is = by.virt_is; known = by.known; is = by.is })
old_moved s blocks virt at byte (Unmapped none is) = Unmapped none is

-- a seat with the same but for its owned blocks
pub by_blocks : (s t : Seat) → bare t ≡ bare s → t ≡ record s { blocks = t.blocks }
by_blocks s t same = ap (λ (u : Seat). record u { blocks = t.blocks }) same

-- a byte of a virtual block as it was read, 0 where it has no base
abbrev pub old_byte : Seat → ℕ → ℕ → ℕ
old_byte s virt at = byte_of (base_word s (base_place s.calling.bases virt) (at / 8)) (at % 8)

-- it is an old byte of a virtual block that is touched in part and not lacking
pub old_known : (offset : ℕ) (s : Seat) (virt : ℕ) → HasWholeBases s → lacks offset s virt ≡ false → is_in_part offset s virt ≡ true → (at : ℕ) → at < s.geometry.block_bytes → IsOldByte s virt at (old_byte s virt at)
old_known offset s virt whole no_lack part at low = go (base_place s.calling.bases virt) refl
  where
    all : 8 * words_of s ≡ s.geometry.block_bytes
    all = eight_words s.geometry.block_bytes s.geometry.block_allowed

    unmapped : (a : Bool) (found base : Option ℕ) → a ≡ true → base ≡ None → (a && is_some found && is_none base) ≡ false → found ≡ None
    unmapped true None base is none lack = refl
    unmapped true (Some block) None is none lack = cc
    unmapped true (Some block) (Some place) is none lack = cc
    unmapped false found base is none _ = cc

    go : (found : Option ℕ) → base_place s.calling.bases virt ≡ found → IsOldByte s virt at (byte_of (base_word s found (at / 8)) (at % 8))
    go None none = Unmapped (unmapped (is_in_part offset s virt) (map_at s.walk.map virt) (base_place s.calling.bases virt) part none no_lack) (byte_of_zero (at % 8))
    go (Some base) is = (let eight = all in
        let inside = base_inside s virt base (at / 8) whole is (omega (arith, eight, low)) in
        let there = inside.1 in
        let wide : base * s.geometry.block_bytes ≡ 8 * (base * words_of s) = ap (λ (n : ℕ). base * n) (sym eight) ∙ omega arith in
        let far : base * s.geometry.block_bytes + at < 8 * length s.calling.base_words = omega (arith, there, wide) in
        let word : (base * s.geometry.block_bytes + at) / 8 ≡ base * words_of s + at / 8 = omega (arith, wide) in
        let rest : (base * s.geometry.block_bytes + at) % 8 ≡ at % 8 = omega (arith, wide) in
        ByBase (record {
          base = base;
          inside = inside.0;
          virt_is = (found_place s.calling.bases virt base is).1;
          known = far;
          is = sym (byte_in_word s.calling.base_words (base * s.geometry.block_bytes + at) far
              ∙ (ap (λ (k : ℕ). slice_index (word_bytes (slice_index s.calling.base_words k ∷ [])) ((base * s.geometry.block_bytes + at) % 8)) word
              ∙ (ap (λ (k : ℕ). slice_index (word_bytes (slice_index s.calling.base_words (base * words_of s + at / 8) ∷ [])) k) rest
              ∙ word_byte (slice_index s.calling.base_words (base * words_of s + at / 8)) (at % 8) (omega arith))));
        }))

module _ (offset place : ℕ) (s : Seat) (ready : IsReadyToCompose offset s) (touched : place < touched_count offset s) where
  abbrev virt : ℕ
  virt = first_touched offset s + place

  abbrev size : ℕ
  size = s.geometry.block_bytes

  abbrev q : ℕ
  q = words_of s

  abbrev bytes : List ℕ
  bytes = s.calling.bytes

  eight : 8 * q ≡ size
  eight = eight_words size s.geometry.block_allowed

  -- it is an old byte where the block is touched in part
  old_is : is_in_part offset s virt ≡ true → (at : ℕ) → at < size → IsOldByte s virt at (old_byte s virt at)
  old_is part at low = old_known offset s virt ready.whole (no_lack (part_at_end offset s ready.in_file place touched part)) part at low
    where
      no_lack : (virt ≡ first_touched offset s) ⊎ (virt ≡ last_touched offset s) → lacks offset s virt ≡ false
      no_lack (inl is) = ap (λ (v : ℕ). lacks offset s v) is ∙ (none_lacking offset s ready.none_lacks).0
      no_lack (inr is) = ap (λ (v : ℕ). lacks offset s v) is ∙ (none_lacking offset s ready.none_lacks).1

  -- blocks whose bytes are the call's laid over the old ones hold the virtual block
  holds_by : (blocks : Blocks) → ((at : ℕ) → at < size → slice_index (word_bytes (slice_index blocks.contents (place * q + at / 8) ∷ [])) (at % 8) ≡ laid_byte offset bytes (virt * size + at) (old_byte s virt at)) →
      ((at : ℕ) → at < size → (virt * size + at < offset) ⊎ (offset + length bytes ≤ virt * size + at) → IsOldByte s virt at (old_byte s virt at)) → HoldsPlace offset place (record s { blocks = blocks })
  holds_by blocks each known = record {
    new = λ at byte low among same. each at low ∙ (laid_inside offset bytes (virt * size + at) (old_byte s virt at) (omega (arith, same)) (omega (arith, same, among))
        ∙ ap (λ (k : ℕ). slice_index bytes k) (let is : virt * size + at - offset ≡ byte = omega (arith, same) in is));
    old = λ at low outside. subst (λ (byte : ℕ). IsOldByte (record s { blocks = blocks }) virt at byte) (sym (each at low ∙ laid_outside offset bytes (virt * size + at) (old_byte s virt at) outside))
        (old_moved s blocks virt at (old_byte s virt at) (known at low outside));
  }

  module _ (owned : place < length s.blocks.owned) where
    room : place * q + q ≤ length s.blocks.contents
    room = (let all = ready.contents in let next : (place + 1) * q ≤ length s.blocks.owned * q = mul-le-mul_right q (omega (arith, owned)) in let split : (place + 1) * q ≡ place * q + q = omega arith in omega (arith, all, next, split))

    held_part : is_in_part offset s virt ≡ true → HoldsPlace offset place (words_laid offset place virt q s)
    held_part part = subst (λ (t : Seat). HoldsPlace offset place t) (sym (by_blocks s (words_laid offset place virt q s) (words_bare offset place virt q s)))
        (holds_by (words_laid offset place virt q s).blocks each (λ at low outside. old_is part at low))
      where
        each : (at : ℕ) → at < size → slice_index (word_bytes (slice_index (words_laid offset place virt q s).blocks.contents (place * q + at / 8) ∷ [])) (at % 8) ≡ laid_byte offset bytes (virt * size + at) (old_byte s virt at)
        each at low = ap (λ (word : ℕ). slice_index (word_bytes (word ∷ [])) (at % 8)) (laid_there offset place virt s q (at / 8) room (let all = eight in omega (arith, all, low)))
            ∙ (word_byte (new_word offset s virt (at / 8)) (at % 8) (omega arith)
            ∙ (laid_bytes offset bytes (virt * size + 8 * (at / 8)) (base_word s (base_place s.calling.bases virt) (at / 8)) (at % 8) ready.bytes (omega arith)
            ∙ ap (λ (k : ℕ). laid_byte offset bytes k (old_byte s virt at)) (let same : virt * size + 8 * (at / 8) + at % 8 ≡ virt * size + at = omega arith in same)))

    held_whole : is_in_part offset s virt ≡ false → HoldsPlace offset place (block_set place (virt * size - offset) s)
    held_whole whole = holds_by (block_set place (virt * size - offset) s).blocks each (λ at low outside. absurd (never at low outside))
      where
        from : ℕ
        from = virt * size - offset

        inside : (offset ≤ virt * size) × (virt * size + size ≤ offset + length bytes)
        inside = whole_by offset s ready.in_file virt whole

        never : (at : ℕ) → at < size → (virt * size + at < offset) ⊎ (offset + length bytes ≤ virt * size + at) → ⊥
        never at low (inl before) = (let i = inside.0 in omega (arith, i, before))
        never at low (inr behind) = (let i = inside.1 in omega (arith, i, behind, low))

        source : List ℕ
        source = slice_range bytes from (from + 8 * q)

        long : length source ≡ 8 * q
        long = length_range bytes from (8 * q) (let i = inside.0 in let j = inside.1 in let all = eight in omega (arith, i, j, all))

        each : (at : ℕ) → at < size → slice_index (word_bytes (slice_index (block_set place from s).blocks.contents (place * q + at / 8) ∷ [])) (at % 8) ≡ laid_byte offset bytes (virt * size + at) (old_byte s virt at)
        each at low = (let all = eight in let many = long in let word : at / 8 < q = omega (arith, all, low) in
            ap (λ (w : ℕ). slice_index (word_bytes (w ∷ [])) (at % 8)) (set_there source s.blocks.contents (place * q) q (at / 8) room word)
            ∙ (word_has source (8 * (at / 8)) (omega (arith, many, word)) (range_bytes bytes from (from + 8 * q) ready.bytes) (at % 8) (omega arith)
            ∙ (in_range bytes from (8 * q) (8 * (at / 8) + at % 8) (omega (arith, all, low))
            ∙ (ap (λ (k : ℕ). slice_index bytes k) (let i = inside.0 in let same : from + (8 * (at / 8) + at % 8) ≡ virt * size + at - offset = omega (arith, i) in same)
            ∙ sym (laid_inside offset bytes (virt * size + at) (old_byte s virt at) (let i = inside.0 in omega (arith, i)) (let i = inside.1 in omega (arith, i, low)))))))

    held_by : (part : Bool) → is_in_part offset s virt ≡ part → HoldsPlace offset place (composed_by part offset place virt s)
    held_by true is = held_part is
    held_by false is = held_whole is

    pub place_holds : HoldsPlace offset place (place_composed offset place s)
    place_holds = held_by (is_in_part offset s virt) refl

-- a block holds what it did where nothing of it changed
pub holds_still : (offset place : ℕ) (s t : Seat) → bare t ≡ bare s → ((word : ℕ) → word < words_of s → content_word t place word ≡ content_word s place word) → HoldsPlace offset place s → HoldsPlace offset place t
holds_still offset place s t rest same holds = subst (λ (u : Seat). HoldsPlace offset place u) (sym (by_blocks s t rest)) (record {
  new = λ at byte low among is. byte_same at low ∙ holds.new at byte low among is;
  old = λ at low outside. subst (λ (byte : ℕ). IsOldByte (record s { blocks = t.blocks }) (first_touched offset s + place) at byte) (sym (byte_same at low))
      (old_moved s t.blocks (first_touched offset s + place) at (content_byte s place at) (holds.old at low outside));
})
  where
    byte_same : (at : ℕ) → at < s.geometry.block_bytes → slice_index (word_bytes (slice_index t.blocks.contents (place * words_of s + at / 8) ∷ [])) (at % 8) ≡ content_byte s place at
    byte_same at low = ap (λ (w : ℕ). slice_index (word_bytes (w ∷ [])) (at % 8))
        (sym (ap (λ (n : ℕ). slice_index t.blocks.contents (place * n + at / 8)) (ap words_of rest)) ∙ same (at / 8) (let all = eight_words s.geometry.block_bytes s.geometry.block_allowed in omega (arith, all, low)))

-- readiness stays
ready_still : (offset : ℕ) (s t : Seat) → bare t ≡ bare s → length t.blocks.contents ≡ length t.blocks.owned * words_of s → IsReadyToCompose offset s → IsReadyToCompose offset t
ready_still offset s t rest long ready = subst (λ (u : Seat). IsReadyToCompose offset u) (sym (by_blocks s t rest)) (record {
  in_file = record { some = ready.in_file.some; inside = ready.in_file.inside };
  bytes = ready.bytes;
  whole = ready.whole;
  contents = long;
  none_lacks = ready.none_lacks;
})

module _ (offset : ℕ) (s : Seat) (ready : IsReadyToCompose offset s) where
  pub places_hold : (count : ℕ) → count ≤ touched_count offset s → count ≤ length s.blocks.owned → (place : ℕ) → place < count → HoldsPlace offset place (places_composed offset count s)
  places_hold zero few least place low = absurd (omega (arith, low))
  places_hold (suc count) few least place low = by (cases_eq place count) (λ before. places_hold count (omega (arith, few)) (omega (arith, least)) place before)
    where
      t : Seat
      t = places_composed offset count s

      first : ChangesOnly (λ other. other < count) s t
      first = places_only offset count s

      now : IsReadyToCompose offset t
      now = ready_still offset s t first.rest (let long = first.long in let all = ready.contents in let many = places_long offset count s in
          let same : length t.blocks.owned * words_of s ≡ length s.blocks.owned * words_of s = ap (λ (n : ℕ). n * words_of s) many in omega (arith, long, all, same)) ready

      by : (place ≡ count) ⊎ (place ≢ count) → (place < count → HoldsPlace offset place t) → HoldsPlace offset place (places_composed offset (suc count) s)
      by (inl here) before = subst (λ (k : ℕ). HoldsPlace offset k (places_composed offset (suc count) s)) (sym here)
          (place_holds offset count t now (let same = ap (λ (u : Seat). touched_count offset u) first.rest in omega (arith, few, same)) (let many = places_long offset count s in omega (arith, least, many)))
      by (inr apart) before = holds_still offset place t (places_composed offset (suc count) s) (place_bare offset count t) (λ word small. (place_only offset count t).others place word apart small) (before (omega (arith, low, apart)))

pub composes_place : ComposesPlace
composes_place offset place s ready touched owned = (place_holds offset place s ready touched owned, place_only offset place s)

pub composes_write : ComposesWrite
composes_write offset s ready least = (holds, places_only offset (touched_count offset s) s)
  where
    holds : HoldsWrite offset (composed offset s)
    holds place low = places_hold offset s ready (touched_count offset s) (omega arith) least place
        (let same = ap (λ (u : Seat). touched_count offset u) (places_bare offset (touched_count offset s) s) in omega (arith, low, same))
