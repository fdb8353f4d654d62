-- The words of a just-made image, and what is kept of them.
use Rattle.std.proofs.Common.{◌≡◌, ◌≢◌, ◌<◌, ◌≤◌, ◌+◌, ◌*◌, ◌==◌, ◌&&◌, ◌||◌, nat_lt, ℕ, zero, Bool, true, false, List, [], ◌∷◌, length, get_or, set, None, if◌then◌else◌, refl, sym, ap, ◌∙◌, subst, arith}
use Rattle.std.specs.Prelude.{replicate}
use Rattle.std.specs.List.{list_any}
use Rattle.std.proofs.lemmas.Bool.{ne_eqb, eq-eqb, le-ltb}
use Rattle.std.proofs.lemmas.List.{length-replicate, length-set, get_or-drop, length-drop}
use Rattle.std.proofs.lemmas.Bool.Decides.{nat_tests}
use Rattle.std.proofs.Math.Nat.{mul-le-mul_right}
use Rattle.log_image.specs.Entries.{Meaning, all_names}
use Rattle.log_entry.specs.Fields.{field, field_word}
use Rattle.log_entry.specs.Geometry.{HasShape, shape_refusal}
use Rattle.log_entry.specs.Shape.{total_of}
use Rattle.log_entry.specs.Words.{head_word, block_word}
use Rattle.log_entry.specs.declared.layouts.TheConstants.{HEAD_GENERATION}
use Rattle.log_entry.specs.declared.words.BlockKind.TheVariants.{Log}
use Rattle.log_entry.specs.declared.shapes.Geometry.{Geometry}
use Rattle.log_image.specs.Image.{Shape, words_in, total, block_words, shape_by}
use Rattle.log_image.specs.Header.{shape_of, generation_of}
use Rattle.log_image.specs.Blocks.{is_snapshot, slots_of, entry_words, is_closed}
use Rattle.log_image.specs.Positions.{entries_of}
use Rattle.log_image.specs.Tails.{AtSlot, tail_of, IsClear}
use Rattle.log_image.specs.Stands.{StandsBy}
use Rattle.log_image.specs.Taken.{is_taken, HasTaken}
use Rattle.log_image.specs.KeepsStart.{KeepsStart}
use Rattle.log_image.specs.JustMade.{block_power, first_log, made_word, IsJustMade}
use Rattle.log_image.specs.declared.header.TheConstants.{MAGIC, VERSION, HEADER_VERSION, HEADER_BLOCK_POWER, HEADER_DATA, HEADER_LOG}
use Rattle.log_image.proofs.ImageLemmas.{in_block, length_range}
use Rattle.log_image.proofs.MadeImages.{just_made_stands}
use Rattle.chain_reader.proofs.WalkLemmas.{block_range}
use Rattle.image_tools.specs.Made.{HasBitsOf}
use Rattle.image_tools.proofs.BitLemmas.{zeros_at, written_at}

-- the words written in turn, the last of the header first
pub is_made : (shape : Shape) (count at chain head areas version : ℕ) → count ≡ total shape * words_in shape → at ≡ first_log shape * words_in shape + 1 → at < count → 4 ≤ count →
    chain ≡ block_word (record { kind = Log; base = 0 }) → head ≡ head_word (record { generation = 1; block = first_log shape }) → areas ≡ field_word HEADER_DATA shape.data_blocks + field_word HEADER_LOG shape.log_blocks →
    version ≡ field_word HEADER_VERSION VERSION + field_word HEADER_BLOCK_POWER (block_power shape.block_bytes) →
    IsJustMade shape (set (set (set (set (set (replicate count 0) at chain) 3 head) 2 areas) 1 version) 0 MAGIC)
is_made shape count at chain head areas version whole at_is inside few chain_is head_is areas_is version_is = record {
  whole = length-set _ 0 MAGIC ∙ length-set _ 1 version ∙ length-set _ 2 areas ∙ length-set _ 3 head ∙ length-set _ at chain ∙ length-replicate count (zero) ∙ whole;
  each = λ place.
      written_at fourth 0 MAGIC place (omega (arith, long4, few))
      ∙ ap (λ (n : ℕ). if place == 0 then MAGIC else n) (written_at third 1 version place (omega (arith, long3, few))
      ∙ ap (λ (n : ℕ). if place == 1 then version else n) (written_at second 2 areas place (omega (arith, long2, few))
      ∙ ap (λ (n : ℕ). if place == 2 then areas else n) (written_at first 3 head place (omega (arith, long1, few))
      ∙ ap (λ (n : ℕ). if place == 3 then head else n) (written_at (replicate count 0) at chain place (omega (arith, length-replicate count (zero), inside))
      ∙ ap (λ (n : ℕ). if place == at then chain else n) (zeros_at count place)))))
      ∙ same place;
}
  where
    first : List ℕ
    first = set (replicate count 0) at chain

    second : List ℕ
    second = set first 3 head

    third : List ℕ
    third = set second 2 areas

    fourth : List ℕ
    fourth = set third 1 version

    long1 : length first ≡ count
    long1 = length-set (replicate count 0) at chain ∙ length-replicate count (zero)

    long2 : length second ≡ count
    long2 = length-set first 3 head ∙ long1

    long3 : length third ≡ count
    long3 = length-set second 2 areas ∙ long2

    long4 : length fourth ≡ count
    long4 = length-set third 1 version ∙ long3

    same : (place : ℕ) → (if place == 0 then MAGIC else if place == 1 then version else if place == 2 then areas else if place == 3 then head else if place == at then chain else 0) ≡ made_word shape place
    same place = rw (at_is, chain_is, head_is, areas_is, version_is) refl

-- the first log block is in the image
pub log_inside : (geometry : Geometry) → (first_log (shape_by geometry) * words_in (shape_by geometry) + 1 < total (shape_by geometry) * words_in (shape_by geometry)) × (4 ≤ total (shape_by geometry) * words_in (shape_by geometry))
log_inside geometry =
    let most : (first_log (shape_by geometry) + 1) * words_in (shape_by geometry) ≤ total (shape_by geometry) * words_in (shape_by geometry) = mul-le-mul_right (words_in (shape_by geometry)) (omega (arith, geometry.some_log)) in
    parts (first_log (shape_by geometry)) (words_in (shape_by geometry)) (total (shape_by geometry) * words_in (shape_by geometry)) (block_range geometry).0 most
  where
    parts : (log words all : ℕ) → 8 ≤ words → (log + 1) * words ≤ all → (log * words + 1 < all) × (4 ≤ all)
    parts log words all long most = (omega (arith, long, most), omega (arith, long, most))

-- a geometry's numbers are those of a shape that an image may have
pub allowed : (geometry : Geometry) → shape_refusal geometry.data_blocks geometry.log_blocks geometry.block_bytes ≡ None
allowed geometry = rw (geometry.block_allowed, some geometry.data_blocks geometry.some_data, some geometry.log_blocks geometry.some_log, le-ltb 65535 (total_of geometry.data_blocks geometry.log_blocks geometry.block_bytes) geometry.few_blocks) refl
  where
    some : (n : ℕ) → 0 < n → (n == 0) ≡ false
    some n above = ne_eqb n 0 (λ is. omega (arith, is, above))

-- a word that is neither of the header nor the log block's second is 0
pub rest_zero : (shape : Shape) (place : ℕ) → 4 ≤ place → place ≢ first_log shape * words_in shape + 1 → made_word shape place ≡ 0
rest_zero shape place past other =
    rw (ne_eqb place 0 (λ is. omega (arith, past, is)), ne_eqb place 1 (λ is. omega (arith, past, is)), ne_eqb place 2 (λ is. omega (arith, past, is)), ne_eqb place 3 (λ is. omega (arith, past, is)), ne_eqb place (first_log shape * words_in shape + 1) other) refl

pub log_word : (shape : Shape) → 8 ≤ words_in shape → made_word shape (first_log shape * words_in shape + 1) ≡ 4611686018427387904
log_word shape long =
    let far : 1 * words_in shape ≤ first_log shape * words_in shape = mul-le-mul_right (words_in shape) (omega arith) in
    let past : 4 ≤ first_log shape * words_in shape + 1 = omega (arith, far, long) in
    rw (
      ne_eqb (first_log shape * words_in shape + 1) 0 (λ is. omega (arith, past, is)),
      ne_eqb (first_log shape * words_in shape + 1) 1 (λ is. omega (arith, past, is)),
      ne_eqb (first_log shape * words_in shape + 1) 2 (λ is. omega (arith, past, is)),
      ne_eqb (first_log shape * words_in shape + 1) 3 (λ is. omega (arith, past, is)),
      eq-eqb (first_log shape * words_in shape + 1) (first_log shape * words_in shape + 1) refl,
    ) refl

-- the log block of a just-made image
pub record LogIsEmpty (words : List ℕ) (shape : Shape) : Type 0 where
  pub no_snapshot : is_snapshot (block_words words shape (first_log shape)) ≡ false
  pub no_entry : entry_words (slots_of (block_words words shape (first_log shape))) ≡ []
  pub is_open : is_closed (slots_of (block_words words shape (first_log shape))) ≡ false

empty_slots : (slots : List ℕ) → get_or slots 0 0 ≡ 0 → 0 < length slots → (entry_words slots ≡ []) × (is_closed slots ≡ false)
empty_slots [] first some = absurd (omega (arith, some))
empty_slots (slot ∷ slots) first some = (rw first refl, rw first refl)

pub log_empty : (geometry : Geometry) (words : List ℕ) → IsJustMade (shape_by geometry) words → LogIsEmpty words (shape_by geometry)
log_empty geometry words made =
    let second : get_or (block_words words shape (first_log shape)) 1 0 ≡ 4611686018427387904 = in_block words shape (first_log shape) 1 (omega (arith, long)) ∙ made.each (first_log shape * words_in shape + 1) ∙ log_word shape long in
    let slot : get_or (slots_of (block_words words shape (first_log shape))) 0 0 ≡ 0 =
    get_or-drop 3 (block_words words shape (first_log shape)) 0 0 ∙ in_block words shape (first_log shape) 3 (omega (arith, long)) ∙ made.each (first_log shape * words_in shape + 3)
    ∙ rest_zero shape (first_log shape * words_in shape + 3) (omega (arith, far, long)) (λ is. omega (arith, is)) in
    let whole : length (block_words words shape (first_log shape)) ≡ words_in shape = length_range words (first_log shape * words_in shape) (words_in shape) (omega (arith, most, made.whole)) in
    let some : 0 < length (slots_of (block_words words shape (first_log shape))) = rw (length-drop 3 (block_words words shape (first_log shape)), whole) (omega (arith, long)) in
    let slots : (entry_words (slots_of (block_words words shape (first_log shape))) ≡ []) × (is_closed (slots_of (block_words words shape (first_log shape))) ≡ false) = empty_slots (slots_of (block_words words shape (first_log shape))) slot some in
    record {
      no_snapshot = rw second refl;
      no_entry = slots.0;
      is_open = slots.1;
    }
  where
    shape : Shape
    shape = shape_by geometry

    long : 8 ≤ words_in shape
    long = (block_range geometry).0

    far : 1 * words_in shape ≤ first_log shape * words_in shape
    far = mul-le-mul_right (words_in shape) (omega arith)

    most : (first_log shape + 1) * words_in shape ≤ total shape * words_in shape
    most = mul-le-mul_right (words_in shape) (omega (arith, geometry.some_log))

-- no entry is in the chain
no_entries : (words : List ℕ) (shape : Shape) → LogIsEmpty words shape → entries_of words shape (first_log shape ∷ []) ≡ []
no_entries words shape is = rw (is.no_snapshot, is.no_entry) refl

-- nothing stands after its tail
clear_made : (geometry : Geometry) (words : List ℕ) → IsJustMade (shape_by geometry) words → LogIsEmpty words (shape_by geometry) →
    IsClear words (shape_by geometry) (tail_of words (shape_by geometry) (first_log (shape_by geometry) ∷ []))
clear_made geometry words made is = subst (λ h. IsClear words shape h) (sym tail) clear
  where
    shape : Shape
    shape = shape_by geometry

    tail : tail_of words shape (first_log shape ∷ []) ≡ AtSlot (first_log shape) 3
    tail = rw (is.is_open, is.no_entry) refl

    long : 8 ≤ words_in shape
    long = (block_range geometry).0

    far : 1 * words_in shape ≤ first_log shape * words_in shape
    far = mul-le-mul_right (words_in shape) (omega arith)

    link_or_slot : (place from words : ℕ) → 8 ≤ words → 8 ≤ from → (place == from || (nat_lt (from + 3) place && nat_lt place (from + words))) ≡ true → (4 ≤ place) × (place ≢ from + 1)
    link_or_slot place from words many past after = (grind (arith, nat_tests), λ is. grind (arith, nat_tests))

    clear : IsClear words shape (AtSlot (first_log shape) 3)
    clear place after =
        let there : (4 ≤ place) × (place ≢ first_log shape * words_in shape + 1) = link_or_slot place (first_log shape * words_in shape) (words_in shape) long (omega (arith, far, long)) after in
        made.each place ∙ rest_zero shape place there.0 there.1

-- the bitmap has the header and the log block
taken_made : (words : List ℕ) (shape : Shape) (taken : List ℕ) → LogIsEmpty words shape → HasBitsOf (total shape) (first_log shape) taken → HasTaken words shape (first_log shape ∷ []) taken
taken_made words shape taken is bits = record {
  room = bits.room;
  bits = λ block within. bits.bits block within ∙ ap (λ (b : Bool). if b then 1 else 0) (sym (named block));
}
  where
    plain : (a b : Bool) → (a || (b || false)) ≡ (a || b)
    plain true b = refl
    plain false true = refl
    plain false false = refl

    named : (block : ℕ) → is_taken words shape (first_log shape ∷ []) block ≡ (block == 0 || first_log shape == block)
    named block =
        ap (λ (l : List Meaning). block == 0 || list_any (λ (n : ℕ). n == block) (first_log shape ∷ all_names l)) (no_entries words shape is)
        ∙ plain (block == 0) (first_log shape == block)

-- what is kept of a just-made image
pub made_kept : (geometry : Geometry) (words taken : List ℕ) → IsJustMade (shape_by geometry) words → HasBitsOf (total (shape_by geometry)) (first_log (shape_by geometry)) taken → KeepsStart geometry words taken 1 0 0
made_kept geometry words taken made bits =
    let stands : (shape_of words ≡ shape_by geometry) × StandsBy words (first_log (shape_by geometry) ∷ []) [] 0 = just_made_stands (shape_by geometry) words (allowed geometry) made in
    let is : LogIsEmpty words (shape_by geometry) = log_empty geometry words made in
    record {
      chain = first_log (shape_by geometry) ∷ [];
      file = [];
      stands = stands.1;
      same_size = refl;
      same_geometry = subst (λ (s : Shape). HasShape geometry s.data_blocks s.log_blocks s.block_bytes) (sym stands.0) (record { same_data = refl; same_log = refl; same_bytes = refl });
      same_generation = first_generation (first_log (shape_by geometry)) (omega (arith, geometry.few_blocks)) (made.each 3);
      clear = subst (λ (s : Shape). IsClear words s (tail_of words s (first_log (shape_by geometry) ∷ []))) (sym stands.0) (clear_made geometry words made is);
      bitmap = subst (λ (s : Shape). HasTaken words s (first_log (shape_by geometry) ∷ []) taken) (sym stands.0) (taken_made words (shape_by geometry) taken is bits);
    }
  where
    first_generation : (block : ℕ) → block < 65536 → get_or words 3 0 ≡ head_word (record { generation = 1; block = block }) → generation_of words ≡ 1
    first_generation block small is = ap (field HEAD_GENERATION) is ∙ omega (arith, small)
