-- A just-made image of any shape stands for the empty file.
use Rattle.std.proofs.Common.{◌≡◌, ◌≤◌, ◌<◌, ◌+◌, ◌*◌, ◌/◌, ◌^◌, ◌==◌, ℕ, Bool, true, false, List, [], ◌∷◌, length, get_or, None, ◌⊎◌, inl, inr, if◌then◌else◌, refl, sym, ap, ◌∙◌, subst, arith}
use Rattle.std.proofs.lemmas.Bool.{ne_eqb, lt-ltb, eq-eqb, eqb-true, eqb-false}
use Rattle.std.proofs.lemmas.List.{get_or-drop, length-drop}
use Rattle.std.proofs.Math.Nat.{mul-le-mul_right}
use Rattle.log_entry.specs.Fields.{field, field_word}
use Rattle.log_entry.specs.Geometry.{shape_refusal}
use Rattle.log_entry.specs.Words.{head_word}
use Rattle.log_entry.specs.declared.layouts.TheConstants.{HEAD_BLOCK, HEAD_UNNAMED, HEAD_GENERATION}
use Rattle.log_image.specs.Image.{Shape, words_in, total, is_in_log, block_words}
use Rattle.log_image.specs.Header.{shape_of, head_block, generation_of, HasHeader}
use Rattle.log_image.specs.Stands.{StandsIn}
use Rattle.log_image.specs.JustMade.{block_power, first_log, made_word, IsJustMade}
use Rattle.log_image.specs.Laws.{JustMadeStands}
use Rattle.log_image.specs.declared.header.TheConstants.{VERSION, HEADER_VERSION, HEADER_BLOCK_POWER, HEADER_UNNAMED, HEADER_DATA, HEADER_LOG}
use Rattle.log_image.proofs.ImageLemmas.{in_block, length_range, Allowed, allowed_shape}
use Rattle.log_image.proofs.EmptyLog.{IsEmptyLog, stands_empty}

-- what a block's bytes are, and what follows for each of the three
pub by_bytes : (P : ℕ → Type 0) (bytes : ℕ) → (bytes ≡ 64) ⊎ ((bytes ≡ 512) ⊎ (bytes ≡ 4096)) → P 64 → P 512 → P 4096 → P bytes
by_bytes P bytes (inl is) small medium large = subst P (sym is) small
by_bytes P bytes (inr (inl is)) small medium large = subst P (sym is) medium
by_bytes P bytes (inr (inr is)) small medium large = subst P (sym is) large

data_field : (data_blocks log_blocks : ℕ) → data_blocks < 4294967296 → field HEADER_DATA (field_word HEADER_DATA data_blocks + field_word HEADER_LOG log_blocks) ≡ data_blocks
data_field data_blocks log_blocks small = omega (arith, small)

log_field : (data_blocks log_blocks : ℕ) → data_blocks < 4294967296 → log_blocks < 4294967296 → field HEADER_LOG (field_word HEADER_DATA data_blocks + field_word HEADER_LOG log_blocks) ≡ log_blocks
log_field data_blocks log_blocks small few = omega (arith, small, few)

head_fields : (block : ℕ) → block < 65536 → (field HEAD_BLOCK (head_word (record { generation = 1; block = block })) ≡ block) × (field HEAD_UNNAMED (head_word (record { generation = 1; block = block })) ≡ 0) × (field HEAD_GENERATION (head_word (record { generation = 1; block = block })) ≡ 1)
head_fields block small = (omega (arith, small), omega (arith, small), omega (arith, small))

-- the word at a place past the header
past_header : (shape : Shape) (place : ℕ) → 4 ≤ place → made_word shape place ≡ (if place == first_log shape * words_in shape + 1 then 4611686018427387904 else 0)
past_header shape place past = rw (ne_eqb place 0 (λ is. omega (arith, past, is)), ne_eqb place 1 (λ is. omega (arith, past, is)), ne_eqb place 2 (λ is. omega (arith, past, is)), ne_eqb place 3 (λ is. omega (arith, past, is))) refl

-- the words of a just-made image, for a shape of which this is known
pub record Made (shape : Shape) (words : List ℕ) : Type 0 where
  pub allowed : Allowed shape.data_blocks shape.log_blocks shape.block_bytes
  pub made : IsJustMade shape words

-- a block has at least 8 words
long_block : (shape : Shape) (words : List ℕ) → Made shape words → 8 ≤ words_in shape
long_block shape words is = by_bytes (λ (b : ℕ). 8 ≤ b / 8) shape.block_bytes is.allowed.bytes_are (omega arith) (omega arith) (omega arith)

-- the log block is not the header
far_block : (shape : Shape) (words : List ℕ) → Made shape words → 8 ≤ first_log shape * words_in shape
far_block shape words is =
    let times : 1 * words_in shape ≤ first_log shape * words_in shape = mul-le-mul_right (words_in shape) (omega arith) in
    omega (arith, long_block shape words is, times)

power_is : (shape : Shape) (words : List ℕ) → Made shape words → 2 ^ field HEADER_BLOCK_POWER (get_or words 1 0) ≡ shape.block_bytes
power_is shape words is = rw (is.made.each 1) (by_bytes (λ (b : ℕ). 2 ^ field HEADER_BLOCK_POWER (field_word HEADER_VERSION VERSION + field_word HEADER_BLOCK_POWER (block_power b)) ≡ b) shape.block_bytes is.allowed.bytes_are refl refl refl)

version_is : (shape : Shape) (words : List ℕ) → Made shape words → field HEADER_VERSION (get_or words 1 0) ≡ VERSION
version_is shape words is = rw (is.made.each 1) (by_bytes (λ (b : ℕ). field HEADER_VERSION (field_word HEADER_VERSION VERSION + field_word HEADER_BLOCK_POWER (block_power b)) ≡ VERSION) shape.block_bytes is.allowed.bytes_are refl refl refl)

unnamed_is : (shape : Shape) (words : List ℕ) → Made shape words → field HEADER_UNNAMED (get_or words 1 0) ≡ 0
unnamed_is shape words is = rw (is.made.each 1) (by_bytes (λ (b : ℕ). field HEADER_UNNAMED (field_word HEADER_VERSION VERSION + field_word HEADER_BLOCK_POWER (block_power b)) ≡ 0) shape.block_bytes is.allowed.bytes_are refl refl refl)

-- the sizes of the areas are less than all blocks
few_data : (shape : Shape) (words : List ℕ) → Made shape words → shape.data_blocks + shape.log_blocks < 65535
few_data shape words is = omega (arith, is.allowed.few)

make_shape : ℕ → ℕ → ℕ → Shape
make_shape data_blocks log_blocks bytes = record { data_blocks = data_blocks; log_blocks = log_blocks; block_bytes = bytes }

data_is : (shape : Shape) (words : List ℕ) → Made shape words → field HEADER_DATA (get_or words 2 0) ≡ shape.data_blocks
data_is shape words is = rw (is.made.each 2) (data_field shape.data_blocks shape.log_blocks (omega (arith, few_data shape words is)))

log_is : (shape : Shape) (words : List ℕ) → Made shape words → field HEADER_LOG (get_or words 2 0) ≡ shape.log_blocks
log_is shape words is = rw (is.made.each 2) (log_field shape.data_blocks shape.log_blocks (omega (arith, few_data shape words is)) (omega (arith, few_data shape words is)))

shape_is : (shape : Shape) (words : List ℕ) → Made shape words → shape_of words ≡ shape
shape_is shape words is = rw (data_is shape words is, log_is shape words is, power_is shape words is) refl

-- the head's fields
head_is : (shape : Shape) (words : List ℕ) → Made shape words → (head_block words ≡ first_log shape) × (field HEAD_UNNAMED (get_or words 3 0) ≡ 0) × (generation_of words ≡ 1)
head_is shape words is = rw (is.made.each 3) (head_fields (first_log shape) (omega (arith, few_data shape words is)))

-- a word of the log block: its second is its kind and base, and any other is 0
log_word : (shape : Shape) (words : List ℕ) → Made shape words → (index : ℕ) → index < words_in shape → get_or (block_words words shape (first_log shape)) index 0 ≡ (if index == 1 then 4611686018427387904 else 0)
log_word shape words is index inside =
    in_block words shape (first_log shape) index inside
    ∙ is.made.each (first_log shape * words_in shape + index)
    ∙ past_header shape (first_log shape * words_in shape + index) (omega (arith, far_block shape words is))
    ∙ ap (λ (b : Bool). if b then 4611686018427387904 else 0) (same_test (first_log shape * words_in shape) index (index == 1) refl)
  where
    same_test : (at index : ℕ) (same : Bool) → (index == 1) ≡ same → (at + index == at + 1) ≡ (index == 1)
    same_test at index true is = eq-eqb (at + index) (at + 1) (omega (arith, eqb-true index 1 is)) ∙ sym is
    same_test at index false is = ne_eqb (at + index) (at + 1) (λ e. eqb-false index 1 is (omega (arith, e))) ∙ sym is

-- the log block has all its words
log_length : (shape : Shape) (words : List ℕ) → Made shape words → length (block_words words shape (first_log shape)) ≡ words_in shape
log_length shape words is =
    let inside : (first_log shape + 1) * words_in shape ≤ total shape * words_in shape = mul-le-mul_right (words_in shape) (omega (arith, is.allowed.some_log)) in
    length_range words (first_log shape * words_in shape) (words_in shape) (omega (arith, inside, is.made.whole))

empty_log : (shape : Shape) (words : List ℕ) → Made shape words → IsEmptyLog (block_words words shape (first_log shape))
empty_log shape words is =
    let long : 8 ≤ words_in shape = long_block shape words is in
    record {
      word = log_word shape words is 1 (omega (arith, long));
      third = log_word shape words is 2 (omega (arith, long));
      first = get_or-drop 3 (block_words words shape (first_log shape)) 0 0 ∙ log_word shape words is 3 (omega (arith, long));
      some = rw (length-drop 3 (block_words words shape (first_log shape)), log_length shape words is) (omega (arith, long));
    }

in_log_area : (shape : Shape) (words : List ℕ) → Made shape words → is_in_log shape (first_log shape) ≡ true
in_log_area shape words is = rw (lt-ltb shape.data_blocks (first_log shape) (omega arith), lt-ltb (first_log shape) (total shape) (omega (arith, is.allowed.some_log))) refl

made_header : (shape : Shape) (words : List ℕ) → Made shape words → shape_refusal shape.data_blocks shape.log_blocks shape.block_bytes ≡ None → HasHeader words
made_header shape words is allowed = record {
  magic = is.made.each 0;
  version = version_is shape words is;
  unnamed = unnamed_is shape words is;
  allowed = subst (λ (s : Shape). shape_refusal s.data_blocks s.log_blocks s.block_bytes ≡ None) (sym (shape_is shape words is)) allowed;
  whole = subst (λ (s : Shape). length words ≡ total s * words_in s) (sym (shape_is shape words is)) is.made.whole;
  head_unnamed = (head_is shape words is).1;
  generation = rw (head_is shape words is).2 (omega arith);
}

pub just_made_stands : JustMadeStands
just_made_stands shape words allowed made =
    let is : Made shape words = record { allowed = allowed_shape shape.data_blocks shape.log_blocks shape.block_bytes allowed; made = made } in (
      shape_is shape words is,
      record {
        header = made_header shape words is allowed;
        stands = subst (λ (s : Shape). StandsIn words s (first_log shape ∷ []) [] 0) (sym (shape_is shape words is))
            (stands_empty words shape (first_log shape) (head_is shape words is).0 (in_log_area shape words is) (empty_log shape words is));
      },
    )
