-- What a header is of which no condition holds.
use Rattle.std.proofs.Common.{◌≡◌, ◌<◌, ◌*◌, ◌==◌, ◌||◌, not, nat_lt, ℕ, Bool, true, false, List, [], ◌∷◌, length, get_or, Option, Some, None, refl, arith}
use Rattle.std.proofs.lemmas.Bool.Decides.{nat_tests}
use Rattle.log_entry.specs.Fields.{field}
use Rattle.log_entry.specs.Geometry.{shape_refusal}
use Rattle.log_entry.specs.declared.shapes.BadShape.{BadShape}
use Rattle.log_entry.specs.declared.layouts.TheConstants.{HEAD_UNNAMED}
use Rattle.log_image.specs.Image.{words_in, total, is_in_log}
use Rattle.log_image.specs.Header.{shape_of, head_block, generation_of, HasHeader}
use Rattle.log_image.specs.declared.header.TheConstants.{MAGIC, VERSION, HEADER_VERSION, HEADER_BLOCK_POWER, HEADER_UNNAMED}
use Rattle.opening_rules.specs.Checks.{check, first}
use Rattle.opening_rules.specs.HeaderChecks.{is_some, is_bad_power, is_refused, is_bad_geometry, is_bad_head, image_bytes, header_checks}
use Rattle.opening_rules.specs.declared.refusals.BadImage.TheVariants.{Short, BadMagic, BadVersion, BadGeometry, BadHead, Long}
use Rattle.opening_rules.proofs.Firsts.{clean_here}

-- none of the header's conditions holds, one by one
pub record CleanHeader (bytes : ℕ) (words : List ℕ) : Type 0 where
  pub some : nat_lt bytes 32 ≡ false
  pub magic : not (get_or words 0 0 == MAGIC) ≡ false
  pub version : not (field HEADER_VERSION (get_or words 1 0) == VERSION) ≡ false
  pub geometry : is_bad_geometry words ≡ false
  pub not_short : nat_lt bytes (image_bytes (shape_of words)) ≡ false
  pub not_long : nat_lt (image_bytes (shape_of words)) bytes ≡ false
  pub head : is_bad_head words ≡ false

pub clean_header : (bytes : ℕ) (words : List ℕ) → first (header_checks bytes words) ≡ None → CleanHeader bytes words
clean_header bytes words clean =
    let seven = check (is_bad_head words) (BadHead (get_or words 3 0)) ∷ [] in
    let six = check (nat_lt (image_bytes (shape_of words)) bytes) (Long bytes) ∷ seven in
    let five = check (nat_lt bytes (image_bytes (shape_of words))) (Short bytes) ∷ six in
    let four = check (is_bad_geometry words) BadGeometry ∷ five in
    let three = check (not (field HEADER_VERSION (get_or words 1 0) == VERSION)) (BadVersion (field HEADER_VERSION (get_or words 1 0))) ∷ four in
    let two = check (not (get_or words 0 0 == MAGIC)) BadMagic ∷ three in
    let a = clean_here (nat_lt bytes 32) (Short bytes) two clean in
    let b = clean_here (not (get_or words 0 0 == MAGIC)) BadMagic three a.1 in
    let c = clean_here (not (field HEADER_VERSION (get_or words 1 0) == VERSION)) (BadVersion (field HEADER_VERSION (get_or words 1 0))) four b.1 in
    let d = clean_here (is_bad_geometry words) BadGeometry five c.1 in
    let e = clean_here (nat_lt bytes (image_bytes (shape_of words))) (Short bytes) six d.1 in
    let f = clean_here (nat_lt (image_bytes (shape_of words)) bytes) (Long bytes) seven e.1 in
    let g = clean_here (is_bad_head words) (BadHead (get_or words 3 0)) [] f.1 in
    record { some = a.0; magic = b.0; version = c.0; geometry = d.0; not_short = e.0; not_long = f.0; head = g.0 }

same : (a b : ℕ) → not (a == b) ≡ false → a ≡ b
same a b is = grind (arith, nat_tests)

neither : (a b c : Bool) → (a || not b || c) ≡ false → (b ≡ true) × (c ≡ false)
neither false true false is = (refl, refl)
neither false true true is = cc
neither false false c is = cc
neither true b c is = cc

no_refusal : (refusal : Option BadShape) → is_some refusal ≡ false → refusal ≡ None
no_refusal None is = refl
no_refusal (Some why) is = cc

head_parts : (a b c : Bool) → (a || not b || not c) ≡ false → (a ≡ false) × (b ≡ true) × (c ≡ true)
head_parts false true true is = (refl, refl, refl)
head_parts false true false is = cc
head_parts false false c is = cc
head_parts true b c is = cc

equal : (a b : ℕ) → (a == b) ≡ true → a ≡ b
equal a b is = grind (arith, nat_tests)

above : (a : ℕ) → (a == 0) ≡ false → 0 < a
above a is = grind (arith, nat_tests)

whole : (bytes count due : ℕ) → bytes ≡ 8 * count → nat_lt bytes (8 * due) ≡ false → nat_lt (8 * due) bytes ≡ false → count ≡ due
whole bytes count due eight short long = grind (arith, nat_tests)

pub allowed : (bytes : ℕ) (words : List ℕ) → CleanHeader bytes words → shape_refusal (shape_of words).data_blocks (shape_of words).log_blocks (shape_of words).block_bytes ≡ None
allowed bytes words clean =
    no_refusal (shape_refusal (shape_of words).data_blocks (shape_of words).log_blocks (shape_of words).block_bytes)
    (neither (is_bad_power (field HEADER_BLOCK_POWER (get_or words 1 0))) (field HEADER_UNNAMED (get_or words 1 0) == 0) (is_refused (shape_of words)) clean.geometry).1

pub has_header : (bytes : ℕ) (words : List ℕ) → CleanHeader bytes words → bytes ≡ 8 * length words → HasHeader words
has_header bytes words clean eight =
    let head = head_parts (generation_of words == 0) (field HEAD_UNNAMED (get_or words 3 0) == 0) (is_in_log (shape_of words) (head_block words)) clean.head in
    record {
      magic = same (get_or words 0 0) MAGIC clean.magic;
      version = same (field HEADER_VERSION (get_or words 1 0)) VERSION clean.version;
      unnamed = equal (field HEADER_UNNAMED (get_or words 1 0)) 0 (neither (is_bad_power (field HEADER_BLOCK_POWER (get_or words 1 0))) (field HEADER_UNNAMED (get_or words 1 0) == 0) (is_refused (shape_of words)) clean.geometry).0;
      allowed = allowed bytes words clean;
      whole = whole bytes (length words) (total (shape_of words) * words_in (shape_of words)) eight clean.not_short clean.not_long;
      head_unnamed = equal (field HEAD_UNNAMED (get_or words 3 0)) 0 head.1;
      generation = above (generation_of words) head.0;
    }

pub head_inside : (bytes : ℕ) (words : List ℕ) → CleanHeader bytes words → is_in_log (shape_of words) (head_block words) ≡ true
head_inside bytes words clean = (head_parts (generation_of words == 0) (field HEAD_UNNAMED (get_or words 3 0) == 0) (is_in_log (shape_of words) (head_block words)) clean.head).2
