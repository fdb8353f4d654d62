-- Of a header that the format allows no condition holds.
use Rattle.std.proofs.Common.{◌≡◌, ◌<◌, ◌≤◌, ◌+◌, ◌*◌, ◌/◌, ◌^◌, ◌==◌, ◌||◌, not, nat_lt, ℕ, true, false, List, [], ◌∷◌, length, get_or, None, ◌⊎◌, inl, inr, refl, sym, ◌∙◌, subst, arith}
use Rattle.std.proofs.lemmas.Bool.{cases_lt, le-ltb, eq-eqb, ne_eqb, or_from, not_from_true}
use Rattle.std.proofs.lemmas.Nat.{pow_below}
use Rattle.log_entry.specs.Shape.{spare_blocks_of}
use Rattle.log_entry.specs.Fields.{field}
use Rattle.log_entry.specs.declared.layouts.TheConstants.{HEAD_UNNAMED}
use Rattle.log_image.specs.Image.{words_in, total, is_in_log}
use Rattle.log_image.specs.Header.{shape_of, head_block, generation_of, HasHeader}
use Rattle.log_image.specs.declared.header.TheConstants.{MAGIC, VERSION, HEADER_VERSION, HEADER_BLOCK_POWER, HEADER_UNNAMED}
use Rattle.log_image.proofs.ImageLemmas.{allowed_shape}
use Rattle.log_image.proofs.MadeImages.{by_bytes}
use Rattle.opening_rules.specs.Checks.{check, first}
use Rattle.opening_rules.specs.HeaderChecks.{is_bad_power, is_refused, is_bad_geometry, is_bad_head, image_bytes, header_checks}
use Rattle.opening_rules.specs.declared.refusals.BadImage.TheVariants.{Short, BadMagic, BadVersion, BadGeometry, BadHead, Long}
use Rattle.opening_rules.proofs.Firsts.{skip}
use Rattle.opening_rules.proofs.HeaderFacts.{CleanHeader}

-- where no condition holds, one by one, none of the header's does
each_passes : (bytes : ℕ) (words : List ℕ) → CleanHeader bytes words → first (header_checks bytes words) ≡ None
each_passes bytes words clean =
    let seven = check (is_bad_head words) (BadHead (get_or words 3 0)) ∷ [] in
    let six = check (nat_lt (image_bytes (shape_of words)) bytes) (Long bytes) ∷ seven in
    let five = check (nat_lt bytes (image_bytes (shape_of words))) (Short bytes) ∷ six in
    let four = check (is_bad_geometry words) BadGeometry ∷ five in
    let three = check (not (field HEADER_VERSION (get_or words 1 0) == VERSION)) (BadVersion (field HEADER_VERSION (get_or words 1 0))) ∷ four in
    let two = check (not (get_or words 0 0 == MAGIC)) BadMagic ∷ three in
    skip (nat_lt bytes 32) (Short bytes) two clean.some
    ∙ skip (not (get_or words 0 0 == MAGIC)) BadMagic three clean.magic
    ∙ skip (not (field HEADER_VERSION (get_or words 1 0) == VERSION)) (BadVersion (field HEADER_VERSION (get_or words 1 0))) four clean.version
    ∙ skip (is_bad_geometry words) BadGeometry five clean.geometry
    ∙ skip (nat_lt bytes (image_bytes (shape_of words))) (Short bytes) six clean.not_short
    ∙ skip (nat_lt (image_bytes (shape_of words)) bytes) (Long bytes) seven clean.not_long
    ∙ skip (is_bad_head words) (BadHead (get_or words 3 0)) [] clean.head

-- a block's bytes are one of three powers of 2
same_power : (power other : ℕ) → 2 ^ power ≡ 2 ^ other → power ≡ other
same_power power other same = by (cases_lt power other) (cases_lt other power)
  where
    by : (power < other) ⊎ (other ≤ power) → (other < power) ⊎ (power ≤ other) → power ≡ other
    by (inl less) most = absurd (omega (arith, pow_below power other less, same))
    by (inr least) (inl less) = absurd (omega (arith, pow_below other power less, same))
    by (inr least) (inr most) = omega (arith, least, most)

good_power : (power : ℕ) → (2 ^ power ≡ 64) ⊎ ((2 ^ power ≡ 512) ⊎ (2 ^ power ≡ 4096)) → is_bad_power power ≡ false
good_power power (inl is) = rw (same_power power 6 is) refl
good_power power (inr (inl is)) = rw (same_power power 9 is) refl
good_power power (inr (inr is)) = rw (same_power power 12 is) refl

-- an image has room for a header
has_room : (data_blocks log_blocks spare bytes : ℕ) → (bytes ≡ 64) ⊎ ((bytes ≡ 512) ⊎ (bytes ≡ 4096)) → 4 ≤ (1 + data_blocks + log_blocks + spare) * (bytes / 8)
has_room data_blocks log_blocks spare bytes is = by_bytes (λ (n : ℕ). 4 ≤ (1 + data_blocks + log_blocks + spare) * (n / 8)) bytes is (omega arith) (omega arith) (omega arith)

some_words : (count : ℕ) → 4 ≤ count → nat_lt (8 * count) 32 ≡ false
some_words count long = le-ltb (8 * count) 32 (omega (arith, long))

not_fewer : (count due : ℕ) → count ≡ due → nat_lt (8 * count) (8 * due) ≡ false
not_fewer count due same = le-ltb (8 * count) (8 * due) (omega (arith, same))

some_number : (number : ℕ) → 0 < number → (number == 0) ≡ false
some_number number some = ne_eqb number 0 (λ none. omega (arith, none, some))

pub header_passes : (words : List ℕ) → HasHeader words → is_in_log (shape_of words) (head_block words) ≡ true → first (header_checks (8 * length words) words) ≡ None
header_passes words header inside =
    let shape = shape_of words in
    let allowed = allowed_shape shape.data_blocks shape.log_blocks shape.block_bytes header.allowed in
    let long : 4 ≤ length words = subst (λ (n : ℕ). 4 ≤ n) (sym header.whole) (has_room shape.data_blocks shape.log_blocks (spare_blocks_of shape.data_blocks shape.block_bytes) shape.block_bytes allowed.bytes_are) in
    let refused : is_refused shape ≡ false = rw header.allowed refl in
    each_passes (8 * length words) words (record {
      some = some_words (length words) long;
      magic = not_from_true (get_or words 0 0 == MAGIC) (eq-eqb (get_or words 0 0) MAGIC header.magic);
      version = not_from_true (field HEADER_VERSION (get_or words 1 0) == VERSION) (eq-eqb (field HEADER_VERSION (get_or words 1 0)) VERSION header.version);
      geometry = or_from (is_bad_power (field HEADER_BLOCK_POWER (get_or words 1 0)) || not (field HEADER_UNNAMED (get_or words 1 0) == 0)) (is_refused shape)
          (or_from (is_bad_power (field HEADER_BLOCK_POWER (get_or words 1 0))) (not (field HEADER_UNNAMED (get_or words 1 0) == 0))
          (good_power (field HEADER_BLOCK_POWER (get_or words 1 0)) allowed.bytes_are)
          (not_from_true (field HEADER_UNNAMED (get_or words 1 0) == 0) (eq-eqb (field HEADER_UNNAMED (get_or words 1 0)) 0 header.unnamed)))
          refused;
      not_short = not_fewer (length words) (total shape * words_in shape) header.whole;
      not_long = not_fewer (total shape * words_in shape) (length words) (sym header.whole);
      head = or_from (generation_of words == 0 || not (field HEAD_UNNAMED (get_or words 3 0) == 0)) (not (is_in_log shape (head_block words)))
          (or_from (generation_of words == 0) (not (field HEAD_UNNAMED (get_or words 3 0) == 0))
          (some_number (generation_of words) header.generation)
          (not_from_true (field HEAD_UNNAMED (get_or words 3 0) == 0) (eq-eqb (field HEAD_UNNAMED (get_or words 3 0)) 0 header.head_unnamed)))
          (not_from_true (is_in_log shape (head_block words)) inside);
    })
