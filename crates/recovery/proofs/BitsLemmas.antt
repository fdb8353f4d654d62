-- One more bit of a bitmap.
use Rattle.std.proofs.Common.{◌≡◌, ◌<◌, ◌*◌, ◌/◌, ◌%◌, ◌^◌, ◌==◌, ◌||◌, ℕ, Bool, true, false, List, [], ◌∷◌, ◌++◌, length, get_or, set, if◌then◌else◌, refl, sym, ap, ◌∙◌, subst, arith, length-set, get_or-set_same, get_or-set_other}
use Rattle.std.specs.Int.{bit_at, w64}
use Rattle.std.specs.Int.Bits.{bit_or}
use Rattle.std.proofs.lemmas.Bool.{eqb-true, eqb-false, eq-eqb, ne_eqb}
use Rattle.std.proofs.lemmas.List.Folds.{list_any-append}
use Rattle.std.proofs.lemmas.Nat.Bits.{bit_at_set_same, bit_at_set_other}
use Rattle.log_image.specs.Image.{Shape, total}
use Rattle.log_image.specs.Taken.{bit_of, HasBits}
use Rattle.opening_rules.specs.SlotChecks.{is_named_in}

-- one more block stands among these
pub among_more : (block other : ℕ) (blocks : List ℕ) → is_named_in block (blocks ++ other ∷ []) ≡ (is_named_in block blocks || other == block)
among_more block other blocks = list_any-append (λ (one : ℕ). one == block) blocks (other ∷ []) ∙ last (is_named_in block blocks) (other == block)
  where
    last : (a b : Bool) → (a || (b || false)) ≡ (a || b)
    last true b = refl
    last false true = refl
    last false false = refl

-- the word of the place of a bit that is set
abbrev pub with_bit : List ℕ → ℕ → List ℕ
with_bit taken block = set taken (block / 64) (bit_or (get_or taken (block / 64) 0) (1 * 2 ^ (block % 64) % 2 ^ 64))

bit_same : (taken : List ℕ) (block : ℕ) → block / 64 < length taken → bit_of (with_bit taken block) block ≡ 1
bit_same taken block inside =
    ap (λ (word : ℕ). bit_at word (block % 64)) (get_or-set_same taken (block / 64) (bit_or (get_or taken (block / 64) 0) (1 * 2 ^ (block % 64) % 2 ^ 64)) 0 inside)
    ∙ bit_at_set_same w64 (get_or taken (block / 64) 0) (block % 64) (omega arith)

bit_other : (taken : List ℕ) (block other : ℕ) → block / 64 < length taken → (other ≡ block → ⊥) → bit_of (with_bit taken block) other ≡ bit_of taken other
bit_other taken block other inside differs = by (other / 64 == block / 64) refl
  where
    by : (same : Bool) → (other / 64 == block / 64) ≡ same → bit_of (with_bit taken block) other ≡ bit_of taken other
    by true is =
        let places : other / 64 ≡ block / 64 = eqb-true (other / 64) (block / 64) is in
        let bits : other % 64 ≡ block % 64 → ⊥ = λ e. differs (omega arith) in
        ap (λ (place : ℕ). bit_at (get_or (with_bit taken block) place 0) (other % 64)) places
        ∙ ap (λ (word : ℕ). bit_at word (other % 64)) (get_or-set_same taken (block / 64) (bit_or (get_or taken (block / 64) 0) (1 * 2 ^ (block % 64) % 2 ^ 64)) 0 inside)
        ∙ bit_at_set_other w64 (get_or taken (block / 64) 0) (block % 64) (omega arith) (other % 64) bits
        ∙ ap (λ (place : ℕ). bit_at (get_or taken place 0) (other % 64)) (sym places)
    by false is =
        ap (λ (word : ℕ). bit_at word (other % 64)) (get_or-set_other taken (block / 64) (other / 64) (bit_or (get_or taken (block / 64) 0) (1 * 2 ^ (block % 64) % 2 ^ 64)) 0 (eqb-false (other / 64) (block / 64) is))

-- a bit that is set exactly where this is so
abbrev pub bit_if : Bool → ℕ
bit_if is_so = if is_so then 1 else 0

set_now : (a b : Bool) → bit_if (a || (b || true)) ≡ 1
set_now true b = refl
set_now false true = refl
set_now false false = refl

as_before : (a b : Bool) → bit_if (a || (b || false)) ≡ bit_if (a || b)
as_before true b = refl
as_before false true = refl
as_before false false = refl

-- the bitmap with one more bit has one more block
pub bit_added : (shape : Shape) (taken blocks : List ℕ) (block : ℕ) → block / 64 < length taken → HasBits shape taken blocks → HasBits shape (with_bit taken block) (blocks ++ block ∷ [])
bit_added shape taken blocks block inside has = record {
  room = omega (arith, has.room, length-set taken (block / 64) (bit_or (get_or taken (block / 64) 0) (1 * 2 ^ (block % 64) % 2 ^ 64)));
  bits = λ other below. by other below (other == block) refl;
}
  where
    by : (other : ℕ) → other < total shape → (same : Bool) → (other == block) ≡ same → bit_of (with_bit taken block) other ≡ bit_if (other == 0 || is_named_in other (blocks ++ block ∷ []))
    by other below true is =
        let e : other ≡ block = eqb-true other block is in
        let among : is_named_in block (blocks ++ block ∷ []) ≡ (is_named_in block blocks || true) = among_more block block blocks ∙ ap (λ (b : Bool). is_named_in block blocks || b) (eq-eqb block block refl) in
        let P : ℕ → Type 0 = λ n. bit_of (with_bit taken block) n ≡ bit_if (n == 0 || is_named_in n (blocks ++ block ∷ [])) in
        subst P (sym e) (bit_same taken block inside ∙ sym (ap (λ (b : Bool). bit_if (block == 0 || b)) among ∙ set_now (block == 0) (is_named_in block blocks)))
    by other below false is =
        let differs : other ≡ block → ⊥ = eqb-false other block is in
        let among : is_named_in other (blocks ++ block ∷ []) ≡ (is_named_in other blocks || false) = among_more other block blocks ∙ ap (λ (b : Bool). is_named_in other blocks || b) (ne_eqb block other (λ e. differs (sym e))) in
        bit_other taken block other inside differs ∙ has.bits other below
        ∙ sym (ap (λ (b : Bool). bit_if (other == 0 || b)) among ∙ as_before (other == 0) (is_named_in other blocks))
