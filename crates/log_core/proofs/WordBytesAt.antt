-- A byte of words is one of the word that it is in.
use Rattle.std.proofs.Common.{◌≡◌, ℕ, suc, ◌+◌, ◌-◌, ◌*◌, ◌/◌, ◌%◌, ◌<◌, ◌≤◌, ◌==◌, ◌||◌, ◌⊎◌, inl, inr, Bool, true, false, List, [], ◌∷◌, length, slice_index, refl, sym, ap, ◌∙◌, arith}
use Rattle.std.proofs.lemmas.Bool.{cases_lt, eqb-true}
use Rattle.log_entry.specs.Shape.{is_block_bytes}
use Rattle.log_entry.specs.WordBytes.{word_bytes}
use Rattle.log_core.proofs.BaseWords.{earlier_byte, later_byte}

-- a block is of whole words
pub eight_words : (bytes : ℕ) → is_block_bytes bytes ≡ true → 8 * (bytes / 8) ≡ bytes
eight_words bytes allowed = by (bytes == 64) (bytes == 512) (bytes == 4096) refl refl refl allowed
  where
    by : (small middle large : Bool) → (bytes == 64) ≡ small → (bytes == 512) ≡ middle → (bytes == 4096) ≡ large → (small || middle || large) ≡ true →
        8 * (bytes / 8) ≡ bytes
    by true middle large is other another some = (let e = eqb-true bytes 64 is in omega (arith, e))
    by false true large is other another some = (let e = eqb-true bytes 512 other in omega (arith, e))
    by false false true is other another some = (let e = eqb-true bytes 4096 another in omega (arith, e))
    by false false false is other another some = cc

pub byte_in_word : (words : List ℕ) (at : ℕ) → at < 8 * length words →
    slice_index (word_bytes words) at ≡ slice_index (word_bytes (slice_index words (at / 8) ∷ [])) (at % 8)
byte_in_word [] at inside = absurd (omega (arith, inside))
byte_in_word (word ∷ words) at inside = go (byte_in_word words) (cases_lt at 8)
  where
    go : ((n : ℕ) → n < 8 * length words → slice_index (word_bytes words) n ≡ slice_index (word_bytes (slice_index words (n / 8) ∷ [])) (n % 8)) →
        (at < 8) ⊎ (8 ≤ at) →
        slice_index (word_bytes (word ∷ words)) at ≡ slice_index (word_bytes (slice_index (word ∷ words) (at / 8) ∷ [])) (at % 8)
    go rest (inl below) = (let first : at / 8 ≡ 0 = omega (arith, below) in
        let same : at % 8 ≡ at = omega (arith, below) in
        earlier_byte (word ∷ []) words at (omega (arith, below))
        ∙ (ap (λ (k : ℕ). slice_index (word_bytes (word ∷ [])) k) (sym same) ∙ ap (λ (k : ℕ). slice_index (word_bytes (slice_index (word ∷ words) k ∷ [])) (at % 8)) (sym first)))
    go rest (inr past) =
        (let whole : at ≡ 8 + (at - 8) = omega (arith, past) in
        let next : at / 8 ≡ suc ((at - 8) / 8) = omega (arith, past) in
        let same : (at - 8) % 8 ≡ at % 8 = omega (arith, past) in
        ap (λ (n : ℕ). slice_index (word_bytes (word ∷ words)) n) whole
        ∙ (later_byte (word ∷ []) words (at - 8)
        ∙ (rest (at - 8) (omega (arith, past, inside))
        ∙ (ap (λ (k : ℕ). slice_index (word_bytes (slice_index words ((at - 8) / 8) ∷ [])) k) same ∙ ap (λ (k : ℕ). slice_index (word_bytes (slice_index (word ∷ words) k ∷ [])) (at % 8)) (sym next)))))
