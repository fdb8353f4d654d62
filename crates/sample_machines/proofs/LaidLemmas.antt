-- One byte more, and laying the same bytes again.
use Rattle.std.proofs.Common.{ℕ, ◌≡◌, ◌+◌, ◌<◌, List, length, slice_index, slice_set, refl, ◌∙◌, arith}
use Rattle.std.proofs.lemmas.Bool.Decides.{nat_tests}
use Rattle.std.proofs.lemmas.List.{length-set, get_or-set_same, get_or-set_other}
use Rattle.sample_machines.specs.Laid.{IsLaid}

-- no byte yet
pub none_laid : (first : ℕ) (bytes words : List ℕ) → IsLaid first 0 bytes words words
none_laid first bytes words = record { same_length = refl; each = λ v. grind (arith, nat_tests) }

-- one more
pub more_laid : (first n : ℕ) (bytes before words : List ℕ) → IsLaid first n bytes before words → first + n < length words
    → IsLaid first (n + 1) bytes before (slice_set words (first + n) (slice_index bytes n))
more_laid first n bytes before words h room = record {
  same_length = length-set words (first + n) (slice_index bytes n) ∙ h.same_length;
  each = λ v. grind (arith, nat_tests, h.each v, get_or-set_same words (first + n) (slice_index bytes n) 0 room, get_or-set_other words (first + n) v (slice_index bytes n) 0);
}

-- laid once more over themselves
pub laid_again : (first n : ℕ) (bytes before middle after : List ℕ) → IsLaid first n bytes before middle → IsLaid first n bytes middle after → IsLaid first n bytes before after
laid_again first n bytes before middle after h k = record {
  same_length = k.same_length ∙ h.same_length;
  each = λ v. grind (arith, nat_tests, h.each v, k.each v);
}

-- a word before the first byte
pub laid_before : (first n : ℕ) (bytes before after : List ℕ) (v : ℕ) → IsLaid first n bytes before after → v < first → slice_index after v ≡ slice_index before v
laid_before first n bytes before after v h below = grind (arith, nat_tests, h.each v)
