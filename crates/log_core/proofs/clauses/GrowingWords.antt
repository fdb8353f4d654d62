-- A word that was 0 and grows.
use Rattle.std.proofs.Common.{◌≡◌, ◌<◌, ◌≤◌, ◌+◌, ◌++◌, ◌∷◌, ℕ, Bool, true, false, [], length, sym, ◌∙◌, ap, subst, arith, slice_index}
use Rattle.std.proofs.lemmas.List.{length_push, get_or_push, get_or_append_left}
use Rattle.persistence.specs.Memory.{Cell}
use Rattle.persistence.specs.Steps.{with_value}
use Rattle.log_core.specs.Certain.{IsCertain, IsGrowing}
use Rattle.log_core.proofs.clauses.OneView.{same_or_other}

-- with one value more
pub growing_more : (a : Cell) (value : ℕ) → IsGrowing a 0 → IsGrowing (with_value a value) value
growing_more a value grows = record {
  present = Rattle.std.proofs.Common.refl;
  before = λ k low below. (let long = length_push a.past a.present in same_or_other k (length a.past)
      (λ last. get_or_push a.past a.present 0 k (sym last) ∙ grows.present)
      (λ other. get_or_append_left a.past (a.present ∷ []) 0 k (omega (arith, below, long, other)) ∙ grows.before k low (omega (arith, below, long, other))));
}

-- a word that is certainly 0 has not grown
pub certain_grows : (a : Cell) → IsCertain a 0 → IsGrowing a 0
certain_grows a certain = record { present = certain.present; before = certain.before }
