-- What stands for a file opens to it, and so does what stopped clearings leave of it.
use Rattle.std.proofs.Common.{◌≡◌, ℕ, List, [], ◌∷◌, subst}
use Rattle.log_image.specs.Header.{shape_of}
use Rattle.log_image.specs.Chains.{IsChain}
use Rattle.log_image.specs.Stands.{StandsBy}
use Rattle.log_image.specs.Tails.{tail_of, IsSameToTail, IsCleared}
use Rattle.log_image.specs.Recovered.{Recovered, StopInTurn, left_at_last}
use Rattle.log_image.specs.declared.starts.Start.{Start}
use Rattle.log_image.proofs.OneChain.{one_chain, one_meaning}
use Rattle.log_image.proofs.ClearedImages.{tail_keeps, left_to_tail}
use Rattle.log_core.specs.Crashes.{OpensAs}

module _ (words chain file : List ℕ) (position : ℕ) (stands : StandsBy words chain file position) where
  -- what differs after the tail alone stands for the same
  same_to_tail : (other others : List ℕ) → IsChain words (shape_of words) other → IsSameToTail (shape_of words) (tail_of words (shape_of words) other) words others → StandsBy others chain file position
  same_to_tail other others of_words same = (tail_keeps words others chain file position stands
      (subst (λ (l : List ℕ). IsSameToTail (shape_of words) (tail_of words (shape_of words) l) words others) (one_chain words (shape_of words) other chain of_words stands.stands.is_chain) same)).stands

  cleared_by : (other others : List ℕ) → IsChain words (shape_of words) other → IsCleared (shape_of words) (tail_of words (shape_of words) other) words others → StandsBy others chain file position
  cleared_by other others of_words cleared = same_to_tail other others of_words (left_to_tail (shape_of words) (tail_of words (shape_of words) other) words others cleared)

  -- and what is recovered is that file
  one_recovered : (begun : Start) (found : List ℕ) (elsewhere : ℕ) → Recovered words begun found elsewhere → (found ≡ file) × (elsewhere ≡ position)
  one_recovered begun found elsewhere is = (one.1, one.2)
    where
      one : (is.stands.0 ≡ chain) × (found ≡ file) × (elsewhere ≡ position)
      one = one_meaning begun.words.items is.stands.0 chain found file elsewhere position is.stands.1 (cleared_by is.chain begun.words.items is.of_words is.cleared)

  pub opens_as : OpensAs words file position
  opens_as = record { stands = (chain, stands); cleared = λ other others of_words cleared. (chain, cleared_by other others of_words cleared); recovered = one_recovered }

pub stops_open : (words chain file : List ℕ) (position : ℕ) (stops : List (List ℕ)) → StandsBy words chain file position → StopInTurn words stops → OpensAs (left_at_last words stops) file position
stops_open words chain file position [] stands in_turn = opens_as words chain file position stands
stops_open words chain file position (others ∷ stops) stands in_turn =
    stops_open others chain file position stops (same_to_tail words chain file position stands in_turn.0.0 others in_turn.0.1 in_turn.0.2) in_turn.1
