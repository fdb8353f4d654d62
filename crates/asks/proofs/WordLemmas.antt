-- Words of the shared words that are put back.
use Rattle.std.proofs.Common.{◌≡◌, refl}
use Rattle.std.proofs.lemmas.List.{set-get_or}
use Rattle.asks.specs.SharedWords.{SharedWords, word_at, with_word}
use Rattle.asks.specs.declared.ask.Place.{Place}
use Rattle.asks.specs.declared.ask.Place.TheVariants.{Image, Pin, Map, FenceOf}

-- a word put back where it was found
pub with_same : (p : SharedWords) (at : Place) → with_word p at (word_at p at) ≡ p
with_same p (Image w) = λ i. record p { words = set-get_or p.words w 0 i }
with_same p (Pin k) = λ i. record p { pins = set-get_or p.pins k 0 i }
with_same p (Map m) = λ i. record p { taken = set-get_or p.taken m 0 i }
with_same p (FenceOf k) = refl
