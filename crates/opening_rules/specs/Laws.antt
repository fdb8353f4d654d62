-- What follows for every image.
use Rattle.std.specs.Prelude.{ℕ, ◌*◌, ◌≡◌, List, length}
use Rattle.log_image.specs.Stands.{StandsBy}
use Rattle.opening_rules.specs.Opening.{Refuses, Accepts, RefusesBytes, AcceptsBytes, chain_of}
use Rattle.opening_rules.specs.declared.refusals.BadImage.{BadImage}

-- an image has one refusal at most
abbrev pub HasOneRefusal : Type 0
HasOneRefusal = (bytes : ℕ) (words : List ℕ) (why other : BadImage) → Refuses bytes words why → Refuses bytes words other → why ≡ other

-- an image that is refused is not accepted
abbrev pub IsNotBoth : Type 0
IsNotBoth = (bytes : ℕ) (words rest : List ℕ) (why : BadImage) → Refuses bytes words why → Accepts bytes words rest → ⊥

-- the same of an image's bytes
abbrev pub HasOneRefusalOfBytes : Type 0
HasOneRefusalOfBytes = (bytes : List ℕ) (why other : BadImage) → RefusesBytes bytes why → RefusesBytes bytes other → why ≡ other

abbrev pub IsNotBothOfBytes : Type 0
IsNotBothOfBytes = (bytes words rest : List ℕ) (why : BadImage) → RefusesBytes bytes why → AcceptsBytes bytes words rest → ⊥

-- the words of an accepted image stand for a file, by the chain that was walked
abbrev pub AcceptedStands : Type 0
AcceptedStands = (words rest : List ℕ) → Accepts (8 * length words) words rest → (file : List ℕ) × (position : ℕ) × StandsBy words (chain_of words rest) file position

-- the other way round: words that stand for a file at a position are accepted; the walk goes along their chain, so they open to
-- that file at that position
abbrev pub StandingIsAccepted : Type 0
StandingIsAccepted = (words chain file : List ℕ) (position : ℕ) → StandsBy words chain file position →
    (rest : List ℕ) × Accepts (8 * length words) words rest × (chain_of words rest ≡ chain) × StandsBy words (chain_of words rest) file position
