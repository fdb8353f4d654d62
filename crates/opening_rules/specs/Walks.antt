-- The walk of a chain from the head to the tail.
use Rattle.std.specs.Prelude.{ℕ, ◌≡◌, true, false, List, [], ◌∷◌, Some, None}
use Rattle.log_image.specs.Image.{Shape, block_words}
use Rattle.log_image.specs.Header.{head_block}
use Rattle.log_image.specs.Blocks.{link_of, leads_on}
use Rattle.opening_rules.specs.Checks.{first}
use Rattle.opening_rules.specs.BlockChecks.{Place, start, block_checks, place_after}
use Rattle.opening_rules.specs.declared.refusals.BadImage.{BadImage}

-- the walk that stands at a block passes it and then these, each of which the link before it names, and ends with the last
abbrev pub PassesFrom : List ℕ → Shape → Place → ℕ → List ℕ → Type 0
PassesFrom words shape place block [] =
    (first (block_checks words shape place block (block_words words shape block)) ≡ None)
    × (leads_on (block_words words shape block) ≡ false)
PassesFrom words shape place block (next ∷ rest) =
    (first (block_checks words shape place block (block_words words shape block)) ≡ None)
    × (leads_on (block_words words shape block) ≡ true)
    × (link_of (block_words words shape block) ≡ next)
    × PassesFrom words shape (place_after words shape place block (block_words words shape block)) next rest

-- the walk that stands at a block comes to these, and refuses the last of them
abbrev pub RefusesFrom : List ℕ → Shape → Place → ℕ → List ℕ → BadImage → Type 0
RefusesFrom words shape place block [] why = first (block_checks words shape place block (block_words words shape block)) ≡ Some why
RefusesFrom words shape place block (next ∷ rest) why =
    (first (block_checks words shape place block (block_words words shape block)) ≡ None)
    × (leads_on (block_words words shape block) ≡ true)
    × (link_of (block_words words shape block) ≡ next)
    × RefusesFrom words shape (place_after words shape place block (block_words words shape block)) next rest why

-- where the walk ends that passes a block and then these
abbrev pub end_from : List ℕ → Shape → Place → ℕ → List ℕ → Place
end_from words shape place block [] = place_after words shape place block (block_words words shape block)
end_from words shape place block (next ∷ rest) = end_from words shape (place_after words shape place block (block_words words shape block)) next rest

-- the walk from the head passes its block and then these
abbrev pub Passes : List ℕ → Shape → List ℕ → Type 0
Passes words shape rest = PassesFrom words shape start (head_block words) rest

-- where it ends
abbrev pub end_place : List ℕ → Shape → List ℕ → Place
end_place words shape rest = end_from words shape start (head_block words) rest

-- the walk from the head refuses a block
pub record WalkRefuses (words : List ℕ) (shape : Shape) (why : BadImage) : Type 0 where
  pub rest : List ℕ
  pub refuses : RefusesFrom words shape start (head_block words) rest why
