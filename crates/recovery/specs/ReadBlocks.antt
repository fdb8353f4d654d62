-- What reading one block of the chain answers.
use Rattle.std.specs.Prelude.{ℕ, ◌≡◌, ◌++◌, ◌∷◌, [], true, false, List, Option, Some, None, Result, Ok, Err}
use Rattle.log_image.specs.Image.{Shape, is_in_log, block_words}
use Rattle.log_image.specs.Blocks.{link_of, leads_on}
use Rattle.opening_rules.specs.Checks.{first}
use Rattle.opening_rules.specs.SlotChecks.{is_named_in}
use Rattle.opening_rules.specs.BlockChecks.{Place, block_checks, place_after}
use Rattle.recovery.specs.declared.refusals.OpenRefusal.{OpenRefusal}
use Rattle.recovery.specs.declared.refusals.OpenRefusal.TheVariants.{Bad, NoMemory}
use Rattle.recovery.specs.declared.reading.Reading.{Reading}
use Rattle.recovery.specs.Readings.{ReadsUpTo}

-- from a place, at a block: the refusal of the first condition that holds of it; or none holds, the reading takes it in, and the
-- walk ends or goes on to a block of the log or spare area that was not passed
abbrev pub ReadsBlock : Result (Option ℕ) OpenRefusal → List ℕ → Shape → Place → ℕ → Reading → Type 0
ReadsBlock (Err (Bad why)) words shape place block reading = first (block_checks words shape place block (block_words words shape block)) ≡ Some why
ReadsBlock (Err NoMemory) words shape place block reading = Unit {0}
ReadsBlock (Ok None) words shape place block reading =
    (first (block_checks words shape place block (block_words words shape block)) ≡ None)
    × (leads_on (block_words words shape block) ≡ false)
    × ReadsUpTo shape reading (place_after words shape place block (block_words words shape block))
ReadsBlock (Ok (Some next)) words shape place block reading =
    (first (block_checks words shape place block (block_words words shape block)) ≡ None)
    × (leads_on (block_words words shape block) ≡ true)
    × (link_of (block_words words shape block) ≡ next)
    × (is_in_log shape next ≡ true)
    × (is_named_in next (place.before ++ block ∷ []) ≡ false)
    × ReadsUpTo shape reading (place_after words shape place block (block_words words shape block))
