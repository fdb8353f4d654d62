use Rattle.std.proofs.Common.{ℕ, List, ◌<◌, ◌≤◌, ◌-◌}
use Rattle.log_image.specs.Entries.{Meaning}
use Rattle.log_image.specs.Image.{shape_by}
use Rattle.chain_reader.specs.Tables.{HasMap}
use Rattle.opening_rules.specs.Slack.{HasSlack}
use Rattle.recovery.proofs.slacks.first_slack.Given as goal

abbrev pub invariant-mapped : goal.invariant-mapped
invariant-mapped l = record {
  small : l.from ≤ 65536;
  before : (entries : List Meaning) → HasMap l.table entries → (earlier other : ℕ) → earlier < l.from → HasSlack l.words (shape_by l.geometry) entries l.table.size earlier other → ⊥;
}

abbrev pub decreases-mapped : goal.decreases-mapped
decreases-mapped l = 65536 - l.from
