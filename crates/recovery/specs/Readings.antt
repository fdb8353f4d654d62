-- What a reading says of the place where the walk stands.
use Rattle.std.specs.Prelude.{◌≡◌, ◌<◌, ◌^◌, true, ◌++◌}
use Rattle.std.specs.List.{list_all}
use Rattle.log_image.specs.Image.{Shape, is_in_data, is_in_log}
use Rattle.log_image.specs.Entries.{all_names}
use Rattle.log_image.specs.Taken.{HasBits}
use Rattle.chain_reader.specs.Tables.{HasMap}
use Rattle.opening_rules.specs.BlockChecks.{Place, is_first}
use Rattle.recovery.specs.declared.reading.Reading.{Reading}

-- the reading is what the blocks passed come to; those are of the log or spare area, and the ones that their entries name of the data area.
-- Before the first block the size is 0
pub record ReadsUpTo (shape : Shape) (reading : Reading) (place : Place) : Type 0 where
  pub chain : reading.chain.items ≡ place.before
  pub in_logs : reading.in_logs ≡ place.in_logs
  pub position : reading.position ≡ place.position
  pub size : reading.table.size ≡ place.size
  pub map : HasMap reading.table place.entries
  pub bits : HasBits shape reading.taken.items (place.before ++ all_names place.entries)
  pub in_log : list_all (is_in_log shape) place.before ≡ true
  pub in_data : list_all (is_in_data shape) (all_names place.entries) ≡ true
  pub below : place.position < 2 ^ 40
  pub begun : is_first place.before ≡ true → place.size ≡ 0
