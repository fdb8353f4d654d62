use Rattle.std.proofs.Common.{◌≡◌, true, take}
use Rattle.std.specs.List.{flat_map, list_all}
use Rattle.log_image.specs.Image.{is_in_data, shape_by}
use Rattle.log_image.specs.Entries.{run_blocks}
use Rattle.recovery.proofs.rules.runs_in_data.Given as goal

abbrev pub invariant-loop-run : goal.invariant-loop-run
invariant-loop-run l = list_all (is_in_data (shape_by l.geometry)) (flat_map run_blocks (take l.run-index l.runs)) ≡ true
