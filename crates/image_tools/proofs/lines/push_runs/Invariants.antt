use Rattle.std.proofs.Common.{◌≡◌, ◌++◌, drop}
use Rattle.std.specs.List.{flat_map}
use Rattle.image_tools.specs.DumpText.{run_text}
use Rattle.image_tools.proofs.lines.push_runs.Given as goal

abbrev pub invariant-loop-run : goal.invariant-loop-run
invariant-loop-run l = l.out.items ++ flat_map run_text (drop l.run-index l.runs) ≡ l.fn.out.items ++ flat_map run_text l.runs
