use Rattle.std.proofs.Common.{drop}
use Rattle.std.specs.Prelude.{◌↔◌}
use Rattle.log_entry.specs.Legal.{Legal}
use Rattle.history_report.proofs.legality.legal.Given as goal

abbrev pub invariant-loop-call : goal.invariant-loop-call
invariant-loop-call l = Legal l.geometry.block_bytes l.present.items l.reached (drop l.call-index l.calls) ↔ Legal l.geometry.block_bytes l.file l.position l.calls
