use Rattle.std.proofs.Common.{◌≡◌, ◌++◌, drop}
use Rattle.history_report.specs.Report.{calls_text}
use Rattle.history_report.proofs.reports.print_report.Given as goal

abbrev pub invariant-loop-call : goal.invariant-loop-call
invariant-loop-call l = l.out.items ++ calls_text (drop l.call-index l.calls) ≡ calls_text l.calls
