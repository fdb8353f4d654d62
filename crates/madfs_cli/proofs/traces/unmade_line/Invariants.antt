use Rattle.std.proofs.Common.{◌≡◌, drop}
use Rattle.madfs_cli.specs.Traces.{unmade_line}
use Rattle.madfs_cli.proofs.traces.unmade_line.Given as goal

abbrev pub invariant-loop-job : goal.invariant-loop-job
invariant-loop-job l = unmade_line (drop l.job-index l.jobs) ≡ unmade_line l.jobs
