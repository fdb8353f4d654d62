use Rattle.std.proofs.Common.{ℕ, List}
use Rattle.log_entry.proofs.HistoryLemmas.{Mirrors}
use Rattle.plain_engine.specs.Engine.{Running}
use Rattle.plain_engine.proofs.ReplayLemmas.{SoFar}
use Rattle.madfs_cli.proofs.replays.make_calls.Given as goal

abbrev pub invariant-loop-job : goal.invariant-loop-job
invariant-loop-job g l = record {
  mirrors : Mirrors l.calls.items l.yielded;
  so_far : (chain file : List ℕ) → Running l.fn.engine chain file → SoFar l.fn.engine l.engine chain file l.calls.items;
}
