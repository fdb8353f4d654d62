use Rattle.log_core.proofs.following.StoppedHistories.{runs_are_legal, stopped_runs_are_legal, stopped_writes_are_legal}
use Rattle.log_core.proofs.following.SeenCalls.{records_are_seen}
use Rattle.log_core.proofs.following.CausedCalls.{records_have_causes}
use Rattle.log_core.proofs.laws.law_legal.Goals as goal

pub returns : goal.returns
returns c = record { one_history = runs_are_legal; stopped = stopped_runs_are_legal; stopped_writes = stopped_writes_are_legal; each_seen = records_are_seen; causes = records_have_causes }
