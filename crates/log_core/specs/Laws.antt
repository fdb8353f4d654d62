-- What holds of every run.
use Rattle.std.specs.Prelude.{List}
use Rattle.log_core.specs.Origin.{Origin}
use Rattle.log_core.specs.Cores.{Core, first_core}
use Rattle.log_core.specs.Steps.{Step}
use Rattle.log_core.specs.After.{after}
use Rattle.log_core.specs.Runs.{Allowed, IsRun, end}
use Rattle.log_core.specs.Starts.{IsStart}
use Rattle.log_core.specs.Invariant.{Invariant}

-- the core that a run starts with meets the invariant
abbrev pub StartMeets : Type 0
StartMeets = (o : Origin) → IsStart o → Invariant o (first_core o)

-- each step that is allowed keeps it, from every core that meets it
abbrev pub StepKeeps : Type 0
StepKeeps = (o : Origin) (c : Core) (step : Step) → Invariant o c → Allowed o c step → Invariant o (after o c step)

-- so it holds after every run
abbrev pub RunKeeps : Type 0
RunKeeps = (o : Origin) (steps : List Step) → IsStart o → IsRun o steps → Invariant o (end o steps)
