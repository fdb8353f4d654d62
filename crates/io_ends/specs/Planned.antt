-- Calls that are to fail, by their numbers.
use Rattle.std.specs.Prelude.{ℕ, Bool, List, nat_eq, if◌then◌else◌}
use Rattle.std.specs.List.{list_any}
use Rattle.io_ends.specs.Faults.{counted}

-- the numbers of the calls that are to fail, counted from 1; how many calls were made; and how many failed
pub record Plan : Type 0 where
  pub fails : List ℕ
  pub calls : ℕ
  pub faults : ℕ

-- what a source that fails by plan has left
pub record PlannedSource : Type 0 where
  pub left : List ℕ
  pub plan : Plan

-- what was written to a sink that fails by plan
pub record PlannedSink : Type 0 where
  pub written : List ℕ
  pub plan : Plan

-- no call was made
abbrev pub fresh : List ℕ → Plan
fresh fails = record { fails = fails; calls = 0; faults = 0 }

-- whether the next call is to fail
abbrev pub next_fails : Plan → Bool
next_fails plan = list_any (λ number. nat_eq number (counted plan.calls)) plan.fails

-- the plan after the next call
abbrev pub after_call : Plan → Plan
after_call plan = record { fails = plan.fails; calls = counted plan.calls; faults = if next_fails plan then counted plan.faults else plan.faults }
