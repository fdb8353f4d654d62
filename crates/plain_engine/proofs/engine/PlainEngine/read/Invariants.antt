use Rattle.std.proofs.Common.{◌≡◌, ℕ, ◌+◌, ◌-◌, ◌<◌, ◌≤◌, List, length, get_or}
use Rattle.plain_engine.specs.Engine.{Running}
use Rattle.plain_engine.proofs.engine.PlainEngine.read.Given as goal

abbrev pub invariant-loop-place : goal.invariant-loop-place
invariant-loop-place l = record {
  low : l.start ≤ l.place;
  high : l.place ≤ l.end;
  long : length l.bytes.items ≡ l.place - l.start;
  same : (chain file : List ℕ) → Running l.self chain file → (at : ℕ) → at < l.place - l.start → get_or l.bytes.items at 0 ≡ get_or file (l.start + at) 0;
}

abbrev pub decreases-loop-place : goal.decreases-loop-place
decreases-loop-place l = l.end - l.place
