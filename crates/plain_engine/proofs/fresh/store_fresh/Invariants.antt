use Rattle.std.proofs.Common.{◌≡◌, ℕ, ◌+◌, ◌<◌, ◌≤◌, ◌⊎◌, get_or}
use Rattle.plain_engine.proofs.fresh.store_fresh.Given as goal

abbrev pub invariant-loop-index : goal.invariant-loop-index
invariant-loop-index l = record {
  stored : (at : ℕ) → at < l.index → get_or l.words (l.first + at) 0 ≡ 0;
  others : (at : ℕ) → (at < l.first) ⊎ (l.first + l.index ≤ at) → get_or l.words at 0 ≡ get_or l.fn.words at 0;
}
