use Rattle.std.proofs.Common.{◌≡◌, length}
use Rattle.drive_bench.proofs.closed_rounds.Given as goal

-- the memory has as many words as at first
abbrev pub invariant-loop : goal.invariant-loop
invariant-loop l = length l.memory.words ≡ 65536
