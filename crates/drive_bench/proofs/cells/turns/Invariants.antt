use Rattle.std.proofs.Common.{◌≡◌, ◌+◌, ◌≤◌, length}
use Rattle.drive_bench.specs.declared.cells.TheConstants.{WORDS}
use Rattle.drive_bench.proofs.cells.turns.Given as goal

-- the memory has as many words as at first, and room for the steps that are left
abbrev pub invariant-loop : goal.invariant-loop
invariant-loop l = (length l.cells.memory.now.words ≡ WORDS) × (l.steps ≤ l.counter + l.cells.room)
