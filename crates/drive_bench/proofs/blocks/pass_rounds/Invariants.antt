use Rattle.drive_bench.specs.Blocks.{HasBits}
use Rattle.drive_bench.proofs.blocks.pass_rounds.Given as goal

-- the memory has its bits all the time
abbrev pub invariant-loop : goal.invariant-loop
invariant-loop l = HasBits l.seat l.memory
