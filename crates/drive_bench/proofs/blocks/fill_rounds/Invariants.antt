use Rattle.drive_bench.specs.Blocks.{OwnsOne}
use Rattle.drive_bench.proofs.blocks.fill_rounds.Given as goal

-- the seat owns its block all the time
abbrev pub invariant-loop : goal.invariant-loop
invariant-loop l = OwnsOne l.seat l.memory
