use Rattle.std.proofs.Common.{ℕ, Bool, ap, ◌∙◌}
use Rattle.log_core.specs.Works.{words_of}
use Rattle.log_core.specs.Steps.{blocks_but}
use Rattle.log_blocks.proofs.LeavingRuns.{one_block}
use Rattle.log_blocks.proofs.committing.leave_block.Goals as goal

pub returns : goal.returns
returns c = c.disown_run.ensures ∙ ap (λ (f : ℕ → Bool). record c.args.seat.now { blocks = blocks_but (words_of c.args.seat.now) f c.args.seat.now.blocks }) (one_block c.args.block)
