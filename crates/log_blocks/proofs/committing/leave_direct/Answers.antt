use Rattle.std.proofs.Common.{◌+◌, ℕ, Bool, [], ap, ◌∙◌}
use Rattle.log_entry.specs.Fields.{field}
use Rattle.log_entry.specs.declared.layouts.TheConstants.{DIRECT_BLOCK}
use Rattle.pmem_words.specs.Runs.{is_in_runs}
use Rattle.pmem_words.specs.Seats.{Seat}
use Rattle.log_core.specs.Works.{words_of}
use Rattle.log_core.specs.Steps.{blocks_but}
use Rattle.log_blocks.proofs.LeavingRuns.{direct_blocks}
use Rattle.log_blocks.proofs.committing.leave_direct.Goals as goal

abbrev without : Seat → (ℕ → Bool) → Seat
without s f = record s { blocks = blocks_but (words_of s) f s.blocks }

pub returns : goal.returns
returns c = c.disown_run.ensures
    ∙ (ap (λ (n : ℕ). without c.args.seat.now (is_in_runs n (c.of-2.result + 1) [])) c.of.ensures
    ∙ (ap (λ (n : ℕ). without c.args.seat.now (is_in_runs (field DIRECT_BLOCK c.args.entry) (n + 1) [])) c.of-2.ensures
    ∙ ap (λ (f : ℕ → Bool). without c.args.seat.now f) (direct_blocks c.args.entry)))
